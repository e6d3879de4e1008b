-- What the counters of a watch have seen behind the rounds of a run.
use Rattle.std.proofs.Common.{◌≡◌, ◌<◌, ◌≤◌, ◌-◌, ◌∙◌, ◌⊎◌, ap, sym, subst, refl, ℕ, zero, suc, Bool, true, false, Option, None, List, [], map}
use Rattle.std.proofs.Common.{inl, inr, arith}
use Rattle.std.proofs.lemmas.Bool.{cases_lt}
use Rattle.machine.specs.Between.{next_in}
use Rattle.machine.specs.Machine.{S, after}
use Rattle.machine.specs.Rounds.{rounds}
use Rattle.ddt_timeline.specs.Asking.{Asked, IsAsked}
use Rattle.ddt_timeline.specs.declared.stops.Run.{Run}
use Rattle.ddt_moves.specs.OtherEnds.{HasLooked, counted_in, counters_of, due_cause, if_breakpoint, list_of}
use Rattle.ddt_moves.specs.RunEnds.{cause_at_slot}
use Rattle.ddt_moves.specs.Visits.{counters_after, due_behind, first_due, stepped}
use Rattle.ddt_moves.specs.declared.lock_watch.LockWatch.{LockWatch}
use Rattle.ddt_moves.specs.declared.run_stops.StopCause.{StopCause}
use Rattle.ddt_moves.specs.declared.stop_lists.StopList.{StopList}
use Rattle.ddt_moves.specs.declared.visits.Counter.{Counter}
use Rattle.ddt_moves.proofs.VisitLemmas.{AreCountersOf, are-after, cause_is, none_behind, none_due}
use Rattle.ddt_timeline.proofs.AskingLemmas.{both-none}
use Rattle.ddt_moves.proofs.WatchLemmas.{asks, goes_on_parts, last_look, looked_at}

-- none of the counters of a run is due where it goes on
pub record IsCounted (s : S) (cs : List Counter) (ran : Run) : Type 0 where
  pub none : (n : ℕ) → n < ran.made → due_behind s cs n ≡ None
  pub quiet : ran.stop ≡ None → ran.by_watch ≡ false → due_behind s cs ran.made ≡ None

-- and where its watch, which is w behind it, ends it, the cause is the first that is
pub record IsCountedBy (s : S) (list : StopList) (cs : List Counter) (w : LockWatch) (ran : Run) : Type 0 where
  pub run : IsCounted s cs ran
  pub cause :
      ran.by_watch ≡ true → w.has_failed ≡ false → 1 ≤ ran.made
      → if_breakpoint w.cause ≡ cause_at_slot list (due_behind s cs ran.made)

-- what a watch has seen behind so many rounds that it did not end
record HasCounted (s : S) (list : StopList) (cs : List Counter) (v : LockWatch) (n : ℕ) : Type 0 where
  lists : list_of v ≡ list
  seen : counters_of v ≡ counters_after s cs n
  none : (k : ℕ) → k < suc n → due_behind s cs k ≡ None

none_yet : (s : S) (cs : List Counter) (k : ℕ) → k < 1 → due_behind s cs k ≡ None
none_yet s cs zero less = refl
none_yet s cs (suc k) less = absurd (omega (arith, less))

one_more : (s : S) (cs : List Counter) (n : ℕ) → ((k : ℕ) → k < n → due_behind s cs k ≡ None) → due_behind s cs n ≡ None
    → (k : ℕ) → k < suc n → due_behind s cs k ≡ None
one_more s cs n before last k less = by_order (cases_lt k n)
  where
    by_order : (k < n) ⊎ (n ≤ k) → due_behind s cs k ≡ None
    by_order (inl early) = before k early
    by_order (inr late) =
        let same : k ≡ n = omega (arith, less, late) in
        ap (λ (i : ℕ). due_behind s cs i) same ∙ last

-- the counters of a watch are due in a round where those of the run are
due_same : (s : S) (list : StopList) (cs : List Counter) (v : LockWatch) (n : ℕ) → HasCounted s list cs v n
    → due_cause v (after (rounds (suc n) true) s) (next_in (after (rounds n true) s))
    ≡ counted_in list (after (rounds (suc n) true) s) (due_behind s cs (suc n))
due_same s list cs v n before =
    ap
    (λ (l : StopList).
    counted_in l (after (rounds (suc n) true) s)
    (first_due (after (rounds (suc n) true) s) (next_in (after (rounds n true) s)) (counters_of v))) before.lists
    ∙ ap
    (λ (l : List Counter).
    counted_in list (after (rounds (suc n) true) s) (first_due (after (rounds (suc n) true) s) (next_in (after (rounds n true) s)) l))
    before.seen

-- none is due in a round that does not end the run
last_none : (s : S) (list : StopList) (cs : List Counter) (v u : LockWatch) (n : ℕ) → AreCountersOf list.breakpoints cs
    → HasCounted s list cs v n
    → HasLooked v u (after (rounds n true) s) (after (rounds (suc n) true) s) false
    → due_behind s cs (suc n) ≡ None
last_none s list cs v u n all before looked =
    let parts = goes_on_parts u.has_failed u.cause looked.ended in
    none_due list (after (rounds (suc n) true) s) (next_in (after (rounds n true) s)) (counters_after s cs n)
    (are-after list.breakpoints s cs n all)
    (sym (due_same s list cs v n before) ∙ sym (looked.due parts.0) ∙ ap (λ (o : Option StopCause). if_breakpoint o) parts.1)

has_counted : (s : S) (list : StopList) (cs : List Counter) (w v : LockWatch) (n : ℕ) → AreCountersOf list.breakpoints cs
    → list_of w ≡ list
    → counters_of w ≡ cs
    → Asked asks s w v n
    → HasCounted s list cs v n
has_counted s list cs w v zero all lists begins same = record {
  lists = ap (λ (x : LockWatch). list_of x) same ∙ lists;
  seen = ap (λ (x : LockWatch). counters_of x) same ∙ begins;
  none = λ k less. none_yet s cs k less;
}
has_counted s list cs w v (suc n) all lists begins asked =
    let x = asked.0 in
    let before : HasCounted s list cs x n = has_counted s list cs w x n all lists begins asked.1 in
    let looked : HasLooked x v (after (rounds n true) s) (after (rounds (suc n) true) s) false = looked_at s x v n false asked.2 in
    record {
      lists = looked.list ∙ before.lists;
      seen =
          looked.counters
          ∙ ap (λ (l : List Counter). map (stepped (after (rounds (suc n) true) s) (next_in (after (rounds n true) s))) l) before.seen;
      none = λ k less. one_more s cs (suc n) before.none (last_none s list cs x v n all before looked) k less;
    }

-- a run whose watch has all of these stops, and had these counters before it
pub counted : (s : S) (list : StopList) (cs : List Counter) (w u : LockWatch) (ran : Run) → AreCountersOf list.breakpoints cs
    → list_of w ≡ list
    → counters_of w ≡ cs
    → (1 ≤ ran.made → IsAsked asks s w u ran)
    → IsCountedBy s list cs u ran
counted s list cs w u ran all lists begins asked = by_made ran.made refl
  where
    by_made : (n : ℕ) → ran.made ≡ n → IsCountedBy s list cs u ran
    by_made zero made = record {
      run = record {
        none = λ n less. absurd (omega (arith, less, made));
        quiet = λ none quiet. ap (λ (n : ℕ). due_behind s cs n) made;
      };
      cause = λ by_watch worked some. absurd (omega (arith, some, made));
    }
    by_made (suc n) made =
        let is_asked : IsAsked asks s w u ran = asked (omega (arith, made)) in
        let v = is_asked.0 in
        let before_last : ran.made - 1 ≡ n = omega (arith, made) in
        let before : HasCounted s list cs v n =
        has_counted s list cs w v n all lists begins (subst (λ (k : ℕ). Asked asks s w v k) before_last is_asked.2) in
        let looked : HasLooked v u (after (rounds n true) s) (after (rounds (suc n) true) s) is_asked.1 =
        last_look s w u n ran is_asked made in
        record {
          run = record {
            none = λ k less. before.none k (omega (arith, less, made));
            quiet =
                λ none quiet.
                ap (λ (k : ℕ). due_behind s cs k) made
                ∙ last_none s list cs v u n all before
                (subst (λ (b : Bool). HasLooked v u (after (rounds n true) s) (after (rounds (suc n) true) s) b)
                (both-none is_asked.1 ran.stop none (sym is_asked.4 ∙ quiet)) looked);
          };
          cause =
              λ by_watch worked some.
              looked.due worked
              ∙ due_same s list cs v n before
              ∙ cause_is list (after (rounds (suc n) true) s) (next_in (after (rounds n true) s)) (counters_after s cs n)
              (are-after list.breakpoints s cs n all)
              ∙ ap (λ (k : ℕ). cause_at_slot list (due_behind s cs k)) (sym made);
        }

-- a run where no breakpoint counts
pub none_counted : (s : S) (cs : List Counter) (ran : Run) → cs ≡ [] → IsCounted s cs ran
none_counted s cs ran none = record {
  none = λ n less. none_behind s cs n none;
  quiet = λ _ _. none_behind s cs ran.made none;
}
