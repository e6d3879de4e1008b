-- What a watch has seen behind the rounds of a run.
use Rattle.std.specs.Prelude.{◌&&◌, ◌||◌, is_none, is_some}
use Rattle.std.specs.List.{list_any}
use Rattle.std.specs.Option.{IfSome}
use Rattle.std.proofs.Common.{◌≡◌, ◌<◌, ◌≤◌, ◌+◌, ◌-◌, ◌∙◌, ◌⊎◌, ap, sym, subst, refl, ℕ, zero, suc, Bool, true, false, cond, Option, Some, None, List}
use Rattle.std.proofs.Common.{add-one, inl, inr, arith}
use Rattle.std.proofs.lemmas.Bool.{and_parts, cases_lt, false≢true}
use Rattle.machine.specs.Machine.{S, after}
use Rattle.machine.specs.Rounds.{rounds}
use Rattle.run_events.specs.Runs.{facts_of_round}
use Rattle.run_events.specs.declared.facts.Fact.{Fact}
use Rattle.ddt_timeline.specs.Asking.{Asked, IsAsked}
use Rattle.ddt_timeline.specs.Stops.{round}
use Rattle.ddt_timeline.specs.declared.stops.Run.{Run}
use Rattle.ddt_timeline.proofs.AskingLemmas.{both-none}
use Rattle.ddt_timeline.proofs.RunLemmas.{rounds-one_more}
use Rattle.ddt_moves.specs.OtherEnds.{HasLooked, ends_for, facts_behind, facts_of, if_breakpoint, is_closed, is_granted, list_of, told_cause}
use Rattle.ddt_moves.specs.declared.lock_watch.LockWatch.{LockWatch}
use Rattle.ddt_moves.specs.declared.run_stops.StopCause.{StopCause}
use Rattle.ddt_moves.specs.declared.run_stops.StopCause.TheVariants as cause
use Rattle.ddt_moves.specs.declared.stop_lists.StopList.{StopList}

abbrev pub asks : LockWatch → LockWatch → S → Bool → Type 0
asks old new s is_end = HasLooked old new s (round s) is_end

-- what a run that goes on has seen besides its stops
pub record IsWatched (s : S) (list : StopList) (ran : Run) : Type 0 where
  pub none : (n : ℕ) → n < ran.made → told_cause list (facts_behind s n) ≡ None
  pub quiet : ran.stop ≡ None → ran.by_watch ≡ false → told_cause list (facts_behind s ran.made) ≡ None

-- and for what its watch, which is w behind it, ends it
pub record IsWatchedBy (s : S) (list : StopList) (w : LockWatch) (ran : Run) : Type 0 where
  pub run : IsWatched s list ran
  pub cause :
      ran.by_watch ≡ true → w.has_failed ≡ false → 1 ≤ ran.made
      → ends_for list (after (rounds ran.made true) s) (facts_behind s ran.made) w.cause ≡ true
  pub some : ran.by_watch ≡ true → w.has_failed ≡ false → 1 ≤ ran.made → is_some w.cause ≡ true
  pub facts : ran.by_watch ≡ true → w.has_failed ≡ false → 1 ≤ ran.made → facts_of w ≡ facts_behind s ran.made

-- ---- the facts of a round

and-none : (a b : Bool) → b ≡ false → (a && b) ≡ false
and-none true b none = none
and-none false b none = refl

-- facts end no run that does not stop at them
told-none : (list : StopList) (facts : List Fact) → list.circles ≡ false → list.grants ≡ false → told_cause list facts ≡ None
told-none list facts circles grants =
    ap (λ (b : Bool). cond b (Some cause.Circle) (cond (list_any is_granted facts && list.grants) (Some cause.Grant) None))
    (and-none (list_any is_closed facts) list.circles circles)
    ∙ ap (λ (b : Bool). cond b (Some cause.Grant) None) (and-none (list_any is_granted facts) list.grants grants)

by-told : (list : StopList) (s : S) (facts : List Fact) (circle grant : Bool)
    → circle ≡ (list_any is_closed facts && list.circles) → grant ≡ (list_any is_granted facts && list.grants)
    → (o : Option StopCause) → o ≡ cond circle (Some cause.Circle) (cond grant (Some cause.Grant) None) → is_some o ≡ true
    → (ends_for list s facts o ≡ true) × (if_breakpoint o ≡ None)
by-told list s facts true grant circles grants o is some = (
  ap (λ (x : Option StopCause). ends_for list s facts x) is ∙ sym circles,
  ap (λ (x : Option StopCause). if_breakpoint x) is,
)
by-told list s facts false true circles grants o is some = (
  ap (λ (x : Option StopCause). ends_for list s facts x) is ∙ sym grants,
  ap (λ (x : Option StopCause). if_breakpoint x) is,
)
by-told list s facts false false circles grants o is some = absurd (false≢true (sym (ap (λ (x : Option StopCause). is_some x) is) ∙ some))

-- where they are a cause, that may end a run, and is no breakpoint
pub told_ends : (list : StopList) (s : S) (facts : List Fact) (o : Option StopCause) → o ≡ told_cause list facts → is_some o ≡ true
    → (ends_for list s facts o ≡ true) × (if_breakpoint o ≡ None)
told_ends list s facts o is some =
    by-told list s facts (list_any is_closed facts && list.circles) (list_any is_granted facts && list.grants) refl refl o is some

-- where they are none, what is a cause by all facts may end a run, or none
pub other_ends : (list : StopList) (s : S) (facts : List Fact) (o : Option StopCause) → told_cause list facts ≡ None
    → IfSome o (λ x. (all : List Fact) → ends_for list s all (Some x) ≡ true)
    → ends_for list s facts o ≡ true
other_ends list s facts None none by = ap (λ (x : Option StopCause). is_none x) none
other_ends list s facts (Some x) none by = by facts

-- a run that stops at no facts
pub no_facts : (s : S) (list : StopList) (ran : Run) → list.circles ≡ false → list.grants ≡ false → IsWatched s list ran
no_facts s list ran circles grants = record {
  none = λ n less. told-none list (facts_behind s n) circles grants;
  quiet = λ none quiet. told-none list (facts_behind s ran.made) circles grants;
}

-- ---- one look

-- a watch that goes on has worked, and has no cause
pub goes_on_parts : (failed : Bool) (cause : Option StopCause) → false ≡ (failed || is_some cause) → (failed ≡ false) × (cause ≡ None)
goes_on_parts true cause ended = absurd (false≢true ended)
goes_on_parts false (Some cause) ended = absurd (false≢true ended)
goes_on_parts false None ended = (refl, refl)

no-cause : (o : Option StopCause) → is_none o ≡ true → o ≡ None
no-cause None is = refl
no-cause (Some x) is = absurd (false≢true is)

saw_none : (v u : LockWatch) (m t : S) → HasLooked v u m t false → told_cause (list_of v) (facts_of_round m) ≡ None
saw_none v u m t looked =
    let parts = goes_on_parts u.has_failed u.cause looked.ended in
    no-cause (told_cause (list_of v) (facts_of_round m))
    (sym (ap (λ (o : Option StopCause). ends_for (list_of v) t (facts_of_round m) o) parts.1) ∙ looked.cause parts.0)

has_cause : (failed : Bool) (cause : Option StopCause) → true ≡ (failed || is_some cause) → failed ≡ false → is_some cause ≡ true
has_cause true cause ended worked = absurd (false≢true (sym worked))
has_cause false cause ended worked = sym ended

last-round : (n : ℕ) (s : S) → round (after (rounds n true) s) ≡ after (rounds (suc n) true) s
last-round n s = sym (rounds-one_more n s) ∙ ap (λ (i : ℕ). after (rounds i true) s) (add-one n)

-- a look behind one round more
pub looked_at : (s : S) (v u : LockWatch) (n : ℕ) (is_end : Bool) → asks v u (after (rounds n true) s) is_end
    → HasLooked v u (after (rounds n true) s) (after (rounds (suc n) true) s) is_end
looked_at s v u n is_end looked =
    subst (λ (t : S). HasLooked v u (after (rounds n true) s) t is_end) (last-round n s) looked

-- ---- all looks

-- what a watch has seen behind so many rounds that it did not end
record HasSeen (s : S) (list : StopList) (v : LockWatch) (n : ℕ) : Type 0 where
  lists : list_of v ≡ list
  none : (k : ℕ) → k < suc n → told_cause list (facts_behind s k) ≡ None

last_quiet : (s : S) (list : StopList) (v u : LockWatch) (n : ℕ) → HasSeen s list v n
    → HasLooked v u (after (rounds n true) s) (after (rounds (suc n) true) s) false
    → told_cause list (facts_behind s (suc n)) ≡ None
last_quiet s list v u n before looked =
    ap (λ (l : StopList). told_cause l (facts_of_round (after (rounds n true) s))) (sym before.lists)
    ∙ saw_none v u (after (rounds n true) s) (after (rounds (suc n) true) s) looked

none_yet : (s : S) (list : StopList) (k : ℕ) → k < 1 → told_cause list (facts_behind s k) ≡ None
none_yet s list zero less = refl
none_yet s list (suc k) less = absurd (omega (arith, less))

one_more : (s : S) (list : StopList) (n : ℕ) → ((k : ℕ) → k < n → told_cause list (facts_behind s k) ≡ None)
    → told_cause list (facts_behind s n) ≡ None
    → (k : ℕ) → k < suc n → told_cause list (facts_behind s k) ≡ None
one_more s list n before last k less = by_order (cases_lt k n)
  where
    by_order : (k < n) ⊎ (n ≤ k) → told_cause list (facts_behind s k) ≡ None
    by_order (inl early) = before k early
    by_order (inr late) =
        let same : k ≡ n = omega (arith, less, late) in
        ap (λ (i : ℕ). told_cause list (facts_behind s i)) same ∙ last

has_seen : (s : S) (list : StopList) (w v : LockWatch) (n : ℕ) → list_of w ≡ list → Asked asks s w v n → HasSeen s list v n
has_seen s list w v zero lists same = record {
  lists = ap (λ (x : LockWatch). list_of x) same ∙ lists;
  none = λ k less. none_yet s list k less;
}
has_seen s list w v (suc n) lists asked =
    let x = asked.0 in
    let before : HasSeen s list x n = has_seen s list w x n lists asked.1 in
    let looked : HasLooked x v (after (rounds n true) s) (after (rounds (suc n) true) s) false = looked_at s x v n false asked.2 in
    record {
      lists = looked.list ∙ before.lists;
      none = λ k less. one_more s list (suc n) before.none (last_quiet s list x v n before looked) k less;
    }

-- ---- a run

-- the last look of a run
pub last_look : (s : S) (w u : LockWatch) (n : ℕ) (ran : Run) (asked : IsAsked asks s w u ran) → ran.made ≡ suc n
    → HasLooked asked.0 u (after (rounds n true) s) (after (rounds (suc n) true) s) asked.1
last_look s w u n ran asked made =
    let before : ran.made - 1 ≡ n = omega (arith, made) in
    looked_at s asked.0 u n asked.1 (subst (λ (k : ℕ). asks asked.0 u (after (rounds k true) s) asked.1) before asked.3)

-- a run whose watch has all of these stops
pub watched : (s : S) (list : StopList) (w u : LockWatch) (ran : Run) → list_of w ≡ list
    → (1 ≤ ran.made → IsAsked asks s w u ran)
    → IsWatchedBy s list u ran
watched s list w u ran lists all = by_made ran.made refl
  where
    by_made : (n : ℕ) → ran.made ≡ n → IsWatchedBy s list u ran
    by_made zero made = record {
      run = record {
        none = λ n less. absurd (omega (arith, less, made));
        quiet = λ none _. ap (λ (n : ℕ). told_cause list (facts_behind s n)) made;
      };
      cause = λ by_watch worked some. absurd (omega (arith, some, made));
      some = λ by_watch worked some. absurd (omega (arith, some, made));
      facts = λ by_watch worked some. absurd (omega (arith, some, made));
    }
    by_made (suc n) made =
        let asked : IsAsked asks s w u ran = all (omega (arith, made)) in
        let v = asked.0 in
        let before_last : ran.made - 1 ≡ n = omega (arith, made) in
        let before : HasSeen s list v n =
        has_seen s list w v n lists (subst (λ (k : ℕ). Asked asks s w v k) before_last asked.2) in
        let looked : HasLooked v u (after (rounds n true) s) (after (rounds (suc n) true) s) asked.1 =
        last_look s w u n ran asked made in
        record {
          run = record {
            none = λ k less. before.none k (omega (arith, less, made));
            quiet =
                λ none quiet.
                ap (λ (k : ℕ). told_cause list (facts_behind s k)) made
                ∙ last_quiet s list v u n before
                (subst (λ (b : Bool). HasLooked v u (after (rounds n true) s) (after (rounds (suc n) true) s) b)
                (both-none asked.1 ran.stop none (sym asked.4 ∙ quiet)) looked);
          };
          cause =
              λ by_watch worked some.
              ap (λ (k : ℕ). ends_for list (after (rounds k true) s) (facts_behind s k) u.cause) made
              ∙ ap (λ (l : StopList). ends_for l (after (rounds (suc n) true) s) (facts_behind s (suc n)) u.cause) (sym before.lists)
              ∙ looked.cause worked;
          some =
              λ by_watch worked some.
              has_cause u.has_failed u.cause
              (sym (and_parts asked.1 (is_none ran.stop) (sym asked.4 ∙ by_watch)).0 ∙ looked.ended) worked;
          facts = λ by_watch worked some. looked.facts worked ∙ ap (λ (k : ℕ). facts_behind s k) (sym made);
        }
