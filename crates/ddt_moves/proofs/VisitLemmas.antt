-- Breakpoints that count, and what they make of what has happened and of the steps of a run.
use Rattle.std.specs.Prelude.{◌&&◌, ◌||◌, not}
use Rattle.std.specs.Option.{IfSome}
use Rattle.std.specs.List.{list_any}
use Rattle.std.proofs.Common.{◌≡◌, ◌+◌, ◌∙◌, ◌++◌, ap, sym, refl, ℕ, zero, suc, Bool, true, false, cond, Option, Some, None, List, [], ◌∷◌}
use Rattle.std.proofs.Common.{map, get_or, nat_lt, arith}
use Rattle.std.proofs.lemmas.Bool.{and_parts, false≢true, or_parts}
use Rattle.machine.specs.Between.{next_in}
use Rattle.machine.specs.Machine.{S, after}
use Rattle.machine.specs.Rounds.{rounds}
use Rattle.machine.specs.Views.{job_view}
use Rattle.ddt_timeline.specs.Histories.{History, one_step}
use Rattle.ddt_timeline.specs.Stops.{fits, is_job, is_met, is_met_at, round, stands_at}
use Rattle.ddt_timeline.specs.Timelines.{made, steps_of}
use Rattle.ddt_timeline.specs.declared.entries.Entry.{Entry}
use Rattle.ddt_timeline.specs.declared.stops.StopCondition.{StopCondition}
use Rattle.ddt_timeline.specs.declared.stops.StopCondition.TheVariants.{At}
use Rattle.ddt_moves.specs.OtherEnds.{cause_of_breakpoint, counted_at, counted_in, stands}
use Rattle.ddt_moves.specs.Replays.{before_step, from_step}
use Rattle.ddt_moves.specs.RunEnds.{cause_at_slot}
use Rattle.ddt_moves.specs.StopLists.{counts, or_slot}
use Rattle.ddt_moves.specs.Visits.{behind, behind_all, behind_one, comes_due, counter_at, counter_if, counters, counters_after}
use Rattle.ddt_moves.specs.Visits.{counters_from, due_behind, first_due, is_due, seen_before, slot_if, stepped}
use Rattle.ddt_moves.specs.declared.run_stops.StopCause.TheVariants as cause
use Rattle.ddt_moves.specs.declared.stop_lists.Breakpoint.{Breakpoint}
use Rattle.ddt_moves.specs.declared.stop_lists.StopList.{StopList}
use Rattle.ddt_moves.specs.declared.visits.Counter.{Counter}

-- ---- all that has happened

-- a counter sees nothing before the next step
behind-before : (es : List Entry) (s : S) (c : Counter) → behind_all es s c ≡ behind_all (from_step es) (before_step es s) c
behind-before [] s c = refl
behind-before (e ∷ es) s c = by_step (nat_lt 0 (steps_of e)) refl (behind-before es (made s e) c)
  where
    by_step : (step : Bool) → nat_lt 0 (steps_of e) ≡ step
        → behind_all es (made s e) c ≡ behind_all (from_step es) (before_step es (made s e)) c
        → behind_all es (made s e) (cond step (stepped (made s e) (next_in s) (seen_before s c)) c)
        ≡ behind_all (cond step (e ∷ es) (from_step es)) (cond step s (before_step es (made s e))) c
    by_step true is rest =
        ap (λ (b : Bool). behind_all es (made s e) (cond b (stepped (made s e) (next_in s) (seen_before s c)) c)) (sym is)
    by_step false is rest = rest

-- it sees a step
behind-step : (es later : List Entry) (s s' t : S) (ran : Option ℕ) (c : Counter) → one_step ∷ later ≡ from_step es
    → s' ≡ before_step es s
    → t ≡ round s'
    → ran ≡ next_in s'
    → behind_all later t (stepped t ran (seen_before s' c)) ≡ behind_all es s c
behind-step es later s s' t ran c next there made_so ran_so =
    ap (λ (o : Option ℕ). behind_all later t (stepped t o (seen_before s' c))) ran_so
    ∙ ap (λ (x : S). behind_all later x (stepped x (next_in s') (seen_before s' c))) made_so
    ∙ ap (λ (l : List Entry). behind_all l s' c) next
    ∙ ap (λ (x : S). behind_all (from_step es) x c) there
    ∙ sym (behind-before es s c)

behind-steps : (es later : List Entry) (s s' t : S) (ran : Option ℕ) (cs : List Counter) → one_step ∷ later ≡ from_step es
    → s' ≡ before_step es s
    → t ≡ round s'
    → ran ≡ next_in s'
    → map (behind_all later t) (map (stepped t ran) (map (seen_before s') cs)) ≡ map (behind_all es s) cs
behind-steps es later s s' t ran [] next there made_so ran_so = refl
behind-steps es later s s' t ran (c ∷ cs) next there made_so ran_so =
    ap (λ (x : Counter). x ∷ map (behind_all later t) (map (stepped t ran) (map (seen_before s') cs)))
    (behind-step es later s s' t ran c next there made_so ran_so)
    ∙ ap (λ (l : List Counter). behind_all es s c ∷ l) (behind-steps es later s s' t ran cs next there made_so ran_so)

-- no step is left
behind-end : (es rest : List Entry) (s s' : S) (c : Counter) → rest ≡ from_step es → rest ≡ [] → s' ≡ before_step es s
    → seen_before s' c ≡ behind_all es s c
behind-end es rest s s' c next none there =
    ap (λ (l : List Entry). behind_all l s' c) (sym none ∙ next)
    ∙ ap (λ (x : S). behind_all (from_step es) x c) there
    ∙ sym (behind-before es s c)

behind-ends : (es rest : List Entry) (s s' : S) (cs : List Counter) → rest ≡ from_step es → rest ≡ [] → s' ≡ before_step es s
    → map (seen_before s') cs ≡ map (behind_all es s) cs
behind-ends es rest s s' [] next none there = refl
behind-ends es rest s s' (c ∷ cs) next none there =
    ap (λ (x : Counter). x ∷ map (seen_before s') cs) (behind-end es rest s s' c next none there)
    ∙ ap (λ (l : List Counter). behind_all es s c ∷ l) (behind-ends es rest s s' cs next none there)

-- a step of a replay, whose machine is u before it and t behind it; the counters see the same machines
pub past-step : (es later : List Entry) (s u u' t t' : S) (ran : Option ℕ) (cs cs' cs'' all : List Counter) → map (behind_all es s) cs ≡ all
    → one_step ∷ later ≡ from_step es
    → u ≡ before_step es s
    → u' ≡ u
    → cs' ≡ map (seen_before u') cs
    → t ≡ round u
    → ran ≡ next_in u
    → t' ≡ t
    → cs'' ≡ map (stepped t' ran) cs'
    → map (behind_all later t) cs'' ≡ all
past-step es later s u u' t t' ran cs cs' cs'' all so_far next there same_u before made_so ran_so same_t behind =
    ap (λ (l : List Counter). map (behind_all later t) l)
    (behind
    ∙ ap (λ (x : S). map (stepped x ran) cs') same_t
    ∙ ap (λ (l : List Counter). map (stepped t ran) l) (before ∙ ap (λ (x : S). map (seen_before x) cs) same_u))
    ∙ behind-steps es later s u t ran cs next there made_so ran_so
    ∙ so_far

-- its end
pub past-end : (es rest : List Entry) (s u u' : S) (cs cs' all : List Counter) → map (behind_all es s) cs ≡ all → rest ≡ from_step es → rest ≡ []
    → u ≡ before_step es s
    → u' ≡ u
    → cs' ≡ map (seen_before u') cs
    → cs' ≡ all
past-end es rest s u u' cs cs' all so_far next none there same_u before =
    before ∙ ap (λ (x : S). map (seen_before x) cs) same_u ∙ behind-ends es rest s u cs next none there ∙ so_far

-- ---- whose counters they are

-- a counter is that of the breakpoint in its slot, which counts
pub record IsCounterOf (slots : List (Option Breakpoint)) (c : Counter) : Type 0 where
  pub breakpoint : Breakpoint
  pub there : get_or slots c.slot None ≡ Some breakpoint
  pub does_count : nat_lt 1 breakpoint.times ≡ true
  pub stop : c.stop.stop ≡ At breakpoint.job breakpoint.address breakpoint.condition

abbrev pub AreCountersOf : List (Option Breakpoint) → List Counter → Type 0
AreCountersOf slots [] = Unit {0}
AreCountersOf slots (c ∷ cs) = IsCounterOf slots c × AreCountersOf slots cs

of-seen : (slots : List (Option Breakpoint)) (s : S) (c : Counter) → IsCounterOf slots c → IsCounterOf slots (seen_before s c)
of-seen slots s c h = record { breakpoint = h.breakpoint; there = h.there; does_count = h.does_count; stop = h.stop }

of-stepped : (slots : List (Option Breakpoint)) (s : S) (ran : Option ℕ) (c : Counter) → IsCounterOf slots c
    → IsCounterOf slots (stepped s ran c)
of-stepped slots s ran c h = record { breakpoint = h.breakpoint; there = h.there; does_count = h.does_count; stop = h.stop }

of-behind : (slots : List (Option Breakpoint)) (es : List Entry) (s : S) (c : Counter) → IsCounterOf slots c
    → IsCounterOf slots (behind_all es s c)
of-behind slots [] s c h = of-seen slots s c h
of-behind slots (e ∷ es) s c h = of-behind slots es (made s e) (behind_one e s c) (by_step (nat_lt 0 (steps_of e)))
  where
    by_step : (step : Bool) → IsCounterOf slots (cond step (stepped (made s e) (next_in s) (seen_before s c)) c)
    by_step true = of-stepped slots (made s e) (next_in s) (seen_before s c) (of-seen slots s c h)
    by_step false = h

of-map : (slots : List (Option Breakpoint)) (f : Counter → Counter) (cs : List Counter)
    → ((c : Counter) → IsCounterOf slots c → IsCounterOf slots (f c))
    → AreCountersOf slots cs
    → AreCountersOf slots (map f cs)
of-map slots f [] keeps all = tt
of-map slots f (c ∷ cs) keeps all = (keeps c all.0, of-map slots f cs keeps all.1)

of-from : (slots : List (Option Breakpoint)) (slot : ℕ) (later : List (Option Breakpoint))
    → ((j : ℕ) → get_or later j None ≡ get_or slots (slot + j) None)
    → AreCountersOf slots (counters_from slot later)
of-from slots slot [] same = tt
of-from slots slot (b ∷ later) same =
    by_slot b (same 0 ∙ ap (λ (j : ℕ). get_or slots j None) (zero_more slot))
    (of-from slots (slot + 1) later (λ j. same (suc j) ∙ ap (λ (k : ℕ). get_or slots k None) (one_more slot j)))
  where
    zero_more : (n : ℕ) → n + 0 ≡ n
    zero_more n = omega arith

    one_more : (n j : ℕ) → n + suc j ≡ (n + 1) + j
    one_more n j = omega arith

    by_count : (one : Breakpoint) (is : Bool) → nat_lt 1 one.times ≡ is → Some one ≡ get_or slots slot None
        → AreCountersOf slots (counters_from (slot + 1) later)
        → AreCountersOf slots (counter_if is slot one ++ counters_from (slot + 1) later)
    by_count one true is here rest = (record { breakpoint = one; there = sym here; does_count = is; stop = refl }, rest)
    by_count one false is here rest = rest

    by_slot : (o : Option Breakpoint) → o ≡ get_or slots slot None → AreCountersOf slots (counters_from (slot + 1) later)
        → AreCountersOf slots (counter_at slot o ++ counters_from (slot + 1) later)
    by_slot (Some one) here rest = by_count one (nat_lt 1 one.times) refl here rest
    by_slot None here rest = rest

pub are-counters : (h : History) (list : StopList) → AreCountersOf list.breakpoints (counters h list)
are-counters h list =
    of-map list.breakpoints (behind h) (counters_from 0 list.breakpoints) (λ c of. of-behind list.breakpoints h.past h.boot c of)
    (of-from list.breakpoints 0 list.breakpoints (λ j. ap (λ (k : ℕ). get_or list.breakpoints k None) (none_more j)))
  where
    none_more : (n : ℕ) → n ≡ 0 + n
    none_more n = omega arith

pub are-after : (slots : List (Option Breakpoint)) (s : S) (cs : List Counter) (n : ℕ) → AreCountersOf slots cs
    → AreCountersOf slots (counters_after s cs n)
are-after slots s cs zero all = all
are-after slots s cs (suc n) all =
    of-map slots (stepped (after (rounds (suc n) true) s) (next_in (after (rounds n true) s))) (counters_after s cs n)
    (λ c of. of-stepped slots (after (rounds (suc n) true) s) (next_in (after (rounds n true) s)) c of) (are-after slots s cs n all)

-- ---- why a run ends where one is due

-- a breakpoint is in this slot that counts, and its job stands there
record IsDueAt (slots : List (Option Breakpoint)) (s : S) (slot : ℕ) : Type 0 where
  breakpoint : Breakpoint
  there : get_or slots slot None ≡ Some breakpoint
  holds : (nat_lt 1 breakpoint.times && stands s breakpoint) ≡ true

stands_there : (stands came fits : Bool) → ((stands && came) && fits) ≡ true → ((stands && true) && fits) ≡ true
stands_there true true fits met = met
stands_there true false fits met = absurd (false≢true met)
stands_there false came fits met = absurd (false≢true met)

both : (a b : Bool) → a ≡ true → b ≡ true → (a && b) ≡ true
both true b first second = second
both false b first second = first

due_at : (slots : List (Option Breakpoint)) (s : S) (ran : Option ℕ) (c : Counter) → IsCounterOf slots c → comes_due s ran c ≡ true
    → IsDueAt slots s c.slot
due_at slots s ran c of due = record {
  breakpoint = of.breakpoint;
  there = of.there;
  holds =
      both (nat_lt 1 of.breakpoint.times) (stands s of.breakpoint) of.does_count
      (stands_there (stands_at (job_view s.world of.breakpoint.job) of.breakpoint.address) (is_job ran of.breakpoint.job || not c.stop.stood)
      (fits s of.breakpoint.job of.breakpoint.condition)
      (sym (ap (λ (x : StopCondition). is_met c.stop.stood s ran x) of.stop)
      ∙ (and_parts (is_met_at s ran c.stop) (is_due (stepped s ran c)) due).0));
}

due_there : (slots : List (Option Breakpoint)) (s : S) (ran : Option ℕ) (cs : List Counter) → AreCountersOf slots cs
    → IfSome (first_due s ran cs) (λ slot. IsDueAt slots s slot)
due_there slots s ran [] all = tt
due_there slots s ran (c ∷ cs) all = by_due (comes_due s ran c) refl (due_there slots s ran cs all.1)
  where
    by_due : (due : Bool) → comes_due s ran c ≡ due → IfSome (first_due s ran cs) (λ slot. IsDueAt slots s slot)
        → IfSome (or_slot (slot_if due c.slot) (first_due s ran cs)) (λ slot. IsDueAt slots s slot)
    by_due true due later = due_at slots s ran c all.0 due
    by_due false due later = later

cause_there : (s : S) (o : Option Breakpoint) (slot : ℕ) (b : Breakpoint) → o ≡ Some b
    → (nat_lt 1 b.times && stands s b) ≡ true
    → counted_at s slot o ≡ cause_of_breakpoint (slot + 1) o
cause_there s o slot b there holds =
    ap (λ (x : Option Breakpoint). counted_at s slot x) there
    ∙ ap (λ (x : Bool). cond x (Some (cause.Breakpoint (slot + 1) b.job b.address)) None) holds
    ∙ ap (λ (x : Option Breakpoint). cause_of_breakpoint (slot + 1) x) (sym there)

-- the cause is the breakpoint in the slot of the first counter that is due
pub cause_is : (list : StopList) (s : S) (ran : Option ℕ) (cs : List Counter) → AreCountersOf list.breakpoints cs
    → counted_in list s (first_due s ran cs) ≡ cause_at_slot list (first_due s ran cs)
cause_is list s ran cs all = by_slot (first_due s ran cs) (due_there list.breakpoints s ran cs all)
  where
    by_slot : (o : Option ℕ) → IfSome o (λ slot. IsDueAt list.breakpoints s slot) → counted_in list s o ≡ cause_at_slot list o
    by_slot (Some slot) due = cause_there s (get_or list.breakpoints slot None) slot due.breakpoint due.there due.holds
    by_slot None due = refl

some_cause : (o : Option Breakpoint) (slot : ℕ) (b : Breakpoint) → o ≡ Some b → cause_of_breakpoint (slot + 1) o ≡ None → ⊥
some_cause (Some x) slot b there none = cc
some_cause None slot b there none = cc

-- none is due where there is no cause
pub none_due : (list : StopList) (s : S) (ran : Option ℕ) (cs : List Counter) → AreCountersOf list.breakpoints cs
    → counted_in list s (first_due s ran cs) ≡ None
    → first_due s ran cs ≡ None
none_due list s ran cs all none = by_slot (first_due s ran cs) (due_there list.breakpoints s ran cs all) none
  where
    by_slot : (o : Option ℕ) → IfSome o (λ slot. IsDueAt list.breakpoints s slot) → counted_in list s o ≡ None → o ≡ None
    by_slot (Some slot) due none =
        let is : counted_at s slot (get_or list.breakpoints slot None)
        ≡ cause_of_breakpoint (slot + 1) (get_or list.breakpoints slot None) =
        cause_there s (get_or list.breakpoints slot None) slot due.breakpoint due.there due.holds in
        absurd (some_cause (get_or list.breakpoints slot None) slot due.breakpoint due.there (sym is ∙ none))
    by_slot None due none = refl

-- ---- where no breakpoint counts

no-counters : (slot : ℕ) (slots : List (Option Breakpoint)) → list_any counts slots ≡ false → counters_from slot slots ≡ []
no-counters slot [] none = refl
no-counters slot (b ∷ later) none =
    let parts = or_parts (counts b) (list_any counts later) none in
    by_slot b parts.0 (no-counters (slot + 1) later parts.1)
  where
    by_count : (one : Breakpoint) (is : Bool) → is ≡ false → counters_from (slot + 1) later ≡ []
        → counter_if is slot one ++ counters_from (slot + 1) later ≡ []
    by_count one true is rest = absurd (false≢true (sym is))
    by_count one false is rest = rest

    by_slot : (o : Option Breakpoint) → counts o ≡ false → counters_from (slot + 1) later ≡ []
        → counter_at slot o ++ counters_from (slot + 1) later ≡ []
    by_slot (Some one) is rest = by_count one (nat_lt 1 one.times) is rest
    by_slot None is rest = rest

pub none_count : (h : History) (list : StopList) → list_any counts list.breakpoints ≡ false → counters h list ≡ []
none_count h list none = ap (λ (cs : List Counter). map (behind h) cs) (no-counters 0 list.breakpoints none)

none_after : (s : S) (n : ℕ) → counters_after s [] n ≡ []
none_after s zero = refl
none_after s (suc n) =
    ap (λ (cs : List Counter). map (stepped (after (rounds (suc n) true) s) (next_in (after (rounds n true) s))) cs) (none_after s n)

pub none_behind : (s : S) (cs : List Counter) (n : ℕ) → cs ≡ [] → due_behind s cs n ≡ None
none_behind s cs zero none = refl
none_behind s cs (suc n) none =
    ap (λ (l : List Counter). first_due (after (rounds (suc n) true) s) (next_in (after (rounds n true) s)) (counters_after s l n)) none
    ∙ ap (λ (l : List Counter). first_due (after (rounds (suc n) true) s) (next_in (after (rounds n true) s)) l) (none_after s n)
