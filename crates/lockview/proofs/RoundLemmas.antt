-- Steps, rounds and ticks one after another.
use Rattle.std.proofs.Common.{◌≡◌, ◌≤◌, ◌<◌, ◌∙◌, ◌+◌, ◌-◌, ℕ, zero, suc, true, false, [], refl, ap, sym, arith, replicate}
use Rattle.machine.specs.Machine.{S, happens, after}
use Rattle.machine.specs.Rounds.{rounds}
use Rattle.machine.specs.declared.event.Event.TheVariants as event
use Rattle.run_events.specs.Facts.{facts_of_step}
use Rattle.run_events.specs.Runs.{LeadsTo, facts_of_round}
use Rattle.run_events.specs.declared.runs.RoundsMade.{RoundsMade}
use Rattle.lockview.specs.Rounds.{one, passed, step_facts_of, stepped, tick_of}
use Rattle.lockview.specs.declared.run_lines.Repeated.{Repeated}
use Rattle.lockview.specs.declared.run_lines.Repeated.TheVariants.{Step, Round, Tick}

-- one more after others
passed_more : (r : Repeated) (n : ℕ) (s : S) → passed r (suc n) s ≡ one r (passed r n s)
passed_more r zero s = refl
passed_more r (suc n) s = passed_more r n (one r s)

-- some, and then others
passed_on : (r : Repeated) (a k : ℕ) (s : S) → passed r k (passed r a s) ≡ passed r (a + k) s
passed_on r zero k s = let e : k ≡ 0 + k = omega arith in ap (λ (i : ℕ). passed r i s) e
passed_on r (suc a) k s =
    let e : suc (a + k) ≡ suc a + k = omega arith in
    passed_on r a k (one r s) ∙ ap (λ (i : ℕ). passed r i s) e

-- the same as events of the machine
pub passed_steps : (n : ℕ) (s : S) → after (rounds n false) s ≡ passed Step n s
passed_steps zero s = refl
passed_steps (suc n) s = passed_steps n (one Step s)

pub passed_rounds : (n : ℕ) (s : S) → after (rounds n true) s ≡ passed Round n s
passed_rounds zero s = refl
passed_rounds (suc n) s = passed_rounds n (one Round s)

pub passed_ticks : (n : ℕ) (s : S) → after (replicate n event.Tick) s ≡ passed Tick n s
passed_ticks zero s = refl
passed_ticks (suc n) s = passed_ticks n (one Tick s)

-- the last tick after the steps
last_tick : (r : Repeated) (n : ℕ) (s : S) → tick_of r (stepped r n s) ≡ one r (passed r (n - 1) s)
last_tick Step n s = refl
last_tick Round n s = refl
last_tick Tick n s = refl

ticked_on : (r : Repeated) (n : ℕ) (s : S) → 1 ≤ n → tick_of r (stepped r n s) ≡ passed r n s
ticked_on r n s some =
    let e : suc (n - 1) ≡ n = omega (arith, some) in
    last_tick r n s ∙ sym (passed_more r (n - 1) s) ∙ ap (λ (i : ℕ). passed r i s) e

-- some more of them, with the tick after them
pub passed_further : (r : Repeated) (a n : ℕ) (s m t u : S) → m ≡ passed r a s → 1 ≤ n → t ≡ stepped r n m → u ≡ tick_of r t
    → u ≡ passed r (a + n) s
passed_further r a n s m t u before some steps tick =
    tick ∙ ap (tick_of r) steps ∙ ticked_on r n m some ∙ ap (passed r n) before ∙ passed_on r a n s

-- rounds of one job, made at once
module _ (s t : S) (r : RoundsMade) (leads : LeadsTo s t r) where
  pub round_state : t ≡ stepped Round r.made s
  round_state = leads.state ∙ ap (λ (x : S). (happens x event.Step).state) (passed_rounds (r.made - 1) s)

  pub round_facts : r.facts.items ≡ step_facts_of Round r.made s
  round_facts = leads.facts ∙ ap facts_of_step (passed_rounds (r.made - 1) s)

  pub round_quiet : (k : ℕ) → k + 1 < r.made → facts_of_round (passed Round k s) ≡ []
  round_quiet k less = sym (ap (λ (x : S). facts_of_round x) (passed_rounds k s)) ∙ leads.quiet k less

  module _ (few : r.made ≤ 1) where
    none : after (rounds (r.made - 1) true) s ≡ passed Step (r.made - 1) s
    none =
        let e : r.made - 1 ≡ 0 = omega (arith, few) in
        ap (λ (i : ℕ). after (rounds i true) s) e ∙ sym (ap (λ (i : ℕ). passed Step i s) e)

    pub step_state : t ≡ stepped Step r.made s
    step_state = leads.state ∙ ap (λ (x : S). (happens x event.Step).state) none

    pub step_facts : r.facts.items ≡ step_facts_of Step r.made s
    step_facts = leads.facts ∙ ap facts_of_step none

    pub step_quiet : (k : ℕ) → k + 1 < r.made → facts_of_round (passed Step k s) ≡ []
    step_quiet k less = absurd (omega (arith, few, less))
