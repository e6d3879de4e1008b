-- The facts of some rounds, of which only the last has any.
use Rattle.std.proofs.Common.{◌≡◌, ◌<◌, ◌∙◌, ap, ℕ, zero, suc, ◌+◌, ◌-◌, ◌++◌, true, List, [], ◌∷◌, map, refl, arith}
use Rattle.machine.specs.Machine.{S, after, happens}
use Rattle.machine.specs.Rounds.{rounds}
use Rattle.machine.specs.declared.event.Event.TheVariants.{Step}
use Rattle.run_events.specs.Facts.{facts_of_run, facts_of_step, facts_of_tick}
use Rattle.run_events.specs.Laws.{FactsAreTheLast}
use Rattle.run_events.specs.Runs.{facts_of_round}
use Rattle.run_events.specs.declared.facts.Fact.{Fact}

-- two lists that are empty together are empty
first-empty : (l m : List Fact) → l ++ m ≡ [] → l ≡ []
first-empty [] m e = refl
first-empty (x ∷ l) m e = absurd (cc)

second-empty : (l m : List Fact) → l ++ m ≡ [] → m ≡ []
second-empty [] m e = e
second-empty (x ∷ l) m e = absurd (cc)

run-last : (b tick : ℕ) (s : S) → ((k : ℕ) → k < b → facts_of_round (after (rounds k true) s) ≡ [])
    → facts_of_run tick (rounds (suc b) true) s ≡ facts_of_run (tick + b) (rounds 1 true) (after (rounds b true) s)
run-last zero tick s quiet =
    let e : tick ≡ tick + 0 = omega arith in
    ap (λ (i : ℕ). facts_of_run i (rounds 1 true) s) e
run-last (suc b) tick s quiet =
    let t : S = (happens s Step).state in
    let u : S = after (rounds 1 true) s in
    let none : facts_of_step s ++ facts_of_tick t ≡ [] = quiet 0 (omega arith) in
    let more : tick + 1 + b ≡ tick + suc b = omega arith in
    let rest : List (ℕ × Fact) = facts_of_run (tick + 1) (rounds (suc b) true) u in
    ap (λ (l : List Fact). map (λ fact. (tick, fact)) l ++ (map (λ fact. (tick + 1, fact)) (facts_of_tick t) ++ rest))
    (first-empty (facts_of_step s) (facts_of_tick t) none)
    ∙ ap (λ (l : List Fact). map (λ fact. (tick + 1, fact)) l ++ rest) (second-empty (facts_of_step s) (facts_of_tick t) none)
    ∙ run-last b (tick + 1) u (λ k less. quiet (suc k) (omega (arith, less)))
    ∙ ap (λ (i : ℕ). facts_of_run i (rounds 1 true) (after (rounds (suc b) true) s)) more

pub last : FactsAreTheLast
last s t n tick facts r =
    let e : n ≡ suc (n - 1) = omega (arith, r.least) in
    ap (λ (i : ℕ). facts_of_run tick (rounds i true) s) e
    ∙ run-last (n - 1) tick s (λ k less. r.quiet k (omega (arith, less)))
