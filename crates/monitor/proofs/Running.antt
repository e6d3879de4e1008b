-- Instructions one after another, counted from the first.
use Rattle.std.proofs.Common.{◌≡◌, ◌∙◌, sym, ap, ℕ, zero, suc, ◌+◌, Bool, true, false, List, refl, arith}
use Rattle.std.proofs.lemmas.Bool.{false≢true}
use Rattle.ka_cpu.specs.Effects.{After}
use Rattle.ka_cpu.specs.Exec.{exec}
use Rattle.ka_cpu.specs.Runs.{Ran, is_done, ran, ran_on}
use Rattle.ka_state.specs.declared.outcome.Outcome.{Outcome}
use Rattle.ka_state.specs.declared.outcome.Outcome.TheVariants.{Done}
use Rattle.ka_state.specs.declared.registers.Regs.{Regs}
use Rattle.monitor_laws.proofs.Stretching.{ran-one}

-- behind an instruction that is done
ran-done : (n : ℕ) (g : Regs) (core : List ℕ) → is_done (exec g core).outcome ≡ true
    → ran (suc n) g core ≡ ran_on 1 (ran n (exec g core).regs (exec g core).core)
unfolding ran
ran-done n g core d = rw d refl

-- and one that is not
ran-ended : (n : ℕ) (g : Regs) (core : List ℕ) → is_done (exec g core).outcome ≡ false → ran (suc n) g core ≡ record { steps = 1; after = exec g core }
unfolding ran
ran-ended n g core d = rw d refl

ran-none : (g : Regs) (core : List ℕ) → ran 0 g core ≡ record { steps = 0; after = record { regs = g; core = core; outcome = Done } }
unfolding ran
ran-none g core = refl

-- as many instructions as were executed of some are the same
ran-again : (k : ℕ) (g : Regs) (core : List ℕ) → ran (ran k g core).steps g core ≡ ran k g core
ran-again zero g core = ap (λ (r : Ran). ran r.steps g core) (ran-none g core)
ran-again (suc k) g core = by_outcome (is_done (exec g core).outcome) refl (ran-again k (exec g core).regs (exec g core).core)
  where
    by_outcome : (b : Bool) → is_done (exec g core).outcome ≡ b
        → ran (ran k (exec g core).regs (exec g core).core).steps (exec g core).regs (exec g core).core ≡ ran k (exec g core).regs (exec g core).core
        → ran (ran (suc k) g core).steps g core ≡ ran (suc k) g core
    by_outcome true d inner =
        let x : After = exec g core in
        let r : Ran = ran k x.regs x.core in
        let more : 1 + r.steps ≡ suc r.steps = omega arith in
        ap (λ (q : Ran). ran q.steps g core) (ran-done k g core d)
        ∙ ap (λ (n : ℕ). ran n g core) more
        ∙ ran-done r.steps g core d
        ∙ ap (λ (q : Ran). ran_on 1 q) inner
        ∙ sym (ran-done k g core d)
    by_outcome false d inner = ap (λ (q : Ran). ran q.steps g core) (ran-ended k g core d) ∙ ran-one g core ∙ sym (ran-ended k g core d)

pub ran_all : (k steps : ℕ) (a : After) (g : Regs) (core : List ℕ) → record { steps = steps; after = a } ≡ ran k g core
    → record { steps = steps; after = a } ≡ ran steps g core
ran_all k steps a g core is =
    is ∙ sym (ran-again k g core) ∙ ap (λ (n : ℕ). ran n g core) (sym (ap (λ (r : Ran). r.steps) is))

-- one instruction more, behind some that were all done
pub ran_next : (k : ℕ) (g h : Regs) (core rest : List ℕ) → record { steps = k; after = record { regs = h; core = rest; outcome = Done } } ≡ ran k g core
    → record { steps = suc k; after = exec h rest } ≡ ran (suc k) g core
ran_next zero g h core rest is =
    let same = is ∙ ran-none g core in
    let regs : h ≡ g = ap (λ (r : Ran). r.after.regs) same in
    let words : rest ≡ core = ap (λ (r : Ran). r.after.core) same in
    ap (λ (i : Regs). record { steps = 1; after = exec i rest }) regs
    ∙ ap (λ (l : List ℕ). record { steps = 1; after = exec g l }) words
    ∙ sym (ran-one g core)
ran_next (suc k) g h core rest is =
    by_outcome (is_done (exec g core).outcome) refl (λ left. ran_next k (exec g core).regs h (exec g core).core rest left)
  where
    by_outcome : (b : Bool) → is_done (exec g core).outcome ≡ b
        → (record { steps = k; after = record { regs = h; core = rest; outcome = Done } } ≡ ran k (exec g core).regs (exec g core).core
        → record { steps = suc k; after = exec h rest } ≡ ran (suc k) (exec g core).regs (exec g core).core)
        → record { steps = suc (suc k); after = exec h rest } ≡ ran (suc (suc k)) g core
    by_outcome true d inner =
        let x : After = exec g core in
        let r : Ran = ran k x.regs x.core in
        let a : After = record { regs = h; core = rest; outcome = Done } in
        let same : record { steps = suc k; after = a } ≡ ran_on 1 r = is ∙ ran-done k g core d in
        let count : suc k ≡ 1 + r.steps = ap (λ (q : Ran). q.steps) same in
        let fewer : k ≡ r.steps = omega (arith, count) in
        let left : record { steps = k; after = a } ≡ r =
        ap (λ (n : ℕ). record { steps = n; after = a }) fewer ∙ ap (λ (b : After). record { steps = r.steps; after = b }) (ap (λ (q : Ran). q.after) same) in
        let more : suc (suc k) ≡ 1 + suc k = omega arith in
        ap (λ (n : ℕ). record { steps = n; after = exec h rest }) more
        ∙ ap (λ (q : Ran). ran_on 1 q) (inner left)
        ∙ sym (ran-done (suc k) g core d)
    by_outcome false d inner =
        let same = is ∙ ran-ended k g core d in
        absurd (false≢true (sym d ∙ sym (ap (λ (r : Ran). is_done r.after.outcome) same)))

pub ran_more : (k : ℕ) (g h i : Regs) (core rest left : List ℕ) (o : Outcome) →
    record { steps = k; after = record { regs = h; core = rest; outcome = Done } } ≡ ran k g core
    → record { regs = i; core = left; outcome = o } ≡ exec h rest
    → record { steps = k + 1; after = record { regs = i; core = left; outcome = o } } ≡ ran (k + 1) g core
ran_more k g h i core rest left o is step =
    let more : k + 1 ≡ suc k = omega arith in
    ap (λ (n : ℕ). record { steps = n; after = record { regs = i; core = left; outcome = o } }) more
    ∙ ap (λ (a : After). record { steps = suc k; after = a }) step
    ∙ ran_next k g h core rest is
    ∙ ap (λ (n : ℕ). ran n g core) (sym more)

pub start : (g : Regs) (core : List ℕ) → record { steps = 0; after = record { regs = g; core = core; outcome = Done } } ≡ ran 0 g core
start g core = sym (ran-none g core)
