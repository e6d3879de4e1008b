-- Instructions one after another, as a loop that counts those that are left.
use Rattle.std.proofs.Common.{◌≡◌, ℕ, suc, ◌+◌, ◌-◌, ◌<◌, List, false, refl, ◌∙◌, sym, arith, ap}
use Rattle.ka_cpu.specs.Exec.{exec}
use Rattle.ka_cpu.specs.Runs.{Ran, is_done, ran, ran_on}
use Rattle.ka_state.specs.declared.registers.Regs.{Regs}
use Rattle.ka_state.specs.declared.outcome.Outcome.{Outcome}
use Rattle.ka_state.specs.declared.outcome.Outcome.TheVariants.{Done}

on_steps : (r : Ran) (i j : ℕ) → i ≡ j → ran_on i r ≡ ran_on j r
on_steps r i j e = ap (λ (n : ℕ). ran_on n r) e

on_twice : (i : ℕ) (r : Ran) → ran_on i (ran_on 1 r) ≡ ran_on (i + 1) r
on_twice i r = let e : i + (1 + r.steps) ≡ i + 1 + r.steps = omega arith in ap (λ (n : ℕ). record { steps = n; after = r.after }) e

ran_at : (m : ℕ) (g h : Regs) (core rest : List ℕ) → record { regs = h; core = rest; outcome = Done } ≡ exec g core
    → ran (suc m) g core ≡ ran_on 1 (ran m h rest)
unfolding ran
ran_at m g h core rest x = rw (← x) refl

not_done : (o : Outcome) → (o ≡ Done → ⊥) → is_done o ≡ false
not_done Done h = absurd (h refl)
not_done _ h = refl

ended_at : (m : ℕ) (g h : Regs) (core rest : List ℕ) (o : Outcome) → record { regs = h; core = rest; outcome = o } ≡ exec g core → is_done o ≡ false
    → ran (suc m) g core ≡ record { steps = 1; after = record { regs = h; core = rest; outcome = o } }
unfolding ran
ended_at m g h core rest o x d = rw (← x) (rw d refl)

-- one instruction of k, after which j are left
pub ran_turn : (k j n : ℕ) (g h : Regs) (core rest : List ℕ) → j < k → n ≡ suc j → record { regs = h; core = rest; outcome = Done } ≡ exec g core
    → ran_on (k - j) (ran j h rest) ≡ ran_on (k - n) (ran n g core)
ran_turn k j n g h core rest b e x =
    rw e
    (sym
    (ap (ran_on (k - suc j)) (ran_at j g h core rest x)
    ∙ (on_twice (k - suc j) (ran j h rest) ∙ on_steps (ran j h rest) (k - suc j + 1) (k - j) (omega arith))))

-- and one that ends the run
pub ran_ended : (k j n : ℕ) (g h : Regs) (core rest : List ℕ) (o : Outcome) → j < k → n ≡ suc j
    → record { regs = h; core = rest; outcome = o } ≡ exec g core
    → (o ≡ Done → ⊥)
    → record { steps = k - j; after = record { regs = h; core = rest; outcome = o } } ≡ ran_on (k - n) (ran n g core)
ran_ended k j n g h core rest o b e x d =
    rw e (sym (ap (ran_on (k - suc j)) (ended_at j g h core rest o x (not_done o d))
    ∙ (let s : k - suc j + 1 ≡ k - j = omega arith in ap (λ (i : ℕ). record { steps = i; after = record { regs = h; core = rest; outcome = o } }) s)))

ran_zero : (g : Regs) (core : List ℕ) → ran 0 g core ≡ record { steps = 0; after = record { regs = g; core = core; outcome = Done } }
unfolding ran
ran_zero g core = refl

pub ran_start : (k : ℕ) (g : Regs) (core : List ℕ) → ran_on (k - k) (ran k g core) ≡ ran k g core
ran_start k g core = let e : k - k ≡ 0 = omega arith in on_steps (ran k g core) (k - k) 0 e ∙ zero_on (ran k g core)
  where
    zero_on : (r : Ran) → ran_on 0 r ≡ r
    zero_on r = let e : 0 + r.steps ≡ r.steps = omega arith in ap (λ (n : ℕ). record { steps = n; after = r.after }) e

pub ran_end : (k j : ℕ) (g : Regs) (core : List ℕ) → j ≡ 0
    → record { steps = k; after = record { regs = g; core = core; outcome = Done } } ≡ ran_on (k - j) (ran j g core)
ran_end k j g core e =
    rw e (let s : k - 0 + 0 ≡ k = omega arith in
    sym (ap (ran_on (k - 0)) (ran_zero g core) ∙ ap (λ (n : ℕ). record { steps = n; after = record { regs = g; core = core; outcome = Done } }) s))

-- one instruction alone
pub ran_one : (g h : Regs) (core rest : List ℕ) (o : Outcome) → record { regs = h; core = rest; outcome = o } ≡ exec g core
    → record { steps = 1; after = record { regs = h; core = rest; outcome = o } } ≡ ran 1 g core
unfolding ran
ran_one g h core rest Done x = rw (← x) refl
ran_one g h core rest o x = rw (← x) refl

pub ruleset run_turns = (ran_turn, ran_ended, ran_start, ran_end)
