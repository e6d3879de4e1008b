-- Runs of instructions taken apart.
use Rattle.std.proofs.Common.{◌≡◌, ◌∙◌, ℕ, zero, suc, ◌+◌, Bool, true, false, cond, List, refl, sym, ap, arith}
use Rattle.ka_cpu.specs.Effects.{After}
use Rattle.ka_cpu.specs.Exec.{exec}
use Rattle.ka_cpu.specs.Runs.{Ran, is_done, ran, ran_on, ran_then}
use Rattle.ka_state.specs.declared.registers.Regs.{Regs}
use Rattle.ka_state.specs.declared.outcome.Outcome.{Outcome}
use Rattle.ka_state.specs.declared.outcome.Outcome.TheVariants.{Done}

done_is : (o : Outcome) → is_done o ≡ true → o ≡ Done
done_is Done h = refl
done_is _ h = cc

done_after : (a : After) → is_done a.outcome ≡ true → record { regs = a.regs; core = a.core; outcome = Done } ≡ a
done_after a h = ap (λ (o : Outcome). record { regs = a.regs; core = a.core; outcome = o }) (sym (done_is a.outcome h))

one_of : (a : After) (b : Bool) → is_done a.outcome ≡ b
    → ◌≡◌ {A = Ran}
    (cond b (record { steps = 1; after = record { regs = a.regs; core = a.core; outcome = Done } })
    (record { steps = 1; after = a })) (record { steps = 1; after = a })
one_of a true h = ap (λ (x : After). record { steps = 1; after = x }) (done_after a h)
one_of a false h = refl

pub one_law : (g : Regs) (core : List ℕ) → ran 1 g core ≡ record { steps = 1; after = exec g core }
unfolding ran
one_law g core = one_of (exec g core) (is_done (exec g core).outcome) refl

none_on : (r : Ran) → ran_on 0 r ≡ r
none_on r = let e : 0 + r.steps ≡ r.steps = omega arith in ap (λ (n : ℕ). record { steps = n; after = r.after }) e

on_on : (s : ℕ) (x : Ran) → ran_on 1 (ran_on s x) ≡ ran_on (1 + s) x
on_on s x = let e : 1 + (s + x.steps) ≡ 1 + s + x.steps = omega arith in ap (λ (n : ℕ). record { steps = n; after = x.after }) e

on_either : (d : Bool) (r x : Ran) → ran_on 1 (cond d (ran_on r.steps x) r) ≡ cond d (ran_on (1 + r.steps) x) (ran_on 1 r)
on_either true r x = on_on r.steps x
on_either false r x = refl

on_then : (k : ℕ) (r : Ran) → ran_on 1 (ran_then k r) ≡ ran_then k (ran_on 1 r)
on_then k r = on_either (is_done r.after.outcome) r (ran k r.after.regs r.after.core)

split_step : (j k n : ℕ) (a : After) (b : Bool) → is_done a.outcome ≡ b → ran n a.regs a.core ≡ ran_then k (ran j a.regs a.core)
    → cond b (ran_on 1 (ran n a.regs a.core)) (record { steps = 1; after = a })
    ≡ ran_then k (cond b (ran_on 1 (ran j a.regs a.core)) (record { steps = 1; after = a }))
split_step j k n a true h e = ap (ran_on 1) e ∙ on_then k (ran j a.regs a.core)
split_step j k n a false h e = rw h refl

split_at : (j k n : ℕ) → n ≡ j + k → (g : Regs) (core : List ℕ) → ran n g core ≡ ran_then k (ran j g core)
unfolding ran
split_at zero k n e g core = let f : n ≡ k = omega arith in ap (λ (i : ℕ). ran i g core) f ∙ sym (none_on (ran k g core))
split_at (suc j) k zero e g core = absurd (omega arith)
split_at (suc j) k (suc n) e g core =
    split_step j k n (exec g core) (is_done (exec g core).outcome) refl
    (split_at j k n (omega arith) (exec g core).regs (exec g core).core)

pub split_law : (j k : ℕ) (g : Regs) (core : List ℕ) → ran (j + k) g core ≡ ran_then k (ran j g core)
split_law j k g core = split_at j k (j + k) refl g core
