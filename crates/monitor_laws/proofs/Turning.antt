-- A turn leaves a job its core.
use Rattle.std.proofs.Common.{◌≡◌, ◌≢◌, ◌<◌, ◌∙◌, sym, ap, ℕ, zero, suc, ◌+◌, List, [], ◌∷◌, length, Option, Some, None, refl, arith}
use Rattle.std.proofs.lemmas.List.{get_or-set_same}
use Rattle.ka_cpu.specs.Exec.{exec}
use Rattle.ka_state.specs.Registers.{pc_word}
use Rattle.ka_state.specs.Memory.{core_with}
use Rattle.ka_state.specs.declared.registers.Regs.{Regs}
use Rattle.ka_state.specs.declared.outcome.Outcome.{Outcome}
use Rattle.ka_state.specs.declared.outcome.Outcome.TheVariants as outcome
use Rattle.core_store.specs.Cores.{Cores, core_of, with_core}
use Rattle.lock_queue.specs.declared.request.Request.{Request}
use Rattle.job_sched.specs.declared.job.Job.{Job}
use Rattle.machine.specs.Turns.{Turn, turned, concluded, notified_at, interrupted_at, noted}
use Rattle.ka_cpu.proofs.ExecLaws.{by_test, length-core_with, length-exec}

below-some : (cores : List (List ℕ)) (free n : ℕ) → core_of (record { cores = cores; free = free }) n ≢ [] → n < length cores
below-some [] free n h = absurd (h refl)
below-some (x ∷ cores) free zero h = omega arith
below-some (x ∷ cores) free (suc n) h = let rest = below-some cores free n h in omega arith

length-zero : (xs : List ℕ) → length xs ≡ 0 → xs ≡ []
length-zero [] h = refl
length-zero (x ∷ xs) h = absurd (omega arith)

pub some-with_core : (cores : Cores) (n : ℕ) (words : List ℕ) → core_of cores n ≢ [] → length words ≡ length (core_of cores n)
    → core_of (with_core cores n words) n ≢ []
some-with_core cores n words some same none =
    let low = below-some cores.cores cores.free n some in
    let is : words ≡ [] = sym (get_or-set_same cores.cores n words [] low) ∙ none in
    some (length-zero (core_of cores n) (sym same ∙ ap length is))

pub some-concluded : (j : Job) (cores : Cores) (requests : List Request) (o : Outcome) (n : ℕ) → core_of cores n ≢ []
    → core_of (concluded j cores requests o).cores n ≢ []
some-concluded j cores requests outcome.Done n some = some
some-concluded j cores requests (outcome.Stop reason) n some = some
some-concluded j cores requests (outcome.Call kind ac e) n some = some

pub length-noted : (g : Regs) (core : List ℕ) (vector id : ℕ) → length (noted g core vector id).core ≡ length core
length-noted g core vector id =
    length-core_with (core_with core (vector + 1) (pc_word g.flags g.pc)) (vector + 3) id ∙ length-core_with core (vector + 1) (pc_word g.flags g.pc)

pub some-turned : (n : ℕ) (j : Job) (cores : Cores) (requests : List Request) (o : Option (ℕ × ℕ)) → core_of cores n ≢ []
    → core_of (turned n j cores requests o).cores n ≢ []
some-turned n j cores requests None some =
    some-concluded _ _ requests (exec j.regs (core_of cores n)).outcome n (some-with_core cores n _ some (length-exec j.regs (core_of cores n)))
some-turned n j cores requests (Some x) some =
    by_test (λ (t : Turn). core_of t.cores n ≢ []) _ (notified_at n cores requests (interrupted_at j (core_of cores n) x.0 x.1)) _
    (λ _. some-with_core cores n _ some (length-noted j.regs (core_of cores n) x.0 x.1))
    (λ _. some)

-- a turn leaves what its job waits for
pub wait-concluded : (j : Job) (cores : Cores) (requests : List Request) (o : Outcome) → (concluded j cores requests o).job.wait ≡ j.wait
wait-concluded j cores requests outcome.Done = refl
wait-concluded j cores requests (outcome.Stop reason) = refl
wait-concluded j cores requests (outcome.Call kind ac e) = refl

pub wait-turned : (n : ℕ) (j : Job) (cores : Cores) (requests : List Request) (o : Option (ℕ × ℕ)) → (turned n j cores requests o).job.wait ≡ j.wait
wait-turned n j cores requests None = wait-concluded _ _ requests (exec j.regs (core_of cores n)).outcome
wait-turned n j cores requests (Some x) =
    by_test (λ (t : Turn). t.job.wait ≡ j.wait) _ (notified_at n cores requests (interrupted_at j (core_of cores n) x.0 x.1)) _ (λ _. refl) (λ _. refl)
