-- Calls that store leave core as long as it was.
use Rattle.uuo_calls.specs.declared.service.Awaited.{Awaited}
use Rattle.std.proofs.Common.{◌≡◌, ◌∙◌, ℕ, ◌+◌, Bool, List, [], ◌∷◌, length, Result, Ok, Err, refl}
use Rattle.ka_state.specs.Memory.{is_legal}
use Rattle.lock_queue.specs.declared.refusal.Refusal.{Refusal}
use Rattle.lock_queue.specs.declared.request.Request.{Request}
use Rattle.lock_queue.specs.declared.want.Want.{Want}
use Rattle.tty_lines.specs.Rings.{Rings, input_of}
use Rattle.job_sched.specs.declared.job.Job.{Job}
use Rattle.uuo_calls.specs.CallState.{ac_of}
use Rattle.uuo_calls.specs.StatusRow.{Memory, answers_at, enqc_asks, status_told, status_words, stored, stored_at, stored_or_refused, with_room}
use Rattle.uuo_calls.specs.TerminalRows.{JobInput, input_called, has_input, stored_input, no_input, first_of}
use Rattle.ka_cpu.proofs.ExecLaws.{by_test, length-core_with}

-- ENQC.
length-stored : (p : Memory) (a : ℕ) (ws : List ℕ) → length (stored p a ws).core ≡ length p.core
length-stored p a [] = refl
length-stored p a (w ∷ ws) = length-stored (stored_at p a w) (a + 1) ws ∙ length-core_with p.core a w

length-told : (requests : List Request) (n ac to : ℕ) (j : Job) (core : List ℕ) (r : Result (List Want) Refusal)
    → length (stored_or_refused requests n ac to j core r).core ≡ length core
length-told requests n ac to j core (Err refusal) = refl
length-told requests n ac to j core (Ok wants) = length-stored (record { regs = j.regs; core = core }) to (status_words requests n wants)

pub length-status : (requests : List Request) (n ac : ℕ) (j : Job) (core : List ℕ) → length (status_told requests n ac j core).core ≡ length core
length-status requests n ac j core =
    length-told requests n ac (answers_at j ac) j core (with_room core (answers_at j ac) (enqc_asks j.regs.ac core n (ac_of j ac)))

-- a character
pub length-input : (unit : Awaited) (skips : Bool) (e : ℕ) (core : List ℕ) (j : Job) (lines : List Rings)
    → length (input_called unit skips e core j lines).core ≡ length core
length-input unit skips e core j lines =
    by_test (λ (o : JobInput). length o.core ≡ length core) (is_legal core e) _ _
    (λ _. by_test (λ (o : JobInput). length o.core ≡ length core) (has_input unit (input_of lines j.line))
    (stored_input skips e core j lines) (no_input unit skips core j lines)
    (λ _. length-core_with core e (first_of (input_of lines j.line)))
    (λ _. by_test (λ (o : JobInput). length o.core ≡ length core) skips _ _ (λ _. refl) (λ _. refl)))
    (λ _. refl)
