-- Calls that are empty steps, and texts that go out.
use Rattle.std.proofs.Common.{◌≡◌, ◌≤◌, ◌∙◌, sym, ap, subst, ℕ, ◌⊎◌, inl, inr, Bool, true, false, List, []}
use Rattle.std.proofs.Common.{◌++◌, length, Option, Some, None, refl, nat_le, arith}
use Rattle.std.proofs.lemmas.Bool.Decides.{nat_tests}
use Rattle.ka_state.specs.Memory.{is_legal, word_below}
use Rattle.core_store.specs.Cores.{Cores, core_of, with_core}
use Rattle.tty_lines.specs.Rings.{input_of, output_of, room_of, with_output}
use Rattle.word36.specs.declared.sizes.TheConstants.{OUTPUT_RING}
use Rattle.job_sched.specs.declared.job.Job.{Job}
use Rattle.job_sched.specs.declared.job.Wait.{Wait}
use Rattle.job_sched.specs.declared.job.Wait.TheVariants.{Room}
use Rattle.uuo_calls.specs.declared.call.CallOutcome.TheVariants.{Empty}
use Rattle.uuo_calls.specs.declared.service.Awaited.{Awaited}
use Rattle.uuo_calls.specs.declared.service.Awaited.TheVariants as awaited
use Rattle.uuo_calls.specs.declared.service.Service.{Service}
use Rattle.uuo_calls.specs.declared.service.Service.TheVariants.{Reset, Core, Exit, Monrt, Logout, Mstime, Pjob, Sleep, Piini, Pisys, Debrk, Enq, Deq, Enqc}
use Rattle.uuo_calls.specs.declared.service.Service.TheVariants.{Datrd, Datwr, Input, Outchr, Outstr, Clrbfi, Clrbfo, Skpin, Unlisted}
use Rattle.uuo_calls.specs.CallState.{CallState, put_back, waiting}
use Rattle.uuo_calls.specs.Laws.{EmptyStepsWait, TextsGoWhole, is_terminal_wait, service_in, with_new_job}
use Rattle.uuo_calls.specs.Performed.{Performed, World, around, ended, row_of}
use Rattle.uuo_calls.specs.TerminalRows.{JobInput, JobLines, has_input, input_called, input_wait, low_character, no_input, put_text, stored_input, text_from}
use Rattle.uuo_calls.proofs.Rows.{core-same, performs}
use Rattle.uuo_calls.proofs.Tests.{by_test}

-- what an empty step leaves
abbrev pub IsEmptyStep : World → ℕ → Job → Performed → Type 0
IsEmptyStep w n j p = p.outcome ≡ Empty → (wait : Wait) × (is_terminal_wait wait ≡ true) × (p.world ≡ with_new_job w n (waiting (put_back j) wait))

abbrev pub with_lines : World → Job → JobLines → CallState
with_lines w j o = record (around w j) { job = o.job; lines = o.lines; ending = o.ending }

empty-put : (w : World) (n : ℕ) (j : Job) (o : Option (List ℕ)) → IsEmptyStep w n j (ended w n (with_lines w j (put_text o j w.lines)))
empty-put w n j None = λ e. cc
empty-put w n j (Some text) =
    by_test (λ (o : JobLines). IsEmptyStep w n j (ended w n (with_lines w j o))) (nat_le (length text) (room_of w.lines j.line)) _ _
    (λ _ e. cc) (λ _ e. (Room (length text), refl, refl))

abbrev pub with_input_of : World → ℕ → Job → JobInput → CallState
with_input_of w n j o = record (around w j) { job = o.job; cores = with_core w.cores n o.core; lines = o.lines; ending = o.ending }

is_terminal : (unit : Awaited) → is_terminal_wait (input_wait unit) ≡ true
is_terminal awaited.Character = refl
is_terminal awaited.Line = refl

same-cores : (w : World) (n : ℕ) (k : Job) → record (with_new_job w n k) { cores = with_core w.cores n (core_of w.cores n) } ≡ with_new_job w n k
same-cores w n k = ap (λ (s : Cores). record (with_new_job w n k) { cores = s }) (core-same w.cores n)

empty-none : (w : World) (n : ℕ) (j : Job) (unit : Awaited) (skips : Bool)
    → IsEmptyStep w n j (ended w n (with_input_of w n j (no_input unit skips (core_of w.cores n) j w.lines)))
empty-none w n j unit true = λ e. cc
empty-none w n j unit false = λ e. (input_wait unit, is_terminal unit, same-cores w n (waiting (put_back j) (input_wait unit)))

empty-called : (w : World) (n : ℕ) (j : Job) (unit : Awaited) (skips : Bool) (e : ℕ)
    → IsEmptyStep w n j (ended w n (with_input_of w n j (input_called unit skips e (core_of w.cores n) j w.lines)))
empty-called w n j unit skips e =
    by_test (λ (o : JobInput). IsEmptyStep w n j (ended w n (with_input_of w n j o))) (is_legal (core_of w.cores n) e) _ _
    (λ _. by_test (λ (o : JobInput). IsEmptyStep w n j (ended w n (with_input_of w n j o)))
    (has_input unit (input_of w.lines j.line)) (stored_input skips e (core_of w.cores n) j w.lines)
    (no_input unit skips (core_of w.cores n) j w.lines)
    (λ _ d. cc) (λ _. empty-none w n j unit skips))
    (λ _ d. cc)

empty-row : (s : Service) (w : World) (time n ac e : ℕ) (j : Job) → IsEmptyStep w n j (ended w n (row_of s time n ac e (around w j)))
empty-row Reset w time n ac e j = λ d. cc
empty-row Core w time n ac e j = λ d. cc
empty-row Exit w time n ac e j = λ d. cc
empty-row Monrt w time n ac e j = λ d. cc
empty-row Logout w time n ac e j = λ d. cc
empty-row Mstime w time n ac e j = λ d. cc
empty-row Pjob w time n ac e j = λ d. cc
empty-row Sleep w time n ac e j = λ d. cc
empty-row Piini w time n ac e j = λ d. cc
empty-row Pisys w time n ac e j = λ d. cc
empty-row Debrk w time n ac e j = λ d. cc
empty-row Enq w time n ac e j = λ d. cc
empty-row Deq w time n ac e j = λ d. cc
empty-row Enqc w time n ac e j = λ d. cc
empty-row Datrd w time n ac e j = λ d. cc
empty-row Datwr w time n ac e j = λ d. cc
empty-row (Input unit skips) w time n ac e j = empty-called w n j unit skips e
empty-row Outchr w time n ac e j = empty-put w n j (low_character (word_below j.regs.ac (core_of w.cores n) e))
empty-row Outstr w time n ac e j = empty-put w n j (text_from j.regs.ac (core_of w.cores n) e [] OUTPUT_RING)
empty-row Clrbfi w time n ac e j = λ d. cc
empty-row Clrbfo w time n ac e j = λ d. cc
empty-row (Skpin unit) w time n ac e j = λ d. cc
empty-row Unlisted w time n ac e j = λ d. cc

pub empty-steps : EmptyStepsWait
empty-steps w time n c j there = subst (IsEmptyStep w n j) (sym (performs w time n c j there)) (empty-row (service_in c) w time n c.ac c.e j)

-- what a text does to the lines
abbrev pub GoesWhole : World → Job → Option (List ℕ) → Performed → Type 0
GoesWhole w j o p =
    (p.world.lines ≡ w.lines)
    ⊎ ((text : List ℕ) × (o ≡ Some text) × (length text ≤ room_of w.lines j.line)
    × (p.world.lines ≡ with_output w.lines j.line (output_of w.lines j.line ++ text)))

whole-put : (w : World) (n : ℕ) (j : Job) (o : Option (List ℕ)) → GoesWhole w j o (ended w n (with_lines w j (put_text o j w.lines)))
whole-put w n j None = inl refl
whole-put w n j (Some text) =
    by_test (λ (o : JobLines). GoesWhole w j (Some text) (ended w n (with_lines w j o))) (nat_le (length text) (room_of w.lines j.line)) _ _
    (λ fits. inr (text, refl, grind (arith, nat_tests), refl)) (λ _. inl refl)

pub texts-whole : TextsGoWhole
texts-whole w time n c j there is =
    let o = text_from j.regs.ac (core_of w.cores n) c.e [] OUTPUT_RING in
    let at = performs w time n c j there ∙ ap (λ s. ended w n (row_of s time n c.ac c.e (around w j))) is in
    subst (GoesWhole w j o) (sym at) (whole-put w n j o)
