-- What a call leaves of what is not its own.
use Rattle.std.proofs.Common.{◌≡◌, ◌≢◌, ◌∙◌, sym, ap, subst, ℕ, ◌+◌, ◌==◌, Bool, true, false, List, [], length}
use Rattle.std.proofs.Common.{Option, Some, None, slice_index_or, slice_set, refl, nat_le}
use Rattle.std.proofs.lemmas.List.{get_or-set_other}
use Rattle.ka_state.specs.Memory.{is_legal, word_below}
use Rattle.core_store.specs.Cores.{Cores, blocks_of, core_of, resized, with_core}
use Rattle.tty_lines.specs.Rings.{Rings, input_of, no_characters, room_of}
use Rattle.word36.specs.declared.sizes.TheConstants.{OUTPUT_RING}
use Rattle.word36.specs.Words.{left_half}
use Rattle.lock_queue.specs.declared.request.Request.{Request}
use Rattle.job_sched.specs.declared.job.Job.{Job}
use Rattle.uuo_calls.specs.declared.call.CallOutcome.{CallOutcome}
use Rattle.uuo_calls.specs.declared.call.CallOutcome.TheVariants.{Done, Empty, Gone}
use Rattle.uuo_calls.specs.declared.service.Awaited.{Awaited}
use Rattle.uuo_calls.specs.declared.service.Service.{Service}
use Rattle.uuo_calls.specs.declared.service.Service.TheVariants.{Reset, Core, Exit, Monrt, Logout, Mstime, Pjob, Sleep, Piini, Pisys, Debrk, Enq, Deq, Enqc}
use Rattle.uuo_calls.specs.declared.service.Service.TheVariants.{Datrd, Datwr, Input, Outchr, Outstr, Clrbfi, Clrbfo, Skpin, Unlisted}
use Rattle.uuo_calls.specs.CallState.{CallState, ac_of}
use Rattle.uuo_calls.specs.CoreRow.{JobCores, blocks_asked, core_done, grown, with_highest}
use Rattle.uuo_calls.specs.Laws.{IsSpared, OthersAreSpared, service_in}
use Rattle.uuo_calls.specs.Performed.{Performed, World, around, left_by, row_of, with_around}
use Rattle.uuo_calls.specs.StatusRow.{enqc}
use Rattle.uuo_calls.specs.TerminalRows.{JobInput, JobLines, has_input, input_called, low_character, no_input, put_text, stored_input, text_from}
use Rattle.uuo_calls.proofs.Rows.{performs}
use Rattle.uuo_calls.proofs.Tests.{by_test}

core-other : (s : Cores) (n k : ℕ) (words : List ℕ) → k ≢ n → core_of (with_core s n words) k ≡ core_of s k
core-other s n k words ne = get_or-set_other s.cores n k words [] ne

core-grown : (s new : Cores) (n k : ℕ) (asks : Option ℕ) → k ≢ n → grown s n asks ≡ Some new → core_of new k ≡ core_of s k
core-grown s new n k None ne = λ e. cc
core-grown s new n k (Some blocks) ne =
    by_test (λ o. o ≡ Some new → core_of new k ≡ core_of s k) (nat_le blocks (s.free + blocks_of s n)) (Some (with_highest (resized s n blocks) n blocks)) None
    (λ _ e.
    let is : with_highest (resized s n blocks) n blocks ≡ new = cc in
    subst (λ c. core_of c k ≡ core_of s k) is (core-other (resized s n blocks) n k _ ne ∙ get_or-set_other s.cores n k _ [] ne))
    (λ _ e. cc)

core-done : (ac k : ℕ) (o : Option Cores) (j : Job) (s : Cores) → ((new : Cores) → o ≡ Some new → core_of new k ≡ core_of s k)
    → core_of (core_done ac o j s).cores k ≡ core_of s k
core-done ac k None j s h = refl
core-done ac k (Some new) j s h = h new refl

core-enqc : (jobs : List (Option Job)) (requests : List Request) (n ac k : ℕ) (j : Job) (s : Cores) → k ≢ n
    → core_of (enqc jobs requests n ac j s).cores k ≡ core_of s k
core-enqc jobs requests n ac k j s ne =
    let P : JobCores → Type 0 = λ o. core_of o.cores k ≡ core_of s k in
    by_test P (left_half (ac_of j ac) == 1) _ _ (λ _. refl)
    (λ _. by_test P (left_half (ac_of j ac) == 2) _ _ (λ _. refl) (λ _. core-other s n k _ ne))

core-row : (s : Service) (time n ac e k : ℕ) (a : CallState) → k ≢ n → core_of (row_of s time n ac e a).cores k ≡ core_of a.cores k
core-row Reset time n ac e k a ne = refl
core-row Core time n ac e k a ne =
    core-done ac k (grown a.cores n (blocks_asked (ac_of a.job ac))) a.job a.cores
    (λ new is. core-grown a.cores new n k (blocks_asked (ac_of a.job ac)) ne is)
core-row Exit time n ac e k a ne = refl
core-row Monrt time n ac e k a ne = refl
core-row Logout time n ac e k a ne = refl
core-row Mstime time n ac e k a ne = refl
core-row Pjob time n ac e k a ne = refl
core-row Sleep time n ac e k a ne = refl
core-row Piini time n ac e k a ne = refl
core-row Pisys time n ac e k a ne = refl
core-row Debrk time n ac e k a ne = refl
core-row Enq time n ac e k a ne = refl
core-row Deq time n ac e k a ne = refl
core-row Enqc time n ac e k a ne = core-enqc a.jobs a.requests n ac k a.job a.cores ne
core-row Datrd time n ac e k a ne = refl
core-row Datwr time n ac e k a ne = refl
core-row (Input unit skips) time n ac e k a ne = core-other a.cores n k _ ne
core-row Outchr time n ac e k a ne = refl
core-row Outstr time n ac e k a ne = refl
core-row Clrbfi time n ac e k a ne = refl
core-row Clrbfo time n ac e k a ne = refl
core-row (Skpin unit) time n ac e k a ne = refl
core-row Unlisted time n ac e k a ne = refl

-- lines where all but one are the same
abbrev pub SameBeside : ℕ → List Rings → List Rings → Type 0
SameBeside line lines new = (l : ℕ) → l ≢ line → slice_index_or new l no_characters ≡ slice_index_or lines l no_characters

beside-set : (line : ℕ) (lines : List Rings) (r : Rings) → SameBeside line lines (slice_set lines line r)
beside-set line lines r = λ l ne. get_or-set_other lines line l r no_characters ne

beside-put : (o : Option (List ℕ)) (j : Job) (lines : List Rings) → SameBeside j.line lines (put_text o j lines).lines
beside-put None j lines = λ l ne. refl
beside-put (Some text) j lines =
    by_test (λ (p : JobLines). SameBeside j.line lines p.lines) (nat_le (length text) (room_of lines j.line)) _ _
    (λ _. beside-set j.line lines _) (λ _ l ne. refl)

beside-none : (unit : Awaited) (skips : Bool) (core : List ℕ) (j : Job) (lines : List Rings) → SameBeside j.line lines (no_input unit skips core j lines).lines
beside-none unit true core j lines = λ l ne. refl
beside-none unit false core j lines = λ l ne. refl

beside-called : (unit : Awaited) (skips : Bool) (e : ℕ) (core : List ℕ) (j : Job) (lines : List Rings)
    → SameBeside j.line lines (input_called unit skips e core j lines).lines
beside-called unit skips e core j lines =
    by_test (λ (o : JobInput). SameBeside j.line lines o.lines) (is_legal core e) _ _
    (λ _. by_test (λ (o : JobInput). SameBeside j.line lines o.lines) (has_input unit (input_of lines j.line))
    (stored_input skips e core j lines) (no_input unit skips core j lines)
    (λ _. beside-set j.line lines _) (λ _. beside-none unit skips core j lines))
    (λ _ l ne. refl)

beside-row : (s : Service) (time n ac e : ℕ) (a : CallState) → SameBeside a.job.line a.lines (row_of s time n ac e a).lines
beside-row Reset time n ac e a = λ l ne. refl
beside-row Core time n ac e a = λ l ne. refl
beside-row Exit time n ac e a = λ l ne. refl
beside-row Monrt time n ac e a = λ l ne. refl
beside-row Logout time n ac e a = λ l ne. refl
beside-row Mstime time n ac e a = λ l ne. refl
beside-row Pjob time n ac e a = λ l ne. refl
beside-row Sleep time n ac e a = λ l ne. refl
beside-row Piini time n ac e a = λ l ne. refl
beside-row Pisys time n ac e a = λ l ne. refl
beside-row Debrk time n ac e a = λ l ne. refl
beside-row Enq time n ac e a = λ l ne. refl
beside-row Deq time n ac e a = λ l ne. refl
beside-row Enqc time n ac e a = λ l ne. refl
beside-row Datrd time n ac e a = λ l ne. refl
beside-row Datwr time n ac e a = λ l ne. refl
beside-row (Input unit skips) time n ac e a = beside-called unit skips e (core_of a.cores n) a.job a.lines
beside-row Outchr time n ac e a = beside-put (low_character (word_below a.job.regs.ac (core_of a.cores n) e)) a.job a.lines
beside-row Outstr time n ac e a = beside-put (text_from a.job.regs.ac (core_of a.cores n) e [] OUTPUT_RING) a.job a.lines
beside-row Clrbfi time n ac e a = beside-set a.job.line a.lines _
beside-row Clrbfo time n ac e a = beside-set a.job.line a.lines _
beside-row (Skpin unit) time n ac e a = λ l ne. refl
beside-row Unlisted time n ac e a = λ l ne. refl

shared-row : (s : Service) (time n ac e : ℕ) (a : CallState) → s ≢ Datwr → (row_of s time n ac e a).shared ≡ a.shared
shared-row Reset time n ac e a ne = refl
shared-row Core time n ac e a ne = refl
shared-row Exit time n ac e a ne = refl
shared-row Monrt time n ac e a ne = refl
shared-row Logout time n ac e a ne = refl
shared-row Mstime time n ac e a ne = refl
shared-row Pjob time n ac e a ne = refl
shared-row Sleep time n ac e a ne = refl
shared-row Piini time n ac e a ne = refl
shared-row Pisys time n ac e a ne = refl
shared-row Debrk time n ac e a ne = refl
shared-row Enq time n ac e a ne = refl
shared-row Deq time n ac e a ne = refl
shared-row Enqc time n ac e a ne = refl
shared-row Datrd time n ac e a ne = refl
shared-row Datwr time n ac e a ne = absurd (ne refl)
shared-row (Input unit skips) time n ac e a ne = refl
shared-row Outchr time n ac e a ne = refl
shared-row Outstr time n ac e a ne = refl
shared-row Clrbfi time n ac e a ne = refl
shared-row Clrbfo time n ac e a ne = refl
shared-row (Skpin unit) time n ac e a ne = refl
shared-row Unlisted time n ac e a ne = refl

stays-put : (o : Option (List ℕ)) (j : Job) (lines : List Rings) → (put_text o j lines).ending ≢ Gone
stays-put None j lines = λ e. cc
stays-put (Some text) j lines = by_test (λ (p : JobLines). p.ending ≢ Gone) (nat_le (length text) (room_of lines j.line)) _ _ (λ _ e. cc) (λ _ e. cc)

stays-none : (unit : Awaited) (skips : Bool) (core : List ℕ) (j : Job) (lines : List Rings) → (no_input unit skips core j lines).ending ≢ Gone
stays-none unit true core j lines = λ e. cc
stays-none unit false core j lines = λ e. cc

stays-called : (unit : Awaited) (skips : Bool) (e : ℕ) (core : List ℕ) (j : Job) (lines : List Rings) → (input_called unit skips e core j lines).ending ≢ Gone
stays-called unit skips e core j lines =
    by_test (λ (o : JobInput). o.ending ≢ Gone) (is_legal core e) _ _
    (λ _. by_test (λ (o : JobInput). o.ending ≢ Gone) (has_input unit (input_of lines j.line))
    (stored_input skips e core j lines) (no_input unit skips core j lines)
    (λ _ e. cc) (λ _. stays-none unit skips core j lines))
    (λ _ e. cc)

stays-row : (s : Service) (time n ac e : ℕ) (w : World) (j : Job) → s ≢ Logout → (row_of s time n ac e (around w j)).ending ≢ Gone
stays-row Reset time n ac e w j ne = λ d. cc
stays-row Core time n ac e w j ne = λ d. cc
stays-row Exit time n ac e w j ne = λ d. cc
stays-row Monrt time n ac e w j ne = λ d. cc
stays-row Logout time n ac e w j ne = absurd (ne refl)
stays-row Mstime time n ac e w j ne = λ d. cc
stays-row Pjob time n ac e w j ne = λ d. cc
stays-row Sleep time n ac e w j ne = λ d. cc
stays-row Piini time n ac e w j ne = λ d. cc
stays-row Pisys time n ac e w j ne = λ d. cc
stays-row Debrk time n ac e w j ne = λ d. cc
stays-row Enq time n ac e w j ne = λ d. cc
stays-row Deq time n ac e w j ne = λ d. cc
stays-row Enqc time n ac e w j ne = λ d. cc
stays-row Datrd time n ac e w j ne = λ d. cc
stays-row Datwr time n ac e w j ne = λ d. cc
stays-row (Input unit skips) time n ac e w j ne = stays-called unit skips e (core_of w.cores n) j w.lines
stays-row Outchr time n ac e w j ne = stays-put (low_character (word_below j.regs.ac (core_of w.cores n) e)) j w.lines
stays-row Outstr time n ac e w j ne = stays-put (text_from j.regs.ac (core_of w.cores n) e [] OUTPUT_RING) j w.lines
stays-row Clrbfi time n ac e w j ne = λ d. cc
stays-row Clrbfo time n ac e w j ne = λ d. cc
stays-row (Skpin unit) time n ac e w j ne = λ d. cc
stays-row Unlisted time n ac e w j ne = λ d. cc

-- what LOGOUT takes away is the job's own
spared-left : (o : CallOutcome) (w v : World) (n line : ℕ) → IsSpared w v n line → IsSpared w (left_by o v n) n line
spared-left Done w v n line h = h
spared-left Empty w v n line h = h
spared-left Gone w v n line h = record {
  jobs = λ k ne. get_or-set_other v.table.jobs n k None None ne ∙ h.jobs k ne;
  cores = λ k ne. get_or-set_other v.cores.cores n k [] [] ne ∙ h.cores k ne;
  input = h.input;
  output = h.output;
  current = h.current;
}

quantum-left : (o : CallOutcome) (v : World) (n : ℕ) → o ≢ Gone → (left_by o v n).table.left ≡ v.table.left
quantum-left Done v n ne = refl
quantum-left Empty v n ne = refl
quantum-left Gone v n ne = absurd (ne refl)

shared-left : (o : CallOutcome) (v : World) (n : ℕ) → (left_by o v n).shared ≡ v.shared
shared-left Done v n = refl
shared-left Empty v n = refl
shared-left Gone v n = refl

spared-around : (s : Service) (w : World) (time n ac e : ℕ) (j : Job) → IsSpared w (with_around w n (row_of s time n ac e (around w j))) n j.line
spared-around s w time n ac e j = record {
  jobs = λ k ne. get_or-set_other w.table.jobs n k _ None ne;
  cores = λ k ne. core-row s time n ac e k (around w j) ne;
  input = λ l ne. ap (λ (r : Rings). r.input) (beside-row s time n ac e (around w j) l ne);
  output = λ l ne. ap (λ (r : Rings). r.output) (beside-row s time n ac e (around w j) l ne);
  current = refl;
}

pub others-spared : OthersAreSpared
others-spared w time n c j there =
    let s = service_in c in
    let a = row_of s time n c.ac c.e (around w j) in
    let v = with_around w n a in
    let P : Performed → Type 0 =
    λ p. IsSpared w p.world n j.line × (s ≢ Logout → p.world.table.left ≡ w.table.left)
    × (s ≢ Datwr → p.world.shared ≡ w.shared) in
    subst P (sym (performs w time n c j there)) (
      spared-left a.ending w v n j.line (spared-around s w time n c.ac c.e j),
      λ ne. quantum-left a.ending v n (stays-row s time n c.ac c.e w j ne),
      λ ne. shared-left a.ending v n ∙ shared-row s time n c.ac c.e (around w j) ne,
    )
