-- DATRD. reads what DATWR. wrote.
use Rattle.std.proofs.Common.{◌≡◌, ◌<◌, ◌∙◌, sym, ap, subst, ℕ, ◌+◌, ◌%◌, Bool, cond, length, Some, nat_lt, slice_index, slice_set}
use Rattle.std.proofs.lemmas.Bool.{lt-ltb}
use Rattle.std.proofs.lemmas.List.{get_or-set_same}
use Rattle.word36.specs.declared.sizes.TheConstants.{DATA_WORDS}
use Rattle.word36.specs.Words.{right_half}
use Rattle.job_sched.specs.Tables.{job_at}
use Rattle.job_sched.specs.declared.job.Job.{Job}
use Rattle.uuo_calls.specs.CallState.{ac_of, refusing, skipping, with_ac}
use Rattle.uuo_calls.specs.DataRows.{JobData}
use Rattle.uuo_calls.specs.Laws.{Answers, service_in}
use Rattle.uuo_calls.specs.Performed.{Performed, World, around, ended, performed, row_of}
use Rattle.uuo_calls.specs.declared.call.MonitorCall.{MonitorCall}
use Rattle.uuo_calls.specs.declared.service.Service.TheVariants.{Datrd, Datwr}
use Rattle.uuo_calls.proofs.Rows.{performs}
use Rattle.call_laws.specs.DataWords.{WhatIsWrittenIsRead}

-- what DATWR. leaves of the shared words
shared-written : (w : World) (time n : ℕ) (c : MonitorCall) (j : Job) → job_at w.table.jobs n ≡ Some j → service_in c ≡ Datwr
    → right_half (ac_of j c.ac) < DATA_WORDS
    → (performed w time n c).world.shared ≡ slice_set w.shared (right_half (ac_of j c.ac)) (ac_of j ((c.ac + 1) % 16))
shared-written w time n c j there is low =
    let place : ℕ = right_half (ac_of j c.ac) in
    let row : performed w time n c ≡ ended w n (row_of Datwr time n c.ac c.e (around w j)) =
    performs w time n c j there ∙ ap (λ s. ended w n (row_of s time n c.ac c.e (around w j))) is in
    ap (λ (p : Performed). p.world.shared) row
    ∙ ap
    (λ (b : Bool).
    (cond {A = JobData} b (record { job = skipping j; shared = slice_set w.shared place (ac_of j ((c.ac + 1) % 16)) })
    (record { job = refusing j c.ac 1; shared = w.shared })).shared)
    (lt-ltb place DATA_WORDS low)

-- what DATRD. answers
answers-read : (w : World) (time n : ℕ) (c : MonitorCall) (j : Job) (word : ℕ) → job_at w.table.jobs n ≡ Some j → n < length w.table.jobs
    → service_in c ≡ Datrd → c.ac < length j.regs.ac → right_half (ac_of j c.ac) < DATA_WORDS
    → slice_index w.shared (right_half (ac_of j c.ac)) ≡ word → Answers w time n c word
answers-read w time n c j word there here is within low read =
    let place : ℕ = right_half (ac_of j c.ac) in
    let row : performed w time n c ≡ ended w n (row_of Datrd time n c.ac c.e (around w j)) =
    performs w time n c j there ∙ ap (λ s. ended w n (row_of s time n c.ac c.e (around w j))) is in
    let job : Job = skipping (with_ac j c.ac (slice_index w.shared place)) in
    let left : (cond (nat_lt place DATA_WORDS) job (refusing j c.ac 1)) ≡ job =
    ap (λ (b : Bool). cond b job (refusing j c.ac 1)) (lt-ltb place DATA_WORDS low) in (
      job,
      ap (λ (p : Performed). job_at p.world.table.jobs n) row
          ∙ ap (λ (k : Job). job_at (slice_set w.table.jobs n (Some k)) n) left
          ∙ get_or-set_same w.table.jobs n (Some job) _ here,
      get_or-set_same j.regs.ac c.ac (slice_index w.shared place) 0 within ∙ read,
    )

pub what_is_written_is_read : WhatIsWrittenIsRead
what_is_written_is_read w later time at n m write read j k there is_write size low same there_later here is_read within place =
    let to : ℕ = right_half (ac_of j write.ac) in
    let word : ℕ = ac_of j ((write.ac + 1) % 16) in
    answers-read later at m read k word there_later here is_read within (subst (λ (i : ℕ). i < DATA_WORDS) (sym place) low)
    (ap (λ (i : ℕ). slice_index later.shared i) place
    ∙ ap (λ l. slice_index l to) (same ∙ shared-written w time n write j there is_write low)
    ∙ get_or-set_same w.shared to word 0 (subst (λ (i : ℕ). to < i) (sym size) low))
