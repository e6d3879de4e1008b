-- A slot of a job as numbers.
use Rattle.std.specs.Prelude.{ℕ, ◌+◌, ◌*◌, ◌%◌, ◌^◌, ◌==◌, ◌&&◌, Bool, true, false, if◌then◌else◌, nat_eq, List, [], ◌∷◌, ◌++◌, Option, Some, None}
use Rattle.std.specs.Cmp.Lexicographic.{pointwise}
use Rattle.job_sched.specs.Stops.{code_of}
use Rattle.job_sched.specs.declared.job.Job.{Job}
use Rattle.job_sched.specs.declared.job.Stop.{Stop}
use Rattle.job_sched.specs.declared.job.Wait.{Wait}
use Rattle.job_sched.specs.declared.job.Wait.TheVariants.{None as Nothing, Sleep, Char, Line, Room, Queue}

abbrev pub flag : Bool → ℕ
flag b = if b then 1 else 0

abbrev pub stop_number : Option Stop → ℕ
stop_number None = 9
stop_number (Some stop) = code_of stop

abbrev pub wait_numbers : Wait → List ℕ
wait_numbers Nothing = 0 ∷ 0 ∷ 0 ∷ []
wait_numbers (Sleep ticks) = 1 ∷ ticks ∷ 0 ∷ []
wait_numbers Char = 2 ∷ 0 ∷ 0 ∷ []
wait_numbers Line = 3 ∷ 0 ∷ 0 ∷ []
wait_numbers (Room places) = 4 ∷ places ∷ 0 ∷ []
wait_numbers (Queue limit ac) = 5 ∷ limit ∷ ac ∷ []

abbrev pub vector_number : Option ℕ → ℕ
vector_number None = 0
vector_number (Some vector) = vector + 1

-- the numbers of a job, but for its accumulators
abbrev pub job_numbers : Job → List ℕ
job_numbers j =
    j.line ∷ j.start ∷ j.regs.pc ∷ flag j.regs.flags.overflow ∷ flag j.regs.flags.carry0 ∷ flag j.regs.flags.carry1
    ∷ flag j.regs.flags.no_divide ∷ stop_number j.stop
    ∷ (wait_numbers j.wait
    ++ vector_number j.interrupts.vector ∷ flag j.interrupts.on ∷ flag j.interrupts.in_progress ∷ j.quota ∷ [])

abbrev pub same_job : Job → Job → Bool
same_job a b = pointwise nat_eq (job_numbers a) (job_numbers b) && pointwise nat_eq a.regs.ac b.regs.ac

abbrev pub same_slot : Option Job → Option Job → Bool
same_slot (Some a) (Some b) = same_job a b
same_slot None None = true
same_slot None (Some b) = false
same_slot (Some a) None = false

-- a number for some words, with one for those before them
abbrev pub digest : ℕ → List ℕ → ℕ
digest sum [] = sum
digest sum (w ∷ ws) = digest ((sum * 31 % 2 ^ 64 + w) % 2 ^ 64) ws

abbrev pub slot_digest : Option Job → ℕ
slot_digest (Some j) = digest 0 j.regs.ac
slot_digest None = 0

abbrev pub slot_pc : Option Job → ℕ
slot_pc (Some j) = j.regs.pc
slot_pc None = 0
