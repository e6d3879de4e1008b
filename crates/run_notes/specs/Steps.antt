-- Steps in words: the instruction, what it changed, and the address at which the job goes on (this project's profile).
use Rattle.std.specs.Prelude.{ℕ, ◌≡◌, ◌+◌, ◌-◌, ◌%◌, ◌^◌, ◌==◌, ◌&&◌, ◌||◌, ◌++◌, Bool, true, false, not, max, nat_le, nat_lt, if◌then◌else◌}
use Rattle.std.specs.Prelude.{List, [], length, codes, count_by, decimal, Option, Some, None, slice_index_or}
use Rattle.std.specs.Bool.{beq}
use Rattle.std.specs.Fmt.{digits, format_spec, styled_text}
use Rattle.std.specs.List.{flat_map, range_with_len}
use Rattle.job_sched.specs.declared.job.Stop.{Stop}
use Rattle.job_sched.specs.declared.job.Stop.TheVariants.{Loaded, Exit, Monitor, Typed, Fault}
use Rattle.job_sched.specs.declared.job.Wait.{Wait}
use Rattle.job_sched.specs.declared.job.Wait.TheVariants.{None as Nothing}
use Rattle.ka_isa.specs.Families.{family_of}
use Rattle.ka_isa.specs.Fields.{fields_of}
use Rattle.ka_isa.specs.declared.Family.{Family}
use Rattle.ka_isa.specs.declared.Family.TheVariants as family
use Rattle.ka_state.specs.declared.outcome.StopReason.{StopReason}
use Rattle.ka_state.specs.declared.outcome.StopReason.TheVariants.{Pushdown}
use Rattle.ka_state.specs.declared.registers.Flags.{Flags}
use Rattle.lock_queue.specs.declared.request.Request.{Request}
use Rattle.machine.specs.Next.{effective_in}
use Rattle.machine.specs.Views.{job_view, word_in}
use Rattle.machine.specs.declared.view.JobView.{JobView}
use Rattle.run_notes.specs.Flags.{flag_words}
use Rattle.run_notes.specs.Instructions.{instruction_words, reference_words}
use Rattle.run_notes.specs.Standings.{stop_words}
use Rattle.run_notes.specs.declared.snapshot.Snapshot.{Snapshot}
use Rattle.source_labels.specs.Spots.{spot_words}
use Rattle.source_labels.specs.declared.places.Places.{Places}
use Rattle.uuo_calls.specs.Performed.{World}
use Rattle.word36.specs.Octal.{word_text}
use Rattle.word36.specs.Words.{right_half}

-- ---- the turn before

-- the requests for locks of a job, and those of them that it was notified of
abbrev pub is_own : ℕ → Request → Bool
is_own job r = r.job == job

abbrev pub is_told : ℕ → Request → Bool
is_told job r = r.job == job && r.notified

-- whether a job's turn was an interrupt, which notifies it of a grant and executes nothing: it has as many requests as before,
-- and was notified of more of them
abbrev pub is_interrupted : List Request → ℕ → Snapshot → Bool
is_interrupted requests job before =
    count_by (is_own job) requests == before.requests.all && nat_lt before.requests.notified (count_by (is_told job) requests)

-- ---- what a step changed

-- the word that an address has now
abbrev pub word_words : Places → ℕ → ℕ → List ℕ
word_words places address w = codes "  " ++ (reference_words places address ++ (codes "/ " ++ word_text w))

abbrev pub there_words : Places → ℕ → Option ℕ → List ℕ
there_words places address (Some w) = word_words places address w
there_words places address None = []

-- a register, if it has another word now
abbrev pub new_register : ℕ → ℕ → Option ℕ → List ℕ
new_register register old (Some w) =
    if w == old then [] else codes "  " ++ (digits 8 false register ++ (codes "/ " ++ word_text w))
new_register register old None = []

abbrev pub register_words : World → ℕ → Snapshot → ℕ → List ℕ
register_words w job before register =
    new_register register (slice_index_or before.registers register 0) (word_in w job register)

abbrev pub registers_words : World → ℕ → Snapshot → List ℕ
registers_words w job before =
    flat_map (register_words w job before) (range_with_len 0 16)

abbrev pub is_word : ℕ → Option ℕ → Bool
is_word w (Some old) = old == w
is_word w None = false

abbrev pub new_word : Places → ℕ → Option ℕ → Option ℕ → List ℕ
new_word places address old (Some w) = if is_word w old then [] else word_words places address w
new_word places address old None = []

-- the word at the effective address, if it is no register and another one now
abbrev pub operand_at : World → Places → ℕ → Option ℕ → Option ℕ → List ℕ
operand_at w places job old (Some address) = if nat_lt address 16 then [] else new_word places address old (word_in w job address)
operand_at w places job old None = []

abbrev pub operand_words : World → Places → ℕ → Snapshot → List ℕ
operand_words w places job before = operand_at w places job before.operand before.address

abbrev pub right_of : Option ℕ → Option ℕ
right_of (Some list) = Some (right_half list)
right_of None = None

abbrev pub led_to : World → ℕ → Option ℕ → Option ℕ
led_to w job (Some pointer) = effective_in w job pointer
led_to w job None = None

abbrev pub pointed_at : World → ℕ → Option ℕ → Option ℕ
pointed_at w job (Some address) = led_to w job (word_in w job address)
pointed_at w job None = None

-- the address, beside the effective one, at which an operation stored a word: the top of the list of PUSH and PUSHJ, the word with
-- the byte of IDPB and DPB
abbrev pub beside_by : World → ℕ → Snapshot → Family → Option ℕ
beside_by w job before family.Push = right_of (word_in w job (fields_of before.executed).ac)
beside_by w job before family.Pushj = right_of (word_in w job (fields_of before.executed).ac)
beside_by w job before family.Byte =
    if nat_le 0o136 (fields_of before.executed).op then pointed_at w job before.address else None
beside_by w job before _ = None

abbrev pub beside_at : World → Places → ℕ → Option ℕ → List ℕ
beside_at w places job (Some address) = if nat_lt address 16 then [] else there_words places address (word_in w job address)
beside_at w places job None = []

abbrev pub beside_words : World → Places → ℕ → Snapshot → List ℕ
beside_words w places job before =
    beside_at w places job (beside_by w job before (family_of (fields_of before.executed).op))

-- the first and the last address at which BLT stored words, if they are no registers
abbrev pub block_from : ℕ → Option ℕ → Option (ℕ × ℕ)
block_from first (Some last) = if nat_le 16 (max last first) then Some (max first 16, max last first) else None
block_from first None = None

abbrev pub block_by : Snapshot → Family → Option (ℕ × ℕ)
block_by before family.Blt =
    block_from (right_half (slice_index_or before.registers (fields_of before.executed).ac 0)) before.address
block_by before _ = None

abbrev pub block_of : Snapshot → Option (ℕ × ℕ)
block_of before = block_by before (family_of (fields_of before.executed).op)

-- its first word, and the address up to which it reaches
abbrev pub block_words : World → Places → ℕ → ℕ → ℕ → List ℕ
block_words w places job first last =
    there_words places first (word_in w job first) ++ (if first == last then [] else codes " .. " ++ reference_words places last)

abbrev pub stored_words : World → Places → ℕ → Snapshot → Option (ℕ × ℕ) → List ℕ
stored_words w places job before (Some block) = block_words w places job block.0 block.1
stored_words w places job before None = operand_words w places job before ++ beside_words w places job before

abbrev pub same_flags : Flags → Flags → Bool
same_flags a b = beq a.overflow b.overflow && (beq a.carry0 b.carry0 && (beq a.carry1 b.carry1 && beq a.no_divide b.no_divide))

abbrev pub had_flags : Option Flags → Flags → Bool
had_flags (Some old) flags = same_flags old flags
had_flags None flags = false

abbrev pub new_flags : Option Flags → Option JobView → List ℕ
new_flags old (Some view) = if had_flags old view.flags then [] else codes "  flags " ++ flag_words view.flags
new_flags old None = []

-- registers, the words that are stored, and flags
abbrev pub changes_words : World → Places → ℕ → Snapshot → List ℕ
changes_words w places job before =
    registers_words w job before
    ++ (stored_words w places job before (block_of before) ++ new_flags before.flags (job_view w job))

-- ---- the way that the job goes

-- whether an instruction may skip, and is no jump; DEBRK. goes back to the address at which its job was interrupted
abbrev pub skips_by : Family → Option ℕ → Bool
skips_by family.Compare address = true
skips_by (family.SkipOn change) address = true
skips_by family.Test address = true
skips_by family.Ttcall address = true
skips_by family.Calli address = not (is_word 0o137 address)
skips_by _ address = false

abbrev pub may_skip : Snapshot → Bool
may_skip before = skips_by (family_of (fields_of before.executed).op) before.address

abbrev pub waits : Wait → Bool
waits Nothing = false
waits _ = true

abbrev pub waits_words : Wait → List ℕ
waits_words wait = if waits wait then codes "  waits" else []

abbrev pub way_by : Places → Snapshot → JobView → Option Stop → List ℕ
way_by places before after (Some stop) = codes "  " ++ stop_words stop
way_by places before after None =
    if (after.pc == before.place && waits after.wait) || after.pc == (before.place + 1) % 2 ^ 18 then waits_words after.wait
    else if after.pc == (before.place + 2) % 2 ^ 18 && may_skip before then codes "  skips" ++ waits_words after.wait
    else codes "  to " ++ (spot_words places after.pc ++ waits_words after.wait)

-- that it stops or waits, and to which address it goes, unless that is the next one
abbrev pub way_words : Places → Snapshot → JobView → List ℕ
way_words places before after = way_by places before after after.stop

-- ---- the line

-- the tick, the job and an address of it
abbrev pub head_words : ℕ → ℕ → Places → ℕ → List ℕ
head_words tick job places place =
    codes "tick " ++ (decimal tick ++ (codes ", job " ++ (decimal job ++ (codes ", " ++ (spot_words places place ++ codes ": ")))))

-- a text filled up to the column in which the changes begin
abbrev pub filled : List ℕ → List ℕ
filled text = text ++ styled_text (format_spec 32 0 0 (44 - length text) (2 ^ 64 - 1)) []

abbrev pub effective_words : Option ℕ → List ℕ
effective_words (Some address) = codes "  E " ++ digits 8 false address
effective_words None = []

-- a stop by the processor leaves the instruction undone, but for that of a pushdown list that ran over
abbrev pub is_done_by : StopReason → Bool
is_done_by Pushdown = true
is_done_by _ = false

abbrev pub is_carried_out : Option Stop → Bool
is_carried_out (Some (Fault reason)) = is_done_by reason
is_carried_out _ = true

-- the instruction after a text, what it changed if it was carried out, and the way that the job goes
abbrev pub executed_words : World → Places → ℕ → Snapshot → JobView → List ℕ → List ℕ
executed_words w places job before after text =
    filled (text ++ instruction_words places before.instruction)
    ++ (effective_words before.address ++ ((if is_carried_out after.stop then changes_words w places job before else [])
    ++ way_words places before after))

-- an interrupt, after which the job goes on at an address
abbrev pub interrupt_words : Places → ℕ → List ℕ
interrupt_words places next = codes "interrupt  to " ++ spot_words places next

abbrev pub turn_by : World → Places → ℕ → Snapshot → List ℕ → Option JobView → List ℕ
turn_by w places job before text None = text ++ codes "LOGOUT"
turn_by w places job before text (Some after) =
    if is_interrupted w.requests job before then text ++ interrupt_words places after.pc
    else executed_words w places job before after text

-- the line on a job's turn in a tick, on the machine as the turn left it
abbrev pub step_words : World → ℕ → Places → ℕ → Snapshot → List ℕ
step_words w tick places job before =
    turn_by w places job before (head_words tick job places before.place) (job_view w job) ++ codes "\n"

-- the line on a job whose wait for locks ended with its time limit
abbrev pub limit_line : ℕ → ℕ → Places → ℕ → JobView → List ℕ
limit_line tick job places last after =
    head_words tick job places last ++ (codes "time limit ended  to " ++ (spot_words places after.pc ++ codes "\n"))
