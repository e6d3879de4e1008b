-- What has happened to a machine since it was made, as entries (this project's profile).
use Rattle.std.specs.Prelude.{ℕ, zero, suc, ◌+◌, true, List, [], ◌∷◌, take}
use Rattle.word36.specs.declared.sizes.TheConstants.{TAKEN_AT_ONCE}
use Rattle.job_sched.specs.Tables.{job_at}
use Rattle.machine.specs.Deposits.{deposited, executed_by_hand, started_at}
use Rattle.machine.specs.Machine.{S, after, logged_in, started, continued, killed, typed, taken, ticked}
use Rattle.machine.specs.Rounds.{rounds}
use Rattle.machine.specs.declared.event.Answer.{Answer}
use Rattle.machine.specs.declared.event.Answer.TheVariants.{Done}
use Rattle.ddt_timeline.specs.declared.entries.Entry.{Entry}
use Rattle.ddt_timeline.specs.declared.entries.Entry.TheVariants.{Rounds, Login, Start, Continue, Kill, Typed, Take, Ticks}
use Rattle.ddt_timeline.specs.declared.entries.Entry.TheVariants.{Deposit, StartAt, Execute}

-- the state after so many ticks
abbrev pub ticked_so_often : ℕ → S → S
ticked_so_often zero s = s
ticked_so_often (suc n) s = (ticked (ticked_so_often n s)).state

-- the state after an entry: so many steps, each followed by a tick, one event, or a change that a debugger makes to a job
abbrev pub made : S → Entry → S
made s (Rounds n) = after (rounds n true) s
made s (Login line image) = (logged_in s line image.words.items image.start).state
made s (Start n) = (started s n).state
made s (Continue n) = (continued s n).state
made s (Kill n) = (killed s n (job_at s.world.table.jobs n)).state
made s (Typed line c) = (typed s line c).state
made s (Take line) = (taken s line TAKEN_AT_ONCE).state
made s (Ticks n) = ticked_so_often n s
made s (Deposit n a word) = deposited s n a word
made s (StartAt n a) = (started_at s n a).state
made s (Execute n word) = executed_by_hand s n word

-- the state after some entries
abbrev pub played : List Entry → S → S
played [] s = s
played (e ∷ es) s = played es (made s e)

-- the state after so many whole entries, and so many steps more
abbrev pub reached : List Entry → ℕ → ℕ → S → S
reached es whole part s = after (rounds part true) (played (take whole es) s)

-- how many steps an entry has
abbrev pub steps_of : Entry → ℕ
steps_of (Rounds n) = n
steps_of (Login line image) = 0
steps_of (Start n) = 0
steps_of (Continue n) = 0
steps_of (Kill n) = 0
steps_of (Typed line c) = 0
steps_of (Take line) = 0
steps_of (Ticks n) = 0
steps_of (Deposit n a word) = 0
steps_of (StartAt n a) = 0
steps_of (Execute n word) = 0

-- how many steps some entries have
abbrev pub steps_in : List Entry → ℕ
steps_in [] = 0
steps_in (e ∷ es) = steps_of e + steps_in es

-- how many ticks an entry has
abbrev pub ticks_of : Entry → ℕ
ticks_of (Rounds n) = n
ticks_of (Login line image) = 0
ticks_of (Start n) = 0
ticks_of (Continue n) = 0
ticks_of (Kill n) = 0
ticks_of (Typed line c) = 0
ticks_of (Take line) = 0
ticks_of (Ticks n) = n
ticks_of (Deposit n a word) = 0
ticks_of (StartAt n a) = 0
ticks_of (Execute n word) = 0

-- how many ticks some entries have
abbrev pub ticks_in : List Entry → ℕ
ticks_in [] = 0
ticks_in (e ∷ es) = ticks_of e + ticks_in es

-- the answer to an entry
abbrev pub answer_to : S → Entry → Answer
answer_to s (Rounds n) = Done
answer_to s (Login line image) = (logged_in s line image.words.items image.start).answer
answer_to s (Start n) = (started s n).answer
answer_to s (Continue n) = (continued s n).answer
answer_to s (Kill n) = (killed s n (job_at s.world.table.jobs n)).answer
answer_to s (Typed line c) = (typed s line c).answer
answer_to s (Take line) = (taken s line TAKEN_AT_ONCE).answer
answer_to s (Ticks n) = Done
answer_to s (Deposit n a word) = Done
answer_to s (StartAt n a) = (started_at s n a).answer
answer_to s (Execute n word) = Done
