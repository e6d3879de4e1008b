-- The lines that a script on the machine writes (this project's profile). A text is the list of its ASCII codes.
use Rattle.std.specs.Prelude.{ℕ, ◌==◌, if◌then◌else◌, List, [], ◌∷◌, ◌++◌, Option, Some, None, codes, decimal}
use Rattle.word36.specs.Octal.{octal, word_text}
use Rattle.ka_isa.specs.Text.{text_of_word}
use Rattle.job_sched.specs.Stops.{code_of as stop_code}
use Rattle.job_sched.specs.declared.job.Stop.{Stop}
use Rattle.job_sched.specs.declared.job.Wait.{Wait}
use Rattle.job_sched.specs.declared.job.Wait.TheVariants as wait
use Rattle.machine.specs.Refusals.{code_of}
use Rattle.machine.specs.declared.event.Answer.{Answer}
use Rattle.machine.specs.declared.event.Answer.TheVariants.{Ran, Idle, Done, Text, JobNumber, Refused}
use Rattle.machine.specs.declared.event.RefusedEvent.{RefusedEvent}
use Rattle.machine.specs.declared.view.JobView.{JobView}
use Rattle.script_io.specs.Printing.{printed}

-- ---- answers

-- `?REFUSED code`
abbrev pub refused_line : RefusedEvent → List ℕ
refused_line r = codes "?REFUSED " ++ decimal (code_of r) ++ codes "\n"

-- `JOB n`
abbrev pub number_line : ℕ → List ℕ
number_line n = codes "JOB " ++ decimal n ++ codes "\n"

-- `TEXT`, and the characters behind a space where there are any
abbrev pub text_line : List ℕ → List ℕ
text_line [] = codes "TEXT\n"
text_line (c ∷ more) = codes "TEXT " ++ printed (c ∷ more) ++ codes "\n"

-- the line of an answer; steps have one line together, `ran_line`
abbrev pub answer_line : Answer → List ℕ
answer_line (Ran n) = []
answer_line Idle = []
answer_line Done = codes "DONE\n"
answer_line (Text text) = text_line text
answer_line (JobNumber n) = number_line n
answer_line (Refused r) = refused_line r

-- `RAN r IDLE i`
abbrev pub ran_line : ℕ → ℕ → List ℕ
ran_line ran idle = codes "RAN " ++ decimal ran ++ codes " IDLE " ++ decimal idle ++ codes "\n"

-- the answer to several events of which one may have been refused
abbrev pub done_line : Option RefusedEvent → List ℕ
done_line None = codes "DONE\n"
done_line (Some r) = refused_line r

-- the answer to several Take events
abbrev pub taken_line : Option RefusedEvent → List ℕ → List ℕ
taken_line None text = text_line text
taken_line (Some r) text = refused_line r

-- `IMAGE name w`
abbrev pub image_line : List ℕ → ℕ → List ℕ
image_line name words = codes "IMAGE " ++ name ++ codes " " ++ decimal words ++ codes "\n"

-- ---- jobs

-- a wait for a request, and the ticks that are left of its limit, 0 where it has none
abbrev pub limit_text : ℕ → List ℕ
limit_text limit = codes "QUEUE" ++ (if limit == 0 then [] else codes " " ++ decimal limit)

-- the wait that holds
abbrev pub wait_text : Wait → List ℕ
wait_text wait.None = codes "RUN"
wait_text (wait.Sleep ticks) = codes "SLEEP " ++ decimal ticks
wait_text wait.Char = codes "CHAR"
wait_text wait.Line = codes "LINE"
wait_text (wait.Room places) = codes "ROOM"
wait_text (wait.Queue limit ac) = limit_text limit

-- why a job stands still, or what it waits for
abbrev pub standing_text : Option Stop → Wait → List ℕ
standing_text (Some stop) w = codes "STOP " ++ decimal (stop_code stop)
standing_text None w = wait_text w

-- `JOB n LINE l BLOCKS b PC oooooo s`
abbrev pub job_line : ℕ → Option JobView → List ℕ
job_line n None = []
job_line n (Some j) =
    codes "JOB " ++ decimal n ++ codes " LINE " ++ decimal j.line ++ codes " BLOCKS " ++ decimal j.blocks
    ++ codes " PC " ++ octal 6 j.pc ++ codes " " ++ standing_text j.stop j.wait ++ codes "\n"

-- ---- words

-- `oooooo/ LLLLLL,,RRRRRR text`, or `?ADDRESS` if the job has no such word
abbrev pub address_line : ℕ → Option ℕ → List ℕ
address_line a None = codes "?ADDRESS\n"
address_line a (Some w) = octal 6 a ++ codes "/ " ++ word_text w ++ codes " " ++ text_of_word w ++ codes "\n"

-- a word alone
abbrev pub word_line : ℕ → List ℕ
word_line w = word_text w ++ codes "\n"
