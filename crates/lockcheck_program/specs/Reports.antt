-- The text of a report (this project's profile). A text is the list of its ASCII codes.
use Rattle.std.specs.Prelude.{◌==◌, ◌++◌, ℕ, ◌+◌, ◌-◌, ◌*◌, List, [], ◌∷◌, length, filter, nat_le, nat_lt, replicate, slice_index}
use Rattle.std.specs.Prelude.{slice_set, Option, Some, None, if◌then◌else◌, codes, decimal}
use Rattle.std.specs.List.{flat_map}
use Rattle.std.specs.Option.{option_map_or}
use Rattle.std.specs.BTreeSet as bag
use Rattle.std.specs.BTreeSet.{BTreeSet}
use Rattle.std.specs.Ordering.{nat_cmp}
use Rattle.lockcheck_orders.specs.Programs.{due, jobs_of}
use Rattle.lockcheck_orders.specs.declared.answers.TheConstants.{ANSWERS, WAITS}
use Rattle.lockcheck_orders.specs.declared.lines.Line.{Line}
use Rattle.lockcheck_orders.specs.declared.verdicts.Looked.{Looked}
use Rattle.lockcheck_orders.specs.declared.verdicts.Looked.TheVariants.{All, GaveUp}
use Rattle.lockcheck_orders.specs.declared.verdicts.Report.{Report}
use Rattle.lockcheck_orders.specs.declared.verdicts.Verdict.{Verdict}
use Rattle.lockcheck_program.specs.declared.statuses.TheConstants.{CIRCLE, STUCK}
use Rattle.program_shell.specs.declared.statuses.TheConstants.{DONE, FAILED}

-- ---- lines of the script

-- the line of this number, counted from 1; an empty one if there are fewer
abbrev pub line_in : List (List ℕ) → ℕ → List ℕ
line_in [] number = []
line_in (line ∷ more) number = if nat_le number 1 then line else line_in more (number - 1)

-- ---- orders

-- the line that the job at a position of the list makes next, where each job has made so many
abbrev pub line_made : List Line → List ℕ → ℕ → Option Line
line_made programs made by =
    if nat_lt by (length (jobs_of programs)) then due programs (slice_index (jobs_of programs) by) (slice_index made by) else None

-- the lines of an order, as they stand in the script, where each job has made so many before
abbrev pub order_text : List (List ℕ) → List Line → List ℕ → List ℕ → List ℕ
order_text script programs made [] = []
order_text script programs made (by ∷ more) =
    option_map_or
    (λ l. line_in script l.number ++ 10 ∷ order_text script programs (slice_set made by (slice_index made by + 1)) more)
    (line_made programs made by) []

-- jobs, each behind a space
abbrev pub jobs_text : List ℕ → List ℕ
jobs_text jobs = flat_map (λ job. 32 ∷ decimal job) jobs

-- a verdict: its word, its jobs and the lines of its order; or, where there is none, the words for that
abbrev pub verdict_text : List (List ℕ) → List Line → List ℕ → List ℕ → Option Verdict → List ℕ
verdict_text script programs found none None = none
verdict_text script programs found none (Some v) =
    found ++ jobs_text v.jobs.items ++ 10 ∷ order_text script programs (replicate (length (jobs_of programs)) 0) v.moves.items

-- ---- answers

-- all answers, in the order of their words
abbrev pub in_order : List ℕ
in_order =
    1 ∷ 10 ∷ 11 ∷ 12 ∷ 13 ∷ 14 ∷ 15 ∷ 16 ∷ 17 ∷ 18 ∷ 2 ∷ 3 ∷ 4 ∷ 5 ∷ 6 ∷ 7 ∷ 8 ∷ 9 ∷ 0 ∷ WAITS ∷ []

abbrev pub answer_word : ℕ → List ℕ
answer_word a = if a == 0 then codes "OK" else (if a == WAITS then codes "WAIT" else codes "CODE " ++ decimal a)

-- the answers to the line of this number
abbrev pub answers_to : BTreeSet ℕ → ℕ → List ℕ
answers_to all number = filter (λ a. bag.contains nat_cmp all (number * ANSWERS + a)) in_order

-- the first behind a colon, the others behind commas
abbrev pub answer_words : List ℕ → List ℕ
answer_words [] = []
answer_words (a ∷ more) = codes ": " ++ answer_word a ++ flat_map (λ b. codes ", " ++ answer_word b) more

-- a line that has answers: its number, its text and these
abbrev pub answered : List (List ℕ) → ℕ → List ℕ → List ℕ
answered script number [] = []
answered script number (a ∷ more) =
    decimal number ++ 32 ∷ line_in script number ++ answer_words (a ∷ more) ++ codes "\n"

abbrev pub line_answers : List (List ℕ) → BTreeSet ℕ → Line → List ℕ
line_answers script all l = answered script l.number (answers_to all l.number)

-- the lines that some order reaches, where answers were asked for
abbrev pub answers_text : List (List ℕ) → List Line → Option (BTreeSet ℕ) → List ℕ
answers_text script programs None = []
answers_text script programs (Some all) = flat_map (line_answers script all) programs

-- ---- the whole

-- a number of things, by the word for one of them
abbrev pub counted : ℕ → List ℕ → List ℕ
counted n word = decimal n ++ codes " " ++ word ++ (if n == 1 then [] else codes "s")

-- how many jobs, calls and states there are
abbrev pub counts_text : List Line → ℕ → List ℕ
counts_text programs states =
    counted (length (jobs_of programs)) (codes "job") ++ codes ", " ++ counted (length programs) (codes "call") ++ codes ", "
    ++ counted states (codes "state") ++ codes ", all looked at\n"

-- the text of a report on the programs of a script of these lines
abbrev pub report_text : List (List ℕ) → List Line → Report → List ℕ
report_text script programs r =
    counts_text programs r.states
    ++ verdict_text script programs (codes "CIRCLE") (codes "NO CIRCLE\n") r.circle
    ++ verdict_text script programs (codes "STUCK") (codes "ALL CAN END\n") r.stuck
    ++ answers_text script programs r.answers

-- the text of what was found
abbrev pub looked_text : List (List ℕ) → List Line → Looked → List ℕ
looked_text script programs (All r) = report_text script programs r
looked_text script programs (GaveUp states) = codes "GAVE UP after " ++ counted states (codes "state") ++ codes "\n"

-- the status for it: 4 where there is a circle, 5 where jobs are left waiting without one, 3 where it gave up
abbrev pub report_status : Option Verdict → Option Verdict → ℕ
report_status (Some circle) stuck = CIRCLE
report_status None (Some stuck) = STUCK
report_status None None = DONE

abbrev pub looked_status : Looked → ℕ
looked_status (All r) = report_status r.circle r.stuck
looked_status (GaveUp states) = FAILED
