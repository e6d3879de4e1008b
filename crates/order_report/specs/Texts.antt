-- The text of a report on every order of some programs (this project's profile). A text is the list of its ASCII codes.
use Rattle.std.specs.Prelude.{◌==◌, ◌++◌, ℕ, ◌+◌, ◌-◌, Bool, true, false, List, [], ◌∷◌, length, nat_le, nat_lt, take, Option, Some, None, if◌then◌else◌, codes, decimal, string_bytes, String}
use Rattle.std.specs.List.{flat_map}
use Rattle.word36.specs.Octal.{word_text}
use Rattle.order_report.specs.declared.findings.Circle.{Circle}
use Rattle.order_report.specs.declared.findings.DataWord.{DataWord}
use Rattle.order_report.specs.declared.findings.End.{End}
use Rattle.order_report.specs.declared.findings.EndedJob.{EndedJob}
use Rattle.order_report.specs.declared.findings.Found.{Found}
use Rattle.order_report.specs.declared.findings.Found.TheVariants.{All, TooMany, GaveUp}
use Rattle.order_report.specs.declared.findings.GiveUp.{GiveUp}
use Rattle.order_report.specs.declared.findings.Obstacle.{Obstacle}
use Rattle.order_report.specs.declared.findings.Obstacle.TheVariants.{TimeOfDay, TimeLimit, Computes, Characters}
use Rattle.order_report.specs.declared.findings.Report.{Report}
use Rattle.order_report.specs.declared.findings.Typed.{Typed}
use Rattle.order_report.specs.declared.orders.JobSteps.{JobSteps}
use Rattle.order_report.specs.declared.orders.OrderPart.{OrderPart}
use Rattle.order_report.specs.declared.orders.OrderPart.TheVariants.{Steps, Ticks}

-- a number of things, by the word for one of them
abbrev pub counted : ℕ → List ℕ → List ℕ
counted n word = decimal n ++ codes " " ++ word ++ (if n == 1 then [] else codes "s")

-- ---- orders

abbrev pub more_calls : {A : Type 0} → String A → List ℕ
more_calls call = codes "; " ++ string_bytes call

-- calls in words: the first after a colon, each other after a semicolon
abbrev pub calls_text : {A : Type 0} → List (String A) → List ℕ
calls_text [] = []
calls_text (call ∷ more) = codes ": " ++ string_bytes call ++ flat_map more_calls more

-- steps of a job
abbrev pub steps_text : JobSteps → List ℕ
steps_text s =
    codes "  job " ++ decimal s.job ++ codes ", " ++ counted s.steps (codes "step") ++ calls_text s.calls.items ++ codes "\n"

abbrev pub part_text : OrderPart → List ℕ
part_text (Steps s) = steps_text s
part_text (Ticks n) = codes "  " ++ counted n (codes "tick") ++ codes "\n"

abbrev pub order_text : List OrderPart → List ℕ
order_text order = flat_map part_text order

abbrev pub order_if : Bool → List OrderPart → List ℕ
order_if true order = order_text order
order_if false order = []

-- ---- circles

-- jobs, each after a space
abbrev pub jobs_text : List ℕ → List ℕ
jobs_text jobs = flat_map (λ job. 32 ∷ decimal job) jobs

abbrev pub circle_text : Option Circle → List ℕ
circle_text None = codes "NO CIRCLE\n"
circle_text (Some c) = codes "CIRCLE" ++ jobs_text c.jobs.items ++ codes "\n" ++ order_text c.order.items

-- ---- ends

abbrev pub job_line : EndedJob → List ℕ
job_line job = string_bytes job.line ++ codes "\n"

abbrev pub data_line : DataWord → List ℕ
data_line d = codes "DATA " ++ decimal d.number ++ codes " " ++ word_text d.word ++ codes "\n"

abbrev pub typed_line : Typed → List ℕ
typed_line t = codes "TEXT " ++ decimal t.line ++ codes " " ++ t.text.items ++ codes "\n"

-- an end with this number: how many calls its order has, the jobs, the words that all share, what was typed out, and the order
abbrev pub end_text : ℕ → Bool → End → List ℕ
end_text number with_order e =
    codes "END " ++ decimal number ++ codes ", " ++ counted e.calls (codes "call") ++ codes "\n" ++ flat_map job_line e.jobs.items
    ++ flat_map data_line e.shared.items ++ flat_map typed_line e.texts.items ++ order_if with_order e.order.items

-- ends, numbered on from this number
abbrev pub ends_text : ℕ → Bool → List End → List ℕ
ends_text number with_order [] = []
ends_text number with_order (e ∷ more) = end_text number with_order e ++ ends_text (number + 1) with_order more

abbrev pub ends_head : ℕ → List ℕ
ends_head count = decimal count ++ (if count == 1 then codes " END\n" else codes " ENDS\n")

-- how many are left out
abbrev pub more_text : ℕ → ℕ → List ℕ
more_text count most = if nat_le count most then [] else codes "AND " ++ decimal (count - most) ++ codes " MORE\n"

-- the first ends, each with its order where there are two or more
abbrev pub all_ends_text : ℕ → List End → List ℕ
all_ends_text most ends =
    ends_head (length ends) ++ ends_text 1 (nat_lt 1 (length ends)) (take most ends) ++ more_text (length ends) most

-- ---- the whole

abbrev pub counts_text : Report → List ℕ
counts_text r = counted r.jobs (codes "job") ++ codes ", " ++ counted r.states (codes "state") ++ codes ", all looked at\n"

abbrev pub report_text : ℕ → Report → List ℕ
report_text most r = counts_text r ++ circle_text r.circle ++ all_ends_text most r.ends.items

abbrev pub too_many_text : ℕ → List ℕ
too_many_text states = codes "GAVE UP after " ++ counted states (codes "state") ++ codes "\n"

abbrev pub obstacle_words : Obstacle → List ℕ
obstacle_words TimeOfDay = codes "asks for the time of day"
obstacle_words TimeLimit = codes "waits with a time limit"
obstacle_words Computes = codes "computes on"
obstacle_words Characters = codes "has characters typed at its line"

abbrev pub what_text : GiveUp → List ℕ
what_text g = decimal g.job ++ codes " " ++ obstacle_words g.obstacle

abbrev pub place_text : GiveUp → List ℕ
place_text g = codes " at " ++ string_bytes g.place ++ codes "\n"

-- the job, what it does and where, and an order that leads there
abbrev pub give_up_text : GiveUp → List ℕ
give_up_text g = codes "GAVE UP: job " ++ what_text g ++ place_text g ++ order_text g.order.items

-- the text of what was found, with so many ends at most
abbrev pub found_text : ℕ → Found → List ℕ
found_text most (All r) = report_text most r
found_text most (TooMany states) = too_many_text states
found_text most (GaveUp g) = give_up_text g
