-- A report on what a search of every order found (this project's profile).
use Rattle.std.specs.Prelude.{◌≡◌, ◌==◌, ◌+◌, ◌-◌, ◌^◌, ℕ, List, [], ◌∷◌, map, min, ◌++◌, Option, option_map, if◌then◌else◌}
use Rattle.std.specs.List.{flat_map}
use Rattle.script_io.specs.Printing.{printed_character}
use Rattle.run_facts.specs.declared.standing.Standing.{Standing}
use Rattle.run_facts.specs.declared.standing.Standing.TheVariants as told
use Rattle.job_orders.specs.declared.ends.End.{End}
use Rattle.job_orders.specs.declared.ends.Left.{Left}
use Rattle.job_orders.specs.declared.ends.Standing.{Standing as LeftStanding}
use Rattle.job_orders.specs.declared.ends.Standing.TheVariants as left
use Rattle.job_orders.specs.declared.looking.Looked.{Looked}
use Rattle.job_orders.specs.declared.looking.Looked.TheVariants as looked
use Rattle.job_orders.specs.declared.looking.Reason.{Reason}
use Rattle.job_orders.specs.declared.looking.Reason.TheVariants as reason
use Rattle.job_orders.specs.declared.looking.Report.{Report}
use Rattle.job_orders.specs.declared.looking.Waiting.{Waiting}
use Rattle.order_report.specs.declared.findings.Circle.{Circle}
use Rattle.order_report.specs.declared.findings.DataWord.{DataWord}
use Rattle.order_report.specs.declared.findings.End.{End as ToldEnd}
use Rattle.order_report.specs.declared.findings.Found.{Found}
use Rattle.order_report.specs.declared.findings.Found.TheVariants as found
use Rattle.order_report.specs.declared.findings.Obstacle.{Obstacle}
use Rattle.order_report.specs.declared.findings.Obstacle.TheVariants as obstacle
use Rattle.order_report.specs.declared.findings.Report.{Report as ToldReport}

-- ---- ends

-- how a job has ended
abbrev pub standing_told : LeftStanding → Standing
standing_told left.Gone = told.Gone
standing_told (left.Stopped why) = told.Stopped why
standing_told (left.Waits wait) = told.Goes wait

-- the number after this one, which 32 bits hold
abbrev pub after_word : ℕ → ℕ
after_word n = min (2 ^ 32 - 1) (n + 1)

-- the words that are not 0, if the first of all has this number
abbrev pub data_from : ℕ → List ℕ → List DataWord
data_from n [] = []
data_from n (w ∷ more) = if w == 0 then data_from (after_word n) more else record { number = n; word = w } ∷ data_from (after_word n) more

-- the texts that jobs typed out, if there are any, the first at this line
abbrev pub text_at : ℕ → List ℕ → List (ℕ × List ℕ)
text_at line [] = []
text_at line (c ∷ more) = (line, flat_map printed_character (c ∷ more)) ∷ []

abbrev pub texts_from : ℕ → List Left → List (ℕ × List ℕ)
texts_from line [] = []
texts_from line (l ∷ more) = text_at line l.text.items ++ texts_from (min 255 (line + 1)) more

-- a report on an end, but for the words on jobs and on orders
pub record EndFacts : Type 0 where
  pub standings : List Standing
  pub shared : List DataWord
  pub texts : List (ℕ × List ℕ)

abbrev pub facts_of : End → EndFacts
facts_of e = record {
  standings = map (λ l. standing_told l.standing) e.jobs.items;
  shared = data_from 0 e.shared.items;
  texts = texts_from 0 e.jobs.items;
}

abbrev pub facts_told : ToldEnd → EndFacts
facts_told e = record {
  standings = map (λ j. j.standing) e.jobs.items;
  shared = e.shared.items;
  texts = map (λ t. (t.line, t.text.items)) e.texts.items;
}

-- ---- reports

abbrev pub waiting_jobs : Option Waiting → Option (List ℕ)
waiting_jobs circle = option_map (λ c. c.jobs.items) circle

abbrev pub circle_jobs : Option Circle → Option (List ℕ)
circle_jobs circle = option_map (λ c. c.jobs.items) circle

pub record IsToldReport (jobs : ℕ) (r : Report) (t : ToldReport) : Type 0 where
  pub jobs_are : t.jobs ≡ jobs
  pub states : t.states ≡ r.states
  pub circle : circle_jobs t.circle ≡ waiting_jobs r.circle
  pub ends : map facts_told t.ends.items ≡ map facts_of r.ends.items

-- ---- giving up

abbrev pub IsToldGiveUp : ℕ → Obstacle → Found → Type 0
IsToldGiveUp job o (found.All r) = ⊥
IsToldGiveUp job o (found.TooMany states) = ⊥
IsToldGiveUp job o (found.GaveUp g) = (g.job ≡ job) × (g.obstacle ≡ o)

abbrev pub IsToldReason : Reason → Found → Type 0
IsToldReason (reason.States states) f = f ≡ found.TooMany states
IsToldReason (reason.Typed line) f = IsToldGiveUp (min 255 (line + 1)) obstacle.Characters f
IsToldReason (reason.Limit job) f = IsToldGiveUp job obstacle.TimeLimit f
IsToldReason (reason.Clock job) f = IsToldGiveUp job obstacle.TimeOfDay f
IsToldReason (reason.Turns job) f = IsToldGiveUp job obstacle.Computes f

-- ---- a report on a search over `jobs` programs

abbrev pub IsToldAll : ℕ → Report → Found → Type 0
IsToldAll jobs r (found.All t) = IsToldReport jobs r t
IsToldAll jobs r (found.TooMany states) = ⊥
IsToldAll jobs r (found.GaveUp g) = ⊥

abbrev pub IsTold : ℕ → Looked → Found → Type 0
IsTold jobs (looked.All r) f = IsToldAll jobs r f
IsTold jobs (looked.GaveUp g) f = IsToldReason g.reason f
