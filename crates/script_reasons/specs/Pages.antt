-- A script of `lockmon queue` as a page with its answers, and the reasons of refusals and waits (this project's profile).
use Rattle.std.specs.Prelude.{◌≡◌, ℕ, ◌++◌, List, [], ◌∷◌, map, Option, Some, None, codes}
use Rattle.std.specs.List.{flat_map}
use Rattle.std.specs.Str.Lines.{lines}
use Rattle.shown_bytes.specs.Shown.{shown}
use Rattle.script_reasons.specs.Explanations.{CallExplanation}
use Rattle.script_reasons.specs.QueueLines.{explanation_in, line_explanations}
use Rattle.script_reasons.specs.Sentences.{explanation_text}
use Rattle.script_reasons.specs.declared.queue_lines.ExplainedLine.{ExplainedLine}

-- what is written of a line: its answers, and why what it asks for is refused, or waits
pub record Told : Type 0 where
  pub answers : List ℕ
  pub explanation : Option CallExplanation

abbrev pub told_in : ExplainedLine → Told
told_in line = record { answers = line.answers.items; explanation = explanation_in line }

-- the words of an explanation, if there is one
abbrev pub reason_in : Option CallExplanation → List ℕ
reason_in (Some explanation) = explanation_text explanation
reason_in None = []

-- a reason after an answer, if there is one
abbrev pub behind : List ℕ → List ℕ
behind [] = []
behind (c ∷ more) = codes ": " ++ (c ∷ more)

-- an answer, on a line of its own
abbrev pub answer_text : List ℕ → List ℕ → List ℕ
answer_text reason answer = codes "    " ++ answer ++ behind reason ++ codes "\n"

-- the answers to a line: after the first comes the reason
abbrev pub answers_text : List ℕ → List (List ℕ) → List ℕ
answers_text reason [] = []
answers_text reason (first ∷ later) = answer_text reason first ++ flat_map (answer_text []) later

-- a line, and below it what is written of it
abbrev pub line_text : List ℕ → Told → List ℕ
line_text line told = shown line ++ codes "\n" ++ answers_text (reason_in told.explanation) (lines told.answers)

-- lines, one after another
abbrev pub page_text : List (List ℕ) → List Told → List ℕ
page_text [] told = []
page_text (line ∷ later) [] = []
page_text (line ∷ later) (told ∷ more) = line_text line told ++ page_text later more

-- the page of a script: it has each line that was done, with its answers and with the words of its explanation
abbrev pub IsExplained : List ℕ → List ℕ → Type 0
IsExplained script page =
    (told : List Told) × (map (λ (t : Told). t.explanation) told ≡ line_explanations script) × (page ≡ page_text (lines script) told)
