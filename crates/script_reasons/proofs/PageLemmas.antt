-- The lines that a page has, and those that are to come.
use Rattle.std.proofs.Common.{◌≡◌, ◌++◌, ◌∙◌, ℕ, List, [], ◌∷◌, ap, map, sym, refl, append_assoc, append-nil}
use Rattle.std.specs.List.{flat_map}
use Rattle.script_reasons.specs.Pages.{Told, answer_text, line_text, page_text, told_in}
use Rattle.script_reasons.specs.QueueLines.{explanation_in}
use Rattle.script_reasons.specs.declared.queue_lines.ExplainedLine.{ExplainedLine}

-- one answer more is there
pub answer_more : (old new whole line : List ℕ) (all more : List (List ℕ)) → all ≡ line ∷ more
    → new ≡ old ++ answer_text [] line
    → old ++ flat_map (answer_text []) all ≡ whole
    → new ++ flat_map (answer_text []) more ≡ whole
answer_more old new whole line all more here grown before =
    ap (λ l. l ++ flat_map (answer_text []) more) grown
    ∙ append_assoc old (answer_text [] line) (flat_map (answer_text []) more)
    ∙ sym (ap (λ ls. old ++ flat_map (answer_text []) ls) here)
    ∙ before

-- one line more is there
pub line_more : (old new whole line : List ℕ) (all more : List (List ℕ)) (done : ExplainedLine) (left later : List ExplainedLine)
    → all ≡ line ∷ more
    → left ≡ done ∷ later
    → new ≡ old ++ line_text line (told_in done)
    → old ++ page_text all (map told_in left) ≡ whole
    → new ++ page_text more (map told_in later) ≡ whole
line_more old new whole line all more done left later here next grown before =
    ap (λ l. l ++ page_text more (map told_in later)) grown
    ∙ append_assoc old (line_text line (told_in done)) (page_text more (map told_in later))
    ∙ sym (ap (λ ls. old ++ page_text ls (map told_in (done ∷ later))) here)
    ∙ sym (ap (λ (ds : List ExplainedLine). old ++ page_text all (map told_in ds)) next)
    ∙ before

-- there is no line more, or nothing more is told
pub no_line : (old whole : List ℕ) (all : List (List ℕ)) (left : List Told) → all ≡ [] → old ++ page_text all left ≡ whole → old ≡ whole
no_line old whole all left none before =
    sym (append-nil old) ∙ sym (ap (λ (ls : List (List ℕ)). old ++ page_text ls left) none) ∙ before

nothing_told : (all : List (List ℕ)) → page_text all [] ≡ []
nothing_told [] = refl
nothing_told (line ∷ later) = refl

pub none_told : (old whole : List ℕ) (all : List (List ℕ)) (left : List Told) → left ≡ [] → old ++ page_text all left ≡ whole → old ≡ whole
none_told old whole all left none before =
    sym (append-nil old) ∙ sym (ap (λ (l : List ℕ). old ++ l) (nothing_told all))
    ∙ sym (ap (λ (ts : List Told). old ++ page_text all ts) none)
    ∙ before

-- what is told has the explanations of the lines
pub told_explanations : (all : List ExplainedLine) → map (λ (t : Told). t.explanation) (map told_in all) ≡ map explanation_in all
told_explanations [] = refl
told_explanations (done ∷ later) = ap (λ l. explanation_in done ∷ l) (told_explanations later)
