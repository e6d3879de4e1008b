-- The explanations of the lines that have come, and of those that are still to come.
use Rattle.std.proofs.Common.{◌≡◌, ◌+◌, ◌++◌, ◌∙◌, ℕ, List, [], ◌∷◌, Option, None, Some, ap, sym, append_assoc}
use Rattle.word36.specs.declared.sizes.TheConstants.{MOST_REQUESTS}
use Rattle.lock_queue.specs.declared.request.Request.{Request}
use Rattle.queue_script.specs.Commands.{OwnedCommand, command_of}
use Rattle.queue_script.specs.QueueScripts.{Effect, effect_of}
use Rattle.script_io.specs.declared.endings.Ending.{Ending}
use Rattle.script_reasons.specs.QueueLines.{explanations_from, explanation_of, unless_over}
use Rattle.script_reasons.specs.Explanations.{CallExplanation}

-- what a line does, by its number, its command and the queue's size
same_effect : (size n m : ℕ) (rs : List Request) (command : Option OwnedCommand) (line : List ℕ) → size ≡ MOST_REQUESTS
    → m ≡ n + 1
    → command ≡ command_of line
    → effect_of size m rs command ≡ effect_of MOST_REQUESTS (n + 1) rs (command_of line)
same_effect size n m rs command line large counted is =
    ap (λ s. effect_of s m rs command) large
    ∙ ap (λ i. effect_of MOST_REQUESTS i rs command) counted
    ∙ ap (λ k. effect_of MOST_REQUESTS (n + 1) rs k) is

-- one line more has come, and the script goes on
pub explained_next : (size n m : ℕ) (rs next : List Request) (command : Option OwnedCommand) (line : List ℕ) (lines more : List (List ℕ))
    (old new whole : List (Option CallExplanation)) → size ≡ MOST_REQUESTS
    → m ≡ n + 1
    → command ≡ command_of line
    → lines ≡ line ∷ more
    → None ≡ (effect_of size m rs command).ending
    → next ≡ (effect_of size m rs command).requests
    → new ≡ old ++ explanation_of rs command ∷ []
    → old ++ explanations_from n rs lines ≡ whole
    → new ++ explanations_from m next more ≡ whole
explained_next size n m rs next command line lines more old new whole large counted is here goes_on left grown before =
    let e = effect_of MOST_REQUESTS (n + 1) rs (command_of line) in
    let same = same_effect size n m rs command line large counted is in
    let on : None ≡ e.ending = goes_on ∙ ap (λ (x : Effect). x.ending) same in
    let later : List (Option CallExplanation) = explanations_from (n + 1) e.requests more in
    ap (λ i. new ++ explanations_from i next more) counted
    ∙ ap (λ r. new ++ explanations_from (n + 1) r more) (left ∙ ap (λ (x : Effect). x.requests) same)
    ∙ ap (λ l. l ++ later) grown
    ∙ append_assoc old (explanation_of rs command ∷ []) later
    ∙ ap (λ k. old ++ explanation_of rs k ∷ later) is
    ∙ ap (λ o. old ++ explanation_of rs (command_of line) ∷ unless_over o later) on
    ∙ sym (ap (λ ls. old ++ explanations_from n rs ls) here)
    ∙ before

-- one line more has come, and the script ends there
pub explained_last : (size n m : ℕ) (rs : List Request) (command : Option OwnedCommand) (line : List ℕ) (lines more : List (List ℕ))
    (old new whole : List (Option CallExplanation)) (ending : Ending) → size ≡ MOST_REQUESTS
    → m ≡ n + 1
    → command ≡ command_of line
    → lines ≡ line ∷ more
    → Some ending ≡ (effect_of size m rs command).ending
    → new ≡ old ++ explanation_of rs command ∷ []
    → old ++ explanations_from n rs lines ≡ whole
    → new ≡ whole
explained_last size n m rs command line lines more old new whole ending large counted is here ends grown before =
    let e = effect_of MOST_REQUESTS (n + 1) rs (command_of line) in
    let same = same_effect size n m rs command line large counted is in
    let over : Some ending ≡ e.ending = ends ∙ ap (λ (x : Effect). x.ending) same in
    let later : List (Option CallExplanation) = explanations_from (n + 1) e.requests more in
    grown
    ∙ ap (λ k. old ++ explanation_of rs k ∷ []) is
    ∙ ap (λ o. old ++ explanation_of rs (command_of line) ∷ unless_over o later) over
    ∙ sym (ap (λ ls. old ++ explanations_from n rs ls) here)
    ∙ before
