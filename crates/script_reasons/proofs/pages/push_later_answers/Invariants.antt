use Rattle.std.proofs.Common.{◌≡◌, ◌++◌, [], length}
use Rattle.std.specs.List.{flat_map}
use Rattle.script_reasons.specs.Pages.{answer_text}
use Rattle.script_reasons.proofs.pages.push_later_answers.Given as goal

-- the answers so far are there, and those after them are to come
abbrev pub invariant-loop-line : goal.invariant-loop-line
invariant-loop-line l =
    l.out.items ++ flat_map (answer_text []) l.lines ≡ l.initial.out.items ++ flat_map (answer_text []) l.initial.lines

abbrev pub decreases-loop-line : goal.decreases-loop-line
decreases-loop-line l = length l.lines
