use Rattle.std.proofs.Common.{◌≡◌, ◌++◌, take, codes}
use Rattle.std.specs.List.{flat_map}
use Rattle.lockcheck_program.specs.Reports.{answer_word}
use Rattle.lockcheck_program.proofs.report.push_more_answers.Given as goal

abbrev pub invariant-loop-answer : goal.invariant-loop-answer
invariant-loop-answer l = l.out.items ≡ l.initial.out.items ++ flat_map (λ b. codes ", " ++ answer_word b) (take l.answer-index l.answers)
