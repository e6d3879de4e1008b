use Rattle.std.proofs.Common.{◌≡◌, None}
use Rattle.macro_operands.proofs.operators.applied.Goals as goal

-- src/operators.rt:147:1
pub returns-clause-number : goal.returns-clause-number
returns-clause-number c = λ holds.
    let before : c.as_word-other.new.state.failure ≡ None = c.worked_out-word.ensures.failed holds in
    let first : c.as_word-one.new.state.failure ≡ None = c.as_word-other.ensures.failed before in
    cc (c.of_word.ensures.number c.worked_out-word.new.state.numbers, c.worked_out-word.ensures.word, c.as_word-one.ensures.word first, c.as_word-other.ensures.word before, c.as_word-one.ensures.numbers)
