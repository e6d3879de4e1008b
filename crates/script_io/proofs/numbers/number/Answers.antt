use Rattle.script_io.proofs.NumberLemmas.{number_too_large}
use Rattle.script_io.proofs.numbers.number.Goals as goal

pub returns-then-value-most-clause-value : goal.returns-then-value-most-clause-value
returns-then-value-most-clause-value c =
    number_too_large _ _ _ _ _ _ c.requires.base.0 c.loop-byte-test.true c.loop-byte.invariant.value c.from-digit.ensures c.if-value-most.true
