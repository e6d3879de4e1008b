use Rattle.script_io.proofs.NumberLemmas.{parts-at, parts-one}
use Rattle.std.proofs.Common.{arith}
use Rattle.script_io.proofs.parts.split_part.Goals as goal

pub returns-then-byte-separator : goal.returns-then-byte-separator
returns-then-byte-separator c = parts-at _ _ _ c.loop-i-test.true c.loop-i.invariant c.if-byte-separator.true

pub returns : goal.returns
returns c = parts-one _ _ (λ k h. c.loop-i.invariant k (omega arith))
