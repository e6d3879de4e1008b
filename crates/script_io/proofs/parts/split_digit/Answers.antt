use Rattle.std.proofs.Common.{arith}
use Rattle.script_io.proofs.FrontLemmas.{is_front-digit}
use Rattle.script_io.proofs.parts.split_digit.Goals as goal

pub returns-clause-value : goal.returns-clause-value
returns-clause-value c =
    is_front-digit _ _ _ _ c.digit_number.result (omega arith) (omega arith) c.if-text-separator-2.false c.digit_number.ensures.value c.in_ok-number.was
