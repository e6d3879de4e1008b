use Rattle.std.proofs.Common.{arith, refl, sym, ◌∙◌}
use Rattle.queue_script.proofs.CodeLemmas.{code-digit, code-name, code-apart}
use Rattle.queue_script.proofs.locks.front_code.Goals as goal

pub digits-preserved : goal.digits-preserved
digits-preserved c = record {
  code = code-digit _ _ _ _ _ c.digits.invariant.code c.digits-test.true (sym c.is_octal_digit.ensures ∙ c.if-is_octal_digit.true) c.from.ensures refl;
  within = omega arith;
  small = omega (arith, c.if-number-gt-MOST_CODE.false);
}

pub returns-clause-name : goal.returns-clause-name
returns-clause-name c =
    let long = c.digits.invariant.code.long in
    rw c.new.ensures
    (code-name _ _ _ c.digits.invariant.code (omega (arith, long, c.if-count-eq1.false)) (omega (arith, c.if-count.false)) c.digits.invariant.small)

pub returns-clause-apart : goal.returns-clause-apart
returns-clause-apart c = code-apart _ _ _ c.digits.invariant.code
