use Rattle.std.proofs.Common.{◌≡◌, ◌<◌, ◌-◌, ◌==◌, arith, false, length, get_or}
use Rattle.std.proofs.lemmas.Bool.{ne_eqb}
use Rattle.std.proofs.lemmas.Bool.Decides.{nat_tests}
use Rattle.script_io.proofs.FrontLemmas.{follows-start, follows-digit, not_front-other, not_front-large}
use Rattle.script_io.proofs.FrontLemmas.{not_front-nothing, not_front-begins, is_front-at, is_front-all}
use Rattle.script_io.proofs.parts.split_number.Goals.{then-digit-ge10-via-then-digit-ge10, then-digit-ge10-via-else-digit-ge10+then-byte-separator}
use Rattle.script_io.proofs.parts.split_number.Goals as goal

pub digits-init : goal.digits-init
digits-init c = record { follows = follows-start _ _ _; within = omega arith }

pub returns-then-byte-separator-2-clause-value : goal.returns-then-byte-separator-2-clause-value
returns-then-byte-separator-2-clause-value c =
    let differs : (get_or c.args.text.now c.digits.i 0 == c.args.separator) ≡ false = grind (arith, nat_tests, c.if-byte-separator-2.true) in
    elim c.then-digit-ge10.branch [
      | then-digit-ge10-via-then-digit-ge10 w ↦ not_front-other _ _ _ c.digits.i _ c.digits.invariant.follows c.digits-test.true differs (grind (arith, nat_tests, w.if-digit-ge10))
      | then-digit-ge10-via-else-digit-ge10+then-byte-separator w ↦ absurd (grind (arith, nat_tests, differs, w.if-byte-separator))
    ]

pub returns-then-i-eq0-clause-value : goal.returns-then-i-eq0-clause-value
returns-then-i-eq0-clause-value c = not_front-begins _ _ _ c.digits.i c.if-i-eq0.true c.digits-test.true (grind (arith, nat_tests, c.if-byte-separator-2.false))

pub returns-then-digit-ge10-clause-value : goal.returns-then-digit-ge10-clause-value
returns-then-digit-ge10-clause-value c = is_front-at _ _ _ c.digits.i _ c.digits.invariant.follows (omega arith) c.digits-test.true (grind (arith, nat_tests, c.if-byte-separator-2.false))

pub returns-then-value-most-clause-value : goal.returns-then-value-most-clause-value
returns-then-value-most-clause-value c =
    not_front-large _ _ _ c.digits.i _ c.from.result c.digits.invariant.follows c.digits-test.true (ne_eqb _ _ c.if-byte-separator.false) (omega (arith, c.if-digit-ge10.false))
    (omega (arith, c.from.ensures, c.if-digit-ge10.false)) (omega (arith, c.from.ensures)) c.if-value-most.true

pub digits-preserved : goal.digits-preserved
digits-preserved c = record {
  follows =
      follows-digit _ _ _ c.digits.i _ c.from.result c.digits.invariant.follows c.digits-test.true (ne_eqb _ _ c.if-byte-separator.false) (omega (arith, c.if-digit-ge10.false))
      (omega (arith, c.from.ensures, c.if-digit-ge10.false)) (omega (arith, c.from.ensures)) (omega arith);
  within = omega (arith, c.digits-test.true);
}

pub returns-then-is_empty-clause-value : goal.returns-then-is_empty-clause-value
returns-then-is_empty-clause-value c = let empty : length c.args.text.now ≡ 0 = grind (arith, nat_tests, c.if-is_empty.ensures) in not_front-nothing _ _ _ empty

pub returns-clause-value : goal.returns-clause-value
returns-clause-value c =
    let some : 0 < length c.args.text.now = grind (arith, nat_tests, c.if-is_empty.ensures) in
    is_front-all _ _ _ c.digits.i _ c.digits.invariant.follows (omega arith) some
