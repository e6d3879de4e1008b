use Rattle.std.proofs.Common.{true, false, arith}
use Rattle.mac_layout.proofs.LayoutLemmas.{one_high, high_marks, one_low, low_marks}
use Rattle.mac_layout.proofs.layout.take_one.Goals as goal

pub returns-then-at-taken : goal.returns-then-at-taken
returns-then-at-taken c = record {
  code = λ past m. one_high past c.args.address.now (omega (arith, m.all));
  marks = λ past m. high_marks c.args.taken.now past c.args.address.now (omega (arith, m.all)) m;
}

pub returns-then-twice-clause-code : goal.returns-then-twice-clause-code
returns-then-twice-clause-code c =
    λ past m. one_low c.args.taken.now past c.clamped-at.result c.args.address.now true c.clamped-at.ensures c.if-at-taken.false m
    c.if-twice.true

pub returns-then-twice-clause-marks : goal.returns-then-twice-clause-marks
returns-then-twice-clause-marks c = λ past m. low_marks c.args.taken.now past c.clamped-at.result c.args.address.now c.clamped-at.ensures c.if-at-taken.false m

pub returns-else-twice-clause-code : goal.returns-else-twice-clause-code
returns-else-twice-clause-code c =
    λ past m. one_low c.args.taken.now past c.clamped-at.result c.args.address.now false c.clamped-at.ensures c.if-at-taken.false m
    c.if-twice.false

pub returns-else-twice-clause-marks : goal.returns-else-twice-clause-marks
returns-else-twice-clause-marks c = λ past m. low_marks c.args.taken.now past c.clamped-at.result c.args.address.now c.clamped-at.ensures c.if-at-taken.false m
