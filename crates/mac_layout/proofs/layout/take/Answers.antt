use Rattle.std.proofs.Common.{◌≡◌, ◌++◌, subst, arith}
use Rattle.std.proofs.lemmas.Grind.{common_steps}
use Rattle.mac_layout.specs.LaidOut.{addresses_in}
use Rattle.mac_layout.specs.Layouts.{AreMarks}
use Rattle.mac_layout.proofs.layout.take.Goals as goal

pub returns-then-eq-clause-marks : goal.returns-then-eq-clause-marks
returns-then-eq-clause-marks c = λ past m.
    let one : 1 ≡ c.args.size.now = grind (arith, common_steps) in
    subst (λ n. AreMarks c.take_one.new.taken (past ++ addresses_in c.args.address.now n)) one (c.take_one.ensures.marks past m)
