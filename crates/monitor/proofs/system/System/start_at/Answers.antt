use Rattle.std.proofs.Common.{◌<◌, ◌^◌, arith}
use Rattle.monitor.proofs.SoundDeposits.{sound_started_at}
use Rattle.monitor.proofs.system.System.start_at.Goals as goal

pub invariant_of-self : goal.invariant_of-self
invariant_of-self g c =
    let low : c.args.a < 2 ^ 18 = omega (arith, c.number-address.ensures.value, c.number-address.ensures.below) in
    rw c.start_at.ensures.state (sound_started_at _ _ _ low c.self.invariant)
