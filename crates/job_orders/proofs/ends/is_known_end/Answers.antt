use Rattle.std.proofs.Common.{arith}
use Rattle.std.proofs.lemmas.Bool.{false≢true}
use Rattle.job_orders.specs.Endings.{ending_in}
use Rattle.job_orders.proofs.Ended.{not-known}
use Rattle.job_orders.proofs.ends.is_known_end.Goals as goal

pub returns : goal.returns
returns c = (
  λ e. absurd (false≢true e),
  λ known. absurd (not-known c.args.ends.now (ending_in c.args.count c.args.machine.now) (λ k d low. c.loop-end.invariant k d (omega (arith, low))) known),
)
