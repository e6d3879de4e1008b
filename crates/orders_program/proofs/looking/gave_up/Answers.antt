use Rattle.std.proofs.Common.{refl}
use Rattle.orders_program.proofs.looking.gave_up.Goals as goal

pub obstacle_at-requires : goal.obstacle_at-requires
obstacle_at-requires c = (_, refl)
