use Rattle.std.proofs.Common.{◌∙◌, sym, ap, ◌+◌, refl}
use Rattle.job_moves.specs.Moves.{alone}
use Rattle.job_turns.proofs.GoingOn.{next-settled, none-settled}
use Rattle.orders_program.proofs.Going.{goes-as, goes-on}
use Rattle.orders_program.proofs.following.Following.settle.Goals as goal

pub loop-k-init : goal.loop-k-init
loop-k-init c = record {
  so_far = none-settled c.args.self.now.most c.args.self.now.machine;
  goes = record { machine = refl; count = refl; most = refl; following = c.requires };
}

pub loop-k-preserved : goal.loop-k-preserved
loop-k-preserved c =
    let one = c.in_ok-settle_job.ensures in
    record {
      so_far =
          next-settled c.args.self.now.most c.loop-k.k c.args.self.now.machine c.loop-k.self.machine c.settle_job.new.self.machine
          c.loop-k.invariant.so_far
          (one.machine ∙ ap (λ m. alone m (c.loop-k.k + 1) c.loop-k.self.machine) c.loop-k.invariant.goes.most);
      goes =
          goes-as c.args.self.now c.settle_job.new.self _ _
          (goes-on c.args.self.now c.loop-k.self c.settle_job.new.self _ _ c.loop-k.invariant.goes one) (sym one.machine);
    }
