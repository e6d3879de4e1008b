use Rattle.std.proofs.Common.{◌≡◌, drop}
use Rattle.job_orders.specs.Reports.{count_of}
use Rattle.orders_program.specs.Begun.{start_of}
use Rattle.orders_program.specs.Followed.{IsFollowing}
use Rattle.orders_program.proofs.Leading.{first_of, led}
use Rattle.orders_program.proofs.following.follow.Given as goal

-- the moves to come lead where all of them do
abbrev pub invariant-loop-by : goal.invariant-loop-by
invariant-loop-by l = record {
  following : IsFollowing l.following;
  count : l.following.count ≡ count_of (start_of l.work);
  most : l.following.most ≡ l.most;
  rest : led l.most (start_of l.work) l.following.machine (drop l.by-index l.moves)
      ≡ led l.most (start_of l.work) (first_of l.most (start_of l.work)) l.moves;
}
