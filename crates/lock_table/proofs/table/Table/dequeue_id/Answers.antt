use Rattle.std.proofs.Common.{◌∙◌, not, sym, true, false, refl}
use Rattle.lock_queue.specs.declared.call.LockCall.TheVariants.{DequeueId}
use Rattle.lock_queue.specs.Dequeues.{has_id}
use Rattle.lock_queue.specs.Grants.{left_of}
use Rattle.lock_table.specs.Reads.{request_at}
use Rattle.lock_table.proofs.Wholes.{leaves_by, left_dequeued, refused_done}
use Rattle.lock_table.proofs.table.Table.dequeue_id.Goals as goal

pub returns : goal.returns
returns g c =
    let s = c.args.self.now.store in
    let t = c.release.new.self.store in
    let both = left_dequeued s t (has_id c.args.job c.args.id) true c.release.ensures.left (sym c.if-not-release.false ∙ c.release.ensures.some) in
    record {
      whole = c.release.ensures.whole;
      requests = both.0;
      reply = both.1;
      left =
          λ done.
          leaves_by (left_of c.args.job (DequeueId c.args.id)) s t (request_at s) (λ x. not ((has_id c.args.job c.args.id) (request_at s x))) c.release.ensures.left (λ x. refl);
      flips = λ done. c.release.ensures.flips;
    }

pub returns-then-not-release : goal.returns-then-not-release
returns-then-not-release g c =
    let both =
    left_dequeued c.args.self.now.store c.release.new.self.store (has_id c.args.job c.args.id) false c.release.ensures.left
    (sym c.if-not-release.true ∙ c.release.ensures.some) in
    record { whole = c.release.ensures.whole; requests = both.0; reply = both.1; left = λ done. absurd (refused_done _ done); flips = λ done. c.release.ensures.flips }
