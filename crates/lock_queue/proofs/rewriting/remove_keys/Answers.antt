use Rattle.std.proofs.Common.{◌≡◌, not, filter, ap, rules}
use Rattle.arrayvec.proofs.ArrayVecLemmas.{filter-from_retain}
use Rattle.lock_queue.specs.Dequeues.{with_wants}
use Rattle.lock_queue.specs.Queue.{names}
use Rattle.lock_queue.proofs.rewriting.remove_keys.Goals as goal

pub returns : goal.returns
returns c =
    let kept : c.retain.new.self.items ≡ filter (λ w. not (names c.args.named.now w.key)) c.args.r.now.wants.items =
    filter-from_retain _ (λ w. not (names c.args.named.now w.key)) _ (λ x b f' y called. search rules) _ _ c.retain.ensures.filtered in
    ap (with_wants c.args.r.now) kept
