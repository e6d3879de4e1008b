use Rattle.std.proofs.Common.{◌≡◌, ◌∙◌, sym, ap, subst, ◌<◌, ℕ, length, arith}
use Rattle.std.specs.Prelude.{Option, Ok, IfSome, IsTrue}
use Rattle.lock_queue.specs.declared.request.Request.{Request}
use Rattle.lock_queue.specs.declared.terms.BlockUse.TheVariants.{Full}
use Rattle.lock_queue.specs.declared.want.Want.{Want}
use Rattle.lock_service.specs.ReadBack.{spells}
use Rattle.lock_service.specs.Readings.{shown_want, want_in}
use Rattle.lock_service.specs.Spelled.{want_of}
use Rattle.lock_service.proofs.ReadBack.{shared_rightly, want_at}
use Rattle.lock_service.proofs.locks.Locks.want_can_be_asked_for.Goals as goal

pub want_is_read_back-requires-clause-right : goal.want_is_read_back-requires-clause-right
want_is_read_back-requires-clause-right c =
    let table = c.args.self.now.table in
    let r : Request = c.request-request.result.now in
    let w : Want = c.index-deref-k.result in
    let within : c.args.k < length r.wants.items = omega (arith, c.if-k-len.false, c.len-2.ensures.value) in
    shared_rightly table.requests c.args.i c.args.k r w table.well c.request-request.ensures
    (want_at r c.args.k c.deref.result.now w c.deref.ensures.0 within c.index-deref-k.is)

pub want_is_read_back-requires-clause-spelled : goal.want_is_read_back-requires-clause-spelled
want_is_read_back-requires-clause-spelled c =
    let r : Request = c.request-request.result.now in
    let w : Want = c.index-deref-k.result in
    let within : c.args.k < length r.wants.items = omega (arith, c.if-k-len.false, c.len-2.ensures.value) in
    let there = ap (λ (o : Option Request). want_in o c.args.k) c.request-request.ensures
    ∙ want_at r c.args.k c.deref.result.now w c.deref.ensures.0 within c.index-deref-k.is in
    subst (λ (o : Option Want). IfSome o (λ (x : Want). IsTrue (spells c.args.job x.key.scope))) there c.requires.spelled

pub returns : goal.returns
returns c =
    let r : Request = c.request-request.result.now in
    let w : Want = c.index-deref-k.result in
    let within : c.args.k < length r.wants.items = omega (arith, c.if-k-len.false, c.len-2.ensures.value) in
    let there = ap (λ (o : Option Request). want_in o c.args.k) c.request-request.ensures
    ∙ want_at r c.args.k c.deref.result.now w c.deref.ensures.0 within c.index-deref-k.is in
    subst (λ (o : Option Want). IfSome o (λ (x : Want). want_of Full c.args.job (shown_want x) ≡ Ok x)) (sym there) c.want_is_read_back.ensures
