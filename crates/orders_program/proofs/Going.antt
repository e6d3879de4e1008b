-- Orders that go on.
use Rattle.std.proofs.Common.{◌≡◌, ◌∙◌}
use Rattle.job_order_laws.specs.Turned.{V}
use Rattle.orders_program.specs.Followed.{GoesTo}
use Rattle.orders_program.specs.declared.following.Following.{Following}

-- to the same machine
pub goes-as : (f g : Following) (v w : V) → GoesTo f g v → v ≡ w → GoesTo f g w
goes-as f g v w a e = record { machine = a.machine ∙ e; count = a.count; most = a.most; following = a.following }

-- and on from there
pub goes-on : (f g h : Following) (v w : V) → GoesTo f g v → GoesTo g h w → GoesTo f h w
goes-on f g h v w a b = record { machine = b.machine; count = b.count ∙ a.count; most = b.most ∙ a.most; following = b.following }
