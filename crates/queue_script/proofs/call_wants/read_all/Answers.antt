use Rattle.std.proofs.Common.{false, true, refl, ◌≡◌, ◌<◌, ◌+◌, min, arith}
use Rattle.queue_script.proofs.WantLemmas.{wanted, wanted-not, no_lock, gathers-start, gathers-want, gathers-refused, gathers-full, gathers-none}
use Rattle.queue_script.proofs.WantLemmas.{gathers-end, gathers-nothing}
use Rattle.queue_script.proofs.call_wants.read_all.Goals as goal

never : false ≡ true → ⊥
never h = cc

pub items-init : goal.items-init
items-init c = record { gathers = gathers-start _ _ _ c.args.wants.now.items; room = omega arith; within = omega arith; front = c.requires }

pub returns-then-count-eq-LOCKS_A_CALL : goal.returns-then-count-eq-LOCKS_A_CALL
returns-then-count-eq-LOCKS_A_CALL c =
    gathers-full _ _ _ _ _ _ _ _ c.items.invariant.gathers (omega (arith, c.if-count-eq-LOCKS_A_CALL.true)) (λ e. never (c.items-test.ensures.1 e)) c.refuse.ensures

pub returns-in-NoLock : goal.returns-in-NoLock
returns-in-NoLock c = gathers-none _ _ _ _ _ _ _ _ c.items.invariant.gathers (no_lock _ _ _ _ _ _ _ c.in-NoLock.ensures)

pub items-preserved : goal.items-preserved
items-preserved c =
    let few : c.items.count < 16 = omega (arith, c.if-count-eq-LOCKS_A_CALL.false, c.items.invariant.room) in
    let w = wanted _ _ _ _ _ _ _ c.in-Stored.ensures in
    let counted : c.items.count + 1 ≡ min 16 c.items.count + 1 = omega (arith, few) in record {
      gathers = gathers-want _ _ _ _ _ _ _ _ _ _ _ _ _ c.items.invariant.gathers w.first.1 w.first.2 counted w.is w.behind;
      room = omega (arith, few);
      within = w.long;
      front = c.name_front-front.ensures;
    }

pub returns-in-Refused : goal.returns-in-Refused
returns-in-Refused c =
    let w = wanted-not _ _ _ _ _ _ _ _ c.in-Refused.ensures in
    gathers-refused _ _ _ _ _ _ _ _ _ _ _ _ c.items.invariant.gathers c.items.invariant.room w.first.1 w.first.2 w.is c.refuse-in-Refused.ensures

pub returns-then-count-eq0 : goal.returns-then-count-eq0
returns-then-count-eq0 c =
    gathers-nothing _ _ _ _ _ _ c.items.wants c.items.invariant.gathers (c.items-test.ensures.0 refl) c.if-count-eq0.true

pub returns : goal.returns
returns c =
    gathers-end _ _ _ _ _ _ _ c.items.invariant.gathers (c.items-test.ensures.0 refl) (omega (arith, c.if-count-eq0.false)) c.items.invariant.room
    c.truncate.ensures.items
