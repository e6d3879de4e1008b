use Rattle.std.proofs.Common.{subst, sym}
use Rattle.job_orders.specs.Systems.{Begun, IsReady}
use Rattle.job_orders.proofs.Made.{packed-framed, packed-many, packed-shows}
use Rattle.job_orders.proofs.orders.OrdersMoves.first_state.Goals as goal

pub returns-clause-first : goal.returns-clause-first
returns-clause-first c =
    let b : Begun = c.pack.new.self in
    packed-shows b c.in_ok-packed.ensures.begun c.pack.new.tables c.in_ok-packed.packed b.state c.in_ok-packed.ensures.begun.framed
    c.in_ok-packed.ensures.form

pub returns-clause-sound : goal.returns-clause-sound
returns-clause-sound c =
    let b : Begun = c.pack.new.self in
    record {
      right = c.in_ok-packed.ensures.learns.right c.are_right.ensures;
      numbered = c.in_ok-packed.ensures.numbered;
      many = packed-many b c.in_ok-packed.ensures.begun c.pack.new.tables c.in_ok-packed.packed b.state c.in_ok-packed.ensures.begun.framed
          c.in_ok-packed.ensures.form;
      framed = packed-framed b c.in_ok-packed.ensures.begun c.pack.new.tables c.in_ok-packed.packed b.state c.in_ok-packed.ensures.begun.framed
          c.in_ok-packed.ensures.form;
      ready = subst (λ (s : Begun). IsReady s.state.machine.quantum s.state.machine.blocks c.in_ok-machine.machine) (sym c.in_ok-packed.ensures.same)
          c.in_ok-machine.ensures;
    }
