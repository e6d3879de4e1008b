use Rattle.std.proofs.Common.{◌≡◌, ◌∙◌, Some, None, cond, refl, sym, ap, subst}
use Rattle.job_moves.specs.Moves.{next}
use Rattle.job_order_laws.specs.Turned.{V}
use Rattle.job_orders.specs.Systems.{Begun, IsReady, IsReadyFor, IsSoundState, shown_by}
use Rattle.job_orders.specs.Tables.{form_of}
use Rattle.job_orders.specs.Views.{form_in}
use Rattle.job_orders.proofs.Made.{framed-ready, made-framed, made-sound, set-as, some-made}
use Rattle.job_orders.proofs.orders.OrdersMoves.make_move.Goals as goal

pub returns-clause-next : goal.returns-clause-next
returns-clause-next c =
    let b : Begun = c.args.self.now.start in
    let ready = subst (IsReadyFor c.args.self.now.start) c.in-Some.is c.requires.sound.ready in
    let is : c.set_out.new.machine ≡ shown_by c.args.self.now.start c.args.self.now.tables c.args.state.now =
    set-as b.state.machine.quantum b.state.machine.blocks c.in-Some.machine c.set_out.new.machine (form_of c.args.self.now.tables c.args.state.now) ready
    c.in_ok-set_out.ensures in
    let made : next c.args.self.now.start.most c.args.self.now.start.count c.set_out.new.machine c.args.by ≡ Some c.take_move.new.machine =
    sym (ap (λ m. next m c.count-count.result c.set_out.new.machine c.args.by) c.most-most.ensures
    ∙ ap (λ n. next c.args.self.now.start.most n c.set_out.new.machine c.args.by) c.count-count.ensures.count)
    ∙ c.in_ok-take_move.ensures.made ∙ ap (λ z. cond z (Some c.take_move.new.machine) None) c.if-not-branch.false in
    let form = c.in_ok-packed.ensures.form ∙ ap (λ n. form_in n c.take_move.new.machine) c.count-count.ensures.count in
    some-made b c.count-count.ensures.begun c.args.self.now.machine c.args.self.now.tables c.args.state.now c.args.by c.requires.within c.requires.sound
    c.set_out.new.machine c.take_move.new.machine is made
    c.pack.new.tables c.in_ok-packed.packed c.in_ok-packed.ensures.learns c.in_ok-packed.ensures.numbered form

pub returns-clause-kept_sound : goal.returns-clause-kept_sound
returns-clause-kept_sound c =
    let b : Begun = c.args.self.now.start in
    let ready = subst (IsReadyFor c.args.self.now.start) c.in-Some.is c.requires.sound.ready in
    let is : c.set_out.new.machine ≡ shown_by c.args.self.now.start c.args.self.now.tables c.args.state.now =
    set-as b.state.machine.quantum b.state.machine.blocks c.in-Some.machine c.set_out.new.machine (form_of c.args.self.now.tables c.args.state.now) ready
    c.in_ok-set_out.ensures in
    let made : next c.args.self.now.start.most c.args.self.now.start.count c.set_out.new.machine c.args.by ≡ Some c.take_move.new.machine =
    sym (ap (λ m. next m c.count-count.result c.set_out.new.machine c.args.by) c.most-most.ensures
    ∙ ap (λ n. next c.args.self.now.start.most n c.set_out.new.machine c.args.by) c.count-count.ensures.count)
    ∙ c.in_ok-take_move.ensures.made ∙ ap (λ z. cond z (Some c.take_move.new.machine) None) c.if-not-branch.false in
    let form = c.in_ok-packed.ensures.form ∙ ap (λ n. form_in n c.take_move.new.machine) c.count-count.ensures.count in
    subst (λ (v : V). IsSoundState c.args.self.now.start (Some v) c.pack.new.tables c.in_ok-packed.packed) (sym c.in_ok-packed.ensures.same)
    (made-sound b c.count-count.ensures.begun c.args.self.now.machine c.args.self.now.tables c.args.state.now c.args.by c.requires.within c.requires.sound
    c.set_out.new.machine c.take_move.new.machine is made
    c.pack.new.tables c.in_ok-packed.packed c.in_ok-packed.ensures.learns c.in_ok-packed.ensures.numbered form)

pub returns-clause-extends : goal.returns-clause-extends
returns-clause-extends c =
    let b : Begun = c.args.self.now.start in
    let ready = subst (IsReadyFor c.args.self.now.start) c.in-Some.is c.requires.sound.ready in
    let is : c.set_out.new.machine ≡ shown_by c.args.self.now.start c.args.self.now.tables c.args.state.now =
    set-as b.state.machine.quantum b.state.machine.blocks c.in-Some.machine c.set_out.new.machine (form_of c.args.self.now.tables c.args.state.now) ready
    c.in_ok-set_out.ensures in
    let made : next c.args.self.now.start.most c.args.self.now.start.count c.set_out.new.machine c.args.by ≡ Some c.take_move.new.machine =
    sym (ap (λ m. next m c.count-count.result c.set_out.new.machine c.args.by) c.most-most.ensures
    ∙ ap (λ n. next c.args.self.now.start.most n c.set_out.new.machine c.args.by) c.count-count.ensures.count)
    ∙ c.in_ok-take_move.ensures.made ∙ ap (λ z. cond z (Some c.take_move.new.machine) None) c.if-not-branch.false in
    let form = c.in_ok-packed.ensures.form ∙ ap (λ n. form_in n c.take_move.new.machine) c.count-count.ensures.count in
    record {
      begun = refl;
      learns = c.in_ok-packed.ensures.learns;
      ready = λ _.
          subst (IsReady b.state.machine.quantum b.state.machine.blocks) (sym c.in_ok-packed.ensures.same)
          (framed-ready b.state.machine.quantum b.state.machine.blocks b.count c.take_move.new.machine
          (made-framed b c.count-count.ensures.begun c.args.self.now.machine c.args.self.now.tables c.args.state.now c.args.by c.requires.within c.requires.sound
          c.set_out.new.machine c.take_move.new.machine is made));
    }
