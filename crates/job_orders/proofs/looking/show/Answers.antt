use Rattle.job_orders.proofs.Showing.{kept-few, kept-framed, kept-numbered, kept-ready, kept-ready-on, kept-shown}
use Rattle.job_orders.proofs.looking.show.Goals as goal

pub set_out-requires : goal.set_out-requires
set_out-requires c = record {
  numbered =
      kept-numbered c.args.orders.now.start c.args.orders.now.machine c.args.orders.now.tables c.args.kept.now.states.keys
      c.args.kept.now.origins.items c.requires.kept c.requires.few c.args.position c.state.result.now c.requires.within c.state.ensures;
  few =
      kept-few c.args.orders.now.start c.args.orders.now.machine c.args.orders.now.tables c.args.kept.now.states.keys
      c.args.kept.now.origins.items c.requires.kept c.requires.few c.args.position c.state.result.now c.requires.within c.state.ensures;
  framed =
      kept-framed c.args.orders.now.start c.args.orders.now.machine c.args.orders.now.tables c.args.kept.now.states.keys
      c.args.kept.now.origins.items c.requires.kept c.requires.few c.args.position c.state.result.now c.requires.within c.state.ensures
      c.args.machine.now c.requires.ready;
  ready =
      kept-ready c.args.orders.now.start c.args.orders.now.machine c.args.orders.now.tables c.args.kept.now.states.keys
      c.args.kept.now.origins.items c.requires.kept c.requires.few c.args.position c.state.result.now c.requires.within c.state.ensures
      c.args.machine.now c.requires.ready;
}

pub returns-clause-shown : goal.returns-clause-shown
returns-clause-shown c =
    kept-shown c.args.orders.now.start c.args.orders.now.machine c.args.orders.now.tables c.args.kept.now.states.keys
    c.args.kept.now.origins.items c.requires.kept c.requires.few c.args.position c.state.result.now c.requires.within c.state.ensures
    c.args.machine.now c.requires.ready c.set_out.new.machine c.in_ok-set_out.ensures

pub returns-clause-ready : goal.returns-clause-ready
returns-clause-ready c =
    kept-ready-on c.args.orders.now.start c.args.orders.now.machine c.args.orders.now.tables c.args.kept.now.states.keys
    c.args.kept.now.origins.items c.requires.kept c.requires.few c.args.position c.state.result.now c.requires.within c.state.ensures
    c.args.machine.now c.requires.ready c.set_out.new.machine c.in_ok-set_out.ensures
