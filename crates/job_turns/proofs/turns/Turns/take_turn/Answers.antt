use Rattle.job_turns.proofs.Turning.{turn-made}
use Rattle.job_turns.proofs.turns.Turns.take_turn.Goals as goal

pub returns : goal.returns
returns g c =
    turn-made (λ text. text.items) c.args.self.now c.self.inside.world c.run_and_take.new.world c.self.inside.quantum c.self.inside.blocks c.args.n
    c.pc_of-pc.result c.self.inside.texts.items c.index_mut.result.now c.run_and_take.new.text c.self.inside.last c.self.view_is
    c.requires.sound c.requires.ready c.self.invariant c.index_mut.ensures.value c.in_ok-run_and_take.ensures.world
    c.in_ok-run_and_take.ensures.text c.pc_of-pc.ensures
