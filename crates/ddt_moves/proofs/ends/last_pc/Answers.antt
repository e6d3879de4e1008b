use Rattle.std.proofs.Common.{◌≡◌, ◌∙◌, sym, ap, refl, true, ℕ, List, None, Option}
use Rattle.machine.specs.Between.{pc_in}
use Rattle.machine.specs.Machine.{S}
use Rattle.ddt_timeline.specs.declared.entries.Entry.{Entry}
use Rattle.ddt_timeline.specs.Stops.{is_job}
use Rattle.ddt_timeline.specs.Views.{history}
use Rattle.ddt_moves.specs.Replays.{is_ready, machine_in, to_come}
use Rattle.ddt_moves.specs.Turns.{states_before, states_in}
use Rattle.ddt_moves.proofs.ReplayLemmas.{fewer-left}
use Rattle.ddt_moves.proofs.TurnLemmas.{pc_after, pc-last, pc-next, states-none}
use Rattle.ddt_moves.proofs.ends.last_pc.Goals as goal

pub loop-replay-init : goal.loop-replay-init
loop-replay-init c =
    ap (λ (l : List Entry). pc_after c.args.job (states_before l (machine_in c.in_ok-replay.replay)) None) c.in_ok-replay.ensures.to_come
    ∙ ap (λ (x : S). pc_after c.args.job (states_before (history c.args.timeline.now).past x) None) c.in_ok-replay.ensures.machine

pub loop-replay-smaller-then-is_job : goal.loop-replay-smaller-then-is_job
loop-replay-smaller-then-is_job c =
    let ready : is_ready c.go_before_step.new.self ≡ true = sym c.go_before_step.ensures.ready ∙ c.loop-replay-test.true in
    fewer-left (to_come c.step.new.self) (to_come c.loop-replay.replay) (c.step.ensures.made ready ∙ c.go_before_step.ensures.to_come)

pub loop-replay-smaller : goal.loop-replay-smaller
loop-replay-smaller c =
    let ready : is_ready c.go_before_step.new.self ≡ true = sym c.go_before_step.ensures.ready ∙ c.loop-replay-test.true in
    fewer-left (to_come c.step.new.self) (to_come c.loop-replay.replay) (c.step.ensures.made ready ∙ c.go_before_step.ensures.to_come)

pub loop-replay-preserved-then-is_job : goal.loop-replay-preserved-then-is_job
loop-replay-preserved-then-is_job c =
    let ready : is_ready c.go_before_step.new.self ≡ true = sym c.go_before_step.ensures.ready ∙ c.loop-replay-test.true in
    pc-next c.args.job (to_come c.loop-replay.replay) (to_come c.step.new.self) (machine_in c.loop-replay.replay)
    (machine_in c.go_before_step.new.self) (machine_in c.step.new.self) c.loop-replay.last c.pc_of-pc.result _
    (c.step.ensures.made ready ∙ c.go_before_step.ensures.to_come) c.go_before_step.ensures.machine (c.step.ensures.machine ready)
    (ap (λ (o : Option ℕ). is_job o c.args.job) (sym (c.step.ensures.ran ready)) ∙ sym c.is_job.ensures ∙ c.if-is_job.true)
    (c.pc_of-pc.ensures ∙ ap (λ (x : S). pc_in x c.args.job) c.machine.ensures)
    ∙ c.loop-replay.invariant

pub loop-replay-preserved : goal.loop-replay-preserved
loop-replay-preserved c =
    let ready : is_ready c.go_before_step.new.self ≡ true = sym c.go_before_step.ensures.ready ∙ c.loop-replay-test.true in
    pc-next c.args.job (to_come c.loop-replay.replay) (to_come c.step.new.self) (machine_in c.loop-replay.replay)
    (machine_in c.go_before_step.new.self) (machine_in c.step.new.self) c.loop-replay.last c.loop-replay.last _
    (c.step.ensures.made ready ∙ c.go_before_step.ensures.to_come) c.go_before_step.ensures.machine (c.step.ensures.machine ready)
    (ap (λ (o : Option ℕ). is_job o c.args.job) (sym (c.step.ensures.ran ready)) ∙ sym c.is_job.ensures ∙ c.if-is_job.false)
    refl
    ∙ c.loop-replay.invariant

pub returns : goal.returns
returns c =
    sym
    (ap (λ (ss : List S). pc_after c.args.job ss c.loop-replay.last)
    (states-none (to_come c.loop-replay.replay) (to_come c.go_before_step.new.self) (machine_in c.loop-replay.replay)
    c.go_before_step.ensures.to_come (c.go_before_step.ensures.end c.loop-replay-test.false)))
    ∙ c.loop-replay.invariant
    ∙ pc-last c.args.job (states_in (history c.args.timeline.now))
