use Rattle.std.proofs.Common.{rules, ◌≡◌, ◌+◌, ◌≤◌, ◌<◌, ◌∙◌, ℕ, false, refl, sym, ap, arith, below_more}
use Rattle.ka_cpu.specs.Runs.{Ran, ran}
use Rattle.ka_state.specs.declared.outcome.Outcome.{Outcome}
use Rattle.machine.specs.Between.{is_among}
use Rattle.monitor.proofs.Running.{ran_more, start}
use Rattle.monitor.proofs.runner.UpToRunner.run.Goals as goal

pub loop-done-init : goal.loop-done-init
loop-done-init c = record {
  after = start c.args.regs.now c.args.words.now;
  none_over = λ k less some. absurd (omega (arith, less, some));
  place = refl;
}

pub returns-then-is_among-clause-ran : goal.returns-then-is_among-clause-ran
returns-then-is_among-clause-ran c =
    let p =
    ap (λ (o : Outcome). record {
      steps = c.loop-done.done + 1;
      after = record { regs = c.step_in_loop.new.regs; core = c.step_in_loop.new.memory.words.now; outcome = o };
    }) (sym c.in-Done.is)
    ∙ ran_more c.loop-done.done c.args.regs.now c.loop-done.regs c.step_in_loop.new.regs c.args.words.now c.loop-done.memory.words.now
    c.step_in_loop.new.memory.words.now c.step_in_loop.result c.loop-done.invariant.after c.step_in_loop.ensures.exec in
    search (rules, p)

pub returns-in_default : goal.returns-in_default
returns-in_default c =
    let p =
    ran_more c.loop-done.done c.args.regs.now c.loop-done.regs c.step_in_loop.new.regs c.args.words.now c.loop-done.memory.words.now
    c.step_in_loop.new.memory.words.now c.step_in_loop.result c.loop-done.invariant.after c.step_in_loop.ensures.exec in
    let q : (k : ℕ) → 1 ≤ k → k < c.loop-done.done + 1 → is_among c.args.self.now.addresses.now (ran k c.args.regs.now c.args.words.now).after.regs.pc ≡ false =
    λ k some less. c.loop-done.invariant.none_over k less some in
    search (rules, p, q)

pub loop-done-preserved : goal.loop-done-preserved
loop-done-preserved c =
    let p =
    ap (λ (o : Outcome). record {
      steps = c.loop-done.done + 1;
      after = record { regs = c.step_in_loop.new.regs; core = c.step_in_loop.new.memory.words.now; outcome = o };
    }) (sym c.in-Done.is)
    ∙ ran_more c.loop-done.done c.args.regs.now c.loop-done.regs c.step_in_loop.new.regs c.args.words.now c.loop-done.memory.words.now
    c.step_in_loop.new.memory.words.now c.step_in_loop.result c.loop-done.invariant.after c.step_in_loop.ensures.exec in
    let here : is_among c.args.self.now.addresses.now c.step_in_loop.new.regs.pc ≡ false = sym c.is_among.ensures ∙ c.if-is_among.false in
    let there : is_among c.args.self.now.addresses.now (ran (c.loop-done.done + 1) c.args.regs.now c.args.words.now).after.regs.pc ≡ false =
    ap (λ (r : Ran). is_among c.args.self.now.addresses.now r.after.regs.pc) (sym p) ∙ here in
    record {
      after = p;
      none_over = below_more _ _ c.loop-done.invariant.none_over (λ _. there);
      place = c.step_in_loop.ensures.place ∙ c.loop-done.invariant.place;
    }
