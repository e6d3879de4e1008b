use Rattle.std.proofs.Common.{◌≡◌, drop}
use Rattle.machine.specs.Images.{loaded}
use Rattle.monitor.proofs.login.load_words.Given as goal

abbrev pub invariant-loop-entry : goal.invariant-loop-entry
invariant-loop-entry g l = record {
  rest : loaded (record { regs = l.regs; core = g.M.ReadMemory.words l.memory }) (drop l.entry-index l.words)
      ≡ loaded (record { regs = l.fn.regs; core = g.M.ReadMemory.words l.fn.memory }) l.words;
  lent : g.M.JobMemory.place l.memory ≡ g.M.JobMemory.place l.fn.memory;
}
