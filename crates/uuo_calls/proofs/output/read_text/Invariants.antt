use Rattle.std.proofs.Common.{◌≡◌, ◌-◌, ◌*◌, [], length}
use Rattle.word36.specs.declared.sizes.TheConstants.{OUTPUT_RING}
use Rattle.uuo_calls.specs.TerminalRows.{text_from}
use Rattle.uuo_calls.proofs.output.read_text.Given as goal

abbrev pub invariant-loop-i : goal.invariant-loop-i
invariant-loop-i g l = record {
  rest : text_from l.regs.ac (g.M.ReadMemory.words l.memory) l.fn.e l.text.items (OUTPUT_RING - 5 * l.i)
      ≡ text_from l.regs.ac (g.M.ReadMemory.words l.memory) l.fn.e [] OUTPUT_RING;
  long : length l.text.items ≡ 5 * l.i;
  same : l.memory ≡ l.fn.memory;
}
