use Rattle.std.proofs.Common.{◌≡◌, ◌≤◌, ◌+◌, ◌*◌, ◌++◌, [], length}
use Rattle.word36.specs.declared.sizes.TheConstants.{OUTPUT_RING, TAKEN_AT_ONCE}
use Rattle.tty_lines.specs.Rings.{output_of, with_output}
use Rattle.job_turns.proofs.output.take_output.Given as goal

abbrev pub invariant-loop : goal.invariant-loop
invariant-loop l = record {
  text : l.text.items ++ output_of l.lines l.line ≡ l.fn.text.items ++ output_of l.fn.lines l.line;
  lines : with_output l.lines l.line [] ≡ with_output l.fn.lines l.line [];
  fewer : length (output_of l.lines l.line) + l.counter * TAKEN_AT_ONCE ≤ OUTPUT_RING;
}
