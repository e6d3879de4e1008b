use Rattle.std.proofs.Common.{ℕ, List, Some, ◌≡◌, ◌+◌, ◌-◌, ◌/◌, length}
use Rattle.ka_state.specs.Memory.{word_below}
use Rattle.uuo_calls.specs.TerminalRows.{text_from}
use Rattle.uuo_calls.proofs.output.add_word.Given as goal

-- what is left of the text is the same from every place where the word stands
abbrev pub invariant-loop-k : goal.invariant-loop-k
invariant-loop-k l = record {
  rest : (ac core : List ℕ) (e n : ℕ) → word_below ac core (e + length l.fn.text.items / 5) ≡ Some l.word
      → text_from ac core e l.fn.text.items (n + l.count) ≡ text_from ac core e l.text.items (n + (l.count - l.k));
  long : length l.text.items ≡ length l.fn.text.items + l.k;
}
