use Rattle.std.proofs.Common.{◌≡◌, ◌+◌, ◌-◌, length}
use Rattle.ka_state.specs.Copies.{copied}
use Rattle.ka_state.proofs.core_words.copy_within.Given as goal

abbrev pub invariant-loop-i : goal.invariant-loop-i
invariant-loop-i l = record {
  copied : copied (l.count - l.i) l.words (l.from + l.i) (l.to + l.i) ≡ copied l.count l.fn.words l.from l.to;
  size : length l.words ≡ length l.fn.words;
}
