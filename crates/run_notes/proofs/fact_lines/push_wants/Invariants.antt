use Rattle.std.proofs.Common.{◌≡◌, ◌++◌, drop, string_bytes}
use Rattle.run_notes.specs.Words.{wants_words}
use Rattle.run_notes.proofs.fact_lines.push_wants.Given as goal

abbrev pub invariant-loop-want : goal.invariant-loop-want
invariant-loop-want l =
    string_bytes l.text ++ wants_words (drop l.want-index l.wants) ≡ string_bytes l.initial.text ++ wants_words l.wants
