use Rattle.std.proofs.Common.{◌≡◌, ◌++◌, drop, string_bytes}
use Rattle.run_notes.specs.FactWords.{facts_text}
use Rattle.run_notes.proofs.fact_lines.facts_text.Given as goal

-- the lines so far, and those on the other facts, are all lines
abbrev pub invariant-loop-fact : goal.invariant-loop-fact
invariant-loop-fact l =
    string_bytes l.text ++ facts_text l.machine l.tick (drop l.fact-index l.facts) ≡ facts_text l.machine l.tick l.facts
