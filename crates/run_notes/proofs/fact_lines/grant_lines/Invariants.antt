use Rattle.std.proofs.Common.{◌≡◌, ◌++◌, drop, string_bytes}
use Rattle.run_notes.specs.FactWords.{grants_text}
use Rattle.run_notes.proofs.fact_lines.grant_lines.Given as goal

-- the lines so far, and those on the other facts, are all lines
abbrev pub invariant-loop-fact : goal.invariant-loop-fact
invariant-loop-fact l = string_bytes l.text ++ grants_text l.tick (drop l.fact-index l.facts) ≡ grants_text l.tick l.facts
