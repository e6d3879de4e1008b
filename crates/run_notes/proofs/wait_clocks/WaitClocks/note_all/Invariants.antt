use Rattle.std.proofs.Common.{◌≡◌, ◌++◌, drop, string_bytes}
use Rattle.run_notes.specs.Waits.{after_facts, wait_lines}
use Rattle.run_notes.proofs.wait_clocks.WaitClocks.note_all.Given as goal

-- with the other facts they are all
abbrev pub invariant-loop-fact : goal.invariant-loop-fact
invariant-loop-fact l = record {
  clocks : after_facts l.tick (drop l.fact-index l.facts) l.self ≡ after_facts l.tick l.facts l.initial.self;
  lines :
      string_bytes l.text ++ wait_lines l.tick (drop l.fact-index l.facts) l.self
      ≡ wait_lines l.tick l.facts l.initial.self;
}
