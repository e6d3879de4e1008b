use Rattle.std.specs.Prelude.{string_bytes}
use Rattle.run_notes.proofs.WaitLemmas.{facts_further, lines_further}
use Rattle.run_notes.proofs.wait_clocks.WaitClocks.note_all.Goals as goal

pub loop-fact-preserved : goal.loop-fact-preserved
loop-fact-preserved c = record {
  clocks =
      facts_further c.args.tick c.args.facts.now c.loop-fact.fact-index c.fact-item.result c.loop-fact.self c.note.new.self _ c.loop-fact-test.true
      c.fact-item.is c.in_ok-note.ensures.clocks c.loop-fact.invariant.clocks;
  lines =
      lines_further c.args.tick c.args.facts.now c.loop-fact.fact-index c.fact-item.result c.loop-fact.self c.note.new.self
      (string_bytes c.loop-fact.text) _ _ c.loop-fact-test.true c.fact-item.is c.in_ok-note.ensures.clocks c.in_ok-note.ensures.text
      c.loop-fact.invariant.lines;
}
