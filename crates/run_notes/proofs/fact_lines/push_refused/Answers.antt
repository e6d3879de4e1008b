use Rattle.run_notes.proofs.fact_lines.push_refused.Goals as goal

pub returns : goal.returns
returns c = rw (← c.code.ensures, ← c.meaning_of.ensures) c.push_refused_with.ensures
