use Rattle.std.proofs.Common.{◌≡◌, [], map, replicate}
use Rattle.job_turns.proofs.turns.no_texts.Given as goal

abbrev pub invariant-loop : goal.invariant-loop
invariant-loop l = map (λ text. text.items) l.texts.items ≡ replicate l.counter []
