use Rattle.std.proofs.Common.{ap, append_assoc}
use Rattle.std.proofs.Output.{has_written_of_eq}
use Rattle.script_reasons.specs.Sentences.{level_of, level_text}
use Rattle.script_reasons.proofs.sentences.LevelTextDisplay.fmt.Goals as goal

pub returns-clause-writes : goal.returns-clause-writes
unfolding level_text
returns-clause-writes g c = λ plain ok.
    let want = c.args.self.now.0.now in
    let text = level_of c.number-level.result want.key in
    has_written_of_eq _ _ text _ _ (ap (λ level. level_of level want.key) c.number-level.ensures.value)
    (has_written_of_eq _ _ _ text _ (simp append_assoc) (c.write.ensures.writes plain ok))
