use Rattle.std.proofs.Common.{append_assoc, refl}
use Rattle.std.proofs.Output.{has_written_of_eq}
use Rattle.lock_reasons.specs.declared.reasons.Met.TheVariants as met
use Rattle.script_reasons.specs.Sentences.{wants_by, who_text}
use Rattle.script_reasons.proofs.SentenceLemmas.{by_case, same_two}
use Rattle.script_reasons.proofs.sentences.WhoTextDisplay.fmt.Goals as goal

pub returns-in-InQueue-clause-writes : goal.returns-in-InQueue-clause-writes
returns-in-InQueue-clause-writes g c = λ plain ok.
    let present = c.in-InQueue.present in
    let text = wants_by present.job c.number-id.result in
    has_written_of_eq _ _ text _ _
    (by_case who_text c.args.self.now.0.now (met.InQueue present) text c.in-InQueue.is
    (same_two wants_by present.job present.job c.number-id.result present.id refl c.number-id.ensures.value))
    (has_written_of_eq _ _ _ text _ (simp append_assoc) (c.write.ensures.writes plain ok))
