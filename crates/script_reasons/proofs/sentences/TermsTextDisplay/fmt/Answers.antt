use Rattle.std.proofs.Common.{Some, append_assoc}
use Rattle.std.proofs.Output.{has_written_of_eq}
use Rattle.script_reasons.specs.Sentences.{terms_in, terms_of}
use Rattle.script_reasons.proofs.SentenceLemmas.{by_case, same_two}
use Rattle.script_reasons.proofs.sentences.TermsTextDisplay.fmt.Goals as goal

pub returns-in-Some-clause-writes : goal.returns-in-Some-clause-writes
returns-in-Some-clause-writes g c = λ plain ok.
    let want = c.args.self.now.0.now in
    let text = terms_of c.number-level.result c.size-size.result in
    has_written_of_eq _ _ text _ _
    (by_case (terms_in want.level) want.pool (Some c.in-Some.pool) text c.in-Some.is
    (same_two terms_of c.number-level.result want.level c.size-size.result c.in-Some.pool.size c.number-level.ensures.value
    c.size-size.ensures.value))
    (has_written_of_eq _ _ _ text _ (simp append_assoc) (c.write.ensures.writes plain ok))
