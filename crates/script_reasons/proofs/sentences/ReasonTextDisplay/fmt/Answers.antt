use Rattle.std.proofs.Common.{◌++◌, ap, append_assoc, refl}
use Rattle.std.proofs.Output.{has_written_of_eq}
use Rattle.std.specs.Prelude.{codes, decimal}
use Rattle.lock_bars.specs.Names.{label_text}
use Rattle.lock_reasons.specs.declared.reasons.Reason.TheVariants as reason
use Rattle.script_reasons.specs.Sentences.{no_request_of, reason_text, would_lose}
use Rattle.script_reasons.proofs.SentenceLemmas.{by_case}
use Rattle.script_reasons.proofs.sentences.ReasonTextDisplay.fmt.Goals as goal

pub returns-in-NotPresent-clause-writes : goal.returns-in-NotPresent-clause-writes
returns-in-NotPresent-clause-writes g c = λ plain ok.
    let job = c.args.self.now.job in
    let text = codes "job " ++ decimal job ++ codes " has no request for " ++ label_text c.in-NotPresent.want.key in
    has_written_of_eq _ _ text _ _
    (by_case (reason_text job) c.args.self.now.reason.now (reason.NotPresent c.in-NotPresent.want) text c.in-NotPresent.is refl)
    (has_written_of_eq _ _ _ text _ (simp append_assoc) (c.write-in-NotPresent.ensures.writes plain ok))

pub returns-in-NoRequest-clause-writes : goal.returns-in-NoRequest-clause-writes
returns-in-NoRequest-clause-writes g c = λ plain ok.
    let job = c.args.self.now.job in
    let text = codes "job " ++ decimal job ++ codes " has no request" in
    has_written_of_eq _ _ text _ _
    (by_case (reason_text job) c.args.self.now.reason.now (reason.NoRequest) text c.in-NoRequest.is refl)
    (has_written_of_eq _ _ _ text _ (simp append_assoc) (c.write-in-NoRequest.ensures.writes plain ok))

pub returns-in-NoRequestOf-clause-writes : goal.returns-in-NoRequestOf-clause-writes
returns-in-NoRequestOf-clause-writes g c = λ plain ok.
    let job = c.args.self.now.job in
    let text = no_request_of job c.number-id.result in
    has_written_of_eq _ _ text _ _
    (by_case (reason_text job) c.args.self.now.reason.now (reason.NoRequestOf c.in-NoRequestOf.id) text c.in-NoRequestOf.is (ap (no_request_of job) c.number-id.ensures.value))
    (has_written_of_eq _ _ _ text _ (simp append_assoc) (c.write-in-NoRequestOf.ensures.writes plain ok))

pub returns-in-WouldLose-clause-writes : goal.returns-in-WouldLose-clause-writes
returns-in-WouldLose-clause-writes g c = λ plain ok.
    let job = c.args.self.now.job in
    let text = would_lose c.in-WouldLose.other c.number-id-in-WouldLose.result in
    has_written_of_eq _ _ text _ _
    (by_case (reason_text job) c.args.self.now.reason.now (reason.WouldLose c.in-WouldLose.other c.in-WouldLose.id) text c.in-WouldLose.is (ap (would_lose c.in-WouldLose.other) c.number-id-in-WouldLose.ensures.value))
    (has_written_of_eq _ _ _ text _ (simp append_assoc) (c.write-in-WouldLose.ensures.writes plain ok))
