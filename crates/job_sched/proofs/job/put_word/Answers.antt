use Rattle.std.proofs.Common.{sym}
use Rattle.std.proofs.lemmas.List.{set_past}
use Rattle.job_sched.proofs.job.put_word.Goals as goal

pub returns-else-index-words : goal.returns-else-index-words
returns-else-index-words c = sym (set_past c.args.words.now c.args.index c.args.word c.if-index-words.false)
