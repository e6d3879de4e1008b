use Rattle.mac_text.proofs.AsciiLemmas.{counted_is_ascii}
use Rattle.mac_text.proofs.symbol.folded.Goals as goal

pub returns-clause-ascii : goal.returns-clause-ascii
returns-clause-ascii c = λ h. rw c.loop-i.invariant (counted_is_ascii c.loop-i.i c.args.name.now h)
