use Rattle.std.proofs.Common.{arith}
use Rattle.script_io.specs.Numbers.{parts}
use Rattle.queue_script.proofs.ItemLemmas.{plain-all}
use Rattle.queue_script.proofs.WantLemmas.{gathers-one}
use Rattle.queue_script.proofs.call_wants.read_one.Goals as goal

pub returns : goal.returns
returns c =
    gathers-one c.args.job c.args.block_use (parts 32 c.args.text.now) c.spelled.result c.args.wants.now.items c.store_plain-outcome.new.wants.items
    c.truncate.new.self c.store_plain-outcome.result
    (rw c.spelled.ensures (plain-all c.args.text.now (omega (arith, c.requires.some)) c.requires.named)) c.store_plain-outcome.ensures
    (λ _. c.truncate.ensures.items)
