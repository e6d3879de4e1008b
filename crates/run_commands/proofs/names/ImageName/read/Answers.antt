use Rattle.std.proofs.Common.{sym}
use Rattle.run_commands.proofs.NameLemmas.{name-utf8}
use Rattle.run_commands.proofs.names.ImageName.read.Goals as goal

pub returns-in_default : goal.returns-in_default
returns-in_default c =
    let named = c.if-not-is_name.ensures in
    absurd (c.in_default.ensures.cases.0 (name-utf8 _ (sym named)))
