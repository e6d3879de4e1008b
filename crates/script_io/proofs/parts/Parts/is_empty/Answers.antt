use Rattle.script_io.proofs.NumberLemmas.{parts_after-empty}
use Rattle.script_io.proofs.parts.Parts.is_empty.Goals as goal

pub returns : goal.returns
returns c = parts_after-empty _ _ _ _ c.self.view_is c.is_none.ensures
