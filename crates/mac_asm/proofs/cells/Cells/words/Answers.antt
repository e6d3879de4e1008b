use Rattle.std.proofs.Common.{ap, sym, ◌∙◌}
use Rattle.std.proofs.lemmas.Result.{IfOk-weaker}
use Rattle.mac_asm.specs.Filled.{words_in_cells}
use Rattle.mac_asm.proofs.CellLemmas.{words_of_first}
use Rattle.mac_asm.proofs.cells.Cells.words.Goals as goal

pub returns : goal.returns
returns c =
    IfOk-weaker c.words_in_cells.result _ _
    (λ words is. is ∙ ap (words_in_cells 0) c.as_slice.ensures.value ∙ sym (words_of_first c.self.inside.first.items)
    ∙ ap (words_in_cells 0) c.self.view_is) c.words_in_cells.ensures
