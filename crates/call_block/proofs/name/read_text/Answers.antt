use Rattle.std.proofs.Common.{◌∙◌, sym}
use Rattle.call_block.proofs.NameLemmas.{text_of-legal, name_text-new}
use Rattle.call_block.proofs.name.read_text.Goals as goal

pub returns : goal.returns
returns g c =
    let made = name_text-new c.name.result c.in-Some.text c.name.ensures.variant c.name.ensures.value in
    c.ok_or.ensures.value ∙ made ∙ sym (text_of-legal c.in-Some.text _ c.in-Some.ensures)
