use Rattle.mac_source.proofs.PackedTexts.{packed_is}
use Rattle.mac_source.proofs.characters.packed.Goals as goal

pub returns-clause-value : goal.returns-clause-value
returns-clause-value c =
    packed_is c.args.text.now c.bits_at.result c.bits_at-2.result c.bits_at-3.result c.bits_at-4.result c.bits_at-5.result
    c.bits_at.ensures.value c.bits_at-2.ensures.value c.bits_at-3.ensures.value c.bits_at-4.ensures.value c.bits_at-5.ensures.value
