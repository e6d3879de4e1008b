use Rattle.ka_word.proofs.ByteBounds.{deposit_at, deposit_below}
use Rattle.ka_word.proofs.bytes.replace_bits.Goals as goal

pub new-requires : goal.new-requires
new-requires c =
    let w = c.number-number.result in
    let a = c.number.result in
    let e = deposit_at w a c.args.p c.args.count c.low_part.result c.low_part-2.result c.requires c.low_part.ensures.value c.low_part-2.ensures.value in
    rw e (deposit_below w a c.args.p c.args.count c.number-number.ensures.below c.requires)
