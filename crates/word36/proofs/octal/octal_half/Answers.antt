use Rattle.word36.proofs.OctalLemmas.{IsUtf8_octal}
use Rattle.word36.proofs.octal.octal_half.Goals as goal

pub unwrap-requires : goal.unwrap-requires
unwrap-requires c = c.from_byte_string.ensures.variant.1 (rw c.octal_digits.ensures (IsUtf8_octal 6 c.args.half))
