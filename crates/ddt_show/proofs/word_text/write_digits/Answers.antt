use Rattle.std.proofs.Common.{◌≡◌, ◌∙◌, ◌-◌, true, ap, sym, take, drop}
use Rattle.std.proofs.lemmas.List.{take_rest}
use Rattle.std.specs.Char.{encode_utf8}
use Rattle.std.specs.Fmt.{digits}
use Rattle.std.specs.List.{flat_map}
use Rattle.ddt_show.proofs.RadixLemmas.{digits_text}
use Rattle.ddt_show.proofs.word_text.write_digits.Goals as goal

pub returns : goal.returns
returns g c =
    let made = c.digits_of-first in
    let whole : flat_map encode_utf8 (take (64 - made.result.1) (drop made.result.1 made.result.0))
    ≡ digits c.args.radix true c.args.number =
    ap (flat_map encode_utf8)
    (ap (λ n. take (n - made.result.1) (drop made.result.1 made.result.0)) (sym made.ensures.size)
    ∙ take_rest made.result.0 made.result.1 ∙ made.ensures.digits ∙ ap (λ r. digits r true c.args.number) c.from.ensures)
    ∙ digits_text c.args.radix c.args.number c.requires.least c.requires.most in
    rw (← whole) c.write.ensures.writes
