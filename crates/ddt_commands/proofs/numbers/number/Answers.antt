use Rattle.std.proofs.Common.{◌≡◌, ◌<◌, ◌+◌, ◌-◌, ◌*◌, ◌^◌, ◌∙◌, ap, ℕ, length, get_or, drop, arith}
use Rattle.std.specs.Prelude.{min}
use Rattle.ddt_commands.proofs.NumberLemmas.{digits_on, number_on, number_short}
use Rattle.ddt_commands.proofs.numbers.number.Goals as goal

pub loop-byte-preserved : goal.loop-byte-preserved
loop-byte-preserved c =
    let i : ℕ = c.loop-byte.byte-index in
    let byte : ℕ = get_or c.args.text.now i 0 in
    let within : i < length c.args.text.now = omega arith in
    let product : c.loop-byte.value * c.from.result ≡ c.loop-byte.value * c.args.radix =
    ap (λ (n : ℕ). c.loop-byte.value * n) c.from.ensures in
    let same : min (2 ^ 40) c.saturating_add-value.result ≡ min (2 ^ 40) (c.loop-byte.value * c.args.radix + (byte - 48)) = omega (arith, product) in
    record {
      digits = digits_on c.args.radix c.args.text.now i within (omega arith) (omega arith) ∙ c.loop-byte.invariant.digits;
      number =
          number_short c.args.radix (drop (i + 1) c.args.text.now) c.saturating_add-value.result (c.loop-byte.value * c.args.radix + (byte - 48)) c.requires.0 same
          ∙ ap (λ (n : ℕ). min (2 ^ 40) n) (number_on c.args.radix c.loop-byte.value c.args.text.now i within)
          ∙ c.loop-byte.invariant.number;
    }
