-- A shift and a mask are the bits of a word.
use Rattle.std.proofs.Common.{◌≡◌, ℕ, ◌+◌, ◌-◌, ◌*◌, ◌/◌, ◌%◌, ◌^◌, ◌<◌, ◌≤◌, arith}
use Rattle.std.specs.Prelude.{bit_and}
use Rattle.std.proofs.lemmas.Nat.{and_mask}
use Rattle.std.proofs.Math.Pow.{pow_mono}
use Rattle.std.proofs.Math.Nat.{mod-eq_of_lt}
use Rattle.call_block.specs.Bits.{bits}

pub bits_masked : (first last w : ℕ) → last ≤ 35 → bit_and (w / 2 ^ (35 - last)) (1 * 2 ^ (last + 1 - first) % 18446744073709551616 - 1) ≡ bits first last w
bits_masked first last w h =
    let at_most : 2 ^ (last + 1 - first) ≤ 2 ^ 36 = pow_mono {i = last + 1 - first} {j = 36} (omega arith) in
    let below : 1 * 2 ^ (last + 1 - first) < 18446744073709551616 = omega arith in
    let whole : 1 * 2 ^ (last + 1 - first) % 18446744073709551616 ≡ 2 ^ (last + 1 - first) = grind (arith, mod-eq_of_lt below) in
    rw whole (and_mask (w / 2 ^ (35 - last)) (last + 1 - first))
