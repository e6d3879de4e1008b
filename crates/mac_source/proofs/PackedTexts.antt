-- The word of the first five characters of a text.
use Rattle.std.proofs.Common.{◌≡◌, ◌∙◌, ap, ℕ, ◌+◌, ◌*◌, ◌%◌, ◌^◌, List}
use Rattle.std.specs.Prelude.{slice_index}
use Rattle.mac_asm.specs.Packing.{ascii_word}

pub packed_is : (text : List ℕ) (a b c d e : ℕ) → a ≡ slice_index text 0 % 128 → b ≡ slice_index text 1 % 128 → c ≡ slice_index text 2 % 128
    → d ≡ slice_index text 3 % 128 → e ≡ slice_index text 4 % 128
    → a * 2 ^ 29 + b * 2 ^ 22 + c * 2 ^ 15 + d * 2 ^ 8 + e * 2 ≡ ascii_word text 0
unfolding ascii_word
packed_is text a b c d e h i j k l =
    let at : ℕ → ℕ = λ n. slice_index text n % 128 in
    ap (λ n. n * 2 ^ 29 + b * 2 ^ 22 + c * 2 ^ 15 + d * 2 ^ 8 + e * 2) h
    ∙ (ap (λ n. at 0 * 2 ^ 29 + n * 2 ^ 22 + c * 2 ^ 15 + d * 2 ^ 8 + e * 2) i
    ∙ (ap (λ n. at 0 * 2 ^ 29 + at 1 * 2 ^ 22 + n * 2 ^ 15 + d * 2 ^ 8 + e * 2) j
    ∙ (ap (λ n. at 0 * 2 ^ 29 + at 1 * 2 ^ 22 + at 2 * 2 ^ 15 + n * 2 ^ 8 + e * 2) k
    ∙ ap (λ n. at 0 * 2 ^ 29 + at 1 * 2 ^ 22 + at 2 * 2 ^ 15 + at 3 * 2 ^ 8 + n * 2) l)))
