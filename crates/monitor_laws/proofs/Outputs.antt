-- What characters of another line, and typed ones, leave of a line's output.
use Rattle.std.proofs.Common.{◌≡◌, ◌≢◌, ◌<◌, ap, subst, ℕ, List, length, inl, inr}
use Rattle.std.proofs.lemmas.Bool.{cases_eq}
use Rattle.std.proofs.lemmas.List.{get_or-set_same, get_or-set_other}
use Rattle.tty_lines.specs.Rings.{Rings, no_characters, output_of, with_input, with_output}

-- another line
pub output-other : (lines : List Rings) (line l : ℕ) (cs : List ℕ) → line ≢ l → output_of (with_output lines l cs) line ≡ output_of lines line
output-other lines line l cs ne = ap (λ (x : Rings). x.output) (get_or-set_other lines l line _ no_characters ne)

input-other : (lines : List Rings) (line l : ℕ) (cs : List ℕ) → line ≢ l → output_of (with_input lines l cs) line ≡ output_of lines line
input-other lines line l cs ne = ap (λ (x : Rings). x.output) (get_or-set_other lines l line _ no_characters ne)

-- input leaves what the line put out
pub input-same : (lines : List Rings) (line l : ℕ) (cs : List ℕ) → line < length lines → output_of (with_input lines l cs) line ≡ output_of lines line
input-same lines line l cs within = elim (cases_eq line l) [
  | inl is ↦
      subst (λ m. output_of (with_input lines m cs) line ≡ output_of lines line) is
      (ap (λ (x : Rings). x.output) (get_or-set_same lines line _ no_characters within))
  | inr other ↦ input-other lines line l cs other
]
