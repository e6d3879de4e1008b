-- The source that `macro` wrote has its image: the laws on written lines hold of it.
use Rattle.std.proofs.Common.{◌≡◌, ℕ, zero, suc, ◌+◌, ◌^◌, ◌&&◌, Bool, true, List, [], ◌∷◌, refl, sym, arith}
use Rattle.std.specs.Prelude.{nat_le, nat_lt}
use Rattle.std.specs.List.{list_all}
use Rattle.std.proofs.lemmas.Bool.{and_parts, ltb-true, leb-true}
use Rattle.ka_isa.specs.Operations.{operations, calls, meanings, named_of, name_of}
use Rattle.mac_text.specs.Names.{symbol_of}
use Rattle.mac_layout.specs.Addresses.{are_apart}
use Rattle.macro_expressions.specs.Operations.{other_words, operation_of}
use Rattle.macro_statements.specs.Forms.{form_names}
use Rattle.image_files.specs.Images.{Rises, WordsFit}
use Rattle.meaning_laws.specs.WrittenExample.{written_example, written_names, written_image}
use Rattle.meaning_laws.specs.WrittenLines.{HasImage}
use Rattle.meaning_laws.specs.WrittenSource.{CanBeWritten, pieces_of}
use Rattle.meaning_laws.proofs.WrittenExample.{example_written}
use Rattle.meaning_laws.proofs.WrittenReady.{AreFree, free_all}
use Rattle.meaning_laws.proofs.WrittenAgreement.{lines_have_image}

abbrev goes : ℕ → List (ℕ × ℕ) → Bool
goes least [] = true
goes least (x ∷ xs) = nat_le least x.0 && (nat_lt x.0 (2 ^ 18) && goes (x.0 + 1) xs)

rises_by : (least : ℕ) (words : List (ℕ × ℕ)) → goes least words ≡ true → Rises least words
rises_by least [] h = tt
rises_by least (x ∷ xs) h =
    let first = and_parts (nat_le least x.0) (nat_lt x.0 (2 ^ 18) && goes (x.0 + 1) xs) h in
    let second = and_parts (nat_lt x.0 (2 ^ 18)) (goes (x.0 + 1) xs) first.1 in
    (leb-true least x.0 first.0, ltb-true x.0 (2 ^ 18) second.0, rises_by (x.0 + 1) xs second.1)

fits : ℕ × ℕ → Bool
fits x = nat_lt x.1 (2 ^ 36)

fit_by : (words : List (ℕ × ℕ)) → list_all fits words ≡ true → WordsFit words
unfolding fits
fit_by [] h k d l = absurd (omega (arith, l))
fit_by (x ∷ xs) h zero d l = ltb-true x.1 (2 ^ 36) (and_parts (fits x) (list_all fits xs) h).0
fit_by (x ∷ xs) h (suc k) d l = fit_by xs (and_parts (fits x) (list_all fits xs) h).1 k d (omega (arith, l))

names_free : AreFree written_names
unfolding operations calls meanings named_of name_of other_words operation_of form_names
names_free = (
  record { below = omega arith; begins = refl; characters = refl; free = refl },
  (
    record { below = omega arith; begins = refl; characters = refl; free = refl },
    (
      record { below = omega arith; begins = refl; characters = refl; free = refl },
      (
        record { below = omega arith; begins = refl; characters = refl; free = refl },
        (
          record { below = omega arith; begins = refl; characters = refl; free = refl },
          (
            record { below = omega arith; begins = refl; characters = refl; free = refl },
            (
              record { below = omega arith; begins = refl; characters = refl; free = refl },
              tt,
            ),
          ),
        ),
      ),
    ),
  ),
)

can_be_written : CanBeWritten written_names written_image 0o140
unfolding are_apart symbol_of fits
can_be_written =
    record {
      labels = record { each = free_all written_names names_free; apart = refl };
      image = record { rises = rises_by 0 written_image refl; start_fits = omega arith };
      fit = fit_by written_image refl;
    }

pub example_has_image : HasImage written_example written_names written_image 0o140
example_has_image =
    lines_have_image written_example written_names written_image 0o140
    (record { pieces = pieces_of written_names written_image; lines = sym example_written; sound = refl; words_are = refl; names_are = refl })
    can_be_written
