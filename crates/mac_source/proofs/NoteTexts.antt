-- A comment of this project's style is of printing characters.
use Rattle.std.proofs.Common.{◌≡◌, ◌∙◌, ℕ, ◌+◌, ◌/◌, ◌%◌, ◌^◌, ◌≤◌, Bool, true, false, List, [], ◌∷◌, ◌++◌, refl, arith}
use Rattle.std.specs.Prelude.{codes}
use Rattle.std.specs.List.{list_all}
use Rattle.std.proofs.lemmas.Bool.Decides.{nat_tests}
use Rattle.std.proofs.lemmas.Grind.{common_steps}
use Rattle.std.proofs.lemmas.List.Folds.{list_all-append}
use Rattle.word36.specs.Words.{left_half, right_half}
use Rattle.word36.specs.Octal.{octal, word_text}
use Rattle.mac_text.specs.Numbers.{is_digit_of}
use Rattle.mac_source.specs.Notes.{is_printing, sixbit_text, ascii_text, quoted_if, numbers_text, characters_text, note_of}
use Rattle.mac_source.specs.declared.shown.Shown.{Shown}
use Rattle.mac_source.specs.Sources.{ArePrinting, IsPrinting, comment_if, style_with}
use Rattle.mac_source.proofs.LabelTexts.{all_so, fixed_digits}

printing_between : (c : ℕ) → 32 ≤ c → c ≤ 126 → is_printing c ≡ true
printing_between c h k = grind (arith, common_steps)

both : (xs ys : List ℕ) → list_all is_printing xs ≡ true → list_all is_printing ys ≡ true → list_all is_printing (xs ++ ys) ≡ true
both xs ys h k = list_all-append is_printing xs ys ∙ rw (h, k) refl

behind : (c : ℕ) (xs : List ℕ) → is_printing c ≡ true → list_all is_printing xs ≡ true → list_all is_printing (c ∷ xs) ≡ true
behind c xs h k = rw (h, k) refl

digit_printing : (d : ℕ) → is_digit_of 8 d ≡ true → is_printing d ≡ true
digit_printing d h = grind (arith, nat_tests)

digits_printing : (ds : List ℕ) → list_all (is_digit_of 8) ds ≡ true → list_all is_printing ds ≡ true
digits_printing = all_so (is_digit_of 8) is_printing digit_printing

octal_printing : (k n : ℕ) → list_all is_printing (octal k n) ≡ true
octal_printing k n = digits_printing (octal k n) (fixed_digits k n)

word_printing : (w : ℕ) → list_all is_printing (word_text w) ≡ true
word_printing w =
    both (octal 6 (left_half w) ++ codes ",,") (octal 6 (right_half w))
    (both (octal 6 (left_half w)) (codes ",,") (octal_printing 6 (left_half w)) refl) (octal_printing 6 (right_half w))

six_printing : (n : ℕ) → is_printing (32 + n % 64) ≡ true
six_printing n = printing_between (32 + n % 64) (omega arith) (omega arith)

sixbit_printing : (w : ℕ) → list_all is_printing (sixbit_text w) ≡ true
sixbit_printing w =
    rw (six_printing (w / 2 ^ 30), six_printing (w / 2 ^ 24), six_printing (w / 2 ^ 18), six_printing (w / 2 ^ 12), six_printing (w / 2 ^ 6), six_printing w) refl

quoted_printing : (b : Bool) (text : List ℕ) → list_all is_printing text ≡ b → list_all is_printing (quoted_if b text) ≡ true
quoted_printing true text h = both (codes " \"") (text ++ codes "\"") refl (both text (codes "\"") h refl)
quoted_printing false text h = refl

numbers_printing : (x : ℕ × ℕ) → list_all is_printing (numbers_text x) ≡ true
numbers_printing x =
    behind 32 (octal 6 x.0 ++ 32 ∷ word_text x.1) refl
    (both (octal 6 x.0) (32 ∷ word_text x.1) (octal_printing 6 x.0) (behind 32 (word_text x.1) refl (word_printing x.1)))

characters_printing : (w : ℕ) → list_all is_printing (characters_text w) ≡ true
characters_printing w =
    let quoted = quoted_if (list_all is_printing (ascii_text w)) (ascii_text w) in
    both (codes " '") (sixbit_text w ++ (codes "'" ++ quoted)) refl
    (both (sixbit_text w) (codes "'" ++ quoted) (sixbit_printing w)
    (both (codes "'") quoted refl (quoted_printing (list_all is_printing (ascii_text w)) (ascii_text w) refl)))

note_printing : (x : ℕ × ℕ) → list_all is_printing (note_of x) ≡ true
note_printing x = both (numbers_text x) (characters_text x.1) (numbers_printing x) (characters_printing x.1)

comment_printing : (comments : Bool) (x : ℕ × ℕ) → IsPrinting (comment_if comments x)
comment_printing true x = note_printing x
comment_printing false x = tt

pub style_printing : (marked : ℕ → Bool) (shown : Shown) → ArePrinting (style_with marked shown)
style_printing marked shown x = comment_printing shown.comments x
