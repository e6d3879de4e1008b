-- Words, and the blanks before them.
use Rattle.std.proofs.Common.{◌≡◌, ℕ, suc, ◌+◌, ◌≤◌, List, [], ◌∷◌, Bool, true, false, length, refl, arith}
use Rattle.std.specs.List.{prefix_len, list_all}
use Rattle.std.proofs.lemmas.List.Folds.{length-prefix_len}
use Rattle.std.proofs.lemmas.List.Sums.{prefix_len-le-length}
use Rattle.mac_text.specs.Characters.{is_blank, is_name_character}
use Rattle.mac_text.specs.Scan.{word_of, after_blanks}

-- a word is as long as its characters go
pub word_length : (text : List ℕ) → length (word_of text) ≡ prefix_len is_name_character text
word_length text = length-prefix_len is_name_character text

passing : (c : ℕ) (text : List ℕ) (named : Bool) → is_name_character c ≡ named → list_all is_name_character (word_of text) ≡ true
    → list_all is_name_character (word_of (c ∷ text)) ≡ true
passing c text true e h = let one : 1 + prefix_len is_name_character text ≡ suc (prefix_len is_name_character text) = omega arith in rw (e, one, e) h
passing c text false e h = rw e refl

-- a word has no other characters
pub word_passes : (text : List ℕ) → list_all is_name_character (word_of text) ≡ true
word_passes [] = refl
word_passes (c ∷ text) = passing c text (is_name_character c) refl (word_passes text)

-- and is no longer than the text
pub word_within : (text : List ℕ) → length (word_of text) ≤ length text
word_within text = omega (arith, word_length text, prefix_len-le-length is_name_character text)

skip_further : (c : ℕ) (text : List ℕ) (blank : Bool) → is_blank c ≡ blank → after_blanks (after_blanks text) ≡ after_blanks text
    → after_blanks (after_blanks (c ∷ text)) ≡ after_blanks (c ∷ text)
skip_further c text true e h = let one : 1 + prefix_len is_blank text ≡ suc (prefix_len is_blank text) = omega arith in rw (e, one) h
skip_further c text false e h = rw (e, e) refl

-- behind blanks stands no blank
pub skip_twice : (text : List ℕ) → after_blanks (after_blanks text) ≡ after_blanks text
skip_twice [] = refl
skip_twice (c ∷ text) = skip_further c text (is_blank c) refl (skip_twice text)

pub no_word_in_nothing : (text : List ℕ) → length text ≤ 0 → [] ≡ word_of (after_blanks text)
no_word_in_nothing [] h = refl
no_word_in_nothing (c ∷ text) h = absurd (omega arith)

-- how far a label reaches
pub ruleset label_lengths = (word_length, skip_twice)
