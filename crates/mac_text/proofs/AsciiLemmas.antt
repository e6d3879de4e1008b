-- What is ASCII.
use Rattle.std.proofs.Common.{◌≡◌, ℕ, zero, suc, ◌<◌, List, [], ◌∷◌, true, length, get_or, take, map, inl, inr, arith, sym, ap, ◌∙◌, ◌+◌}
use Rattle.std.specs.Prelude.{◌&&◌, max}
use Rattle.std.specs.List.{prefix_len, list_all}
use Rattle.std.specs.Str.{IsAscii, IsUtf8}
use Rattle.std.proofs.lemmas.Bool.{cases_lt}
use Rattle.std.proofs.lemmas.Bool.Decides.{nat_tests}
use Rattle.std.proofs.lemmas.List.{get_or-take, get_or_past, length-take}
use Rattle.std.proofs.lemmas.List.Folds.{list_all_more}
use Rattle.mac_text.specs.Lines.{is_ascii}
use Rattle.std.proofs.lemmas.List.Sums.{prefix_len_passes}
use Rattle.std.proofs.lemmas.Str.{IsUtf8-from_ascii}
use Rattle.mac_text.specs.Characters.{is_name_character, upper_case}
use Rattle.mac_text.specs.Scan.{word_of}
use Rattle.mac_text.proofs.WordLemmas.{word_passes, word_within}

-- ---- texts

greater_is_ascii : (a b : ℕ) → is_ascii (max a b) ≡ (is_ascii a && is_ascii b)
greater_is_ascii a b = grind (arith, nat_tests)

pub ascii_so_far : (greatest : ℕ) (text : List ℕ) (i : ℕ) → i < length text → is_ascii greatest ≡ list_all is_ascii (take i text)
    → is_ascii (max greatest (get_or text i 0)) ≡ list_all is_ascii (take (i + 1) text)
ascii_so_far greatest text i lt h =
    greater_is_ascii greatest (get_or text i 0) ∙ ap (λ b. b && is_ascii (get_or text i 0)) h
    ∙ sym (list_all_more is_ascii text i 0 lt)

-- ---- names

name_character_is_ascii : (c : ℕ) → is_name_character c ≡ true → c < 128
name_character_is_ascii c h = grind (arith, nat_tests)

pub word_is_ascii : (text : List ℕ) → IsAscii (word_of text)
word_is_ascii text i =
    let n = prefix_len is_name_character text in
    elim (cases_lt i n) [
      | inl lt ↦ rw (get_or-take n text i 0 lt) (name_character_is_ascii (get_or text i 0) (prefix_len_passes is_name_character text i 0 lt))
      | inr le ↦ rw (get_or_past (take n text) i 0 (omega (arith, length-take n text))) (omega arith)
    ]

upper_case_is_ascii : (c : ℕ) → c < 128 → upper_case c < 128
upper_case_is_ascii c h = grind (arith, nat_tests)

take_is_ascii : (n : ℕ) (text : List ℕ) → IsAscii text → IsAscii (take n text)
take_is_ascii n text h i =
    elim (cases_lt i n) [
      | inl lt ↦ rw (get_or-take n text i 0 lt) (h i)
      | inr le ↦ rw (get_or_past (take n text) i 0 (omega (arith, length-take n text))) (omega arith)
    ]

map_is_ascii : (text : List ℕ) → IsAscii text → IsAscii (map upper_case text)
map_is_ascii [] h i = h i
map_is_ascii (c ∷ cs) h zero = upper_case_is_ascii c (h zero)
map_is_ascii (c ∷ cs) h (suc i) = map_is_ascii cs (λ k. h (suc k)) i

pub counted_is_ascii : (n : ℕ) (name : List ℕ) → IsAscii name → IsAscii (map upper_case (take n name))
counted_is_ascii n name h = map_is_ascii (take n name) (take_is_ascii n name h)

pub is_text : (name : List ℕ) → IsAscii name → IsUtf8 name
is_text name h = IsUtf8-from_ascii name h

-- a word is a part of its text, of characters of names, which are ASCII
pub ruleset ascii_words = (word_is_ascii, word_passes, word_within)
