-- How a line is cut into its parts (this project's profile).
use Rattle.std.specs.Prelude.{◌≡◌, ℕ, zero, suc, ◌+◌, ◌-◌, ◌==◌, ◌&&◌, ◌||◌, Bool, true, false, not, List, length, nat_lt, take, drop}
use Rattle.std.specs.Prelude.{slice_index, Option, Some, None, if◌then◌else◌}
use Rattle.std.specs.Char.{is_ascii_alphabetic, is_ascii_digit, is_ascii_whitespace, to_ascii_uppercase}
use Rattle.std.specs.Str.{str_eq_ignore_ascii_case}
use Rattle.std.specs.List.{after_first, after_last, before_first, before_last, list_all, position_or_len, prefix_len, suffix_len}

-- a blank or a tab
abbrev pub is_blank : ℕ → Bool
is_blank c = (c == 32) || (c == 9)

abbrev pub is_byte : ℕ → ℕ → Bool
is_byte byte c = c == byte

-- `$`, or ESC, for which it is typed
abbrev pub is_escape : ℕ → Bool
is_escape c = (c == 36) || (c == 27)

-- whether some byte of a text passes a test
abbrev pub has : (ℕ → Bool) → List ℕ → Bool
has p text = nat_lt (position_or_len p text) (length text)

-- the first word of a text, and what stands after the blank after it
abbrev pub first_word : List ℕ → List ℕ
first_word text = before_first is_blank text

abbrev pub behind_word : List ℕ → List ℕ
behind_word text = after_first is_blank text

-- whether a word is a name, in upper or lower case
abbrev pub is_name : List ℕ → List ℕ → Bool
is_name name word = str_eq_ignore_ascii_case word name

-- less the blanks at the front, and at both ends
abbrev pub skipped : List ℕ → List ℕ
skipped text = drop (prefix_len is_ascii_whitespace text) text

unfoldable pub trimmed : List ℕ → List ℕ
trimmed text = take (length (skipped text) - suffix_len is_ascii_whitespace (skipped text)) (skipped text)

-- the text after the first word, without blanks round it
abbrev pub behind_blanks : List ℕ → List ℕ
behind_blanks text = trimmed (behind_word text)

-- the first place of n from this one on that passes a test
abbrev pub first_place : (ℕ → Bool) → ℕ → ℕ → Option ℕ
first_place test i zero = None
first_place test i (suc n) = if test i then Some i else first_place test (i + 1) n

-- ---- commands of `$`, cut into their parts

-- the parts: the text before the last `$` or ESC, the digits after it, and the letter after them in upper case
pub record Cut : Type 0 where
  pub before : List ℕ
  pub digits : List ℕ
  pub letter : ℕ

abbrev pub has_escape : List ℕ → Bool
has_escape text = nat_lt (suffix_len (λ c. not (is_escape c)) text) (length text)

-- digits and a letter
abbrev pub is_letter_behind : List ℕ → Bool
is_letter_behind text =
    nat_lt 0 (length text)
    && (is_ascii_alphabetic (slice_index text (length text - 1)) && list_all is_ascii_digit (take (length text - 1) text))

abbrev pub cut_behind : List ℕ → List ℕ → Option Cut
cut_behind before behind =
    if is_letter_behind behind
    then Some (record {
      before = before;
      digits = take (length behind - 1) behind;
      letter = to_ascii_uppercase (slice_index behind (length behind - 1));
    })
    else None

-- those of a line with digits and a letter, and nothing else, after its last `$` or ESC
unfoldable pub cut_of : List ℕ → Option Cut
cut_of text = if has_escape text then cut_behind (before_last is_escape text) (after_last is_escape text) else None
