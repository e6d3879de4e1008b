-- What the rows of a listing show, beside the words of an image.
use Rattle.std.specs.Prelude.{◌≡◌, ℕ, Bool, true, ◌&&◌, List, [], ◌∷◌, Option, Some, None, length, drop, nat_eq, is_some, if◌then◌else◌}
use Rattle.std.specs.List.{flat_map}
use Rattle.std.specs.List.Sorted.{IsPermutation}
use Rattle.macro_state.specs.declared.listing.Row.{Row}

-- a word at its place
abbrev pub word_at : Option ℕ → Option ℕ → List (ℕ × ℕ)
word_at (Some place) (Some word) = (place, word) ∷ []
word_at (Some place) None = []
word_at None word = []

-- the word that a row shows at its place; none where it shows one of the two alone
abbrev pub word_of : Row → List (ℕ × ℕ)
word_of row = word_at row.place row.word

-- the words that rows show, in the order of the rows
abbrev pub shown_by : List Row → List (ℕ × ℕ)
shown_by rows = flat_map word_of rows

-- the words behind this one, if it is the first of them
abbrev pub behind : List (ℕ × ℕ) → ℕ × ℕ → Option (List (ℕ × ℕ))
behind [] word = None
behind (first ∷ others) word = if nat_eq first.0 word.0 && nat_eq first.1 word.1 then Some others else None

-- the words are those that are shown, in this order, and beside them words of zero alone
abbrev pub has_all_but_zeros : List (ℕ × ℕ) → List (ℕ × ℕ) → Bool
has_all_but_zeros shown [] = nat_eq (length shown) 0
has_all_but_zeros shown (word ∷ words) =
    if is_some (behind shown word) then has_all_but_zeros (drop 1 shown) words
    else (nat_eq word.1 0 && has_all_but_zeros shown words)

-- rows show each word of an image once, at its place, and no other; words of zero may be left out
pub record Shows (rows : List Row) (words : List (ℕ × ℕ)) : Type 0 where
  pub by_place : List (ℕ × ℕ)
  pub same : IsPermutation (shown_by rows) by_place
  pub all : has_all_but_zeros by_place words ≡ true
