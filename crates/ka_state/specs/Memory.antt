-- A job's memory: sixteen registers, and behind them core.
use Rattle.std.specs.Prelude.{ℕ, zero, suc, ◌+◌, ◌^◌, Bool, true, ◌||◌, ◌&&◌}
use Rattle.std.specs.Prelude.{nat_lt, length, if◌then◌else◌, List, Option, None, slice_get, slice_set}

-- the word at an address, if the address is legal: a register below 20 octal, a word of core otherwise
abbrev pub word_at : List ℕ → List ℕ → ℕ → Option ℕ
word_at ac core a = if nat_lt a 16 then slice_get ac a else slice_get core a

-- whether an address is legal: below 20 octal, or below the size of core
abbrev pub is_legal : List ℕ → ℕ → Bool
is_legal core a = nat_lt a 16 || nat_lt a (length core)

-- the word at an address that is counted on from another; behind 777777 octal there is no address
abbrev pub word_below : List ℕ → List ℕ → ℕ → Option ℕ
word_below ac core a = if nat_lt a (2 ^ 18) then word_at ac core a else None

-- whether so many words from an address on are legal; behind 777777 octal there is no address
unfoldable pub are_legal : List ℕ → ℕ → ℕ → Bool
are_legal core a zero = true
are_legal core a (suc n) = nat_lt a (2 ^ 18) && is_legal core a && are_legal core (a + 1) n

-- the registers after a word is stored at an address
abbrev pub ac_with : List ℕ → ℕ → ℕ → List ℕ
ac_with ac a w = if nat_lt a 16 then slice_set ac a w else ac

-- core after a word is stored at an address
abbrev pub core_with : List ℕ → ℕ → ℕ → List ℕ
core_with core a w = if nat_lt a 16 then core else slice_set core a w
