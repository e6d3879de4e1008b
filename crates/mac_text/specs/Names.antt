-- Names (MACRO-10 Assembler Manual): six characters count, in upper case.
use Rattle.std.specs.Prelude.{ℕ, Bool, false, List, [], ◌∷◌, map, take, ◌==◌, ◌&&◌, not}
pub use Rattle.ka_isa.specs.Keys.{code_at, sixbit_of}
use Rattle.mac_text.specs.Characters.{upper_case, is_digit}

-- the characters of a name that count
abbrev pub folded : List ℕ → List ℕ
folded name = map upper_case (take 6 name)

-- two names are one symbol where the characters that count are the same
unfoldable pub symbol_of : List ℕ → ℕ
symbol_of name = sixbit_of (folded name)

-- a run of letters, digits, points, dollar and per cent signs is a name where it begins with no digit and is not
-- the point alone
abbrev pub is_name : List ℕ → Bool
is_name [] = false
is_name (c ∷ []) = not (is_digit c) && not (c == 46)
is_name (c ∷ d ∷ cs) = not (is_digit c)
