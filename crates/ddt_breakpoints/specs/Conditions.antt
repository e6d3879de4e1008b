-- What the condition of a breakpoint says of a word (this project's profile).
use Rattle.std.specs.Prelude.{ℕ, Bool, false, Option, Some, None}
use Rattle.word36.specs.Words.{signed_value}
use Rattle.ka_word.specs.Conditions.{holds}
use Rattle.ddt_breakpoints.specs.declared.conditions.Comparison.{Comparison}
use Rattle.ddt_breakpoints.specs.declared.conditions.Comparison.TheVariants.{Less, Equal, LessOrEqual, GreaterOrEqual, NotEqual, Greater}
use Rattle.ddt_breakpoints.specs.declared.conditions.Condition.{Condition}

-- the low digit of the operation of CAM that skips there: CAML, CAME, CAMLE, CAMGE, CAMN, CAMG
abbrev pub digit_of : Comparison → ℕ
digit_of Less = 1
digit_of Equal = 2
digit_of LessOrEqual = 3
digit_of GreaterOrEqual = 5
digit_of NotEqual = 6
digit_of Greater = 7

-- whether two words compare so, as signed numbers
abbrev pub compares : Comparison → ℕ → ℕ → Bool
compares c a b = holds (digit_of c) (signed_value a) (signed_value b)

-- whether a condition holds of the word at its address; it holds of no word where there is none
abbrev pub holds_of : Condition → Option ℕ → Bool
holds_of c (Some word) = compares c.comparison word c.value
holds_of c None = false
