-- What is done with values that are read: their words, their sums, and what operators give of them.
use Rattle.std.specs.Prelude.{◌≡◌, ℕ, ℤ, List, Option, Some, None, Bool, true, false, ◌+ℤ◌, ◌-ℤ◌, if◌then◌else◌}
use Rattle.std.specs.Option.{option_map, SomeIff}
use Rattle.word36.specs.Words.{signed_value}
use Rattle.macro_values.specs.Values.{has_word, word_at, value_of, halves_sum, HasHalf, half_at}
use Rattle.macro_values.specs.Numbers.{known_in}
use Rattle.macro_values.specs.declared.numbers.Number.{Number}
use Rattle.macro_values.specs.declared.operators.Operator.{Operator}
use Rattle.macro_values.specs.declared.operators.Operator.TheVariants.{Times, Over, And, Or, Xor, Shift}
use Rattle.macro_operands.specs.declared.operators.Infix.{Infix}
use Rattle.macro_operands.specs.declared.operators.Infix.TheVariants.{Plus, Minus, OfWords}

-- the word of a number, where the number is known and has one
unfoldable pub word_of_number : Option ℤ → Option ℕ
word_of_number None = None
word_of_number (Some z) = if has_word z then Some (word_at z) else None

-- the number that an operator gives of two words, where both are known and it gives one
unfoldable pub operated : Operator → Option ℕ → Option ℕ → Option ℤ
operated operator None other = None
operated operator (Some one) None = None
operated operator (Some one) (Some other) = option_map signed_value (value_of operator one other)

-- the sum or the difference of two numbers, where both are known
unfoldable pub summed_number : Bool → Option ℤ → Option ℤ → Option ℤ
summed_number is_difference None other = None
summed_number is_difference (Some one) None = None
summed_number is_difference (Some one) (Some other) = Some (if is_difference then one -ℤ other else one +ℤ other)

-- the sum of two words, half by half, where both are known
unfoldable pub added_words : Option ℕ → Option ℕ → Option ℕ
added_words None other = None
added_words (Some one) None = None
added_words (Some one) (Some other) = Some (halves_sum one other)

-- what an operator gives of two numbers: sums are of whole numbers, the others take words
unfoldable pub combined_number : Infix → Option ℤ → Option ℤ → Option ℤ
combined_number Plus one other = summed_number false one other
combined_number Minus one other = summed_number true one other
combined_number (OfWords operator) one other = operated operator (word_of_number one) (word_of_number other)

-- how strongly an operator binds: `_` before `&`, `!` and `^!`, these before `*` and `/`, and these before `+` and `-`
abbrev pub strength_of : Infix → ℕ
strength_of Plus = 0
strength_of Minus = 0
strength_of (OfWords Times) = 1
strength_of (OfWords Over) = 1
strength_of (OfWords And) = 2
strength_of (OfWords Or) = 2
strength_of (OfWords Xor) = 2
strength_of (OfWords Shift) = 3

-- the half of a word, or the address, of a number, where it has one
abbrev pub IsHalfOf : ℤ → Option ℕ → Type 0
IsHalfOf z half = SomeIff half (HasHalf z) (half_at z)

-- a number is the sum or the difference of two; the first numbers are those that were kept before, the second those after
abbrev pub AreSummed : Bool → List ℤ → List ℤ → Option Number → Option Number → Option Number → Type 0
AreSummed is_difference before after one other sum =
    known_in after sum ≡ summed_number is_difference (known_in before one) (known_in before other)

-- a number is what an operator gives of the words of two
abbrev pub AreOperated : Operator → List ℤ → List ℤ → Option Number → Option Number → Option Number → Type 0
AreOperated operator before after one other result =
    known_in after result ≡ operated operator (word_of_number (known_in before one)) (word_of_number (known_in before other))

-- a number is what an operator between two gives of them
abbrev pub AreCombined : Infix → List ℤ → List ℤ → Option Number → Option Number → Option Number → Type 0
AreCombined between before after one other result =
    known_in after result ≡ combined_number between (known_in before one) (known_in before other)
