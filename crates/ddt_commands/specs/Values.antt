-- Values as they are typed: sums of numbers, texts and symbols, two halves, addresses with `@` or an index register, and
-- instructions (this project's profile, in the manner of DDT). A text is the list of its codes.
use Rattle.std.specs.Prelude.{ℕ, ℤ, zero, suc, pos, negsuc, ◌+◌, ◌-◌, ◌*◌, ◌^◌, ◌%◌, ◌/◌, ◌+ℤ◌, ◌-ℤ◌, ◌*ℤ◌, int_div, bit_or, ◌==◌, ◌≡◌, ◌&&◌, ◌||◌, Bool, true, false}
use Rattle.std.specs.Prelude.{not, nat_le, nat_lt, List, [], ◌∷◌, length, take, drop, map, slice_index, is_some, if◌then◌else◌}
use Rattle.std.specs.Prelude.{Option, Some, None, Result, Ok, Err}
use Rattle.std.specs.Char.{is_ascii_alphanumeric, is_ascii_digit, is_ascii_whitespace, to_ascii_uppercase}
use Rattle.std.specs.Int.{saturate_signed, w64}
use Rattle.std.specs.List.{after_first, before_first, prefix_len}
use Rattle.word36.specs.Sixbit.{sixbit_word}
use Rattle.word36.specs.Words.{joined, left_half, right_half, signed_value}
use Rattle.ka_isa.specs.Operations.{named_of}
use Rattle.ka_isa.specs.declared.calls.Named.{Named}
use Rattle.ddt_commands.specs.Numbers.{before_point, capped, is_pointed, number_of}
use Rattle.ddt_commands.specs.Texts.{has, is_byte, is_escape, skipped}
use Rattle.ddt_commands.specs.declared.limits.Limit.{Limit}
use Rattle.ddt_commands.specs.declared.limits.Limit.TheVariants as limit
use Rattle.ddt_commands.specs.declared.line_errors.LineError.{LineError}
use Rattle.ddt_commands.specs.declared.line_errors.LineError.TheVariants as fault
use Rattle.ddt_commands.specs.declared.values.Scope.{Scope}
use Rattle.ddt_commands.specs.declared.values.Symbol.{Symbol}

-- ---- reading from left to right

-- the value at the front of a text, and the rest of it; or the fault there
abbrev pub Reading : Type 0 → Type 0
Reading X = Result (X × List ℕ) LineError

-- a function gives, seen by view, the value that is read
abbrev pub Gives : {X Y : Type 0} → (X → Y) → Result X LineError → Result Y LineError → Type 0
Gives view (Ok x) read = read ≡ Ok (view x)
Gives view (Err e) read = read ≡ Err e

infixl 10 ◌>>=◌
abbrev pub ◌>>=◌ : {A B : Type 0} → Result A LineError → (A → Result B LineError) → Result B LineError
Ok a >>= f = f a
Err e >>= f = Err e

-- whether a character is the first, or the second
abbrev pub begins : ℕ → List ℕ → Bool
begins c text = nat_lt 0 (length text) && (slice_index text 0 == c)

abbrev pub is_second : ℕ → List ℕ → Bool
is_second c text = nat_lt 1 (length text) && (slice_index text 1 == c)

abbrev pub begins_escape : List ℕ → Bool
begins_escape text = nat_lt 0 (length text) && is_escape (slice_index text 0)

-- less that character, if it is the first
abbrev pub without : ℕ → List ℕ → List ℕ
without c text = if begins c text then drop 1 text else text

-- the characters of a number or a name: letters, digits, `.` and `%`
abbrev pub is_inside : ℕ → Bool
is_inside c = is_ascii_alphanumeric c || ((c == 46) || (c == 37))

abbrev pub word_in : List ℕ → List ℕ
word_in text = take (prefix_len is_inside text) text

abbrev pub behind_word_in : List ℕ → List ℕ
behind_word_in text = drop (prefix_len is_inside text) text

-- ---- texts in quotation marks

-- one character, and a quotation mark or `$` after it
abbrev pub is_one : List ℕ → Bool
is_one text =
    nat_lt 1 (length text)
    && (not (slice_index text 0 == slice_index text 1) && ((slice_index text 1 == 34) || is_escape (slice_index text 1)))

-- the characters up to the delimiter, which comes first and once more after them
abbrev pub delimited : List ℕ → Reading (List ℕ)
delimited [] = Err fault.NoDelimiter
delimited (delimiter ∷ rest) =
    if has (is_byte delimiter) rest
    then Ok (before_first (is_byte delimiter) rest, after_first (is_byte delimiter) rest)
    else Err fault.NoDelimiter

-- the low seven bits of the character at a position, 0 after the last
abbrev pub ascii_at : List ℕ → ℕ → ℕ
ascii_at cs i = if nat_lt i (length cs) then slice_index cs i % 128 else 0

-- five characters of ASCII from the left of a word
abbrev pub ascii_word : List ℕ → ℕ
ascii_word cs = ((((ascii_at cs 0 * 128 + ascii_at cs 1) * 128 + ascii_at cs 2) * 128 + ascii_at cs 3) * 128 + ascii_at cs 4) * 2

abbrev pub ascii_text : List ℕ → Reading ℤ
ascii_text text =
    if is_one text then Ok (pos (slice_index text 0 % 128), drop 2 text) else
    delimited text >>= λ (cs, rest). if nat_lt 5 (length cs) then Err fault.LongText else Ok (pos (ascii_word cs), rest)

-- the character at a position in upper case, a blank after the last
abbrev pub upper_at : List ℕ → ℕ → ℕ
upper_at cs i = if nat_lt i (length cs) then to_ascii_uppercase (slice_index cs i) else 32

-- six characters of SIXBIT from the left of a word
abbrev pub sixbit_of : List ℕ → Option ℕ
sixbit_of cs =
    sixbit_word (upper_at cs 0 ∷ upper_at cs 1 ∷ upper_at cs 2 ∷ upper_at cs 3 ∷ upper_at cs 4 ∷ upper_at cs 5 ∷ [])

abbrev pub in_sixbit : Option ℕ → Result ℕ LineError
in_sixbit (Some word) = Ok word
in_sixbit None = Err fault.NoSixbit

abbrev pub sixbit_text : List ℕ → Reading ℤ
sixbit_text text =
    if is_one text
    then (in_sixbit (sixbit_of (slice_index text 0 ∷ [])) >>= λ word. Ok (pos (left_half word / 2 ^ 12), drop 2 text))
    else delimited text >>= λ (cs, rest).
    if nat_lt 6 (length cs) then Err fault.LongText else in_sixbit (sixbit_of cs) >>= λ word. Ok (pos word, rest)

-- ---- numbers and names

-- the number of some digits, which is no larger than a word
abbrev pub in_word : LineError → Option ℕ → Result ℤ LineError
in_word unless (Some n) = if nat_lt n (2 ^ 36) then Ok (pos n) else Err (fault.Beyond limit.Word)
in_word unless None = Err unless

abbrev pub typed : ℕ → List ℕ → LineError → Result ℤ LineError
typed radix digits unless = in_word unless (capped (number_of radix digits))

-- the first six characters of a word in upper case, and their SIXBIT; 0 if they have none
abbrev pub upper_name : List ℕ → List ℕ
upper_name word = map to_ascii_uppercase (take 6 word)

abbrev pub or_zero : Option ℕ → ℕ
or_zero (Some n) = n
or_zero None = 0

abbrev pub name_of : List ℕ → ℕ
name_of word = or_zero (sixbit_word (upper_name word))

-- the first symbol of a name
abbrev pub value_in : List Symbol → ℕ → Option ℕ
value_in [] name = None
value_in (s ∷ ss) name = if s.name == name then Some s.value else value_in ss name

-- what a name stands for is a signed number
abbrev pub defined : ℕ → Option ℕ → Result ℤ LineError
defined name (Some value) = Ok (signed_value value)
defined name None = Err (fault.Undefined name)

-- a number or a name: octal digits, or decimal ones with a point after them
abbrev pub word_value : Scope → List ℕ → Result ℤ LineError
word_value scope word =
    if length word == 0 then Err fault.NoValue else
    if (length word == 1) && (slice_index word 0 == 46) then Ok (signed_value scope.here) else
    if not (is_ascii_digit (slice_index word 0)) then defined (name_of word) (value_in scope.symbols.now (name_of word)) else
    if is_pointed word then typed 10 (before_point word) fault.NoDecimal else typed 8 word fault.NoOctal

-- digits after `^D`, `^O` or `^B`
abbrev pub radix_value : ℕ → List ℕ → Result ℤ LineError
radix_value letter digits =
    if to_ascii_uppercase letter == 68 then typed 10 digits fault.NoDecimal else
    if to_ascii_uppercase letter == 79 then typed 8 digits fault.NoOctal else
    if to_ascii_uppercase letter == 66 then typed 2 digits fault.NoBinary else Err fault.NoRadixLetter

-- ---- sums

-- `$Q`, or a text of SIXBIT
abbrev pub escaped_at : Scope → List ℕ → Reading ℤ
escaped_at scope text =
    if is_second 34 text then sixbit_text (drop 2 text) else
    if is_second 81 text || is_second 113 text then Ok (signed_value scope.last, drop 2 text) else Err fault.NoEscape

-- a number, a name, `.`, `$Q`, a text, or digits of another radix
abbrev pub term_at : Scope → List ℕ → Reading ℤ
term_at scope text =
    if begins 34 text then ascii_text (drop 1 text) else
    if begins_escape text then escaped_at scope text else
    if begins 94 text && nat_lt 1 (length text)
    then (radix_value (slice_index text 1) (word_in (drop 2 text)) >>= λ value. Ok (value, behind_word_in (drop 2 text)))
    else word_value scope (word_in text) >>= λ value. Ok (value, behind_word_in text)

unfoldable pub term_of : Scope → List ℕ → Reading ℤ
term_of scope text = term_at scope (skipped text)

-- the number of 64 bits that is nearest: no sum goes beyond them
abbrev pub nearest : ℤ → ℤ
nearest z = saturate_signed w64 z

-- a quotient is cut towards 0
abbrev pub quotient : ℤ → ℤ → Result ℤ LineError
quotient value (pos zero) = Err fault.NoQuotient
quotient value divisor = Ok (nearest (int_div value divisor))

-- steps after a value, as long as one comes, at most n
abbrev pub Steps : Type 0
Steps = ℤ → List ℕ → Reading (Option ℤ)

unfoldable pub repeated : Steps → ℕ → ℤ → List ℕ → Reading ℤ
repeated step zero value text = Ok (value, text)
repeated step (suc n) value text = step value text >>= λ (next, rest). elim next [ None ↦ Ok (value, rest) | Some more ↦ repeated step n more rest ]

-- one more term of a product, by `*`, or by `'`, which divides
abbrev pub factor_at : Scope → ℤ → List ℕ → Reading (Option ℤ)
factor_at scope value text =
    if begins 42 text
    then (term_of scope (drop 1 text) >>= λ (other, rest). Ok (Some (nearest (value *ℤ other)), rest))
    else if begins 39 text
    then (term_of scope (drop 1 text) >>= λ (other, rest). quotient value other >>= λ cut. Ok (Some cut, rest))
    else Ok (None, text)

abbrev pub factor : Scope → Steps
factor scope value text = factor_at scope value (skipped text)

unfoldable pub product_of : Scope → List ℕ → Reading ℤ
product_of scope text = term_of scope text >>= λ (value, rest). repeated (factor scope) (length rest) value rest

-- one more product of a sum, by `+` or `-`
abbrev pub summand : Scope → Steps
summand scope value text =
    if begins 45 text
    then (product_of scope (drop 1 text) >>= λ (other, rest). Ok (Some (nearest (value -ℤ other)), rest))
    else if begins 43 text
    then (product_of scope (drop 1 text) >>= λ (other, rest). Ok (Some (nearest (value +ℤ other)), rest))
    else Ok (None, text)

-- the first product, which may be negated
abbrev pub signed_at : Scope → List ℕ → Reading ℤ
signed_at scope text =
    if begins 45 text
    then (product_of scope (drop 1 text) >>= λ (value, rest). Ok (nearest (pos 0 -ℤ value), rest))
    else product_of scope text

unfoldable pub sum_of : Scope → List ℕ → Reading ℤ
sum_of scope text = signed_at scope (skipped text) >>= λ (value, rest). repeated (summand scope) (length rest) value rest

-- ---- what a number has to be

abbrev pub is_in : Limit → ℤ → Bool
is_in limit.Word (pos n) = nat_lt n (2 ^ 36)
is_in limit.Word (negsuc n) = nat_lt n (2 ^ 35)
is_in limit.Half (pos n) = nat_lt n (2 ^ 18)
is_in limit.Half (negsuc n) = nat_lt n (2 ^ 18 - 1)
is_in limit.Address (pos n) = nat_lt n (2 ^ 18)
is_in limit.Address (negsuc n) = nat_lt n (2 ^ 18 - 1)
is_in limit.Accumulator (pos n) = nat_lt n 16
is_in limit.Accumulator (negsuc n) = false
is_in limit.Index (pos n) = nat_lt n 16
is_in limit.Index (negsuc n) = false

abbrev pub size_of : Limit → ℕ
size_of limit.Word = 2 ^ 36
size_of limit.Half = 2 ^ 18
size_of limit.Address = 2 ^ 18
size_of limit.Accumulator = 16
size_of limit.Index = 16

-- in two's complement
abbrev pub wrapped : ℕ → ℤ → ℕ
wrapped size (pos n) = n
wrapped size (negsuc n) = size - (n + 1)

abbrev pub bits_in : Limit → ℤ → Result ℕ LineError
bits_in kind z = if is_in kind z then Ok (wrapped (size_of kind) z) else Err (fault.Beyond kind)

-- ---- words

-- an index register in parentheses, as bits of an instruction
unfoldable pub index_at : Scope → List ℕ → Reading ℕ
index_at scope text =
    if begins 40 text
    then (sum_of scope (drop 1 text) >>= λ (number, rest).
    if begins 41 rest then (bits_in limit.Index number >>= λ index. Ok (index * 2 ^ 18, drop 1 rest)) else Err fault.NoParenthesis)
    else Ok (0, text)

-- bits with an address and the index register after it
unfoldable pub indexed : Scope → ℤ → ℕ → List ℕ → Reading ℕ
indexed scope number bits text =
    bits_in limit.Address number >>= λ address. index_at scope text >>= λ (index, rest). Ok (bit_or (bit_or bits index) address % 2 ^ 36, rest)

-- the address of an instruction, which may be left out before an index register, or at the end if that is allowed
unfoldable pub operand : Scope → Bool → List ℕ → Reading ℤ
operand scope may_be_empty text =
    if (length (skipped text) == 0) && may_be_empty then Ok (pos 0, skipped text) else
    if begins 40 (skipped text) then Ok (pos 0, skipped text) else sum_of scope (skipped text)

-- the bit of an instruction that makes its address indirect
abbrev pub indirect : Bool → ℕ
indirect true = 2 ^ 22
indirect false = 0

-- a sum with what stands after it: an index register, `,,` and another sum, or nothing
unfoldable pub beside : Scope → ℤ → List ℕ → Reading ℕ
beside scope first text =
    if begins 40 text then indexed scope first 0 text else
    if begins 44 text && is_second 44 text
    then (sum_of scope (drop 2 text) >>= λ (second, rest).
    bits_in limit.Half first >>= λ left. bits_in limit.Half second >>= λ right. Ok (joined left right, rest))
    else bits_in limit.Word first >>= λ word. Ok (word, text)

abbrev pub halves_at : Scope → List ℕ → Reading ℕ
halves_at scope text =
    if begins 64 text
    then (operand scope false (drop 1 text) >>= λ (address, rest). indexed scope address (2 ^ 22) rest)
    else sum_of scope text >>= λ (first, rest). beside scope first rest

unfoldable pub halves : Scope → List ℕ → Reading ℕ
halves scope text = halves_at scope (skipped text)

-- the address after an accumulator and its comma, added to bits of an instruction
abbrev pub addressed_at : Scope → ℕ → List ℕ → Reading ℕ
addressed_at scope bits text =
    operand scope true (without 64 text) >>= λ (address, rest). indexed scope address (bit_or bits (indirect (begins 64 text))) rest

unfoldable pub addressed : Scope → ℕ → List ℕ → Reading ℕ
addressed scope bits text = addressed_at scope bits (skipped text)

-- the accumulator, the address and the index register of an instruction, added to its word
abbrev pub operands_at : Scope → ℕ → List ℕ → Reading ℕ
operands_at scope word text =
    if length text == 0 then Ok (word, text) else
    operand scope false (without 64 text) >>= λ (first, rest).
    if not (begins 64 text) && begins 44 rest
    then (bits_in limit.Accumulator first >>= λ accumulator. addressed scope (bit_or word (accumulator * 2 ^ 23)) (drop 1 rest))
    else indexed scope first (bit_or word (indirect (begins 64 text))) rest

unfoldable pub operands : Scope → ℕ → List ℕ → Reading ℕ
operands scope word text = operands_at scope word (skipped text)

-- the instruction that a word names: a symbol hides that of its name, and no name has more than six characters
abbrev pub instruction_in : Scope → List ℕ → Option Named
instruction_in scope word =
    if nat_lt 6 (length word) || is_some (value_in scope.symbols.now (name_of word)) then None else named_of (upper_name word)

abbrev pub by_instruction : Scope → List ℕ → Option Named → Reading ℕ
by_instruction scope text (Some named) = operands scope named.word (behind_word_in text)
by_instruction scope text None = halves scope text

-- the value of a whole text
abbrev pub value_at : Scope → List ℕ → Result ℕ LineError
value_at scope text =
    by_instruction scope text (instruction_in scope (word_in text)) >>= λ (word, rest).
    if length (skipped rest) == 0 then Ok word else Err fault.BehindValue

unfoldable pub value_of : Scope → List ℕ → Result ℕ LineError
value_of scope text = value_at scope (skipped text)

-- the address that a whole text is
unfoldable pub address_of : Scope → List ℕ → Result ℕ LineError
address_of scope text = value_of scope text >>= λ word. if left_half word == 0 then Ok (right_half word) else Err fault.LargeAddress
