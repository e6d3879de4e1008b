-- The name of a lock in the block of a call (this project's profile; byte pointers are those of the DECsystem-10 Processor
-- Reference Manual).
use Rattle.std.specs.Prelude.{◌≡◌, ℕ, suc, zero, ◌+◌, ◌==◌, ◌&&◌, nat_le, Bool, true, false, if◌then◌else◌, Option, Some}
use Rattle.std.specs.Prelude.{None, Result, Ok, Err, List, [], ◌∷◌, length, map, filter_map, is_none}
use Rattle.std.specs.Option.{option_map}
use Rattle.std.specs.List.{before_first, list_any}
use Rattle.word36.specs.declared.sizes.TheConstants.{NAME_LENGTH}
use Rattle.word36.specs.Words.{right_half}
use Rattle.ka_word.specs.Bytes.{byte_of, incremented, position_of, size_of}
use Rattle.ka_state.specs.Memory.{word_at}
use Rattle.lock_queue.specs.declared.name.Name.{Name}
use Rattle.lock_queue.specs.declared.name.Name.TheVariants.{Text, Code}
use Rattle.lock_queue.specs.declared.refusal.Refusal.{Refusal}
use Rattle.lock_queue.specs.declared.refusal.Refusal.TheVariants.{BadPointer, BadName}
use Rattle.call_block.specs.Bits.{bits}
use Rattle.call_block.specs.Steps.{◌>>=◌}

-- whether a word is a pointer to a name: bytes of 7 bits, a position of at most 36, and I and X 0
abbrev pub is_name_pointer : ℕ → Bool
is_name_pointer w = size_of w == 7 && nat_le (position_of w) 36 && bits 13 17 w == 0

-- the pointers after one, two and so many increments, as ILDB increments a pointer
unfoldable pub pointers_from : ℕ → ℕ → List ℕ
pointers_from zero pointer = []
pointers_from (suc n) pointer = incremented pointer ∷ pointers_from n (incremented pointer)

-- the character at a pointer, if its address is legal; I and X are 0, so the address is Y
abbrev pub character_at : List ℕ → List ℕ → ℕ → Option ℕ
character_at ac core pointer = option_map (byte_of pointer) (word_at ac core (right_half pointer))

abbrev pub is_zero : Option ℕ → Bool
is_zero (Some c) = c == 0
is_zero None = false

-- the characters at the increments of a pointer, up to the first zero, and so many at most
unfoldable pub characters : List ℕ → List ℕ → ℕ → ℕ → List (Option ℕ)
characters ac core pointer most = before_first is_zero (map (character_at ac core) (pointers_from most pointer))

-- a text has the characters that were read; there is no text where the address of one is not legal
abbrev pub AreLegalCharacters : Option (List ℕ) → List (Option ℕ) → Type 0
AreLegalCharacters (Some text) read = read ≡ map Some text
AreLegalCharacters None read = list_any is_none read ≡ true

-- a name has 1 to 30 characters
abbrev pub name_text : List ℕ → Result (List ℕ) Refusal
name_text text = if nat_le 1 (length text) && nat_le (length text) NAME_LENGTH then Ok text else Err BadName

-- the text of the characters that were read, where the address of each is legal
abbrev pub text_of : List (Option ℕ) → Result (List ℕ) Refusal
text_of read = if list_any is_none read then Err BadPointer else name_text (filter_map (λ c. c) read)

-- the text at a pointer; one character more is read than a name may have
abbrev pub text_at : List ℕ → List ℕ → ℕ → Result (List ℕ) Refusal
text_at ac core pointer = text_of (characters ac core pointer (NAME_LENGTH + 1))

-- the name that a word gives: a user code of 33 bits after a 5, or the text at a pointer
abbrev pub name_at : List ℕ → List ℕ → ℕ → Result Name Refusal
name_at ac core w =
    if bits 0 2 w == 5 then Ok (Code (bits 3 35 w))
    else (if is_name_pointer w then text_at ac core w >>= (λ text. Ok (Text text)) else Err BadPointer)
