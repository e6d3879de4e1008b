-- The words of statements (MACRO-10 Assembler Manual, this project's profile): nothing where a name is not known or a
-- value does not fit.
use Rattle.std.specs.Prelude.{◌≡◌, ℕ, zero, suc, pos, neg_ℤ, ◌-ℤ◌, ◌<◌, ◌+◌, ◌-◌}
use Rattle.std.specs.Prelude.{◌*◌, ◌^◌, Bool, true, false, ◌&&◌, not, is_none}
use Rattle.std.specs.Prelude.{nat_le, List, [], ◌∷◌, ◌++◌, length, Option, Some, None, option_map, if◌then◌else◌}
use Rattle.std.specs.List.{list_all}
use Rattle.ka_isa.specs.declared.Fields.{Fields}
use Rattle.ka_isa.specs.Fields.{fields_of, word_of as encoded}
use Rattle.mac_text.specs.declared.syntax.SignedTerm.{SignedTerm}
use Rattle.mac_text.specs.declared.syntax.Operand.{Operand}
use Rattle.mac_text.specs.declared.syntax.Instruction.{Instruction}
use Rattle.mac_text.specs.declared.syntax.TextForm.{TextForm}
use Rattle.mac_text.specs.declared.syntax.TextForm.TheVariants.{Ascii, Asciz, Sixbit}
use Rattle.mac_text.specs.declared.syntax.Data.{Data}
use Rattle.mac_text.specs.declared.syntax.Data.TheVariants as data_of
use Rattle.mac_layout.specs.Values.{◌>>=◌, Names, value_of, residue_of, is_known}
use Rattle.mac_layout.specs.TextSizes.{words_in}
use Rattle.mac_asm.specs.Packing.{ascii_word, sixbit_word}

-- the value of an expression modulo a size, where it is at least the negative of `least` and at most `most`
unfoldable pub fitted : Names → ℕ → ℕ → ℕ → List SignedTerm → Option ℕ
fitted names least most size e = value_of names e >>= residue_of least most size

-- a word is a value from -2^35 to 2^36-1, modulo 2^36
abbrev pub word_of : Names → List SignedTerm → Option ℕ
word_of names e = fitted names 34359738368 68719476735 68719476736 e

-- a half, or an address, is a value from -262143 to 262143, modulo 2^18
abbrev pub half_of : Names → List SignedTerm → Option ℕ
half_of names e = fitted names 262143 262143 262144 e

-- an accumulator or an index register is a value from 0 to 17 octal
abbrev pub register_of : Names → List SignedTerm → Option ℕ
register_of names e = fitted names 0 15 16 e

-- a start is a value from 0 to 777777 octal
abbrev pub start_of : Names → List SignedTerm → Option ℕ
start_of names e = fitted names 0 262143 262144 e

-- a missing part is 0
abbrev pub or_zero : (List SignedTerm → Option ℕ) → Option (List SignedTerm) → Option ℕ
or_zero f None = Some 0
or_zero f (Some e) = f e

-- the fields of an address part: indirect bit, index register and address
unfoldable pub operand_of : Names → Operand → Option (Bool × ℕ × ℕ)
operand_of names o = do
  x ← or_zero (register_of names) o.index
  y ← or_zero (half_of names) o.address
  Some (o.indirect, x, y)

abbrev pub is_missing : Operand → Bool
is_missing o = not o.indirect && (is_none o.address && is_none o.index)

-- the fields of a word
pub record AreFields (f : Fields) : Type 0 where
  pub op : f.op < 2 ^ 9
  pub ac : f.ac < 2 ^ 4
  pub x : f.x < 2 ^ 4
  pub y : f.y < 2 ^ 18

-- the fields with the accumulator that is written
unfoldable pub with_accumulator : Names → Fields → Option (List SignedTerm) → Option Fields
with_accumulator names fields None = Some fields
with_accumulator names fields (Some e) = do
  ac ← register_of names e
  Some (record fields { ac = ac })

-- the fields with the address part that is written
unfoldable pub with_operand : Names → Fields → Operand → Option Fields
with_operand names fields o = if is_missing o then Some fields else (do
  p ← operand_of names o
  Some (record fields { i = p.0; x = p.1; y = p.2 }))

-- the word of an instruction: that of its name, with the fields that are written
unfoldable pub instruction_of : Names → Instruction → Option ℕ
instruction_of names given = do
  f ← with_accumulator names (fields_of given.word) given.accumulator
  g ← with_operand names f given.operand
  Some (encoded g)

abbrev pub at_most : ℕ → ℕ → Option ℕ
at_most most n = if nat_le n most then Some n else None

-- P is 36 where no position is written, and 35 less the position otherwise
unfoldable pub position_of : Option ℕ → Option ℕ
position_of None = Some 36
position_of (Some b) = do
  position ← at_most 35 b
  Some (35 - position)

abbrev pub pointer_word : ℕ → ℕ → Bool × ℕ × ℕ → ℕ
pointer_word p s o = p * 2 ^ 30 + s * 2 ^ 24 + (if o.0 then 2 ^ 22 else 0) + o.1 * 2 ^ 18 + o.2

-- the pointer to a byte of so many bits
unfoldable pub pointer_of : Names → ℕ → Operand → Option ℕ → Option ℕ
pointer_of names size o position = do
  s ← at_most 36 size
  p ← position_of position
  fields ← operand_of names o
  Some (pointer_word p s fields)

-- `left,,right`
unfoldable pub halves_of : Names → List SignedTerm → List SignedTerm → Option ℕ
halves_of names left right = do
  l ← half_of names left
  r ← half_of names right
  Some (l * 2 ^ 18 + r)

-- `-count,,address-1`
unfoldable pub iowd_of : Names → List SignedTerm → List SignedTerm → Option ℕ
iowd_of names count address = do
  c ← value_of names count
  a ← value_of names address
  l ← residue_of 262143 262143 262144 (neg_ℤ c)
  r ← residue_of 262143 262143 262144 (a -ℤ pos 1)
  Some (l * 2 ^ 18 + r)

-- each item's word, in order
abbrev pub words_of_all : {X : Type 0} → (X → Option ℕ) → List X → Option (List ℕ)
words_of_all f [] = Some []
words_of_all f (x ∷ xs) = f x >>= λ w. words_of_all f xs >>= λ ws. Some (w ∷ ws)

-- word i of a text
unfoldable pub text_word : TextForm → List ℕ → ℕ → Option ℕ
text_word Ascii text i = Some (ascii_word text (5 * i))
text_word Asciz text i = Some (ascii_word text (5 * i))
text_word Sixbit text i = sixbit_word text (6 * i)

-- n words of a text from word i on
abbrev pub text_words_from : TextForm → List ℕ → ℕ → ℕ → Option (List ℕ)
text_words_from form text i zero = Some []
text_words_from form text i (suc n) = text_word form text i >>= λ w. text_words_from form text (i + 1) n >>= λ ws. Some (w ∷ ws)

abbrev pub alone : Option ℕ → Option (List ℕ)
alone word = option_map (λ w. w ∷ []) word

-- the words of a statement, but for the zeros of BLOCK
unfoldable pub words_of : Names → Data → Option (List ℕ)
words_of names (data_of.Value e) = alone (word_of names e)
words_of names (data_of.Halves left right) = alone (halves_of names left right)
words_of names (data_of.Iowd count address) = alone (iowd_of names count address)
words_of names (data_of.Exp es) = words_of_all (word_of names) es
words_of names (data_of.Point size o position) = alone (pointer_of names size o position)
words_of names (data_of.Text form text) = text_words_from form text 0 (words_in form (length text))
words_of names (data_of.Block count) = Some []
words_of names (data_of.Instruction given) = alone (instruction_of names given)

abbrev pub is_known_if : Names → Option (List SignedTerm) → Bool
is_known_if names None = true
is_known_if names (Some e) = is_known names e

abbrev pub is_operand_known : Names → Operand → Bool
is_operand_known names o = is_known_if names o.address && is_known_if names o.index

-- whether all names of a statement are known; those of BLOCK are, once it is laid out
unfoldable pub are_known : Names → Data → Bool
are_known names (data_of.Value e) = is_known names e
are_known names (data_of.Halves left right) = is_known names left && is_known names right
are_known names (data_of.Iowd count address) = is_known names count && is_known names address
are_known names (data_of.Exp es) = list_all (is_known names) es
are_known names (data_of.Point size o position) = is_operand_known names o
are_known names (data_of.Text form text) = true
are_known names (data_of.Block count) = true
are_known names (data_of.Instruction given) = is_known_if names given.accumulator && is_operand_known names given.operand

-- what was added at the end, if anything could be
abbrev pub Adds : Bool → List ℕ → List ℕ → Option (List ℕ) → Type 0
Adds true old new words = (ws : List ℕ) × (words ≡ Some ws) × (new ≡ old ++ ws)
Adds false old new words = words ≡ None
