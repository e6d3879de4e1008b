-- A source that gives an image (this project's profile, in the form of MACRO-10).
use Rattle.std.specs.Prelude.{◌≡◌, ℕ, ◌+◌, ◌/◌, ◌%◌, ◌^◌, Bool, true, false, not, ◌==◌, ◌&&◌, ◌||◌, nat_le, nat_lt}
use Rattle.std.specs.Prelude.{List, [], ◌∷◌, ◌++◌, codes, Option, Some, None, if◌then◌else◌}
use Rattle.std.specs.List.{list_any, list_all}
use Rattle.word36.specs.Words.{left_half, right_half}
use Rattle.word36.specs.Octal.{octal, octal_text}
use Rattle.ka_isa.specs.declared.Fields.{Fields}
use Rattle.ka_isa.specs.declared.Family.{Family}
use Rattle.ka_isa.specs.declared.Family.TheVariants as families
use Rattle.ka_isa.specs.Fields.{fields_of}
use Rattle.ka_isa.specs.Families.{family_of}
use Rattle.ka_isa.specs.Operations.{Name, name_of}
use Rattle.ka_isa.specs.Text.{accumulator_text, index_text}
use Rattle.mac_layout.specs.Addresses.{first_address}
use Rattle.mac_asm.specs.Assembly.{Assembled}
use Rattle.mac_source.specs.Notes.{is_printing, note_of}
use Rattle.mac_source.specs.Pieces.{first, address_of, behind, pieces_of}
use Rattle.mac_source.specs.declared.pieces.Piece.{Piece}
use Rattle.mac_source.specs.declared.pieces.Piece.TheVariants as pieces
use Rattle.mac_source.specs.declared.shown.Shown.{Shown}

-- ---- words

-- the label of an address: a letter from L to S for its first octal digit, and the other five: L00145 of 145, M00000 of 100000
abbrev pub label_text : ℕ → List ℕ
label_text address = (76 + address / 2 ^ 15 % 8) ∷ octal 5 (address % 2 ^ 15)

-- an address: by its label where it has one
abbrev pub address_text : (ℕ → Bool) → ℕ → List ℕ
address_text marked y = if marked y then label_text y else octal_text y

-- as `MOVEI 1,5` and `HRRZ 1,@L00145(17)`
abbrev pub instruction_text : (ℕ → Bool) → Name → Fields → List ℕ
instruction_text marked name f =
    name ++ 32 ∷ (accumulator_text f.ac ++ ((if f.i then codes "@" else []) ++ (address_text marked f.y ++ index_text f.x)))

-- as `XWD 777774,L00145`
abbrev pub halves_text : (ℕ → Bool) → ℕ → List ℕ
halves_text marked w = codes "XWD " ++ (octal_text (left_half w) ++ 44 ∷ address_text marked (right_half w))

abbrev pub named_text : (ℕ → Bool) → Option Name → ℕ → List ℕ
named_text marked (Some name) w = instruction_text marked name (fields_of w)
named_text marked None w = halves_text marked w

-- a word whose operation has a name is an instruction, and any other word its two halves
abbrev pub statement_text : (ℕ → Bool) → ℕ → List ℕ
statement_text marked w = named_text marked (name_of (w / 2 ^ 27)) w

-- ---- lines

-- how a source is written: the addresses that have labels, the words whose address is written by its label, whether words of
-- 0 stand in blocks and texts in ASCIZ, and the comment behind the line whose first word this is
pub record Style : Type 0 where
  pub marked : ℕ → Bool
  pub by_label : ℕ → Bool
  pub blocks : Bool
  pub texts : Bool
  pub comment : ℕ × ℕ → Option (List ℕ)

-- the addresses that a word writes by their labels
abbrev pub shown : Style → ℕ → ℕ → Bool
shown style w y = style.by_label w && style.marked y

abbrev pub line_feed : List ℕ
line_feed = 10 ∷ []

-- where a word does not stand behind the one before it, its address is set first
abbrev pub loc_text : ℕ → List ℕ
loc_text address = codes " LOC " ++ (octal_text address ++ line_feed)

abbrev pub mark_text : Bool → ℕ → List ℕ
mark_text b address = if b then label_text address ++ 58 ∷ [] else []

-- a comment behind a space and a semicolon
abbrev pub behind_text : Option (List ℕ) → List ℕ
behind_text None = []
behind_text (Some comment) = 32 ∷ 59 ∷ comment

-- as `BLOCK 12`
abbrev pub block_text : ℕ → List ℕ
block_text n = codes "BLOCK " ++ octal_text n

abbrev pub contains : ℕ → List ℕ → Bool
contains d text = list_any (λ c. c == d) text

-- the first of / and " and ~ that is not in a text
abbrev pub delimiter_of : List ℕ → ℕ
delimiter_of text = if contains 47 text then (if contains 34 text then 126 else 34) else 47

-- as `ASCIZ /HELLO/`
abbrev pub asciz_text : List ℕ → List ℕ
asciz_text text = codes "ASCIZ " ++ delimiter_of text ∷ (text ++ delimiter_of text ∷ [])

abbrev pub piece_text : Style → Piece → List ℕ
piece_text style (pieces.Word a w) = statement_text (shown style w) w
piece_text style (pieces.Zeros a n) = block_text n
piece_text style (pieces.Text a text) = asciz_text text

-- a label, where the address has one, the statement, and the comment
abbrev pub piece_line : Style → Piece → List ℕ
piece_line style p =
    mark_text (style.marked (address_of p)) (address_of p)
    ++ (32 ∷ (piece_text style p ++ (behind_text (style.comment (first p)) ++ line_feed)))

abbrev pub end_line : (ℕ → Bool) → ℕ → List ℕ
end_line marked start = codes " END " ++ (address_text marked start ++ line_feed)

-- the lines of pieces, where the address reached is `here`
unfoldable pub lines_text : Style → ℕ → ℕ → List Piece → List ℕ
lines_text style start here [] = end_line style.marked start
lines_text style start here (p ∷ ps) =
    (if address_of p == here then [] else loc_text (address_of p)) ++ (piece_line style p ++ lines_text style start (behind p) ps)

-- the pieces of an image in a style
abbrev pub pieces_in : Style → Assembled → List Piece
pieces_in style image = pieces_of style.blocks style.texts style.marked image.words

-- the source of an image in a style
abbrev pub source_with : Style → Assembled → List ℕ
source_with style image = lines_text style image.start first_address (pieces_in style image)

-- the image has a word at this address
abbrev pub has_word : List (ℕ × ℕ) → ℕ → Bool
has_word words address = list_any (λ x. x.0 == address) words

-- labels stand at addresses that have words
abbrev pub AreThere : (ℕ → Bool) → List (ℕ × ℕ) → Type 0
AreThere marked words = (address : ℕ) → marked address ≡ true → has_word words address ≡ true

-- a comment of printing characters, or none
abbrev pub IsPrinting : Option (List ℕ) → Type 0
IsPrinting None = Unit {0}
IsPrinting (Some comment) = list_all is_printing comment ≡ true

abbrev pub ArePrinting : Style → Type 0
ArePrinting style = (x : ℕ × ℕ) → IsPrinting (style.comment x)

-- ---- the style of this project

-- an immediate mode takes the address itself as its operand: the second of each four codes
abbrev pub is_immediate : ℕ → Bool
is_immediate op = op % 4 == 1

-- CAM compares with a word in memory, CAI with the address itself
abbrev pub is_cam : ℕ → Bool
is_cam op = nat_le 0o310 op

-- tests with a mask in memory, direct or swapped
abbrev pub is_memory_test : ℕ → Bool
is_memory_test op = op / 8 % 2 == 1

abbrev pub family_reaches : Family → ℕ → Bool
family_reaches families.Move op = not (is_immediate op)
family_reaches families.Movs op = not (is_immediate op)
family_reaches families.Movn op = not (is_immediate op)
family_reaches families.Movm op = not (is_immediate op)
family_reaches families.Imul op = not (is_immediate op)
family_reaches families.Mul op = not (is_immediate op)
family_reaches families.Idiv op = not (is_immediate op)
family_reaches families.Add op = not (is_immediate op)
family_reaches families.Sub op = not (is_immediate op)
family_reaches families.Boolean op = not (is_immediate op)
family_reaches families.Half op = not (is_immediate op)
family_reaches families.Compare op = is_cam op
family_reaches families.Test op = is_memory_test op
family_reaches families.Shift op = false
family_reaches families.Popj op = false
family_reaches families.Calli op = false
family_reaches families.Other op = false
family_reaches _ op = true

-- the operation reaches the word at its address, or jumps there
unfoldable pub reaches_memory : ℕ → Bool
reaches_memory op = family_reaches (family_of op) op

-- the operation of a word reaches memory
abbrev pub is_reaching : ℕ → Bool
is_reaching w = reaches_memory (w / 2 ^ 27)

abbrev pub refers_to : ℕ → ℕ × ℕ → Bool
refers_to address x = is_reaching x.1 && right_half x.1 == address

-- an address of the image above the accumulators
abbrev pub can_have_label : List (ℕ × ℕ) → ℕ → Bool
can_have_label words address = nat_lt 0o17 address && has_word words address

-- one that a word of the image reaches, or that is its start
abbrev pub is_referred : Assembled → ℕ → Bool
is_referred image address =
    can_have_label image.words address && (image.start == address || list_any (refers_to address) image.words)

abbrev pub comment_if : Bool → ℕ × ℕ → Option (List ℕ)
comment_if comments x = if comments then Some (note_of x) else None

-- labels at these addresses, and the rest as it is to be shown
abbrev pub style_with : (ℕ → Bool) → Shown → Style
style_with marked shown =
    record { marked = marked; by_label = is_reaching; blocks = shown.blocks; texts = shown.texts; comment = comment_if shown.comments }

-- the source of an image, with labels where the image refers to, if labels are wanted
abbrev pub source_of : Shown → Assembled → List ℕ
source_of shown image = source_with (style_with (λ address. shown.labels && is_referred image address) shown) image
