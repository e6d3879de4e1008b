-- A zero-compressed core image, as TOPS-10 keeps a program in a .SAV file: blocks, each an IOWD and its words, and then a
-- JRST to the start.
use Rattle.std.specs.Prelude.{ℕ, zero, suc, ◌+◌, ◌-◌, ◌/◌, ◌%◌, ◌^◌, Bool, ◌==◌, ◌&&◌, nat_le, nat_lt, List, [], ◌∷◌, ◌++◌}
use Rattle.std.specs.Prelude.{length, flat_map, Result, Ok, Err, if◌then◌else◌}
use Rattle.word36.specs.Words.{left_half, right_half, joined}
use Rattle.image_files.specs.declared.saves.SaveErrorKind.{SaveErrorKind}
use Rattle.image_files.specs.declared.saves.SaveErrorKind.TheVariants.{NoBlock, NotRising, TooHigh, CutShort, NoStart, Behind}
use Rattle.image_files.specs.declared.save_reader.Head.{Head}
use Rattle.image_files.specs.declared.save_reader.Head.TheVariants.{Block as block, Start as start_at}

-- words with their addresses, by rising address, and the start
pub record Loaded : Type 0 where
  pub words : List (ℕ × ℕ)
  pub start : ℕ

-- a word of a file, numbered from 1, and what is wrong there
pub record SaveFault : Type 0 where
  pub number : ℕ
  pub kind : SaveErrorKind

abbrev pub fault_at : ℕ → SaveErrorKind → Result Loaded SaveFault
fault_at number kind = Err (record { number = number; kind = kind })

-- ---- what a file means

-- IOWD n,address is -n,,address-1: a word whose left half is negative; from 1 to 2 ^ 17 words
abbrev pub is_iowd : ℕ → Bool
is_iowd w = nat_le (2 ^ 17) (left_half w)

abbrev pub iowd_count : ℕ → ℕ
iowd_count w = 2 ^ 18 - left_half w

abbrev pub iowd_address : ℕ → ℕ
iowd_address w = (right_half w + 1) % 2 ^ 18

abbrev pub iowd : ℕ → ℕ → ℕ
iowd count address = joined (2 ^ 18 - count) ((address + (2 ^ 18 - 1)) % 2 ^ 18)

-- JRST with an address alone: neither indirect nor indexed; its AC does not count
abbrev pub is_jrst : ℕ → Bool
is_jrst w = w / 2 ^ 27 == 0o254 && w / 2 ^ 18 % 2 ^ 5 == 0

abbrev pub jrst : ℕ → ℕ
jrst start = joined 0o254000 start

-- what is missing at the end of a file, where so many words of a block are still to come
abbrev pub missing : ℕ → SaveErrorKind
missing zero = NoStart
missing (suc left) = CutShort

abbrev pub with_word : ℕ × ℕ → Result Loaded SaveFault → Result Loaded SaveFault
with_word x (Ok image) = Ok (record { words = x ∷ image.words; start = image.start })
with_word x (Err fault) = Err fault

-- what stands behind the JRST fills a disk block with words of 0
unfoldable pub ended_by : ℕ → ℕ → List ℕ → Result Loaded SaveFault
ended_by start number [] = Ok (record { words = []; start = start })
ended_by start number (w ∷ ws) = if w == 0 then ended_by start (number + 1) ws else fault_at number Behind

-- what a word is where a block or the end is looked for, at addresses from one on
abbrev pub head_at : ℕ → ℕ → Result Head SaveErrorKind
head_at address w =
    if is_iowd w then
    (if nat_lt (iowd_address w) address then Err NotRising
    else (if nat_lt (2 ^ 18) (iowd_address w + iowd_count w) then Err TooHigh else Ok (block (iowd_count w) (iowd_address w))))
    else (if is_jrst w then Ok (start_at (right_half w)) else Err NoBlock)

-- the words from one of this number on: first so many more of the block in hand, from an address on; then blocks at addresses
-- from there on
unfoldable pub image_from : ℕ → ℕ → ℕ → List ℕ → Result Loaded SaveFault
image_from number zero address [] = fault_at number (missing zero)
image_from number (suc left) address [] = fault_at number (missing (suc left))
image_from number (suc left) address (w ∷ ws) = with_word (address, w) (image_from (number + 1) left (address + 1) ws)
image_from number zero address (w ∷ ws) =
    elim (head_at address w) [
      | Err kind ↦ fault_at number kind
      | Ok head ↦ elim head [ block count first ↦ image_from (number + 1) count first ws | start_at start ↦ ended_by start (number + 1) ws ]
    ]

-- the image of a file, or the first word at fault
unfoldable pub image_of_save : List ℕ → Result Loaded SaveFault
image_of_save words = image_from 1 0 0 words

-- ---- the file of an image

-- words one behind the other, from an address on
pub record Block : Type 0 where
  pub address : ℕ
  pub words : List ℕ

-- a word before blocks: where it stands right before the first one, and that has room, it begins that block; else it is one itself
abbrev pub block_before : ℕ × ℕ → List Block → List Block
block_before x [] = record { address = x.0; words = x.1 ∷ [] } ∷ []
block_before x (b ∷ bs) =
    if b.address == x.0 + 1 && nat_lt (length b.words) (2 ^ 17) then record { address = x.0; words = x.1 ∷ b.words } ∷ bs
    else record { address = x.0; words = x.1 ∷ [] } ∷ b ∷ bs

unfoldable pub blocks_of : List (ℕ × ℕ) → List Block
blocks_of [] = []
blocks_of (x ∷ xs) = block_before x (blocks_of xs)

abbrev pub block_words : Block → List ℕ
block_words b = iowd (length b.words) b.address ∷ b.words

-- the words of a file
unfoldable pub save_of : Loaded → List ℕ
save_of image = flat_map block_words (blocks_of image.words) ++ jrst image.start ∷ []
