-- Laws of names and blocks, in other words than their definitions.
use Rattle.std.specs.Prelude.{◌≡◌, ℕ, ◌+◌, ◌*◌, ◌%◌, ◌^◌, ◌<◌, ◌≤◌, Some, Result, Ok, Err, IsOk, List, length, slice_get, slice_index, All}
use Rattle.std.specs.Prelude.{MatchResult}
use Rattle.word36.specs.declared.sizes.TheConstants.{NAME_LENGTH}
use Rattle.word36.specs.Words.{joined}
use Rattle.ka_state.specs.Memory.{word_at}
use Rattle.lock_queue.specs.declared.name.Name.TheVariants.{Text}
use Rattle.lock_queue.specs.declared.want.Want.{Want}
use Rattle.lock_queue.specs.declared.refusal.Refusal.{Refusal}
use Rattle.lock_queue.specs.declared.terms.BlockUse.{BlockUse}
use Rattle.call_block.specs.Blocks.{lock_at, wants_at}
use Rattle.call_block.specs.Locks.{want_of}
use Rattle.call_block.specs.Names.{name_at}

-- word j of a text in ASCIZ: five characters from the left, bit 35 zero, and zeros after the last character (MACRO-10 Assembler
-- Manual)
abbrev pub asciz_word : List ℕ → ℕ → ℕ
asciz_word text j =
    slice_index text (5 * j) * 2 ^ 29
    + slice_index text (5 * j + 1) * 2 ^ 22
    + slice_index text (5 * j + 2) * 2 ^ 15
    + slice_index text (5 * j + 3) * 2 ^ 8
    + slice_index text (5 * j + 4) * 2

-- memory has the words of a text, with its zero, from an address on
abbrev pub IsAscizAt : List ℕ → List ℕ → ℕ → List ℕ → Type 0
IsAscizAt ac core address text =
    (j : ℕ) → 5 * j ≤ length text → word_at ac core ((address + j) % 2 ^ 18) ≡ Some (asciz_word text j)

-- a text of 1 to NAME_LENGTH characters that memory has as ASCIZ from an address on is the name of the pointer
-- `440700,,address`
abbrev pub AscizNamesAreRead : Type 0
AscizNamesAreRead =
    (ac core : List ℕ) (address : ℕ) (text : List ℕ) → address < 2 ^ 18 → 1 ≤ length text → length text ≤ NAME_LENGTH
    → All (λ c. (1 ≤ c) × (c < 2 ^ 7)) text → IsAscizAt ac core address text
    → name_at ac core (joined 0o440700 address) ≡ Ok (Text text)

-- the want of lock i of those that begin at an address
abbrev pub nth_want : List ℕ → List ℕ → ℕ → BlockUse → ℕ → ℕ → Result Want Refusal
nth_want ac core job block_use a i = want_of ac core job block_use (lock_at ac core (a + 3 * i))

-- where n locks are read, want i is that of lock i; where they are refused, it is for the first wrong lock
abbrev pub LocksAreReadInOrder : Type 0
LocksAreReadInOrder =
    (ac core : List ℕ) (job : ℕ) (block_use : BlockUse) (a n : ℕ) → MatchResult (wants_at ac core job block_use a n)
    (λ wants. (length wants ≡ n) × ((i : ℕ) (want : Want) → slice_get wants i ≡ Some want → nth_want ac core job block_use a i ≡ Ok want))
    (λ refusal. (i : ℕ) × (i < n) × (nth_want ac core job block_use a i ≡ Err refusal)
    × ((k : ℕ) → k < i → IsOk (nth_want ac core job block_use a k)))
