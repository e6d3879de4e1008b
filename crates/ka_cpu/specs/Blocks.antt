-- BLT (Processor Reference Manual, "Block transfer").
use Rattle.std.specs.Prelude.{◌≡◌, ◌<◌, ◌≤◌, ◌⊎◌, ℕ, zero, suc, ◌+◌, ◌-◌, ◌%◌, ◌^◌, Bool, true, ◌&&◌}
use Rattle.std.specs.Prelude.{if◌then◌else◌, Option, Some, None, List, slice_index, slice_set}
use Rattle.word36.specs.Words.{left_half, right_half}
use Rattle.ka_state.specs.Memory.{word_at, is_legal, ac_with, core_with}
use Rattle.ka_cpu.specs.Effects.{After, a_of, stopped}
use Rattle.ka_state.specs.Registers.{next_pc}
use Rattle.ka_state.specs.declared.registers.Regs.{Regs}
use Rattle.ka_state.specs.declared.outcome.StopReason.TheVariants.{IllegalAddress}
use Rattle.ka_state.specs.declared.outcome.Outcome.TheVariants.{Done}
use Rattle.ka_cpu.specs.Instructions.{Instruction}

-- how many words: at least one, up to the first address that is at least E (E is at most 777777 octal)
abbrev pub word_count : ℕ → ℕ → ℕ
word_count d e = e - d + 1

-- every address that is read or written is legal; those that are read wrap after 777777 octal
unfoldable pub all_legal : ℕ → List ℕ → ℕ → ℕ → Bool
all_legal zero core s d = true
all_legal (suc k) core s d = is_legal core (s % 2 ^ 18) && is_legal core d && all_legal k core (s + 1) (d + 1)

-- registers and core
pub record Store : Type 0 where
  pub ac : List ℕ
  pub core : List ℕ

abbrev pub stored : Store → ℕ → Option ℕ → Store
stored t d None = t
stored t d (Some w) = record { ac = ac_with t.ac d w; core = core_with t.core d w }

-- k words are moved from s to d, one after another: what was moved is seen by later reads
unfoldable pub moved_words : ℕ → Store → ℕ → ℕ → Store
moved_words zero t s d = t
moved_words (suc k) t s d = moved_words k (stored t d (word_at t.ac t.core (s % 2 ^ 18))) (s + 1) (d + 1)

-- k words from d on are those that were from s on, and the others stay
abbrev pub IsCopied : List ℕ → List ℕ → ℕ → ℕ → ℕ → Type 0
IsCopied old new s d k =
    ((i : ℕ) → i < k → slice_index new (d + i) ≡ slice_index old (s + i))
    × ((j : ℕ) → (j < d) ⊎ (d + k ≤ j) → slice_index new j ≡ slice_index old j)

-- BLT: A is `s,,d`; AC is not stored (this project's profile)
unfoldable pub blt_after : Regs → List ℕ → Instruction → After
blt_after g core n =
    let s = left_half (a_of g n) in
    let d = right_half (a_of g n) in
    let t = moved_words (word_count d n.e) (record { ac = g.ac; core = core }) s d in
    if all_legal (word_count d n.e) core s d
    then record { regs = record g { ac = t.ac; pc = next_pc g }; core = t.core; outcome = Done }
    else stopped g core IllegalAddress
