-- Images, and how one is loaded into a job (this project's profile; .JBREL is that of the TOPS-10 Monitor Calls Manual).
use Rattle.std.specs.Prelude.{ℕ, ◌+◌, ◌-◌, ◌*◌, ◌/◌, ◌^◌, ◌&&◌, nat_lt, if◌then◌else◌, List, [], ◌∷◌, replicate, slice_set, Option, Some}
use Rattle.std.specs.Prelude.{None}
use Rattle.word36.specs.declared.sizes.TheConstants.{BLOCK_WORDS}
use Rattle.ka_state.specs.declared.registers.Regs.{Regs}
use Rattle.job_sched.specs.Jobs.{no_flags}
use Rattle.uuo_calls.specs.StatusRow.{Memory, stored_at}
use Rattle.uuo_calls.specs.declared.core_call.TheConstants.{JBREL}

-- the last address of some words, where the addresses rise from `top` on and are below 2 ^ 18
abbrev pub top_from : ℕ → List (ℕ × ℕ) → Option ℕ
top_from top [] = Some top
top_from top (x ∷ xs) = if nat_lt top x.0 && nat_lt x.0 (2 ^ 18) then top_from x.0 xs else None

-- the last address of some words, where the addresses rise and are below 2 ^ 18
abbrev pub top_of : List (ℕ × ℕ) → Option ℕ
top_of [] = None
top_of (x ∷ xs) = if nat_lt x.0 (2 ^ 18) then top_from x.0 xs else None

-- the highest address of an image; there is none where it has no words, where an address or the start is 2 ^ 18 or more, or
-- where the addresses do not rise
abbrev pub image_top : List (ℕ × ℕ) → ℕ → Option ℕ
image_top words start = if nat_lt start (2 ^ 18) then top_of words else None

-- how many blocks of core an address needs
abbrev pub blocks_for : ℕ → ℕ
blocks_for top = top / BLOCK_WORDS + 1

-- words are stored at their addresses: in registers below 20 octal
abbrev pub loaded : Memory → List (ℕ × ℕ) → Memory
loaded p [] = p
loaded p (x ∷ xs) = loaded (stored_at p x.0 x.1) xs

-- an image is loaded, and .JBREL, at 44 octal, holds the highest legal address
abbrev pub placed : Memory → List (ℕ × ℕ) → ℕ → Memory
placed p words blocks =
    let q = loaded p words in
    record { regs = q.regs; core = slice_set q.core JBREL (blocks * BLOCK_WORDS - 1) }

-- the registers of a job before its image is loaded
abbrev pub fresh_regs : ℕ → Regs
fresh_regs start = record { ac = replicate 16 0; pc = start; flags = no_flags }

-- an image in so many blocks of zeros
abbrev pub image_memory : List (ℕ × ℕ) → ℕ → ℕ → Memory
image_memory words start blocks = placed (record { regs = fresh_regs start; core = replicate (blocks * BLOCK_WORDS) 0 }) words blocks
