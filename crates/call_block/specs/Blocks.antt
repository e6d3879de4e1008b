-- The block of a lock call (ENQ/DEQ of the TOPS-10 Monitor Calls Manual, in this project's profile).
use Rattle.std.specs.Prelude.{ℕ, suc, zero, ◌+◌, ◌*◌, ◌==◌, ◌&&◌, ◌||◌, nat_lt, Bool, true, false, not}
use Rattle.std.specs.Prelude.{if◌then◌else◌, unwrap_or, Result, Ok, Err, List, [], ◌∷◌}
use Rattle.arrayvec.specs.ArrayVec.{ArrayVec}
use Rattle.word36.specs.declared.sizes.TheConstants.{LOCKS_A_CALL}
use Rattle.word36.specs.Words.{left_half, right_half}
use Rattle.ka_state.specs.Memory.{are_legal, word_at}
use Rattle.lock_queue.specs.declared.want.Want.{Want}
use Rattle.lock_queue.specs.declared.refusal.Refusal.{Refusal}
use Rattle.lock_queue.specs.declared.refusal.Refusal.TheVariants.{BadBlock, BadCount}
use Rattle.lock_queue.specs.declared.terms.BlockUse.{BlockUse}
use Rattle.lock_queue.specs.declared.terms.BlockUse.TheVariants.{Blocking}
use Rattle.call_block.specs.declared.block.Block.{Block}
use Rattle.call_block.specs.declared.block.BlockHead.{BlockHead}
use Rattle.call_block.specs.declared.want.Lock.{Lock}
use Rattle.call_block.specs.Locks.{want_of}
use Rattle.call_block.specs.Steps.{◌>>=◌}

-- the word at an address; where an address of a block is not legal the block is refused, whatever the word here
abbrev pub word : List ℕ → List ℕ → ℕ → ℕ
word ac core a = unwrap_or (word_at ac core a) 0

-- the lock at three legal addresses
abbrev pub lock_at : List ℕ → List ℕ → ℕ → Lock
lock_at ac core a = record { qualifier = word ac core a; name = word ac core (a + 1); share = word ac core (a + 2) }

-- a job's wants of so many locks, one after the other from an address on, or the first refusal, lock by lock
unfoldable pub wants_at : List ℕ → List ℕ → ℕ → BlockUse → ℕ → ℕ → Result (List Want) Refusal
wants_at ac core job block_use a zero = Ok []
wants_at ac core job block_use a (suc n) = do
  want ← want_of ac core job block_use (lock_at ac core a)
  wants ← wants_at ac core job block_use (a + 3) n
  Ok (want ∷ wants)

-- the wants that were read, or the refusal
abbrev pub wants_read_as : Result (Unit {0}) Refusal → ArrayVec Want → Result (List Want) Refusal
wants_read_as (Ok u) wants = Ok wants.items
wants_read_as (Err refusal) wants = Err refusal

-- the block of a head and of the wants that were read, or the refusal
abbrev pub read_as : Result BlockHead Refusal → ArrayVec Want → Result Block Refusal
read_as (Ok head) wants = Ok (record { id = head.id; limit = head.limit; wants = wants })
read_as (Err refusal) wants = Err refusal

-- whether the block of a call may have a limit of time
abbrev pub may_have_limit : BlockUse → Bool
may_have_limit Blocking = true
may_have_limit _ = false

-- the block at an address: `n,,2+3n`, `limit,,request id`, and n locks; all its addresses are legal, the limit is 0 where the
-- block may have none, and n is from 1 to 16
unfoldable pub block_at : List ℕ → List ℕ → ℕ → ℕ → BlockUse → Result Block Refusal
block_at ac core a job block_use =
    let n = left_half (word ac core a) in
    let size = 2 + 3 * n in
    let second = word ac core (a + 1) in
    let timed = may_have_limit block_use || left_half second == 0 in
    if not (are_legal core a size && right_half (word ac core a) == size && timed) then Err BadBlock
    else (if n == 0 || nat_lt LOCKS_A_CALL n then Err BadCount
    else do
      wants ← wants_at ac core job block_use (a + 2) n
      Ok (record { id = right_half second; limit = left_half second; wants = record { items = wants } }))
