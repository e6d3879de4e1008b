-- A lock of a call's block: three words (this project's profile).
use Rattle.std.specs.Prelude.{ℕ, ◌==◌, Bool, if◌then◌else◌, Result, Ok, Err, List}
use Rattle.word36.specs.Words.{left_half, right_half}
use Rattle.lock_queue.specs.declared.key.Key.{Key}
use Rattle.lock_queue.specs.declared.key.Scope.{Scope}
use Rattle.lock_queue.specs.declared.key.Scope.TheVariants.{All, Job}
use Rattle.lock_queue.specs.declared.name.Name.{Name}
use Rattle.lock_queue.specs.declared.refusal.Refusal.{Refusal}
use Rattle.lock_queue.specs.declared.refusal.Refusal.TheVariants.{BadQualifier}
use Rattle.lock_queue.specs.declared.terms.BlockUse.{BlockUse}
use Rattle.lock_queue.specs.declared.terms.Terms.{Terms}
use Rattle.lock_queue.specs.declared.want.Want.{Want}
use Rattle.lock_queue.specs.Uses.{want_on}
use Rattle.call_block.specs.declared.want.Lock.{Lock}
use Rattle.call_block.specs.Bits.{bits}
use Rattle.call_block.specs.Names.{name_at}
use Rattle.call_block.specs.Steps.{◌>>=◌}

-- bit 0 of a lock's first word: the lock may be shared
abbrev pub is_shared : ℕ → Bool
is_shared w = bits 0 0 w == 1

-- bit 1: the rule of rising levels is bypassed
abbrev pub is_bypass : ℕ → Bool
is_bypass w = bits 1 1 w == 1

-- the right half: 777777 octal for a name of all jobs, 777776 octal for a name of the asking job alone
abbrev pub scope_of : ℕ → ℕ → Result Scope Refusal
scope_of job w =
    if right_half w == 0o777777 then Ok All
    else (if right_half w == 0o777776 then Ok (Job job) else Err BadQualifier)

-- The terms of a lock: bits 9 to 17 of the first word are its level. The third word of a lock that may be shared is
-- `0,,group`, that of another lock `pool size,,amount`, or 0. Where the left half of a lock that may be shared is not 0, it counts
-- as the size of a pool, which is refused.
abbrev pub terms_of : Lock → Terms
terms_of lock = record {
  shared = is_shared lock.qualifier;
  group = if is_shared lock.qualifier then right_half lock.share else 0;
  bypass = is_bypass lock.qualifier;
  level = bits 9 17 lock.qualifier;
  pool_size = left_half lock.share;
  pool_amount = if is_shared lock.qualifier then 0 else right_half lock.share;
}

abbrev pub key_of : Name → Scope → Key
key_of name scope = record { scope = scope; name = name }

-- a job's want of a lock in a call of this kind, or the refusal
abbrev pub want_of : List ℕ → List ℕ → ℕ → BlockUse → Lock → Result Want Refusal
want_of ac core job block_use lock = do
  name ← name_at ac core lock.name
  scope ← scope_of job lock.qualifier
  want_on block_use (key_of name scope) (terms_of lock)
