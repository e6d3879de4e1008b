-- What a call wants of a lock, as its block or its line in a script spells it (this project's profile).
use Rattle.std.specs.Prelude.{ℕ, false, not, ◌==◌, ◌&&◌, Bool, if◌then◌else◌, Option, Some, None, Result, Ok, Err}
use Rattle.lock_queue.specs.declared.key.Key.{Key}
use Rattle.lock_queue.specs.declared.refusal.Refusal.{Refusal}
use Rattle.lock_queue.specs.declared.refusal.Refusal.TheVariants.{BadPool}
use Rattle.lock_queue.specs.declared.terms.BlockUse.{BlockUse}
use Rattle.lock_queue.specs.declared.terms.BlockUse.TheVariants.{Blocking, Full, Named}
use Rattle.lock_queue.specs.declared.terms.Terms.{Terms}
use Rattle.lock_queue.specs.declared.want.Want.{Want}
use Rattle.lock_queue.specs.Pools.{PoolShare, share_of, is_right_share}

-- a lock that is not shared has group 0; size 0 and amount 0 are no pool; else the amount is from 1 to the size, a number
-- of 18 bits, and a pool is not shared
abbrev pub pool_on : Bool → ℕ → ℕ → ℕ → Result (Option PoolShare) Refusal
pool_on shared group size amount =
    if not shared && not (group == 0) then Err BadPool
    else (if size == 0 && amount == 0 then Ok None
    else (if not shared && is_right_share (share_of size amount) then Ok (Some (share_of size amount)) else Err BadPool))

-- the want of a request, where its pool is right
abbrev pub requested_want : Key → Terms → Result (Option PoolShare) Refusal → Result Want Refusal
requested_want key terms (Err refusal) = Err refusal
requested_want key terms (Ok pool) =
    Ok (record { key = key; shared = terms.shared; group = terms.group; bypass = terms.bypass; level = terms.level; pool = pool })

-- what a call wants of a lock on some terms; one that only names the lock looks at the bit for sharing alone, and its
-- want has level 0, no bypass and no pool
abbrev pub want_on : BlockUse → Key → Terms → Result Want Refusal
want_on Blocking key terms = requested_want key terms (pool_on terms.shared terms.group terms.pool_size terms.pool_amount)
want_on Full key terms = requested_want key terms (pool_on terms.shared terms.group terms.pool_size terms.pool_amount)
want_on Named key terms =
    Ok (record { key = key; shared = terms.shared; group = 0; bypass = false; level = 0; pool = None })
