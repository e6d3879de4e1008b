-- What holds of the requests at every time (ENQ/DEQ of the TOPS-10 Monitor Calls Manual, in this project's profile).
use Rattle.std.specs.Prelude.{◌≡◌, ℕ, ◌+◌, ◌^◌, ◌<◌, ◌≤◌, true}
use Rattle.std.specs.Prelude.{false, List, [], ◌∷◌, length, take, Some, None}
use Rattle.std.specs.Prelude.{slice_get, sum_by, Contains, AllPairs, IsTrue, ◌⊎◌}
use Rattle.lock_queue.specs.declared.key.Key.{Key}
use Rattle.lock_queue.specs.declared.request.Request.{Request}
use Rattle.lock_queue.specs.declared.want.Want.{Want}
use Rattle.lock_queue.specs.Pools.{PoolShare}
use Rattle.lock_queue.specs.Queue.{names, wants_at, agree, amount_of, fits, granted, owners}
use Rattle.lock_queue.specs.declared.status.Status.{Status}
use Rattle.lock_queue.specs.StatusWords.{is_exclusive, status_of, left_bit, words_of}
use Rattle.lock_queue.specs.WellFormed.{are_well_formed}
use Rattle.word36.specs.Words.{joined}
use Rattle.lock_laws.specs.Claims.{claims, AreAlike, AreApart, Rises}

-- an owner by an exclusive want without a pool is the only owner of its key
abbrev pub ExclusiveAlone : List Request → Type 0
ExclusiveAlone requests =
    (key : Key) (r : Request) (w : Want) → Contains (owners requests key) r → Contains r.wants.items w → w.key ≡ key
    → is_exclusive w ≡ true → owners requests key ≡ r ∷ []

-- where a request is granted, its wants without a pool agree with each earlier want of their keys: so the owners of a key
-- without a pool agree pairwise
abbrev pub OwnersAgree : List Request → Type 0
OwnersAgree requests =
    (i j : ℕ) (r s : Request) (v w : Want) → i < j → slice_get requests i ≡ Some r → slice_get requests j ≡ Some s
    → granted requests j ≡ true → Contains r.wants.items v → Contains s.wants.items w → v.key ≡ w.key → w.pool ≡ None
    → agree v w ≡ true

-- the owners' amounts of a key add up to at most the size of its pool
abbrev pub PoolsSuffice : List Request → Type 0
PoolsSuffice requests =
    (key : Key) (w : Want) (share : PoolShare) → Contains (wants_at requests key) w → w.pool ≡ Some share
    → sum_by amount_of (wants_at (owners requests key) key) ≤ share.size

-- a request owns all of its keys or none
abbrev pub AllOrNone : List Request → Type 0
AllOrNone requests =
    (r : Request) (key other : Key) → Contains (owners requests key) r → names r.wants.items other ≡ true
    → Contains (owners requests other) r

-- of the wants of a key those that fit stand in front: where a want does not fit, no later one of its key fits
abbrev pub FitsInFront : List Request → Type 0
FitsInFront requests =
    (i j : ℕ) (r s : Request) (v w : Want) → i < j → slice_get requests i ≡ Some r → slice_get requests j ≡ Some s
    → Contains r.wants.items v → Contains s.wants.items w → v.key ≡ w.key → fits (take i requests) v ≡ false
    → fits (take j requests) w ≡ false

-- where a want of a request does not fit, no later request owns its key
abbrev pub NoOvertaking : List Request → Type 0
NoOvertaking requests =
    (i j : ℕ) (r s : Request) (w : Want) → i < j → slice_get requests i ≡ Some r → slice_get requests j ≡ Some s
    → Contains r.wants.items w → fits (take i requests) w ≡ false → names s.wants.items w.key ≡ true
    → granted requests j ≡ false

-- what word 0 of a status says of the asker: bit 1 that it owns the key, and bit 2 that it waits for it
abbrev pub asker_bits : Status → ℕ
asker_bits s = joined (left_bit 1 s.owns + left_bit 2 s.waits) 0

-- the status words of a key are the same for all askers, but for those two bits
pub record ToldAlike (requests : List Request) (key : Key) : Type 0 where
  pub first : ℕ
  pub second : ℕ
  pub third : ℕ
  pub words : (asker : ℕ)
      → words_of (status_of requests key asker) ≡ (asker_bits (status_of requests key asker) + first) ∷ second ∷ third ∷ []
  -- what is common to all has bits 0 to 2 clear, where the requests are well-formed
  pub below : IsTrue (are_well_formed requests) → first < 2 ^ 33

-- a queue of some size holds them
abbrev pub HoldsAtMost : ℕ → List Request → Type 0
HoldsAtMost size requests = length requests ≤ size

pub record Safe (size : ℕ) (requests : List Request) : Type 0 where
  pub exclusive_alone : ExclusiveAlone requests
  pub owners_agree : OwnersAgree requests
  pub pools_suffice : PoolsSuffice requests
  pub all_or_none : AllOrNone requests
  pub fits_in_front : FitsInFront requests
  pub no_overtaking : NoOvertaking requests
  -- present wants of one key have one level, and one pool size or no pool
  pub alike : AllPairs AreAlike (claims requests)
  -- a job has at most one want of a key
  pub apart : AllPairs AreApart (claims requests)
  -- a want without bypass has a level above every want of its job that stands before it, in its own request too
  pub rising : AllPairs Rises (claims requests)
  -- the queue, which is of this size, holds them
  pub few : HoldsAtMost size requests
  -- the status words of a key differ between askers in bits 1 and 2 of word 0 alone
  pub told_alike : (key : Key) → ToldAlike requests key

-- the owners of a key that have it without a pool are one exclusive owner, or all of one group
abbrev pub IsOneParty : List Request → Type 0
IsOneParty requests =
    (key : Key) (r : Request) (w : Want) → Contains (owners requests key) r → Contains r.wants.items w → w.key ≡ key
    → w.pool ≡ None
    → (owners requests key ≡ r ∷ []) ⊎ ((w.shared ≡ true) × ((s : Request) (v : Want) → Contains (owners requests key) s
    → Contains s.wants.items v → v.key ≡ key → (v.shared ≡ true) × (v.group ≡ w.group)))

abbrev pub OneParty : Type 0
OneParty = (size : ℕ) (requests : List Request) → Safe size requests → IsOneParty requests
