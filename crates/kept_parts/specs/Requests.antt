-- A request as numbers and keys.
use Rattle.std.specs.Prelude.{ℕ, ◌&&◌, Bool, nat_eq, List, [], ◌∷◌, Option, Some, None}
use Rattle.std.specs.Cmp.Lexicographic.{pointwise}
use Rattle.lock_queue.specs.Keys.{same_key}
use Rattle.lock_queue.specs.Pools.{PoolShare}
use Rattle.lock_queue.specs.declared.request.EnqueueKind.{EnqueueKind}
use Rattle.lock_queue.specs.declared.request.EnqueueKind.TheVariants.{Blocking, AtOnce, Interrupt}
use Rattle.lock_queue.specs.declared.request.Request.{Request}
use Rattle.lock_queue.specs.declared.want.Want.{Want}
use Rattle.kept_parts.specs.Slots.{flag}

abbrev pub kind_number : EnqueueKind → ℕ
kind_number Blocking = 0
kind_number AtOnce = 1
kind_number Interrupt = 2

abbrev pub pool_numbers : Option PoolShare → List ℕ
pool_numbers None = 0 ∷ 0 ∷ 0 ∷ []
pool_numbers (Some p) = 1 ∷ p.size ∷ p.amount ∷ []

-- the numbers of a want, but for its key
abbrev pub want_numbers : Want → List ℕ
want_numbers w = flag w.shared ∷ w.group ∷ flag w.bypass ∷ w.level ∷ pool_numbers w.pool

abbrev pub same_want : Want → Want → Bool
same_want a b = same_key a.key b.key && pointwise nat_eq (want_numbers a) (want_numbers b)

-- the numbers of a request, but for its wants
abbrev pub request_numbers : Request → List ℕ
request_numbers r = r.job ∷ r.id ∷ kind_number r.kind ∷ flag r.notified ∷ []
