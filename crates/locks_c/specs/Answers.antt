-- What the calls of C do to a handle, and what they answer.
use Rattle.std.specs.Prelude.{◌≡◌, ℕ, List, [], length, if◌then◌else◌, Option, Some, None}
use Rattle.std.specs.Global.{Box}
use Rattle.lock_queue.specs.Jobs.{is_waiting_job, waits_for}
use Rattle.lock_queue.specs.declared.grant.Grant.{Grant}
use Rattle.lock_queue.specs.declared.request.Request.{Request}
use Rattle.lock_service.specs.Effects.{Effect}
use Rattle.lock_service.specs.Readings.{code_at, over}
use Rattle.lock_service.specs.Served.{requests_of, shown}
use Rattle.lock_service.specs.declared.codes.TheConstants.{OK, WAITS, NO_TABLE, NO_MEMORY}
use Rattle.lock_service.specs.declared.locks.Locks.{Locks}

abbrev pub value_of : Box Locks → Locks
value_of b = b.value

-- a new table has no request, and where there is none no memory was found
abbrev pub IsNew : Option Locks → ℕ → Type 0
IsNew None code = code ≡ NO_MEMORY
IsNew (Some locks) code = (code ≡ OK) × (requests_of locks ≡ [])

-- a table is made where there was none
abbrev pub IsMade : Option Locks → Option Locks → ℕ → Type 0
IsMade None after code = IsNew after code
IsMade (Some locks) after code = (after ≡ Some locks) × (code ≡ NO_TABLE)

-- a table shows this effect
abbrev pub Shows : Effect → Option Locks → ℕ → Type 0
Shows effect None code = ⊥
Shows effect (Some locks) code = shown locks code ≡ effect

-- a call has this effect on the requests that are present, or there is no table
abbrev pub Serves : (List Request → Effect) → Option Locks → Option Locks → ℕ → Type 0
Serves effect None after code = (after ≡ None) × (code ≡ NO_TABLE)
Serves effect (Some locks) after code = Shows (effect (requests_of locks)) after code

-- ---- readings, of a table that is there

abbrev pub told : (Locks → ℕ) → Option Locks → ℕ
told code None = NO_TABLE
told code (Some locks) = code locks

abbrev pub counted : {A : Type 0} → (Locks → List A) → Option Locks → ℕ
counted items None = 0
counted items (Some locks) = length (items locks)

-- what is written over something
abbrev pub written : {A : Type 0} → A → (Locks → A) → Option Locks → A
written before shows None = before
written before shows (Some locks) = shows locks

abbrev pub code_there : {A : Type 0} → (Locks → Option A) → Locks → ℕ
code_there item locks = code_at (item locks)

abbrev pub shown_over : {A B : Type 0} → (A → B) → B → (Locks → Option A) → Locks → B
shown_over show before item locks = over show before (item locks)

abbrev pub grants_of : Locks → List Grant
grants_of locks = locks.woken.items

abbrev pub requests_in : Locks → List Request
requests_in locks = requests_of locks

abbrev pub waiting_code : ℕ → Locks → ℕ
waiting_code job locks = if is_waiting_job (requests_of locks) job then WAITS else OK

abbrev pub waits_code : ℕ → ℕ → Locks → ℕ
waits_code job other locks = if waits_for (requests_of locks) job other then WAITS else OK
