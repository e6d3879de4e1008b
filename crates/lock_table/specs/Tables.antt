-- What a table holds between two steps of a call (this project's profile).
use Rattle.std.specs.Prelude.{ℕ, List}
use Rattle.lock_queue.specs.declared.request.Request.{Request}
use Rattle.key_queues.specs.States.{State}
use Rattle.lock_table.specs.TableStates.{state_of}
use Rattle.lock_table.specs.Whole.{IsWhole, requests_in}
use Rattle.lock_table.specs.declared.table.Table.{Table}
use Rattle.lock_table.specs.Flips.{Flipped}

-- the requests, the flags and the queues
abbrev pub state : {n : ℕ} → Table n → State
state t = state_of t.store t.keys

-- the requests, in order of arrival
abbrev pub requests : {n : ℕ} → Table n → List Request
requests t = requests_in t.store

-- what holds between two calls
abbrev pub IsRight : {n : ℕ} → ℕ → Table n → Type 0
IsRight size t = IsWhole size t.store t.keys

-- the mark of each request that is present and has wants flips where its flag does
abbrev pub AreFlipped : {n : ℕ} → Table n → Table n → Type 0
AreFlipped s t = Flipped s.store t.store s.flips t.flips
