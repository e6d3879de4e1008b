-- Laws on the moves of a search (this project's profile).
use Rattle.std.specs.Prelude.{ℕ, ◌≡◌, ◌<◌, ◌+◌, true, List, [], ◌∷◌, length, Some, None}
use Rattle.job_order_laws.specs.Choices.{choice, is_noticed_turn, requests_in}
use Rattle.job_order_laws.specs.Erased.{IsPlain, IsTimedRun, erased, turned_at_once, turns_in}
use Rattle.job_order_laws.specs.Orders.{IsEnd, IsRun, Settles, noticed_in}
use Rattle.job_order_laws.specs.Turned.{IsSound, V}
use Rattle.job_moves.specs.Moves.{HasJobs, IsAwake, is_clear, is_loud_turn, next, settled}

-- the state in which no job sleeps is safe
abbrev pub BegunIsAwake : Type 0
BegunIsAwake = (v : V) → IsSound v → IsAwake (erased v)

-- a state that settles in a clear one
abbrev pub SettledIsSettled : Type 0
SettledIsSettled =
    (most count : ℕ) (v : V) → IsAwake v → HasJobs count v → is_clear count (settled most count v) ≡ true
    → Settles turned_at_once is_loud_turn v (settled most count v)

-- a move is a turn that others can notice, and all that goes on after it
pub record IsNoticedMove (v t : V) (n : ℕ) : Type 0 where
  pub state : V
  pub turn : turned_at_once v n ≡ Some state
  pub noticed : is_noticed_turn v n ≡ true
  pub settles : Settles turned_at_once is_loud_turn state t

-- a move to a clear state is such a move
abbrev pub MovesAreNoticed : Type 0
MovesAreNoticed =
    (most count : ℕ) (v t : V) (k : ℕ) → IsAwake v → HasJobs count v → k < count → next most count v k ≡ Some t → is_clear count t ≡ true
    → IsNoticedMove v t (k + 1)

-- and what holds of states stays
pub record IsKept (count : ℕ) (t : V) : Type 0 where
  pub awake : IsAwake t
  pub jobs : HasJobs count t

abbrev pub MovesKeep : Type 0
MovesKeep = (most count : ℕ) (v t : V) (k : ℕ) → IsKept count v → k < count → next most count v k ≡ Some t → IsKept count t

-- moves lead from a state to another
abbrev pub Reaches : ℕ → ℕ → V → List ℕ → V → Type 0
Reaches most count s [] t = s ≡ t
Reaches most count s (k ∷ ks) t = (a : V) × (k < count) × (next most count s k ≡ Some a) × Reaches most count a ks t

-- each state that moves lead to is clear
abbrev pub AllClear : ℕ → ℕ → V → Type 0
AllClear most count s = (ks : List ℕ) (t : V) → Reaches most count s ks t → is_clear count t ≡ true

-- then the requests of each state that a run leads to are those of a state that moves lead to
abbrev pub RequestsAreReached : Type 0
RequestsAreReached =
    (most count : ℕ) (v w : V) (ns : List ℕ) → IsKept count v → AllClear most count (settled most count v) → IsRun turned_at_once v ns w
    → (ks : List ℕ) × (t : V) × Reaches most count (settled most count v) ks t × (length ks ≡ noticed_in turned_at_once is_loud_turn v ns)
    × (requests_in t ≡ requests_in w)

-- each end of a run is one of the moves, by as many moves as the run has turns that others can notice
abbrev pub EndsAreReached : Type 0
EndsAreReached =
    (most count : ℕ) (v w : V) (ns : List ℕ) → IsKept count v → AllClear most count (settled most count v) → IsRun turned_at_once v ns w
    → IsEnd turned_at_once w
    → (ks : List ℕ) × Reaches most count (settled most count v) ks w × (length ks ≡ noticed_in turned_at_once is_loud_turn v ns)

-- and if moves lead to a state, a run does
abbrev pub RunsReach : Type 0
RunsReach =
    (most count : ℕ) (v t : V) (ks : List ℕ) → IsKept count v → AllClear most count (settled most count v)
    → Reaches most count (settled most count v) ks t
    → (ns : List ℕ) × IsRun turned_at_once v ns t

-- a state from which a search finds only clear states, once the sleeps are erased
pub record IsCleared (most count : ℕ) (v : V) : Type 0 where
  pub sound : IsSound v
  pub jobs : HasJobs count v
  pub clear : AllClear most count (settled most count (erased v))

-- in each run of turns and ticks from there no limit counts, and no job reads the time of day
abbrev pub RunsArePlain : Type 0
RunsArePlain = (most count : ℕ) (v w : V) (ns : List ℕ) → IsCleared most count v → IsRun choice v ns w → IsPlain choice v ns

-- how many turns of a run others can notice; the sleeps are erased
abbrev pub noticed_turns : V → List ℕ → ℕ
noticed_turns v ns = noticed_in turned_at_once is_loud_turn (erased v) (turns_in ns)

-- the requests of each state that it leads to are those of a state to which as many moves lead
abbrev pub RequestsAreFound : Type 0
RequestsAreFound =
    (most count : ℕ) (v w : V) (ns : List ℕ) → IsCleared most count v → IsRun choice v ns w
    → (ks : List ℕ) × (t : V) × Reaches most count (settled most count (erased v)) ks t × (length ks ≡ noticed_turns v ns)
    × (requests_in t ≡ requests_in w)

-- as many moves lead to each end, once the sleeps are erased
abbrev pub EndsAreFound : Type 0
EndsAreFound =
    (most count : ℕ) (v w : V) (ns : List ℕ) → IsCleared most count v → IsRun choice v ns w → IsEnd choice w
    → (ks : List ℕ) × Reaches most count (settled most count (erased v)) ks (erased w) × (length ks ≡ noticed_turns v ns)

-- if moves lead to a state, a run of turns and ticks does
abbrev pub OrdersAreRuns : Type 0
OrdersAreRuns =
    (most count : ℕ) (v t : V) (ks : List ℕ) → IsCleared most count v → Reaches most count (settled most count (erased v)) ks t
    → (turns : List ℕ) × IsTimedRun v turns t

-- and to an end, if there is no move more
abbrev pub LastsAreEnds : Type 0
LastsAreEnds =
    (most count : ℕ) (v t : V) (ks : List ℕ) → IsCleared most count v → Reaches most count (settled most count (erased v)) ks t
    → ((k : ℕ) → k < count → next most count t k ≡ None)
    → (turns : List ℕ) × (r : IsTimedRun v turns t) × IsEnd choice r.state
