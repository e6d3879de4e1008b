-- Findings in the states that a search keeps, up to a position: `at i` is the i-th of them, and how it was met.
use Rattle.std.specs.Prelude.{ℕ, ◌≡◌, ◌≢◌, ◌<◌, Bool, true, List, [], map, Option, Some, None}
use Rattle.std.specs.List.{All, AllPairs, Contains}
use Rattle.state_search.specs.Searched.{HasAll, Met, seen_of, way}
use Rattle.state_search.specs.declared.kept.Origin.{Origin}
use Rattle.job_order_laws.specs.Choices.{requests_in}
use Rattle.job_order_laws.specs.Turned.{V}
use Rattle.job_moves.specs.Moves.{is_clear, next}
use Rattle.job_orders.specs.declared.ends.End.{End}
use Rattle.job_orders.specs.declared.kept.KeptState.{KeptState}
use Rattle.job_orders.specs.declared.looking.GivenUp.{GivenUp}
use Rattle.job_orders.specs.declared.looking.Looked.{Looked}
use Rattle.job_orders.specs.declared.looking.Looked.TheVariants.{All as Whole, GaveUp}
use Rattle.job_orders.specs.declared.looking.Report.{Report}
use Rattle.job_orders.specs.declared.looking.Waiting.{Waiting}
use Rattle.job_orders.specs.declared.tables.Tables.{Tables}
use Rattle.job_orders.specs.Endings.{Ending, circle_in, ending_in, ending_of, rests}
use Rattle.job_orders.specs.Reports.{IsReason}
use Rattle.job_orders.specs.Systems.{Begun, IsSoundState, shown_by}

-- the first state with a circle, and the moves that led to it
pub record IsFirstCircle {X : Type 0} (circle : X → List ℕ) (at : ℕ → Met X) (position : ℕ) (c : Waiting) : Type 0 where
  pub place : ℕ
  pub low : place < position
  pub moves : c.moves.items ≡ way at place place
  pub jobs : c.jobs.items ≡ circle (at place).state
  pub some : c.jobs.items ≢ []
  pub none_before : (i : ℕ) → i < place → circle (at i).state ≡ []

-- it, if there is one
abbrev pub IsCircleSoFar : {X : Type 0} → (X → List ℕ) → (ℕ → Met X) → ℕ → Option Waiting → Type 0
IsCircleSoFar circle at position None = (i : ℕ) → i < position → circle (at i).state ≡ []
IsCircleSoFar circle at position (Some c) = IsFirstCircle circle at position c

-- the first state of those that end and leave the same, and the moves that led to it
pub record IsFirstEnd {X : Type 0} (rests : X → Bool) (ending : X → Ending) (at : ℕ → Met X) (position : ℕ) (e : End) : Type 0 where
  pub place : ℕ
  pub low : place < position
  pub moves : e.moves.items ≡ way at place place
  pub rest : rests (at place).state ≡ true
  pub leaves : ending_of e ≡ ending (at place).state
  pub none_before : (i : ℕ) → i < place → rests (at i).state ≡ true → ending (at i).state ≢ ending_of e

-- one for each that some state leaves
pub record AreEndsSoFar {X : Type 0} (rests : X → Bool) (ending : X → Ending) (at : ℕ → Met X) (position : ℕ) (ends : List End) : Type 0 where
  pub each : All (IsFirstEnd rests ending at position) ends
  pub complete : (i : ℕ) → i < position → rests (at i).state ≡ true → Contains (map ending_of ends) (ending (at i).state)
  pub apart : AllPairs (λ d e. ending_of d ≢ ending_of e) ends

-- ---- of jobs

-- the states that are kept, and how each was met
abbrev pub met_at : Begun → Tables → List KeptState → List Origin → ℕ → Met V
met_at b t xs os = seen_of (shown_by b t) b.state xs os

-- all states that moves lead to are kept
abbrev pub AreKept : Begun → Option V → Tables → List KeptState → List Origin → Type 0
AreKept b o t xs os = HasAll b.count (next b.most b.count) (shown_by b t) b.state (IsSoundState b o t) xs os

-- the circle, and the ends, up to a position
abbrev pub circle_at : ℕ → V → List ℕ
circle_at count v = circle_in count (requests_in v)

abbrev pub HasCircle : ℕ → (ℕ → Met V) → ℕ → Option Waiting → Type 0
HasCircle count at position circle = IsCircleSoFar (circle_at count) at position circle

abbrev pub HasEnds : ℕ → (ℕ → Met V) → ℕ → List End → Type 0
HasEnds count at position ends = AreEndsSoFar (rests count) (ending_in count) at position ends

-- from no state before a position moves cannot be made
abbrev pub AreClear : ℕ → (ℕ → Met V) → ℕ → Type 0
AreClear count at position = (i : ℕ) → i < position → is_clear count (at i).state ≡ true

-- the findings in all states
pub record HasReport (count : ℕ) (at : ℕ → Met V) (len : ℕ) (r : Report) : Type 0 where
  pub states : r.states ≡ len
  pub clear : AreClear count at len
  pub circle : HasCircle count at len r.circle
  pub ends : HasEnds count at len r.ends.items

-- or in the first from which no move can be made
pub record HasObstacle (count : ℕ) (at : ℕ → Met V) (len : ℕ) (g : GivenUp) : Type 0 where
  pub place : ℕ
  pub low : place < len
  pub moves : g.moves.items ≡ way at place place
  pub reason : IsReason (at place).state g.reason
  pub clear : AreClear count at place

abbrev pub IsFound : ℕ → (ℕ → Met V) → ℕ → Looked → Type 0
IsFound count at len (Whole r) = HasReport count at len r
IsFound count at len (GaveUp g) = HasObstacle count at len g
