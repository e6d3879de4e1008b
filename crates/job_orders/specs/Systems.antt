-- The orders of some jobs as a system of states and moves: the facts on the machine with which they begin, on the machine on which
-- moves are made, and on each state that is kept.
use Rattle.std.specs.Prelude.{ℕ, ◌≡◌, ◌≤◌, ◌*◌, [], length, Option, Some, None}
use Rattle.core_store.specs.Cores.{core_of}
use Rattle.word36.specs.declared.sizes.TheConstants.{BLOCK_WORDS, JOBS}
use Rattle.machine.specs.Safe.{all_words}
use Rattle.job_order_laws.specs.Turned.{V}
use Rattle.job_orders.specs.declared.kept.KeptState.{KeptState}
use Rattle.job_orders.specs.declared.tables.Tables.{Tables}
use Rattle.job_orders.specs.Tables.{IsNumbered, IsRight, Learns, form_of, numbers_at}
use Rattle.job_orders.specs.Views.{IsFramed, view_of}

-- the state with which the orders begin, how many jobs there are, and how many turns one may take that nobody can notice
pub record Begun : Type 0 where
  pub state : V
  pub count : ℕ
  pub most : ℕ

pub record IsBegun (b : Begun) : Type 0 where
  pub few : b.count ≤ JOBS
  pub some : 1 ≤ b.state.machine.blocks
  pub framed : IsFramed b.state.machine.quantum b.state.machine.blocks b.count b.state

-- a machine on which a state can be set out
pub record IsReady (quantum blocks : ℕ) (v : V) : Type 0 where
  pub quantum_is : v.machine.quantum ≡ quantum
  pub blocks_are : v.machine.blocks ≡ blocks
  pub none_0 : core_of v.machine.world.cores 0 ≡ []
  pub words : all_words v.machine.world.cores ≡ blocks * BLOCK_WORDS

abbrev pub IsReadyFor : Begun → Option V → Type 0
IsReadyFor b (Some v) = IsReady b.state.machine.quantum b.state.machine.blocks v
IsReadyFor b None = ⊥

-- a kept state as it is shown
abbrev pub shown_by : Begun → Tables → KeptState → V
shown_by b t x = view_of b.state.machine.quantum b.state.machine.blocks (form_of t x)

-- the facts on it
pub record IsSoundState (b : Begun) (o : Option V) (t : Tables) (x : KeptState) : Type 0 where
  pub right : IsRight t
  pub numbered : IsNumbered t x
  pub many : length (numbers_at t.lists x.jobs) ≡ b.count
  pub framed : IsFramed b.state.machine.quantum b.state.machine.blocks b.count (shown_by b t x)
  pub ready : IsReadyFor b o

-- the tables have grown, and the machine is as ready as it was
pub record Extended (b : Begun) (o : Option V) (t : Tables) (c : Begun) (p : Option V) (u : Tables) : Type 0 where
  pub begun : c ≡ b
  pub learns : Learns t u
  pub ready : IsReadyFor b o → IsReadyFor c p
