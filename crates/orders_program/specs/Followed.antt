-- Orders that are followed on a machine (this project's profile). A move has the number of its job less 1.
use Rattle.std.specs.Prelude.{◌≡◌, ◌≤◌, ◌+◌, ℕ, List, length, ⊤}
use Rattle.word36.specs.declared.sizes.TheConstants.{JOBS}
use Rattle.job_order_laws.specs.Turned.{V}
use Rattle.job_moves.specs.Moves.{IsAwake}
use Rattle.job_orders.specs.Reports.{IsOrder}
use Rattle.job_orders.specs.declared.looking.Reason.{Reason}
use Rattle.job_orders.specs.declared.looking.Reason.TheVariants.{States, Typed, Limit, Clock, Turns}
use Rattle.orders_program.specs.declared.following.Following.{Following}

-- the machine is safe, no job sleeps, and there is room for the turns of each job
pub record IsFollowing (f : Following) : Type 0 where
  pub awake : IsAwake f.machine
  pub few : f.count ≤ JOBS
  pub rooms : length f.ahead.items ≡ JOBS + 1

-- an order has gone on from f to g, whose machine is v; what it is followed by is as it was
pub record GoesTo (f g : Following) (v : V) : Type 0 where
  pub machine : g.machine ≡ v
  pub count : g.count ≡ f.count
  pub most : g.most ≡ f.most
  pub following : IsFollowing g

-- these moves can all be made
abbrev pub HasOrder : ℕ → V → List ℕ → Type 0
HasOrder most v moves = (t : V) × IsOrder most v moves t

-- those to the state at which a search gave up, if there are any
abbrev pub HasOrderTo : ℕ → V → Reason → List ℕ → Type 0
HasOrderTo most v (States n) moves = ⊤
HasOrderTo most v (Typed line) moves = ⊤
HasOrderTo most v (Limit n) moves = HasOrder most v moves
HasOrderTo most v (Clock n) moves = HasOrder most v moves
HasOrderTo most v (Turns n) moves = HasOrder most v moves
