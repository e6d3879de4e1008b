-- Orders over normal forms: after each call the list of requests is put into its normal form.
use Rattle.std.specs.Prelude.{ℕ, List, length, Option, option_map}
use Rattle.state_search.specs.Orders.{Leads}
use Rattle.lock_order_laws.specs.Normal.{normal}
use Rattle.lockcheck_orders.specs.declared.lines.Line.{Line}
use Rattle.lockcheck_orders.specs.Orders.{State, first_state, next}
use Rattle.lockcheck_orders.specs.Programs.{jobs_of}

-- a state with its requests in their normal form: those that have nothing to do with each other stand by their jobs, whichever came first
abbrev pub normal_state : State → State
normal_state s = record { requests = normal s.requests; made = s.made }

-- the normal form of the state behind the next call
abbrev pub next_normal : List Line → State → ℕ → Option State
next_normal lines s k = option_map normal_state (next lines s k)

-- the order leads to a state, where each state on the way is put into its normal form
abbrev pub IsNormalOrder : List Line → List ℕ → State → Type 0
IsNormalOrder lines ks s = Leads (length (jobs_of lines)) (next_normal lines) (first_state lines) ks s
