-- What states are made of: tables of requests and of vectors, and known calls.
use Rattle.std.specs.Prelude.{◌≡◌, ℕ, ◌<◌, ◌≤◌, ◌++◌, ◌/◌, List, [], Bool, true, false, length, map, slice_index_or}
use Rattle.std.specs.List.{All, IsDistinct, list_all}
use Rattle.std.specs.Cmp.Lexicographic.{pointwise}
use Rattle.std.specs.Prelude.{nat_eq}
use Rattle.std.proofs.Common.{Vec, Global}
use Rattle.word36.specs.declared.sizes.TheConstants.{MOST_REQUESTS}
use Rattle.lock_queue.specs.declared.request.Request.{Request}
use Rattle.lock_queue.specs.Jobs.{is_waiting_job}
use Rattle.lock_queue.specs.WellFormed.{are_well_formed}
use Rattle.lock_order_laws.specs.Normal.{normal}
use Rattle.state_search.specs.declared.kept.Origin.{Origin}
use Rattle.state_search.specs.Searched.{HasAll}
use Rattle.state_search.specs.Parts.{AreGrown, AreNumbers, part_of, parts_of}
use Rattle.lockcheck_orders.specs.declared.kept.KeptState.{KeptState}
use Rattle.lockcheck_orders.specs.declared.kept.KnownMove.{KnownMove}
use Rattle.lockcheck_orders.specs.declared.lines.Line.{Line}
use Rattle.lockcheck_orders.specs.declared.lines.TheConstants.{MOST_LINES}
use Rattle.lockcheck_orders.specs.declared.tables.Tables.{Tables}
use Rattle.lockcheck_orders.specs.Circles.{has_circle}
use Rattle.lockcheck_orders.specs.NormalOrders.{next_normal}
use Rattle.lockcheck_orders.specs.Orders.{first_state, left_by}
use Rattle.lockcheck_orders.specs.Origins.{IsKept}
use Rattle.lockcheck_orders.specs.Packing.{RequestForm, StateForm, came_from_some, packed_request, unpacked, unpacked_request}
use Rattle.lockcheck_orders.specs.Programs.{jobs_of, no_line}
use Rattle.lockcheck_orders.specs.Same.{same_request}

-- ---- what the numbers of a state stand for

-- vectors of numbers
abbrev pub Vectors : Type 0
Vectors = List (Vec ℕ Global)

-- no request
abbrev pub no_form : RequestForm
no_form = record { line = 0; notified = false; wants = [] }

-- the request with a number
abbrev pub form_at : List RequestForm → ℕ → RequestForm
form_at requests n = part_of (λ r. r) no_form requests n

-- the requests with some numbers
abbrev pub forms_at : List RequestForm → List ℕ → List RequestForm
forms_at requests ns = parts_of (λ r. r) no_form requests ns

-- the numbers in the vector with a number
abbrev pub numbers_at : Vectors → ℕ → List ℕ
numbers_at vectors n = part_of (λ v. v.items) [] vectors n

-- the requests of the list with a number
abbrev pub list_at : Tables → ℕ → List RequestForm
list_at t n = forms_at t.requests (numbers_at t.vectors n)

-- a kept state: its list of requests, and the counts of calls of both halves
abbrev pub form_of : Tables → KeptState → StateForm
form_of t x = record { requests = list_at t x.requests; made = numbers_at t.vectors x.front ++ numbers_at t.vectors x.back }

-- ---- facts on them

-- there is a list with this number
pub record IsListed (t : Tables) (n : ℕ) : Type 0 where
  pub there : n < length t.vectors
  pub numbers : AreNumbers t.requests (numbers_at t.vectors n)

-- what a line leaves of some requests: the packed form of their normal form, and whether some jobs wait in a circle then
pub record IsLeft (lines : List Line) (rs : List Request) (i : ℕ) (fs : List RequestForm) (b : Bool) : Type 0 where
  pub forms : fs ≡ map (packed_request lines) (normal (left_by lines rs i))
  pub come : list_all (came_from_some lines) (left_by lines rs i) ≡ true
  pub well : are_well_formed (left_by lines rs i) ≡ true
  pub few : length (left_by lines rs i) ≤ MOST_REQUESTS
  pub circle : b ≡ has_circle lines (record { requests = left_by lines rs i; made = [] })

-- a call that is known: whether its job waits, and else what the line leaves
pub record IsMade (lines : List Line) (t : Tables) (k : KnownMove) : Type 0 where
  pub from : IsListed t k.from
  pub after : IsListed t k.after
  pub waits : k.waits ≡ is_waiting_job (map (unpacked_request lines) (list_at t k.from)) (slice_index_or lines k.line no_line).job
  pub left : k.waits ≡ false → IsLeft lines (map (unpacked_request lines) (list_at t k.from)) k.line (list_at t k.after) k.circle

-- a kept call is true, if it is of a line
abbrev pub IsKnown : List Line → Tables → KnownMove → Type 0
IsKnown lines t k = k.line < MOST_LINES → IsMade lines t k

-- no call is known: no script has this line
abbrev pub unknown : KnownMove
unknown = record { from = 0; after = 0; line = 65535; waits = false; circle = false }

abbrev pub same_vector : Vec ℕ Global → Vec ℕ Global → Bool
same_vector x y = pointwise nat_eq x.items y.items

-- no part has two numbers, and each known call is true
pub record IsRight (lines : List Line) (t : Tables) : Type 0 where
  pub requests : IsDistinct same_request t.requests
  pub vectors : IsDistinct same_vector t.vectors
  pub known : All (IsKnown lines t) t.known.items

-- the number of jobs in the first half
abbrev pub half_of : List Line → ℕ
half_of lines = length (jobs_of lines) / 2

-- a state that is kept
pub record IsSoundState (lines : List Line) (t : Tables) (x : KeptState) : Type 0 where
  pub right : IsRight lines t
  pub requests : IsListed t x.requests
  pub front : x.front < length t.vectors
  pub back : x.back < length t.vectors
  pub half : length (numbers_at t.vectors x.front) ≡ half_of lines
  pub kept : IsKept lines (form_of t x)
  pub circle : x.circle ≡ has_circle lines (unpacked lines (form_of t x))

-- the tables have grown, and are as right as they were
pub record Learns (lines : List Line) (t : Tables) (lines' : List Line) (t' : Tables) : Type 0 where
  pub same_lines : lines' ≡ lines
  pub requests : AreGrown t.requests t'.requests
  pub vectors : AreGrown t.vectors t'.vectors
  pub right : IsRight lines t → IsRight lines' t'

-- all states are kept, and nothing else
abbrev pub HasEvery : List Line → Tables → List KeptState → List Origin → Type 0
HasEvery lines t xs os =
    HasAll (length (jobs_of lines)) (next_normal lines) (λ x. unpacked lines (form_of t x)) (first_state lines) (IsSoundState lines t) xs os
