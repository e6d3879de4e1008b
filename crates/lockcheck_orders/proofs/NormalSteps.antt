-- A call from the normal form of a state.
use Rattle.std.proofs.Common.{◌≡◌, ◌∙◌, sym, ap, ℕ, zero, suc, ◌+◌, ◌*◌, true, not, ◌&&◌, cond, List, Option, Some, None, length, filter, refl}
use Rattle.std.specs.Prelude.{option_map, is_some, slice_index, slice_set}
use Rattle.std.specs.List.{list_any}
use Rattle.word36.specs.declared.sizes.TheConstants.{MOST_REQUESTS}
use Rattle.lock_queue.specs.declared.request.Request.{Request}
use Rattle.lock_queue.specs.Jobs.{is_one, is_waiting_job, waits_for}
use Rattle.lock_queue.specs.Waits.{is_in_circle}
use Rattle.lock_order_laws.specs.Normal.{normal}
use Rattle.lock_order_laws.proofs.Serving.{normal_forms_serve, normal_forms_tell}
use Rattle.lockcheck_orders.specs.declared.answers.TheConstants.{ANSWERS}
use Rattle.lockcheck_orders.specs.declared.lines.Line.{Line}
use Rattle.lockcheck_orders.specs.declared.lines.Step.{Step}
use Rattle.lockcheck_orders.specs.declared.lines.Step.TheVariants.{Call, Refused, Free}
use Rattle.lockcheck_orders.specs.Answers.{answer_number, label, label_by}
use Rattle.lockcheck_orders.specs.Circles.{circle_jobs, has_circle}
use Rattle.lockcheck_orders.specs.NormalOrders.{normal_state, next_normal}
use Rattle.lockcheck_orders.specs.Orders.{State, made_by, next, next_line}
use Rattle.lockcheck_orders.specs.Programs.{due, jobs_of, performed}
use Rattle.lockcheck_orders.specs.Stuck.{is_stuck, none_calls, waiting_jobs}

-- ---- what a line does

performed-reply : (rs : List Request) (job : ℕ) (step : Step) → (performed (normal rs) job step).reply ≡ (performed rs job step).reply
performed-reply rs job (Call c) = sym ((normal_forms_serve MOST_REQUESTS rs).replies job c)
performed-reply rs job (Refused refusal) = refl
performed-reply rs job Free = refl

performed-left : (rs : List Request) (job : ℕ) (step : Step)
    → normal (performed (normal rs) job step).requests ≡ normal (performed rs job step).requests
performed-left rs job (Call c) = sym ((normal_forms_serve MOST_REQUESTS rs).leave job c)
performed-left rs job (Refused refusal) = normal_forms_tell.again rs
performed-left rs job Free = sym ((normal_forms_serve MOST_REQUESTS rs).releases (is_one job))

-- ---- what a job does next

waiting-same : (s : State) (job : ℕ) → is_waiting_job (normal s.requests) job ≡ is_waiting_job s.requests job
waiting-same s job = sym ((normal_forms_serve MOST_REQUESTS s.requests).shows.waiting job)

next_line-same : (lines : List Line) (s : State) (k : ℕ) → next_line lines (normal_state s) k ≡ next_line lines s k
next_line-same lines s k =
    ap (λ b. cond b None (due lines (slice_index (jobs_of lines) k) (slice_index s.made k))) (waiting-same s (slice_index (jobs_of lines) k))

made_by-same : (s : State) (k : ℕ) (o : Option Line) → option_map normal_state (made_by (normal_state s) k o) ≡ option_map normal_state (made_by s k o)
made_by-same s k None i = None
made_by-same s k (Some l) i =
    Some (record { requests = performed-left s.requests l.job l.step i; made = slice_set s.made k (slice_index s.made k + 1) })

pub next-same : (lines : List Line) (s : State) (k : ℕ) → next_normal lines (normal_state s) k ≡ option_map normal_state (next lines s k)
next-same lines s k =
    ap (λ o. option_map normal_state (made_by (normal_state s) k o)) (next_line-same lines s k) ∙ made_by-same s k (next_line lines s k)

-- ---- what is asked of a state

label_by-same : (s : State) (o : Option Line) → label_by (normal_state s) o ≡ label_by s o
label_by-same s None i = None
label_by-same s (Some l) i = Some (l.number * ANSWERS + answer_number (performed-reply s.requests l.job l.step i))

pub label-same : (lines : List Line) (s : State) (k : ℕ) → label lines (normal_state s) k ≡ label lines s k
label-same lines s k = ap (label_by (normal_state s)) (next_line-same lines s k) ∙ label_by-same s (next_line lines s k)

waits-same : (s : State) → waits_for (normal s.requests) ≡ waits_for s.requests
waits-same s = sym (λ i j k. (normal_forms_serve MOST_REQUESTS s.requests).shows.waits j k i)

pub has_circle-same : (lines : List Line) (s : State) → has_circle lines (normal_state s) ≡ has_circle lines s
has_circle-same lines s = ap (λ w. list_any (is_in_circle w) (jobs_of lines)) (waits-same s)

pub circle_jobs-same : (lines : List Line) (s : State) → circle_jobs lines (normal_state s) ≡ circle_jobs lines s
circle_jobs-same lines s = ap (λ w. filter (is_in_circle w) (jobs_of lines)) (waits-same s)

waiting_all-same : (s : State) → is_waiting_job (normal s.requests) ≡ is_waiting_job s.requests
waiting_all-same s i job = waiting-same s job i

none_calls-same : (lines : List Line) (s : State) (k : ℕ) → none_calls lines (normal_state s) k ≡ none_calls lines s k
none_calls-same lines s zero i = true
none_calls-same lines s (suc k) i = not (is_some (next_line-same lines s k i)) && none_calls-same lines s k i

pub is_stuck-same : (lines : List Line) (s : State) → is_stuck lines (normal_state s) ≡ is_stuck lines s
is_stuck-same lines s i =
    none_calls-same lines s (length (jobs_of lines)) i && list_any (waiting_all-same s i) (jobs_of lines)

pub waiting_jobs-same : (lines : List Line) (s : State) → waiting_jobs lines (normal_state s) ≡ waiting_jobs lines s
waiting_jobs-same lines s i = filter (waiting_all-same s i) (jobs_of lines)
