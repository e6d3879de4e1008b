-- What a search over normal forms finds.
use Rattle.std.proofs.Common.{◌≡◌, ◌≢◌, ◌∙◌, sym, ap, ℕ, ◌<◌, Bool, List, length, Option, Some, None}
use Rattle.state_search.specs.Found.{HasMore}
use Rattle.lockcheck_orders.specs.declared.lines.Line.{Line}
use Rattle.lockcheck_orders.specs.declared.verdicts.Verdict.{Verdict}
use Rattle.lockcheck_orders.specs.Answers.{label}
use Rattle.lockcheck_orders.specs.Circles.{circle_jobs, has_circle}
use Rattle.lockcheck_orders.specs.NormalOrders.{normal_state, next_normal, IsNormalOrder}
use Rattle.lockcheck_orders.specs.Orders.{State, first_state, next}
use Rattle.lockcheck_orders.specs.Programs.{jobs_of}
use Rattle.lockcheck_orders.specs.Stuck.{is_stuck, waiting_jobs}
use Rattle.lockcheck_orders.specs.Verdicts.{HasMoreForms, IsCountOfForms, IsGivenBy, IsOrder, IsVerdict, IsVerdictOf}
use Rattle.lockcheck_orders.proofs.NormalSteps.{next-same, label-same, has_circle-same, circle_jobs-same, is_stuck-same, waiting_jobs-same}
use Rattle.lockcheck_orders.proofs.Quotients.{leads-there, leads-back}

-- so many states are led to by orders over normal forms, no two of them the same
abbrev pub IsCountFound : List Line → ℕ → Type 0
IsCountFound lines n =
    (at : ℕ → State)
    × ((i : ℕ) → i < n → (ks : List ℕ) × IsNormalOrder lines ks (at i))
    × ((ks : List ℕ) (s : State) → IsNormalOrder lines ks s → (i : ℕ) × (i < n) × (at i ≡ s))
    × ((i j : ℕ) → i < j → j < n → at i ≢ at j)

module _ (lines : List Line) where
  there : (ks : List ℕ) (s : State) → IsOrder lines ks s → IsNormalOrder lines ks (normal_state s)
  there ks s h = leads-there (length (jobs_of lines)) (next lines) (next_normal lines) normal_state (next-same lines) (first_state lines) s ks h

  back : (ks : List ℕ) (t : State) → IsNormalOrder lines ks t → (s : State) × IsOrder lines ks s × (normal_state s ≡ t)
  back ks t h = leads-back (length (jobs_of lines)) (next lines) (next_normal lines) normal_state (next-same lines) (first_state lines) t ks h

  verdict : (holds : State → Bool) (members : State → List ℕ) → ((s : State) → holds (normal_state s) ≡ holds s)
      → ((s : State) → members (normal_state s) ≡ members s) → (o : Option Verdict) → IsVerdictOf (IsNormalOrder lines) holds members o
      → IsVerdict lines holds members o
  verdict holds members h m None v = λ ks s o. sym (h s) ∙ v ks (normal_state s) (there ks s o)
  verdict holds members h m (Some w) v =
      let found = back w.moves.items v.0.0 v.0.1 in (
        (
          found.0,
          found.1,
          sym (h found.0) ∙ ap holds found.2 ∙ v.0.2,
          v.0.3 ∙ sym (ap members found.2) ∙ m found.0,
        ),
        λ ks s o t. v.1 ks (normal_state s) (there ks s o) (h s ∙ t),
      )

  pub counted : (n : ℕ) → IsCountFound lines n → IsCountOfForms lines n
  counted n c = (
    c.0,
    λ i lt. let way = c.1 i lt in let found = back way.0 (c.0 i) way.1 in (way.0, found.0, found.1, found.2),
    λ ks s o. c.2 ks (normal_state s) (there ks s o),
    c.3,
  )

  pub more : (most : ℕ) → HasMore (length (jobs_of lines)) (next_normal lines) (first_state lines) most → HasMoreForms lines most
  more most m = (
    m.0,
    λ i h. let way = m.1 i h in let found = back way.0 (m.0 i) way.1 in (way.0, found.0, found.1, found.2),
    m.2,
  )

  pub circles : (o : Option Verdict) → IsVerdictOf (IsNormalOrder lines) (has_circle lines) (circle_jobs lines) o
      → IsVerdict lines (has_circle lines) (circle_jobs lines) o
  circles = verdict (has_circle lines) (circle_jobs lines) (has_circle-same lines) (circle_jobs-same lines)

  pub stuck : (o : Option Verdict) → IsVerdictOf (IsNormalOrder lines) (is_stuck lines) (waiting_jobs lines) o
      → IsVerdict lines (is_stuck lines) (waiting_jobs lines) o
  stuck = verdict (is_stuck lines) (waiting_jobs lines) (is_stuck-same lines) (waiting_jobs-same lines)

  pub given-by : (a : ℕ) → IsGivenBy lines (IsNormalOrder lines) a → IsGivenBy lines (IsOrder lines) a
  given-by a g =
      let found = back g.0 g.1 g.3 in
      (g.0, found.0, g.2, found.1, g.4, sym (label-same lines found.0 g.2) ∙ ap (λ s. label lines s g.2) found.2 ∙ g.5)

  pub given-there : (a : ℕ) → IsGivenBy lines (IsOrder lines) a → IsGivenBy lines (IsNormalOrder lines) a
  given-there a g = (g.0, normal_state g.1, g.2, there g.0 g.1 g.3, g.4, label-same lines g.1 g.2 ∙ g.5)
