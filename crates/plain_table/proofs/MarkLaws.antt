-- Marks that are set before a change and looked at after it find the grants that it makes.
use Rattle.std.proofs.Common.{◌≡◌, ◌∙◌, sym, ap, ℕ, suc, Bool, true, false, not, ◌&&◌, ◌||◌, ◌==◌, cond, if◌then◌else◌, List, [], ◌∷◌}
use Rattle.std.proofs.Common.{◌++◌, append-nil, append_assoc, length, map, filter, filter_map, Option, Some, None, is_some, refl, arith}
use Rattle.std.specs.List.{list_any, cons_option}
use Rattle.std.proofs.lemmas.Bool.{and_right}
use Rattle.std.proofs.lemmas.Bool.Decides.{nat_tests}
use Rattle.lock_queue.specs.declared.call.LockCall.{LockCall}
use Rattle.lock_queue.specs.declared.call.LockCall.TheVariants.{DequeueAll}
use Rattle.lock_queue.specs.declared.call.LockReply.TheVariants.{Done}
use Rattle.lock_queue.specs.declared.request.Request.{Request}
use Rattle.lock_queue.specs.declared.want.Want.{Want}
use Rattle.lock_queue.specs.Calls.{outcome_of}
use Rattle.lock_queue.specs.Dequeues.{has_wants, without_keys}
use Rattle.lock_queue.specs.Grants.{staying_if, left_of, grant_of, is_woken, woken, unless_refused_grants, woken_by, woken_by_release, is_woken_without, woken_by_withdrawal}
use Rattle.lock_queue.specs.Jobs.{is_among, is_not_blocked_where, released, withdrawn_all, withdrawn_where}
use Rattle.lock_queue.specs.Queue.{granted_behind, is_granted, chosen_behind, names}
use Rattle.lock_queue.proofs.GrantLaws.{KeepsLabels, left-labels, left-gone, left-stays, released-left, call-left}
use Rattle.plain_table.specs.GrantSteps.{awaits_grant, marked, marks_behind, marks_without, raised_behind}

-- ---- whether a request stays

not-empty : (n : ℕ) → true ≡ not (suc n == 0)
not-empty n = grind (arith, nat_tests)

any-filter-at : (b : Bool) (p : Want → Bool) (w : Want) (ws : List Want) → list_any p ws ≡ not (length (filter p ws) == 0)
    → (b || list_any p ws) ≡ not (length (if b then w ∷ filter p ws else filter p ws) == 0)
any-filter-at true p w ws h = not-empty (length (filter p ws))
any-filter-at false p w ws h = h

any-filter : (p : Want → Bool) (ws : List Want) → list_any p ws ≡ not (length (filter p ws) == 0)
any-filter p [] = refl
any-filter p (w ∷ ws) = any-filter-at (p w) p w ws (any-filter p ws)

any-all : (ws : List Want) → list_any (λ w. true) ws ≡ not (length ws == 0)
any-all [] = refl
any-all (w ∷ ws) = not-empty (length ws)

-- a request keeps a want where it has one that is not given up
pub keeps : (b : Bool) (named : List Want) (r : Request)
    → list_any (λ w. not (b && names named w.key)) r.wants.items ≡ has_wants (if b then without_keys named r else r)
keeps true named r = any-filter (λ w. not (names named w.key)) r.wants.items
keeps false named r = any-all r.wants.items

pub is_some-staying : (b : Bool) (r : Request) → is_some (staying_if b r) ≡ b
is_some-staying true r = refl
is_some-staying false r = refl

-- ---- marks

module _ (left : Request → Option Request) where
  -- there is a mark for each request that is left
  pub marks-length : (e rs : List Request) → length (marks_behind left e rs) ≡ length (filter_map left rs)
  marks-length e [] = refl
  marks-length e (r ∷ rs) = go (left r) (marks-length (e ++ r ∷ []) rs)
    where
      go : (o : Option Request) → length (marks_behind left (e ++ r ∷ []) rs) ≡ length (filter_map left rs)
          → length (marked o (awaits_grant e r) (marks_behind left (e ++ r ∷ []) rs)) ≡ length (cons_option o (filter_map left rs))
      go None h = h
      go (Some s) h = omega (arith, h)

  -- what the marks raise is what is woken
  raised-woken : KeepsLabels left → (e rs : List Request)
      → raised_behind (filter_map left e) (marks_behind left e rs) (filter_map left rs)
      ≡ map grant_of (chosen_behind (is_woken left) e rs)
  raised-woken keep e [] = refl
  raised-woken keep e (r ∷ rs) = go (left r) refl (raised-woken keep (e ++ r ∷ []) rs)
    where
      marks : List Bool
      marks = marks_behind left (e ++ r ∷ []) rs

      chosen-later : List Request
      chosen-later = chosen_behind (is_woken left) (e ++ r ∷ []) rs

      go : (o : Option Request) → left r ≡ o
          → raised_behind (filter_map left (e ++ r ∷ [])) marks (filter_map left rs) ≡ map grant_of chosen-later
          → raised_behind (filter_map left e) (marked o (awaits_grant e r) marks) (cons_option o (filter_map left rs))
          ≡ map grant_of (cond (awaits_grant e r && is_granted (filter_map left e) o) (r ∷ chosen-later) chosen-later)
      go None is h =
          ap (λ l. raised_behind l marks (filter_map left rs)) (sym (left-gone left e r is)) ∙ h
          ∙ ap (λ b. map grant_of (cond b (r ∷ chosen-later) chosen-later)) (sym (and_right (awaits_grant e r) false refl))
      go (Some s) is h =
          let rest : raised_behind (filter_map left e ++ s ∷ []) marks (filter_map left rs) ≡ map grant_of chosen-later =
          ap (λ l. raised_behind l marks (filter_map left rs)) (sym (left-stays left e r s is)) ∙ h in
          elim (awaits_grant e r && granted_behind (filter_map left e) s) as (λ b.
          cond b (grant_of s ∷ raised_behind (filter_map left e ++ s ∷ []) marks (filter_map left rs))
          (raised_behind (filter_map left e ++ s ∷ []) marks (filter_map left rs))
          ≡ map grant_of (cond b (r ∷ chosen-later) chosen-later)) [
            | true ↦ ap (λ g. g ∷ raised_behind (filter_map left e ++ s ∷ []) marks (filter_map left rs)) (keep r s is) ∙ ap (λ l. grant_of r ∷ l) rest
            | false ↦ rest
          ]

  pub raised-all : KeepsLabels left → (requests : List Request)
      → raised_behind [] (marks_behind left [] requests) (filter_map left requests) ≡ woken left requests
  raised-all keep requests = raised-woken keep [] requests

-- ---- what is woken

-- what the marks raise behind a call that is done, and behind a release
pub woken-done : (size : ℕ) (requests after : List Request) (job : ℕ) (call : LockCall) → (outcome_of size requests job call).reply ≡ Done
    → after ≡ (outcome_of size requests job call).requests
    → raised_behind [] (marks_behind (left_of job call) [] requests) after ≡ woken_by size requests job call
woken-done size requests after job call done is =
    ap (raised_behind [] (marks_behind (left_of job call) [] requests)) (is ∙ call-left size requests job call done)
    ∙ raised-all (left_of job call) (left-labels job call) requests
    ∙ sym (ap (λ reply. unless_refused_grants reply (woken (left_of job call) requests)) done)

pub woken-released : (requests after : List Request) (job : ℕ) → after ≡ released requests job
    → raised_behind [] (marks_behind (left_of job DequeueAll) [] requests) after ≡ woken_by_release requests job
woken-released requests after job is =
    ap (raised_behind [] (marks_behind (left_of job DequeueAll) [] requests)) (is ∙ released-left requests job)
    ∙ raised-all (left_of job DequeueAll) (left-labels job DequeueAll) requests

-- there is a mark for each request after the call
pub marks-done : (size : ℕ) (requests after : List Request) (job : ℕ) (call : LockCall) → (outcome_of size requests job call).reply ≡ Done
    → after ≡ (outcome_of size requests job call).requests
    → length (marks_behind (left_of job call) [] requests) ≡ length after
marks-done size requests after job call done is =
    marks-length (left_of job call) [] requests ∙ sym (ap length (is ∙ call-left size requests job call done))

pub marks-released : (requests after : List Request) (job : ℕ) → after ≡ released requests job
    → length (marks_behind (left_of job DequeueAll) [] requests) ≡ length after
marks-released requests after job is =
    marks-length (left_of job DequeueAll) [] requests ∙ sym (ap length (is ∙ released-left requests job))

-- ---- where the requests by which some jobs wait leave

-- what a test chooses of one more request
chosen-more : (test : List Request → Request → Bool) (e rs : List Request) (r : Request)
    → chosen_behind test e (rs ++ r ∷ []) ≡ chosen_behind test e rs ++ cond (test (e ++ rs) r) (r ∷ []) []
chosen-more test e [] r = ap (λ l. cond (test l r) (r ∷ []) []) (sym (append-nil e))
chosen-more test e (x ∷ rs) r =
    let rest : chosen_behind test (e ++ x ∷ []) (rs ++ r ∷ [])
    ≡ chosen_behind test (e ++ x ∷ []) rs ++ cond (test (e ++ x ∷ rs) r) (r ∷ []) [] =
    chosen-more test (e ++ x ∷ []) rs r
    ∙ ap (λ l. chosen_behind test (e ++ x ∷ []) rs ++ cond (test l r) (r ∷ []) []) (append_assoc e (x ∷ []) rs) in
    elim (test e x) as (λ b.
    cond b (x ∷ chosen_behind test (e ++ x ∷ []) (rs ++ r ∷ [])) (chosen_behind test (e ++ x ∷ []) (rs ++ r ∷ []))
    ≡ cond b (x ∷ chosen_behind test (e ++ x ∷ []) rs) (chosen_behind test (e ++ x ∷ []) rs) ++ cond (test (e ++ x ∷ rs) r) (r ∷ []) []) [
      | true ↦ ap (λ l. x ∷ l) rest
      | false ↦ rest
    ]

module _ (waiters : ℕ → Bool) where
  -- there is a mark for each request that stays
  marks-stay : (e rs : List Request) → length (marks_without waiters e rs) ≡ length (chosen_behind (is_not_blocked_where waiters) e rs)
  marks-stay e [] = refl
  marks-stay e (r ∷ rs) =
      let rest = marks-stay (e ++ r ∷ []) rs in
      elim (is_not_blocked_where waiters e r) as (λ b.
      length (cond b (awaits_grant e r ∷ marks_without waiters (e ++ r ∷ []) rs) (marks_without waiters (e ++ r ∷ []) rs))
      ≡ length (cond b (r ∷ chosen_behind (is_not_blocked_where waiters) (e ++ r ∷ []) rs) (chosen_behind (is_not_blocked_where waiters) (e ++ r ∷ []) rs))) [
        | true ↦ omega (arith, rest)
        | false ↦ rest
      ]

  -- what the marks raise is what is woken
  raised-without : (e rs : List Request)
      → raised_behind (withdrawn_where e waiters) (marks_without waiters e rs) (chosen_behind (is_not_blocked_where waiters) e rs)
      ≡ map grant_of (chosen_behind (is_woken_without waiters) e rs)
  raised-without e [] = refl
  raised-without e (r ∷ rs) =
      go (is_not_blocked_where waiters e r) (chosen-more (is_not_blocked_where waiters) [] e r) (raised-without (e ++ r ∷ []) rs)
    where
      stayed : List Request
      stayed = withdrawn_where e waiters

      marks : List Bool
      marks = marks_without waiters (e ++ r ∷ []) rs

      stay-later : List Request
      stay-later = chosen_behind (is_not_blocked_where waiters) (e ++ r ∷ []) rs

      woken-later : List Request
      woken-later = chosen_behind (is_woken_without waiters) (e ++ r ∷ []) rs

      go : (b : Bool) → withdrawn_where (e ++ r ∷ []) waiters ≡ stayed ++ cond b (r ∷ []) []
          → raised_behind (withdrawn_where (e ++ r ∷ []) waiters) marks stay-later ≡ map grant_of woken-later
          → raised_behind stayed (cond b (awaits_grant e r ∷ marks) marks) (cond b (r ∷ stay-later) stay-later)
          ≡ map grant_of (cond (awaits_grant e r && is_granted stayed (staying_if b r)) (r ∷ woken-later) woken-later)
      go true more h =
          let rest : raised_behind (stayed ++ r ∷ []) marks stay-later ≡ map grant_of woken-later =
          ap (λ l. raised_behind l marks stay-later) (sym more) ∙ h in
          elim (awaits_grant e r && granted_behind stayed r) as (λ b.
          cond b (grant_of r ∷ raised_behind (stayed ++ r ∷ []) marks stay-later) (raised_behind (stayed ++ r ∷ []) marks stay-later)
          ≡ map grant_of (cond b (r ∷ woken-later) woken-later)) [
            | true ↦ ap (λ l. grant_of r ∷ l) rest
            | false ↦ rest
          ]
      go false more h =
          ap (λ l. raised_behind l marks stay-later) (sym (more ∙ append-nil stayed)) ∙ h
          ∙ ap (λ b. map grant_of (cond b (r ∷ woken-later) woken-later)) (sym (and_right (awaits_grant e r) false refl))

pub woken-withdrawn : (requests after : List Request) (jobs : ℕ) → after ≡ withdrawn_all requests jobs
    → raised_behind [] (marks_without (is_among jobs) [] requests) after ≡ woken_by_withdrawal requests jobs
woken-withdrawn requests after jobs is =
    ap (raised_behind [] (marks_without (is_among jobs) [] requests)) is ∙ raised-without (is_among jobs) [] requests

pub marks-withdrawn : (requests after : List Request) (jobs : ℕ) → after ≡ withdrawn_all requests jobs
    → length (marks_without (is_among jobs) [] requests) ≡ length after
marks-withdrawn requests after jobs is = marks-stay (is_among jobs) [] requests ∙ sym (ap length is)
