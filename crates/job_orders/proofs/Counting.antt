-- Jobs counted one after the other.
use Rattle.std.proofs.Common.{◌≡◌, ◌<◌, ◌≤◌, ◌+◌, ◌++◌, ◌∷◌, ◌∙◌, ℕ, zero, suc, Bool, true, false, cond, List, [], Option, Some, None, is_some, refl, sym, ap, arith, inl, inr, length}
use Rattle.std.proofs.lemmas.Bool.{cases_eq, cases_lt, false≢true}
use Rattle.std.proofs.lemmas.List.{get_or_past}
use Rattle.word36.specs.declared.sizes.TheConstants.{JOBS}
use Rattle.lock_queue.specs.Jobs.{waits_for}
use Rattle.lock_queue.specs.Waits.{is_in_circle}
use Rattle.lock_queue.specs.declared.request.Request.{Request}
use Rattle.job_sched.specs.Tables.{job_at}
use Rattle.job_sched.specs.declared.job.Job.{Job}
use Rattle.job_orders.specs.Endings.{circle_in, highest_job}

pub circle-none : (rs : List Request) → circle_in zero rs ≡ []
unfolding circle_in
circle-none rs = refl

pub circle-next : (n : ℕ) (rs : List Request)
    → circle_in (suc n) rs ≡ cond (is_in_circle (waits_for rs) (suc n)) (circle_in n rs ++ suc n ∷ []) (circle_in n rs)
unfolding circle_in
circle-next n rs = refl

pub circle-more : (n : ℕ) (rs : List Request) (b : Bool) → is_in_circle (waits_for rs) (n + 1) ≡ b
    → circle_in (n + 1) rs ≡ cond b (circle_in n rs ++ (n + 1) ∷ []) (circle_in n rs)
circle-more n rs b e =
    let one : n + 1 ≡ suc n = omega arith in
    ap (λ m. circle_in m rs) one ∙ circle-next n rs
    ∙ ap (λ m. cond (is_in_circle (waits_for rs) m) (circle_in n rs ++ m ∷ []) (circle_in n rs)) (sym one)
    ∙ ap (λ c. cond c (circle_in n rs ++ (n + 1) ∷ []) (circle_in n rs)) e

pub highest-none : (jobs : List (Option Job)) → highest_job jobs zero ≡ 0
unfolding highest_job
highest-none jobs = refl

pub highest-next : (jobs : List (Option Job)) (n : ℕ)
    → highest_job jobs (suc n) ≡ cond (is_some (job_at jobs (suc n))) (suc n) (highest_job jobs n)
unfolding highest_job
highest-next jobs n = refl

pub highest-more : (jobs : List (Option Job)) (n : ℕ) (b : Bool) → is_some (job_at jobs (n + 1)) ≡ b
    → highest_job jobs (n + 1) ≡ cond b (n + 1) (highest_job jobs n)
highest-more jobs n b e =
    let one : n + 1 ≡ suc n = omega arith in
    ap (highest_job jobs) one ∙ highest-next jobs n ∙ ap (λ m. cond (is_some (job_at jobs m)) m (highest_job jobs n)) (sym one)
    ∙ ap (λ c. cond c (n + 1) (highest_job jobs n)) e

is-none : (o : Option Job) → is_some o ≡ false → o ≡ None
is-none None e = refl
is-none (Some j) e = absurd (false≢true (sym e))

-- no job has a higher number
above : (jobs : List (Option Job)) (n m : ℕ) → highest_job jobs n < m → m ≤ n → job_at jobs m ≡ None
above jobs zero m low high = absurd (let none : highest_job jobs zero ≡ 0 = highest-none jobs in omega (arith, none, low, high))
above jobs (suc n) m low high = by_here (is_some (job_at jobs (suc n))) refl (above jobs n m)
  where
    by_here : (b : Bool) → is_some (job_at jobs (suc n)) ≡ b → (highest_job jobs n < m → m ≤ n → job_at jobs m ≡ None) → job_at jobs m ≡ None
    by_here true e rest =
        let is : highest_job jobs (suc n) ≡ suc n = highest-next jobs n ∙ ap (λ c. cond c (suc n) (highest_job jobs n)) e in
        absurd (omega (arith, is, low, high))
    by_here false e rest =
        let is : highest_job jobs (suc n) ≡ highest_job jobs n = highest-next jobs n ∙ ap (λ c. cond c (suc n) (highest_job jobs n)) e in
        elim (cases_eq m (suc n)) [
          | inl same ↦ ap (job_at jobs) same ∙ is-none (job_at jobs (suc n)) e
          | inr ne ↦ rest (omega (arith, is, low)) (omega (arith, high, ne))
        ]

pub highest-few : (jobs : List (Option Job)) (n : ℕ) → highest_job jobs n ≤ n
highest-few jobs zero = (let none : highest_job jobs zero ≡ 0 = highest-none jobs in omega (arith, none))
highest-few jobs (suc n) = by_here (is_some (job_at jobs (suc n))) refl (highest-few jobs n)
  where
    by_here : (b : Bool) → is_some (job_at jobs (suc n)) ≡ b → highest_job jobs n ≤ n → highest_job jobs (suc n) ≤ suc n
    by_here true e rest =
        let is : highest_job jobs (suc n) ≡ suc n = highest-next jobs n ∙ ap (λ c. cond c (suc n) (highest_job jobs n)) e in
        omega (arith, is)
    by_here false e rest =
        let is : highest_job jobs (suc n) ≡ highest_job jobs n = highest-next jobs n ∙ ap (λ c. cond c (suc n) (highest_job jobs n)) e in
        omega (arith, is, rest)

pub none-above : (jobs : List (Option Job)) → length jobs ≡ JOBS + 1 → (m : ℕ) → highest_job jobs JOBS < m → job_at jobs m ≡ None
none-above jobs long m low = elim (cases_lt JOBS m) [
  | inl past ↦ get_or_past jobs m None (omega (arith, long, past))
  | inr within ↦ above jobs JOBS m low within
]
