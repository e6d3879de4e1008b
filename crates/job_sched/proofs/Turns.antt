-- Who is found in the circle of numbers, and that nobody is left out.
use Rattle.std.proofs.Common.{◌≡◌, ◌≢◌, ◌<◌, ◌≤◌, ◌∙◌, sym, ap, subst, ℕ, zero, suc, ◌+◌, ◌-◌, ◌%◌, ◌==◌, ◌&&◌, Bool}
use Rattle.std.proofs.Common.{true, false, List, Option, Some, None, cond, nat_lt, refl, arith}
use Rattle.word36.specs.declared.sizes.TheConstants.{JOBS}
use Rattle.std.proofs.lemmas.Bool.{and_parts, eqb-true}
use Rattle.lock_queue.specs.declared.request.Request.{Request}
use Rattle.tty_lines.specs.Rings.{Rings}
use Rattle.job_sched.proofs.Circle.{at, at-is}
use Rattle.job_sched.specs.Laws.{AloneMeansNoOtherIsReady, IdleMeansNoneIsReady, NextIsReady}
use Rattle.job_sched.specs.Ready.{after, first_from, is_ready, next_job}
use Rattle.job_sched.specs.Spans.{is_alone}
use Rattle.job_sched.specs.Tables.{Table}

-- what holds of both values holds of the one that a test chooses
by_test : (P : Option ℕ → Type 0) (b : Bool) (x y : Option ℕ) → (b ≡ true → P x) → (b ≡ false → P y) → P (cond b x y)
by_test P true x y p q = p refl
by_test P false x y p q = q refl

found-passes : (test : ℕ → Bool) (k n m : ℕ) → first_from test k n ≡ Some m → test m ≡ true
unfolding first_from
found-passes test zero n m = λ e. cc
found-passes test (suc k) n m =
    by_test (λ o. o ≡ Some m → test m ≡ true) (test n) (Some n) (first_from test k (after n))
    (λ passes e. let same : n ≡ m = cc in subst (λ (x : ℕ). test x ≡ true) same passes)
    (λ _ e. found-passes test k (after n) m e)

none-passes : (test : ℕ → Bool) (k n i : ℕ) → first_from test k n ≡ None → i < k → test (at n i) ≡ false
unfolding first_from at
none-passes test zero n i e low = absurd (omega arith)
none-passes test (suc k) n zero e low =
    by_test (λ o. o ≡ None → test n ≡ false) (test n) (Some n) (first_from test k (after n)) (λ _ d. cc) (λ fails _. fails) e
none-passes test (suc k) n (suc i) e low =
    by_test (λ o. o ≡ None → test (at (after n) i) ≡ false) (test n) (Some n) (first_from test k (after n)) (λ _ d. cc)
    (λ _ d. none-passes test k (after n) i d (omega arith)) e

-- every number is reached
reached : (n m : ℕ) → 1 ≤ n → n ≤ JOBS → 1 ≤ m → m ≤ JOBS → at n ((m + JOBS - n) % JOBS) ≡ m
reached n m some most above below = at-is n ((m + JOBS - n) % JOBS) some most ∙ (omega arith)

pub next-ready : NextIsReady
next-ready t lines requests n =
    by_test (λ o. o ≡ Some n → is_ready t.jobs lines requests n ≡ true)
    (nat_lt 0 t.left && is_ready t.jobs lines requests t.current) (Some t.current)
    (first_from (is_ready t.jobs lines requests) JOBS (after t.current))
    (λ goes e. let same : t.current ≡ n = cc in
    subst (λ (x : ℕ). is_ready t.jobs lines requests x ≡ true) same
    (right-true (nat_lt 0 t.left) (is_ready t.jobs lines requests t.current) goes))
    (λ _ e. found-passes (is_ready t.jobs lines requests) JOBS (after t.current) n e)
  where
    right-true : (a b : Bool) → (a && b) ≡ true → b ≡ true
    right-true true b e = e
    right-true false b e = absurd (cc)

pub idle-none : IdleMeansNoneIsReady
idle-none t lines requests idle n some most =
    by_test (λ o. o ≡ None → is_ready t.jobs lines requests n ≡ false)
    (nat_lt 0 t.left && is_ready t.jobs lines requests t.current) (Some t.current)
    (first_from (is_ready t.jobs lines requests) JOBS (after t.current))
    (λ _ d. cc)
    (λ _ d.
    let start = after t.current in
    let i = (n + JOBS - start) % JOBS in
    subst (λ (x : ℕ). is_ready t.jobs lines requests x ≡ false) (reached start n (omega arith) (omega arith) some most)
    (none-passes (is_ready t.jobs lines requests) JOBS start i d (omega arith)))
    idle

-- a test that answers the same finds the same
pub same-found : (test other : ℕ → Bool) (k n : ℕ) → ((m : ℕ) → test m ≡ other m) → first_from test k n ≡ first_from other k n
unfolding first_from
same-found test other zero n same = refl
same-found test other (suc k) n same =
    ap (λ b. cond b (Some n) (first_from test k (after n))) (same n) ∙ ap (λ o. cond (other n) (Some n) o) (same-found test other k (after n) same)

-- a job that is next, though its quantum has just ended, is the first that is ready after itself
pub after-itself : (t : Table) (lines : List Rings) (requests : List Request) (n : ℕ) → next_job t lines requests ≡ Some n → is_alone t n ≡ true
    → first_from (is_ready t.jobs lines requests) JOBS (after n) ≡ Some n
after-itself t lines requests n next alone =
    let both = and_parts (t.current == n) (t.left == 0) alone in
    let current : t.current ≡ n = eqb-true t.current n both.0 in
    let left : t.left ≡ 0 = eqb-true t.left 0 both.1 in
    ap (λ (m : ℕ). first_from (is_ready t.jobs lines requests) JOBS (after m)) (sym current)
    ∙ sym
    (ap
    (λ (l : ℕ). cond (nat_lt 0 l && is_ready t.jobs lines requests t.current) (Some t.current)
    (first_from (is_ready t.jobs lines requests) JOBS (after t.current))) left)
    ∙ next

-- the test fails at each number before the one that is found
fails-before : (test : ℕ → Bool) (k n i m : ℕ) → first_from test k n ≡ Some m → i < k → ((j : ℕ) → j ≤ i → at n j ≢ m) → test (at n i) ≡ false
unfolding first_from at
fails-before test zero n i m e low others = absurd (omega arith)
fails-before test (suc k) n zero m e low others =
    by_test (λ o. o ≡ Some m → test n ≡ false) (test n) (Some n) (first_from test k (after n))
    (λ _ d. let same : n ≡ m = cc in absurd (others 0 (omega arith) same))
    (λ fails _. fails) e
fails-before test (suc k) n (suc i) m e low others =
    by_test (λ o. o ≡ Some m → test (at (after n) i) ≡ false) (test n) (Some n) (first_from test k (after n))
    (λ _ d. let same : n ≡ m = cc in absurd (others 0 (omega arith) same))
    (λ _ d. fails-before test k (after n) i m d (omega arith) (λ j few. others (suc j) (omega (arith, few)))) e

-- the number itself is the last that comes after it in the circle
last-itself : (n m j : ℕ) → 1 ≤ m → m ≤ JOBS → m ≢ n → j ≤ (m + JOBS - after n) % JOBS → at (after n) j ≢ n
last-itself n m j some most other few same = other (omega (arith, at-is (after n) j (omega arith) (omega arith), same, few))

pub alone-only : AloneMeansNoOtherIsReady
alone-only t lines requests n next alone m some most other =
    let start = after n in
    let i = (m + JOBS - start) % JOBS in
    subst (λ (x : ℕ). is_ready t.jobs lines requests x ≡ false) (reached start m (omega arith) (omega arith) some most)
    (fails-before (is_ready t.jobs lines requests) JOBS start i n (after-itself t lines requests n next alone) (omega arith)
    (λ j few. last-itself n m j some most other few))
