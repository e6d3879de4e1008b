-- Steps round the circle of numbers.
use Rattle.std.proofs.Common.{◌≡◌, ◌∙◌, sym, ap, ℕ, zero, suc, ◌<◌, ◌≤◌, ◌+◌, ◌-◌, ◌%◌, min, nat_lt, Bool, true, false}
use Rattle.std.proofs.Common.{Option, Some, None, if◌then◌else◌, cond, refl, arith, zero-add}
use Rattle.std.proofs.lemmas.Bool.{ltb-true, ltb-false}
use Rattle.word36.specs.declared.sizes.TheConstants.{JOBS}
use Rattle.job_sched.specs.Ready.{first_from, after}

pub first_from-zero : (test : ℕ → Bool) (k n : ℕ) → k ≡ 0 → first_from test k n ≡ None
unfolding first_from
first_from-zero test zero n h = refl
first_from-zero test (suc k) n h = absurd (omega arith)

pub first_from-step : (test : ℕ → Bool) (k j n : ℕ) → k ≡ j + 1 → first_from test k n ≡ (if test n then Some n else first_from test j (after n))
unfolding first_from
first_from-step test zero j n h = absurd (omega arith)
first_from-step test (suc k) j n h = let same : k ≡ j = omega arith in rw same refl

-- the number that comes i places after n
unfoldable pub at : ℕ → ℕ → ℕ
at n zero = n
at n (suc i) = at (after n) i

pub at-is : (n i : ℕ) → 1 ≤ n → n ≤ JOBS → at n i ≡ (n + i - 1) % JOBS + 1
unfolding at
at-is n zero some most = omega arith
at-is n (suc i) some most = at-is (after n) i (omega arith) (omega arith) ∙ (omega arith)

-- below the highest number the next one is one more
after-next : (test : ℕ → Bool) (k n : ℕ) → n + 1 + k ≤ JOBS + 1 → first_from test k (after n) ≡ first_from test k (n + 1)
unfolding first_from
after-next test zero n low = refl
after-next test (suc k) n low = let e : after n ≡ n + 1 = omega arith in rw e refl

pub first_from-next : (test : ℕ → Bool) (to n : ℕ) → n < to → to ≤ JOBS + 1
    → first_from test (to - n) n ≡ (if test n then Some n else first_from test (to - (n + 1)) (n + 1))
first_from-next test to n low most =
    first_from-step test (to - n) (to - (n + 1)) n (omega arith) ∙ ap (λ o. cond (test n) (Some n) o) (after-next test (to - (n + 1)) n (omega arith))

-- the first, or else the second
unfoldable pub or_else : Option ℕ → Option ℕ → Option ℕ
or_else (Some n) o = Some n
or_else None o = o

or-none : (o : Option ℕ) → or_else o None ≡ o
unfolding or_else
or-none None = refl
or-none (Some n) = refl

or-test : (b : Bool) (n : ℕ) (o p : Option ℕ) → cond b (Some n) (or_else o p) ≡ or_else (cond b (Some n) o) p
unfolding or_else
or-test true n o p = refl
or-test false n o p = refl

pub or-found : (o p : Option ℕ) (n : ℕ) → Some n ≡ o → Some n ≡ or_else o p
unfolding or_else
or-found o p n e = rw (← e) refl

pub or-other : (o p : Option ℕ) → None ≡ o → p ≡ or_else o p
unfolding or_else
or-other o p e = rw (← e) refl

-- so many numbers, and then the others
parted : (test : ℕ → Bool) (a b n : ℕ) → first_from test (a + b) n ≡ or_else (first_from test a n) (first_from test b (at n a))
unfolding first_from at or_else
parted test zero b n = ap (λ (k : ℕ). first_from test k n) (zero-add b)
parted test (suc a) b n =
    first_from-step test (suc a + b) (a + b) n (omega arith)
    ∙ ap (λ o. cond (test n) (Some n) o) (parted test a b (after n))
    ∙ or-test (test n) n (first_from test a (after n)) (first_from test b (at (after n) a))

-- none is found where the test fails from there on
none-found : (test : ℕ → Bool) (k n : ℕ) → ((m : ℕ) → n ≤ m → test m ≡ false) → n + k ≤ JOBS + 1 → first_from test k n ≡ None
none-found test zero n fails low = first_from-zero test 0 n refl
none-found test (suc k) n fails low =
    first_from-step test (suc k) k n (omega arith)
    ∙ (rw (fails n (omega arith)) (after-next test k n (omega arith) ∙ none-found test k (n + 1) (λ m more. fails m (omega arith)) (omega arith)))

-- those from the end on, seen from the number before them
none-above : (test : ℕ → Bool) (k end n : ℕ) → k ≡ JOBS + 1 - end → 1 ≤ end → n ≡ (end - 1) % JOBS + 1 → ((m : ℕ) → end ≤ m → test m ≡ false)
    → first_from test k n ≡ None
none-above test zero end n is some at_end fails = first_from-zero test 0 n refl
none-above test (suc k) end n is some at_end fails =
    let e : n ≡ end = omega arith in
    none-found test (suc k) n (λ m more. fails m (omega arith)) (omega arith)

-- from below the end on: those up to the end, and those before the first
circle-below : (test : ℕ → Bool) (from end : ℕ) → 1 ≤ from → from < end → end ≤ JOBS + 1 → ((m : ℕ) → end ≤ m → test m ≡ false)
    → first_from test JOBS from ≡ or_else (first_from test (end - from) from) (first_from test (min from end - 1) 1)
circle-below test from end some low most fails =
    let there : at from (end - from) ≡ (end - 1) % JOBS + 1 = at-is from (end - from) some (omega arith) ∙ omega arith in
    let back : at (at from (end - from)) (JOBS + 1 - end) ≡ 1 = at-is (at from (end - from)) (JOBS + 1 - end) (omega arith) (omega arith) ∙ omega arith in
    let rest : first_from test ((JOBS + 1 - end) + (from - 1)) (at from (end - from)) ≡ first_from test (min from end - 1) 1 =
    parted test (JOBS + 1 - end) (from - 1) (at from (end - from))
    ∙ ap (λ o. or_else o (first_from test (from - 1) (at (at from (end - from)) (JOBS + 1 - end))))
    (none-above test (JOBS + 1 - end) end (at from (end - from)) refl (omega arith) there fails)
    ∙ sym (or-other None (first_from test (from - 1) (at (at from (end - from)) (JOBS + 1 - end))) refl)
    ∙ ap (λ (n : ℕ). first_from test (from - 1) n) back
    ∙ ap (λ (k : ℕ). first_from test k 1) (omega arith) in
    let all : JOBS ≡ (end - from) + ((JOBS + 1 - end) + (from - 1)) = omega arith in
    ap (λ (k : ℕ). first_from test k from) all
    ∙ parted test (end - from) ((JOBS + 1 - end) + (from - 1)) from
    ∙ ap (λ o. or_else (first_from test (end - from) from) o) rest

-- from above the end on: those before the end
circle-above : (test : ℕ → Bool) (from end : ℕ) → 1 ≤ from → from ≤ JOBS → end ≤ from → ((m : ℕ) → end ≤ m → test m ≡ false)
    → first_from test JOBS from ≡ or_else (first_from test (end - from) from) (first_from test (min from end - 1) 1)
circle-above test from end some most high fails =
    let back : at from (JOBS + 1 - from) ≡ 1 = at-is from (JOBS + 1 - from) some most ∙ omega arith in
    let there : at 1 (end - 1) ≡ (end - 1) % JOBS + 1 = at-is 1 (end - 1) (omega arith) (omega arith) ∙ omega arith in
    let above : first_from test (from - 1 - (end - 1)) (at 1 (end - 1)) ≡ None =
    none-found test (from - 1 - (end - 1)) (at 1 (end - 1)) (λ m more. fails m (omega arith)) (omega arith) in
    let before : first_from test (from - 1) 1 ≡ first_from test (min from end - 1) 1 =
    ap (λ (k : ℕ). first_from test k 1) (omega arith)
    ∙ parted test (end - 1) (from - 1 - (end - 1)) 1
    ∙ ap (λ o. or_else (first_from test (end - 1) 1) o) above
    ∙ or-none (first_from test (end - 1) 1)
    ∙ ap (λ (k : ℕ). first_from test k 1) (omega arith) in
    let all : JOBS ≡ (JOBS + 1 - from) + (from - 1) = omega arith in
    ap (λ (k : ℕ). first_from test k from) all
    ∙ parted test (JOBS + 1 - from) (from - 1) from
    ∙ ap (λ o. or_else o (first_from test (from - 1) (at from (JOBS + 1 - from))))
    (none-found test (JOBS + 1 - from) from (λ m more. fails m (omega arith)) (omega arith))
    ∙ sym (or-other None (first_from test (from - 1) (at from (JOBS + 1 - from))) refl)
    ∙ ap (λ (n : ℕ). first_from test (from - 1) n) back
    ∙ before
    ∙ or-other (first_from test (end - from) from) (first_from test (min from end - 1) 1) (sym (first_from-zero test (end - from) from (omega arith)))

by_place : (b : Bool) (test : ℕ → Bool) (from end : ℕ) → nat_lt from end ≡ b → 1 ≤ from → from ≤ JOBS → end ≤ JOBS + 1 → ((m : ℕ) → end ≤ m → test m ≡ false)
    → first_from test JOBS from ≡ or_else (first_from test (end - from) from) (first_from test (min from end - 1) 1)
by_place true test from end e some most few fails = circle-below test from end some (ltb-true from end e) few fails
by_place false test from end e some most few fails = circle-above test from end some most (ltb-false from end e) fails

-- where the test fails from the end on, those below the end are all that are asked
pub circle : (test : ℕ → Bool) (from end : ℕ) → 1 ≤ from → from ≤ JOBS → end ≤ JOBS + 1 → ((m : ℕ) → end ≤ m → test m ≡ false)
    → first_from test JOBS from ≡ or_else (first_from test (end - from) from) (first_from test (min from end - 1) 1)
circle test from end = by_place (nat_lt from end) test from end refl

-- where the test fails from the end on, the search from there on begins at 1
from-start : (test : ℕ → Bool) (from end : ℕ) → end ≤ from → 1 ≤ from → from ≤ JOBS → ((m : ℕ) → end ≤ m → test m ≡ false)
    → first_from test JOBS 1 ≡ first_from test JOBS from
from-start test from end high some most fails =
    let none : first_from test (min 1 end - 1) 1 ≡ None = first_from-zero test (min 1 end - 1) 1 (omega arith) in
    let nothing : first_from test (end - from) from ≡ None = first_from-zero test (end - from) from (omega arith) in
    let same : end - 1 ≡ min from end - 1 = omega arith in
    circle test 1 end (omega arith) (omega arith) (omega arith) fails
    ∙ ap (λ o. or_else (first_from test (end - 1) 1) o) none
    ∙ or-none (first_from test (end - 1) 1)
    ∙ ap (λ (k : ℕ). first_from test k 1) same
    ∙ or-other (first_from test (end - from) from) (first_from test (min from end - 1) 1) (sym nothing)
    ∙ sym (circle test from end some most (omega arith) fails)

-- the first that is asked, where it passes
pub found-first : (test : ℕ → Bool) (n : ℕ) → test n ≡ true → first_from test JOBS n ≡ Some n
found-first test n passes = first_from-step test JOBS (JOBS - 1) n (omega arith) ∙ ap (λ b. cond b (Some n) (first_from test (JOBS - 1) (after n))) passes

by_end : (b : Bool) (test : ℕ → Bool) (number end : ℕ) → nat_lt (after number) end ≡ b → end ≤ number + 1 → number ≤ JOBS
    → end ≤ JOBS + 1
    → ((m : ℕ) → end ≤ m → test m ≡ false)
    → first_from test JOBS 1 ≡ first_from test JOBS (after number)
by_end true test number end e high most few fails =
    let low : after number < end = ltb-true (after number) end e in
    let one : 1 ≡ after number = omega arith in
    ap (λ (n : ℕ). first_from test JOBS n) one
by_end false test number end e high most few fails = from-start test (after number) end (ltb-false (after number) end e) (omega arith) (omega arith) fails

-- where no jobs come after a number, the search behind it begins at 1
pub behind-last : (test : ℕ → Bool) (number end : ℕ) → end ≤ number + 1 → number ≤ JOBS → end ≤ JOBS + 1 → ((m : ℕ) → end ≤ m → test m ≡ false)
    → first_from test JOBS 1 ≡ first_from test JOBS (after number)
behind-last test number end = by_end (nat_lt (after number) end) test number end refl
