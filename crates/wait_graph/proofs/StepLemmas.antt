-- Lemmas on how many steps of waits lead to a job.
use Rattle.std.proofs.Common.{◌≡◌, ◌≢◌, ◌<◌, ◌≤◌, ◌+◌, ◌-◌, ◌*◌, ◌++◌, ◌&&◌, ◌||◌, ◌==◌, ◌∙◌, ℕ, Bool, true, false, cond, suc, zero, List}
use Rattle.std.proofs.Common.{[], ◌∷◌, length, slice_index_or, slice_set, replicate, arith, refl, sym, ap, subst, add-one, inl, inr}
use Rattle.std.proofs.Common.{get_or-set_other, get_or-set_same, below_more, append_assoc, append-nil}
use Rattle.std.proofs.lemmas.Bool.{cases_lt, or_left, or_right}
use Rattle.std.proofs.lemmas.Bool.Decides.{nat_tests}
use Rattle.std.proofs.lemmas.List.{get_or_past}
use Rattle.std.specs.List.{list_any}
use Rattle.std.specs.Prelude.{Some, nat_lt, slice_get}
use Rattle.lock_queue.specs.Waits.{is_circle, is_walk, jobs, leads_to}
use Rattle.wait_graph.specs.Pairs.{pair_in}
use Rattle.wait_graph.specs.declared.pairs.TheConstants.{NUMBERS, PAIRS}
use Rattle.word36.specs.declared.sizes.TheConstants.{JOBS}
use Rattle.wait_graph.proofs.JobLemmas.{any-same}
use Rattle.wait_graph.proofs.TestLemmas.{and_more, from_or, or_more}
use Rattle.wait_graph.specs.Steps.{CountsSteps, counted, is_nearer, is_within, leads_on}

-- ---- tests of jobs

any_more : (f g : ℕ → Bool) → ((m : ℕ) → f m ≡ true → g m ≡ true) → (xs : List ℕ) → list_any f xs ≡ true → list_any g xs ≡ true
any_more f g more [] h = h
any_more f g more (x ∷ xs) h =
    from_or (f x) (list_any f xs) (list_any g (x ∷ xs) ≡ true)
    (λ here. or_left (g x) (list_any g xs) (more x here))
    (λ later. or_right (g x) (list_any g xs) (any_more f g more xs later)) h

-- ---- walks

leads_more : (w : ℕ → ℕ → Bool) (n j k : ℕ) → leads_to w n j k ≡ true → leads_to w (suc n) j k ≡ true
unfolding leads_to
leads_more w zero j k h = cc
leads_more w (suc n) j k h =
    or_more (w j k) (list_any (λ m. w j m && leads_to w n m k) jobs) (list_any (λ m. w j m && leads_to w (suc n) m k) jobs)
    (any_more (λ m. w j m && leads_to w n m k) (λ m. w j m && leads_to w (suc n) m k)
    (λ m. and_more (w j m) (leads_to w n m k) (leads_to w (suc n) m k) (leads_more w n m k)) jobs)
    h

leads_next : (w : ℕ → ℕ → Bool) (n j k : ℕ) → leads_to w (suc n) j k ≡ (w j k || list_any (λ m. w j m && leads_to w n m k) jobs)
unfolding leads_to
leads_next w n j k = refl

leads_none : (w : ℕ → ℕ → Bool) (j k : ℕ) → leads_to w 0 j k ≡ false
unfolding leads_to
leads_none w j k = refl

-- ---- the table of steps

-- what a table says of a job: it is the least number at which this holds, where that is at most so many, or else 0
abbrev Counts : (ℕ → Bool) → ℕ → ℕ → Type 0
Counts holds most steps = (steps ≤ most) × ((n : ℕ) → n ≤ most → holds n ≡ is_within steps n)

count_new : (holds : ℕ → Bool) (done : ℕ) (b : Bool) → Counts holds done 0 → b ≡ holds (done + 1)
    → Counts holds (done + 1) (cond b (done + 1) 0)
count_new holds done true known here = (
  omega arith,
  λ n most.
      elim (cases_lt n (done + 1)) [
        | inl below ↦ known.1 n (omega (arith, below)) ∙ grind (arith, nat_tests, below)
        | inr not_below ↦
            let same : n ≡ done + 1 = omega (arith, most, not_below) in
            ap holds same ∙ sym here ∙ grind (arith, nat_tests, same)
      ],
)
count_new holds done false known here = (
  omega arith,
  λ n most.
      elim (cases_lt n (done + 1)) [
        | inl below ↦ known.1 n (omega (arith, below))
        | inr not_below ↦
            let same : n ≡ done + 1 = omega (arith, most, not_below) in
            ap holds same ∙ sym here
      ],
)

count_old : (holds : ℕ → Bool) (done steps : ℕ) → (holds done ≡ true → holds (done + 1) ≡ true) → Counts holds done (suc steps)
    → Counts holds (done + 1) (suc steps)
count_old holds done steps more known =
    let small : suc steps ≤ done = known.0 in
    let last : holds done ≡ true = known.1 done (omega arith) ∙ grind (arith, nat_tests, small) in (
      omega (arith, small),
      λ n most.
          elim (cases_lt n (done + 1)) [
            | inl below ↦ known.1 n (omega (arith, below))
            | inr not_below ↦
                let same : n ≡ done + 1 = omega (arith, most, not_below) in
                ap holds same ∙ more last ∙ grind (arith, nat_tests, same, small)
          ],
    )

count_one : (holds : ℕ → Bool) (done steps : ℕ) (b : Bool) → (holds done ≡ true → holds (done + 1) ≡ true) → b ≡ holds (done + 1)
    → Counts holds done steps
    → Counts holds (done + 1) (cond (steps == 0 && b) (done + 1) steps)
count_one holds done zero b more here known = count_new holds done b known here
count_one holds done (suc steps) b more here known =
    let some : (suc steps == 0) ≡ false = grind (arith, nat_tests) in
    subst (λ z. Counts holds (done + 1) (cond (z && b) (done + 1) (suc steps))) (sym some) (count_old holds done steps more known)

counted_means : (steps done m : ℕ) (b : Bool) → steps ≤ done → b ≡ is_within steps done → nat_lt 0 steps ≡ b
counted_means steps done m b small is = grind (arith, nat_tests)

-- the table of a round more
pub count_further : (pairs : List Bool) (steps further : List ℕ) (done target : ℕ) → CountsSteps pairs target done steps
    → ((j : ℕ) → j < NUMBERS → slice_index_or further j 0 ≡ counted pairs steps (done + 1) j target)
    → CountsSteps pairs target (done + 1) further
count_further pairs steps further done target known new j hj =
    let w = pair_in pairs in
    let holds = λ (n : ℕ). leads_to w n j target in
    let more = λ (h : holds done ≡ true). ap (λ n. leads_to w n j target) (add-one done) ∙ leads_more w done j target h in
    let on : leads_on pairs steps j target ≡ holds (done + 1) =
    ap (λ b. w j target || b)
    (any-same (λ m. w j m && nat_lt 0 (slice_index_or steps m 0)) (λ m. w j m && leads_to w done m target)
    (λ m hm. ap (λ b. w j m && b) (counted_means (slice_index_or steps m 0) done m
    (leads_to w done m target) (known m hm).0 ((known m hm).1 done (omega arith)))))
    ∙ sym (leads_next w done j target) ∙ ap (λ n. leads_to w n j target) (sym (add-one done)) in
    subst (λ s. Counts holds (done + 1) s) (sym (new j hj))
    (count_one holds done (slice_index_or steps j 0) (leads_on pairs steps j target) more on (known j hj))

-- one position more of a table is known
pub set_known : (xs : List ℕ) (i v : ℕ) (want : ℕ → ℕ) → i < length xs → ((j : ℕ) → j < i → slice_index_or xs j 0 ≡ want j) → v ≡ want i
    → (j : ℕ) → j < i + 1 → slice_index_or (slice_set xs i v) j 0 ≡ want j
set_known xs i v want within below here =
    below_more (λ j. slice_index_or (slice_set xs i v) j 0 ≡ want j) i
    (λ j h. let ne : j ≢ i = omega arith in rw get_or-set_other (below j h))
    (rw get_or-set_same here)

-- a table in which nothing is counted
abbrev zeros : ℕ → List ℕ
zeros n = replicate n 0

nothing_in : (n i : ℕ) → slice_index_or (zeros n) i 0 ≡ 0
nothing_in zero i = refl
nothing_in (suc n) zero = refl
nothing_in (suc n) (suc i) = nothing_in n i

-- no steps are counted at first
pub count_none : (pairs : List Bool) (target : ℕ) → CountsSteps pairs target 0 (replicate NUMBERS 0)
count_none pairs target j hj =
    let here : slice_index_or (zeros NUMBERS) j 0 ≡ 0 = nothing_in NUMBERS j in (
      omega (arith, here),
      λ n most.
          let start : n ≡ 0 = omega (arith, most) in
          ap (λ i. leads_to (pair_in pairs) i j target) start ∙ leads_none (pair_in pairs) j target
          ∙ sym (ap (λ s. is_within s n) here),
    )

-- ---- the walk back

-- a job of which steps to the target are counted, and which does not wait for it, waits for one that is nearer
pub goes_on : (pairs : List Bool) (steps : List ℕ) (target j : ℕ) → CountsSteps pairs target JOBS steps → j < NUMBERS
    → 0 < slice_index_or steps j 0 → pair_in pairs j target ≡ false → list_any (is_nearer pairs steps j) jobs ≡ true
goes_on pairs steps target j known hj some apart =
    let s = slice_index_or steps j 0 in
    let w = pair_in pairs in
    let least : s ≤ JOBS = (known j hj).0 in
    let less : s - 1 ≤ JOBS = omega (arith, least) in
    let next : suc (s - 1) ≡ s = omega (arith, some) in
    let leads : leads_to w s j target ≡ true = (known j hj).1 s least ∙ grind (arith, nat_tests, some) in
    sym (any-same (λ m. w j m && leads_to w (s - 1) m target) (is_nearer pairs steps j)
    (λ m hm. ap (λ b. w j m && b) ((known m hm).1 (s - 1) less)))
    ∙ sym (ap (λ b. b || list_any (λ m. w j m && leads_to w (s - 1) m target) jobs) apart)
    ∙ sym (leads_next w (s - 1) j target) ∙ ap (λ n. leads_to w n j target) next ∙ leads

nearer_has : (a : Bool) (s t : ℕ) → (a && is_within t (s - 1)) ≡ true → (a ≡ true) × (0 < t) × (t < s)
nearer_has true s t h = (refl, grind (arith, nat_tests), grind (arith, nat_tests))
nearer_has false s t h = cc

-- one that is nearer is waited for, and has fewer steps to go
pub is_nearer_by : (pairs : List Bool) (steps : List ℕ) (j m : ℕ) → is_nearer pairs steps j m ≡ true
    → (pair_in pairs j m ≡ true) × (0 < slice_index_or steps m 0) × (slice_index_or steps m 0 < slice_index_or steps j 0)
is_nearer_by pairs steps j m h = nearer_has (pair_in pairs j m) (slice_index_or steps j 0) (slice_index_or steps m 0) h

-- no walk of fewer steps leads to the target than are counted
pub none_shorter : (pairs : List Bool) (steps : List ℕ) (target j n : ℕ) → CountsSteps pairs target JOBS steps → j < NUMBERS
    → n < slice_index_or steps j 0 → leads_to (pair_in pairs) n j target ≡ false
none_shorter pairs steps target j n known hj fewer =
    let least : slice_index_or steps j 0 ≤ JOBS = (known j hj).0 in
    (known j hj).1 n (omega (arith, least, fewer)) ∙ grind (arith, nat_tests, fewer)

-- where none are counted, no walk leads there
pub none_leads : (pairs : List Bool) (steps : List ℕ) (target j : ℕ) → CountsSteps pairs target JOBS steps → j < NUMBERS
    → slice_index_or steps j 0 ≡ 0 → leads_to (pair_in pairs) JOBS j target ≡ false
none_leads pairs steps target j known hj none =
    let all : JOBS ≤ JOBS = omega arith in
    (known j hj).1 JOBS all ∙ grind (arith, nat_tests, none)

-- ---- jobs that wait for the next one

-- a walk over all of some jobs to another
abbrev walks : (ℕ → ℕ → Bool) → List ℕ → ℕ → Bool
walks waits [] k = false
walks waits (j ∷ later) k = is_walk waits j later k

-- these jobs wait each for the next one, up to the last of them, which is this one: a walk goes on from there
abbrev pub ReachesTo : (ℕ → ℕ → Bool) → List ℕ → ℕ → Type 0
ReachesTo waits circle at = (rest : List ℕ) (k : ℕ) → walks waits (circle ++ rest) k ≡ is_walk waits at rest k

pub reaches_itself : (waits : ℕ → ℕ → Bool) (j : ℕ) → ReachesTo waits (j ∷ []) j
reaches_itself waits j rest k = refl

pub reaches_next : (waits : ℕ → ℕ → Bool) (circle : List ℕ) (at next : ℕ) → ReachesTo waits circle at → waits at next ≡ true
    → ReachesTo waits (circle ++ next ∷ []) next
reaches_next waits circle at next before here rest k =
    ap (λ l. walks waits l k) (append_assoc circle (next ∷ []) rest) ∙ before (next ∷ rest) k
    ∙ ap (λ b. b && is_walk waits next rest k) here

closes_from : (waits : ℕ → ℕ → Bool) (circle : List ℕ) (j : ℕ) → slice_get circle 0 ≡ Some j → walks waits circle j ≡ true
    → is_circle waits circle ≡ true
closes_from waits [] j first h = h
closes_from waits (i ∷ later) j first h =
    let same : i ≡ j = grind (arith) in
    ap (λ k. is_walk waits i later k) same ∙ h

-- the last of them waits for the first
pub closes : (waits : ℕ → ℕ → Bool) (circle : List ℕ) (at j : ℕ) → ReachesTo waits circle at → slice_get circle 0 ≡ Some j
    → waits at j ≡ true → is_circle waits circle ≡ true
closes waits circle at j walk first here =
    closes_from waits circle j first
    (ap (λ l. walks waits l j) (sym (append-nil circle)) ∙ walk [] j ∙ here)

-- the first of some jobs stays the first
pub first_kept : (circle : List ℕ) (next j : ℕ) → slice_get circle 0 ≡ Some j → slice_get (circle ++ next ∷ []) 0 ≡ Some j
first_kept [] next j first = cc
first_kept (i ∷ later) next j first = first

-- ---- numbers that no job has

pair_beyond : (pairs : List Bool) (j k : ℕ) → length pairs ≡ PAIRS → NUMBERS ≤ j → pair_in pairs j k ≡ false
pair_beyond pairs j k size far = get_or_past pairs (NUMBERS * j + k) false (omega (arith, size, far))

none_of : (f g : ℕ → Bool) → ((m : ℕ) → f m ≡ false) → (xs : List ℕ) → list_any (λ m. f m && g m) xs ≡ false
none_of f g none [] = refl
none_of f g none (x ∷ xs) =
    ap (λ b. (b && g x) || list_any (λ m. f m && g m) xs) (none x) ∙ none_of f g none xs

-- no walk leads from a number that no job has
pub no_circle_beyond : (pairs : List Bool) (j : ℕ) → length pairs ≡ PAIRS → NUMBERS ≤ j → leads_to (pair_in pairs) JOBS j j ≡ false
no_circle_beyond pairs j size far =
    let w = pair_in pairs in
    let some : JOBS ≡ suc (JOBS - 1) = omega arith in
    ap (λ n. leads_to w n j j) some ∙ leads_next w (JOBS - 1) j j
    ∙ ap (λ b. b || list_any (λ m. w j m && leads_to w (JOBS - 1) m j) jobs) (pair_beyond pairs j j size far)
    ∙ none_of (w j) (λ m. leads_to w (JOBS - 1) m j) (λ m. pair_beyond pairs j m size far) jobs
