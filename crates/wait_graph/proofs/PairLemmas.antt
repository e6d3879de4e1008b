-- Lemmas on tables of pairs of jobs, and on the walks in them.
use Rattle.std.proofs.Common.{◌≡◌, ◌<◌, ◌≤◌, ◌+◌, ◌-◌, ◌*◌, ◌/◌, ◌%◌, ◌++◌, ◌&&◌, ◌||◌, ℕ, Bool, true, false, suc, zero, List, []}
use Rattle.std.proofs.Common.{◌∷◌, length, slice_index_or, slice_set, replicate, arith, refl, sym, ap, ◌∙◌}
use Rattle.std.proofs.Common.{add-one, below_more, get_or-set_other, get_or-set_same, ◌≢◌, inl, inr}
use Rattle.std.proofs.lemmas.Bool.{cases_lt}
use Rattle.std.proofs.Math.Bool.{beq}
use Rattle.std.specs.Cmp.Lexicographic.{pointwise}
use Rattle.std.specs.List.{list_any}
use Rattle.lock_queue.specs.Jobs.{is_blocked, is_blocked_by, is_kept_by, is_waiting_job, waits_for}
use Rattle.lock_queue.specs.Queue.{some_behind}
use Rattle.lock_queue.specs.Waits.{is_in_circle, jobs, leads_to}
use Rattle.lock_queue.specs.declared.request.Request.{Request}
use Rattle.word36.specs.declared.sizes.TheConstants.{JOBS}
use Rattle.wait_graph.specs.declared.pairs.TheConstants.{NUMBERS, PAIRS}
use Rattle.wait_graph.specs.Pairs.{MarksWaiters, pair_in}
use Rattle.wait_graph.proofs.JobLemmas.{any-less, any-same, never, none-at}

-- ---- tables

pub set-known : (xs : List Bool) (i : ℕ) (v : Bool) (want : ℕ → Bool) → i < length xs → ((j : ℕ) → j < i → slice_index_or xs j false ≡ want j) → v ≡ want i
    → (j : ℕ) → j < i + 1 → slice_index_or (slice_set xs i v) j false ≡ want j
set-known xs i v want within below here =
    below_more (λ j. slice_index_or (slice_set xs i v) j false ≡ want j) i
    (λ j h. let ne : j ≢ i = omega arith in rw get_or-set_other (below j h))
    (rw get_or-set_same here)

nothing-in : (n i : ℕ) → slice_index_or (replicate n false) i false ≡ false
nothing-in zero i = refl
nothing-in (suc n) zero = refl
nothing-in (suc n) (suc i) = nothing-in n i

-- a table in which nothing is filled in
pub nothing : (i : ℕ) → slice_index_or (replicate PAIRS false) i false ≡ false
nothing i = nothing-in PAIRS i

-- a list of falses
pub all-false : (xs : List Bool) (j : ℕ) → list_any (λ b. b) xs ≡ false → slice_index_or xs j false ≡ false
all-false [] j h = refl
all-false (true ∷ xs) j h = cc
all-false (false ∷ xs) zero h = refl
all-false (false ∷ xs) (suc j) h = all-false xs j h

pub same-bools : (xs ys : List Bool) → pointwise beq xs ys ≡ true → xs ≡ ys
same-bools [] [] h = refl
same-bools [] (y ∷ ys) h = cc
same-bools (x ∷ xs) [] h = cc
same-bools (true ∷ xs) (true ∷ ys) h = ap (λ l. true ∷ l) (same-bools xs ys h)
same-bools (true ∷ xs) (false ∷ ys) h = cc
same-bools (false ∷ xs) (true ∷ ys) h = cc
same-bools (false ∷ xs) (false ∷ ys) h = ap (λ l. false ∷ l) (same-bools xs ys h)

-- the row of one job more is known
pub row_known : (w : ℕ → ℕ → Bool) (old new : List Bool) (job : ℕ) → ((i : ℕ) → i < NUMBERS * job → slice_index_or old i false ≡ w (i / NUMBERS) (i % NUMBERS))
    → ((i : ℕ) → i < NUMBERS * job → slice_index_or new i false ≡ slice_index_or old i false)
    → ((k : ℕ) → k < NUMBERS → slice_index_or new (NUMBERS * job + k) false ≡ w job k)
    → (i : ℕ) → i < NUMBERS * (job + 1) → slice_index_or new i false ≡ w (i / NUMBERS) (i % NUMBERS)
row_known w old new job known kept own i lt =
    elim (cases_lt i (NUMBERS * job)) [
      | inl before ↦ kept i before ∙ known i before
      | inr here ↦
          let at : i ≡ NUMBERS * job + (i - NUMBERS * job) = omega (arith, here) in
          let below : i - NUMBERS * job < NUMBERS = omega (arith, here, lt) in
          let row : i / NUMBERS ≡ job = omega (arith, here, lt) in
          let position : i % NUMBERS ≡ i - NUMBERS * job = omega (arith, here, lt) in
          ap (λ n. slice_index_or new n false) at ∙ own (i - NUMBERS * job) below
          ∙ ap (λ n. w n (i - NUMBERS * job)) (sym row) ∙ ap (w (i / NUMBERS)) (sym position)
    ]

pub table-pairs : (pairs : List Bool) (w : ℕ → ℕ → Bool) → ((i : ℕ) → i < PAIRS → slice_index_or pairs i false ≡ w (i / NUMBERS) (i % NUMBERS))
    → (j k : ℕ) → j < NUMBERS → k < NUMBERS → pair_in pairs j k ≡ w j k
table-pairs pairs w known j k hj hk =
    let at : NUMBERS * j + k < PAIRS = omega arith in
    let a : (NUMBERS * j + k) / NUMBERS ≡ j = omega arith in
    let b : (NUMBERS * j + k) % NUMBERS ≡ k = omega arith in
    known (NUMBERS * j + k) at ∙ ap (λ x. w x ((NUMBERS * j + k) % NUMBERS)) a ∙ ap (w j) b

-- ---- who waits for nobody

blocked-nowhere : (j k : ℕ) (e rs : List Request) → some_behind (is_blocked j) e rs ≡ false → some_behind (is_blocked_by j k) e rs ≡ false
blocked-nowhere j k e [] h = refl
blocked-nowhere j k e (r ∷ rs) h =
    let here : is_blocked j e r ≡ false = grind (arith) in
    let later : some_behind (is_blocked j) (e ++ r ∷ []) rs ≡ false = grind (arith) in
    let more = blocked-nowhere j k (e ++ r ∷ []) rs later in
    ap (λ b. (b && list_any (is_kept_by k e) r.wants.items) || some_behind (is_blocked_by j k) (e ++ r ∷ []) rs) here ∙ more

pub no_waits : (rs : List Request) (j k : ℕ) → is_waiting_job rs j ≡ false → waits_for rs j k ≡ false
no_waits rs j k h = blocked-nowhere j k [] rs h

-- a job that is not marked as one that waits
pub resting : (waiting : List Bool) (w : ℕ → ℕ → Bool) (j : ℕ) → MarksWaiters waiting w → j < NUMBERS
    → slice_index_or waiting j false ≡ false
    → list_any (w j) jobs ≡ false
resting waiting w j marks hj h = any-same (w j) (λ m. false) (λ m hm. marks j m hj hm h) ∙ never jobs

-- who waits is marked rightly
pub marked : (rs : List Request) (waiting : List Bool) (w : ℕ → ℕ → Bool) → ((j : ℕ) → j < NUMBERS → slice_index_or waiting j false ≡ is_waiting_job rs j)
    → ((j k : ℕ) → j < NUMBERS → k < NUMBERS → w j k ≡ waits_for rs j k) → MarksWaiters waiting w
marked rs waiting w known same j k hj hk h = same j k hj hk ∙ no_waits rs j k (sym (known j hj) ∙ h)

pub no_walk : (w : ℕ → ℕ → Bool) (steps j : ℕ) → 1 ≤ j → j < NUMBERS → list_any (w j) jobs ≡ false → leads_to w steps j j ≡ false
unfolding leads_to jobs
no_walk w zero j least most h = refl
no_walk w (suc steps) j least most h =
    ap (λ b. b || list_any (λ m. w j m && leads_to w steps m j) jobs) (none-at (w j) JOBS 1 j h least (omega arith))
    ∙ any-less (w j) (λ m. leads_to w steps m j) jobs h

-- no walk leads on from a job that does not wait
pub leads_nowhere : (waiting reached : List Bool) (w : ℕ → ℕ → Bool) (j k : ℕ) → MarksWaiters waiting w → j < NUMBERS
    → k < NUMBERS
    → slice_index_or waiting j false ≡ false
    → false ≡ (w j k || list_any (λ m. w j m && slice_index_or reached m false) jobs)
leads_nowhere waiting reached w j k marks hj hk h =
    sym (ap (λ b. b || list_any (λ m. w j m && slice_index_or reached m false) jobs) (marks j k hj hk h)
    ∙ any-less (w j) (λ m. slice_index_or reached m false) jobs (resting waiting w j marks hj h))

-- ---- walks

pub leads-same : (v w : ℕ → ℕ → Bool) (steps j k : ℕ) → ((a b : ℕ) → a < NUMBERS → b < NUMBERS → v a b ≡ w a b) → j < NUMBERS
    → k < NUMBERS
    → leads_to v steps j k ≡ leads_to w steps j k
unfolding leads_to
leads-same v w zero j k same hj hk = refl
leads-same v w (suc steps) j k same hj hk =
    ap (λ b. b || list_any (λ m. v j m && leads_to v steps m k) jobs) (same j k hj hk)
    ∙ ap (λ b. w j k || b) (any-same (λ m. v j m && leads_to v steps m k) (λ m. w j m && leads_to w steps m k)
    (λ m hm. ap (λ b. b && leads_to v steps m k) (same j m hj hm) ∙ ap (λ b. w j m && b) (leads-same v w steps m k same hm hk)))

pub leads-start : (w : ℕ → ℕ → Bool) (j k : ℕ) → leads_to w 0 j k ≡ false
unfolding leads_to
leads-start w j k = refl

pub leads-step : (w : ℕ → ℕ → Bool) (reached : List Bool) (steps target : ℕ)
    → ((j : ℕ) → j < NUMBERS → slice_index_or reached j false ≡ leads_to w steps j target)
    → (j : ℕ) → (w j target || list_any (λ m. w j m && slice_index_or reached m false) jobs) ≡ leads_to w (steps + 1) j target
unfolding leads_to
leads-step w reached steps target known j =
    ap (λ b. w j target || b)
    (any-same (λ m. w j m && slice_index_or reached m false) (λ m. w j m && leads_to w steps m target)
    (λ m hm. ap (λ b. w j m && b) (known m hm)))
    ∙ ap (λ n. leads_to w n j target) (sym (add-one steps))

-- where a step more changes nothing, no number of steps does
leads-settled : (w : ℕ → ℕ → Bool) (steps target : ℕ) → ((j : ℕ) → j < NUMBERS → leads_to w (suc steps) j target ≡ leads_to w steps j target)
    → (more n : ℕ) → n ≡ more + steps → (j : ℕ) → j < NUMBERS → leads_to w n j target ≡ leads_to w steps j target
unfolding leads_to
leads-settled w steps target settled zero n e j hj =
    let same : n ≡ steps = omega arith in
    ap (λ i. leads_to w i j target) same
leads-settled w steps target settled (suc more) n e j hj =
    let next : n ≡ suc (more + steps) = omega arith in
    ap (λ i. leads_to w i j target) next
    ∙ ap (λ b. w j target || b) (any-same (λ m. w j m && leads_to w (more + steps) m target) (λ m. w j m && leads_to w steps m target)
    (λ m hm. ap (λ b. w j m && b) (leads-settled w steps target settled more (more + steps) refl m hm)))
    ∙ settled j hj

pub leads-end : (w : ℕ → ℕ → Bool) (reached further : List Bool) (steps target : ℕ) → steps < JOBS
    → ((j : ℕ) → j < NUMBERS → slice_index_or reached j false ≡ leads_to w steps j target)
    → ((j : ℕ) → j < NUMBERS → slice_index_or further j false ≡ (w j target || list_any (λ m. w j m && slice_index_or reached m false) jobs))
    → further ≡ reached → (j : ℕ) → j < NUMBERS → slice_index_or reached j false ≡ leads_to w JOBS j target
leads-end w reached further steps target below known step same j hj =
    let settled =
    λ (i : ℕ) (hi : i < NUMBERS). ap (λ n. leads_to w n i target) (sym (add-one steps))
    ∙ sym (leads-step w reached steps target known i) ∙ sym (step i hi)
    ∙ ap (λ xs. slice_index_or xs i false) same ∙ known i hi in
    let all : JOBS ≡ (JOBS - steps) + steps = omega arith in
    known j hj ∙ sym (leads-settled w steps target settled (JOBS - steps) JOBS all j hj)

-- who is in a circle, by a table of who waits for whom
pub circle_in : (pairs : List Bool) (requests : List Request) (j : ℕ)
    → ((i : ℕ) → i < PAIRS → slice_index_or pairs i false ≡ waits_for requests (i / NUMBERS) (i % NUMBERS)) → j < NUMBERS
    → is_in_circle (pair_in pairs) j ≡ is_in_circle (waits_for requests) j
circle_in pairs requests j known h =
    leads-same (pair_in pairs) (waits_for requests) JOBS j j (table-pairs pairs (waits_for requests) known) h h
