-- Lists that are made job by job.
use Rattle.std.proofs.Common.{◌≡◌, ◌<◌, ◌≤◌, ◌+◌, ◌-◌, ◌++◌, ◌∙◌, ℕ, suc, List, [], ◌∷◌, arith, sym, ap, append_assoc, append-nil}
use Rattle.std.specs.List.{flat_map}
use Rattle.lock_queue.specs.Waits.{jobs, numbers_from}
use Rattle.wait_graph.proofs.JobLemmas.{jobs-start}
use Rattle.wait_graph.specs.declared.pairs.TheConstants.{NUMBERS}
use Rattle.word36.specs.declared.sizes.TheConstants.{JOBS}

rest_at : (j : ℕ) → j < NUMBERS → numbers_from j (NUMBERS - j) ≡ j ∷ numbers_from (j + 1) (NUMBERS - (j + 1))
unfolding numbers_from
rest_at j h = let e : NUMBERS - j ≡ suc (NUMBERS - (j + 1)) = omega arith in ap (numbers_from j) e

rest_end : (j : ℕ) → NUMBERS ≤ j → numbers_from j (NUMBERS - j) ≡ []
unfolding numbers_from
rest_end j h = let e : NUMBERS - j ≡ 0 = omega arith in ap (numbers_from j) e

-- what each job has, in turn
pub each_start : {A : Type 0} (f : ℕ → List A) (sofar : List A) → sofar ≡ [] → sofar ++ flat_map f (numbers_from 1 JOBS) ≡ flat_map f jobs
each_start f sofar none = ap (λ l. l ++ flat_map f (numbers_from 1 JOBS)) none ∙ ap (flat_map f) jobs-start

pub each_step : {A : Type 0} (f : ℕ → List A) (j : ℕ) (sofar new all : List A) → j < NUMBERS → new ≡ sofar ++ f j
    → sofar ++ flat_map f (numbers_from j (NUMBERS - j)) ≡ all → new ++ flat_map f (numbers_from (j + 1) (NUMBERS - (j + 1))) ≡ all
each_step f j sofar new all within pushed before =
    ap (λ l. l ++ flat_map f (numbers_from (j + 1) (NUMBERS - (j + 1)))) pushed
    ∙ append_assoc sofar (f j) (flat_map f (numbers_from (j + 1) (NUMBERS - (j + 1))))
    ∙ ap (λ l. sofar ++ flat_map f l) (sym (rest_at j within)) ∙ before

pub each_end : {A : Type 0} (f : ℕ → List A) (j : ℕ) (sofar all : List A) → NUMBERS ≤ j
    → sofar ++ flat_map f (numbers_from j (NUMBERS - j)) ≡ all → sofar ≡ all
each_end f j sofar all end before = sym (append-nil sofar) ∙ ap (λ l. sofar ++ flat_map f l) (sym (rest_end j end)) ∙ before
