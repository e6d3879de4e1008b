-- Lemmas on a list, or a test, of each job in turn.
use Rattle.std.proofs.Common.{◌≡◌, ◌<◌, ◌≤◌, ◌+◌, ◌-◌, ◌++◌, ◌&&◌, ◌||◌, ℕ, Bool, true, false, suc, zero, List, [], ◌∷◌}
use Rattle.std.proofs.Common.{arith, refl, sym, ap, ◌∙◌, append_assoc, append-nil, subst, inl, inr}
use Rattle.std.proofs.lemmas.Bool.{cases_lt}
use Rattle.std.specs.List.{flat_map, list_any}
use Rattle.lock_queue.specs.Waits.{numbers_from, jobs}
use Rattle.word36.specs.declared.sizes.TheConstants.{JOBS}
use Rattle.wait_graph.specs.declared.pairs.TheConstants.{NUMBERS}

-- what is left of the jobs at a job
rest-at : (j : ℕ) → j < NUMBERS → numbers_from j (NUMBERS - j) ≡ j ∷ numbers_from (j + 1) (NUMBERS - (j + 1))
unfolding numbers_from
rest-at j h = let e : NUMBERS - j ≡ suc (NUMBERS - (j + 1)) = omega arith in ap (numbers_from j) e

rest-end : (j : ℕ) → NUMBERS ≤ j → numbers_from j (NUMBERS - j) ≡ []
unfolding numbers_from
rest-end j h = let e : NUMBERS - j ≡ 0 = omega arith in ap (numbers_from j) e

pub jobs-start : numbers_from 1 (NUMBERS - 1) ≡ jobs
unfolding jobs
jobs-start = refl

-- ---- a list for each job in turn

-- a text for each job in turn
pub lists-start : (f : ℕ → List ℕ) (out : List ℕ) → out ++ flat_map f (numbers_from 1 JOBS) ≡ out ++ flat_map f jobs
lists-start f out = ap (λ l. out ++ flat_map f l) jobs-start

pub lists-step : (f : ℕ → List ℕ) (j : ℕ) (sofar new all : List ℕ) → j < NUMBERS → new ≡ sofar ++ f j → sofar ++ flat_map f (numbers_from j (NUMBERS - j)) ≡ all
    → new ++ flat_map f (numbers_from (j + 1) (NUMBERS - (j + 1))) ≡ all
lists-step f j sofar new all within pushed before =
    ap (λ l. l ++ flat_map f (numbers_from (j + 1) (NUMBERS - (j + 1)))) pushed
    ∙ append_assoc sofar (f j) (flat_map f (numbers_from (j + 1) (NUMBERS - (j + 1))))
    ∙ ap (λ l. sofar ++ flat_map f l) (sym (rest-at j within)) ∙ before

pub lists-end : (f : ℕ → List ℕ) (j : ℕ) (sofar all : List ℕ) → NUMBERS ≤ j → sofar ++ flat_map f (numbers_from j (NUMBERS - j)) ≡ all → sofar ≡ all
lists-end f j sofar all end before = sym (append-nil sofar) ∙ ap (λ l. sofar ++ flat_map f l) (sym (rest-end j end)) ∙ before

lists-same_from : (f g : ℕ → List ℕ) (count first : ℕ) → first + count ≤ NUMBERS → ((m : ℕ) → m < NUMBERS → f m ≡ g m)
    → flat_map f (numbers_from first count) ≡ flat_map g (numbers_from first count)
unfolding numbers_from
lists-same_from f g zero first h same = refl
lists-same_from f g (suc count) first h same =
    ap (λ b. b ++ flat_map f (numbers_from (first + 1) count)) (same first (omega arith))
    ∙ ap (λ b. g first ++ b) (lists-same_from f g count (first + 1) (omega arith) same)

pub lists-same : (f g : ℕ → List ℕ) → ((m : ℕ) → m < NUMBERS → f m ≡ g m) → flat_map f jobs ≡ flat_map g jobs
unfolding jobs
lists-same f g same = lists-same_from f g JOBS 1 (omega arith) same

-- ---- a test of each job in turn

any-now : (f : ℕ → Bool) (j : ℕ) (b : Bool) → j < NUMBERS → f j ≡ b
    → list_any f (numbers_from j (NUMBERS - j)) ≡ (b || list_any f (numbers_from (j + 1) (NUMBERS - (j + 1))))
any-now f j b within is = ap (list_any f) (rest-at j within) ∙ ap (λ x. x || list_any f (numbers_from (j + 1) (NUMBERS - (j + 1)))) is

pub any-start : (f : ℕ → Bool) → list_any f (numbers_from 1 JOBS) ≡ list_any f jobs
any-start f = ap (list_any f) jobs-start

pub any-step : (f : ℕ → Bool) (j : ℕ) (all : Bool) → j < NUMBERS → f j ≡ false → list_any f (numbers_from j (NUMBERS - j)) ≡ all
    → list_any f (numbers_from (j + 1) (NUMBERS - (j + 1))) ≡ all
any-step f j all within fails before = sym (any-now f j false within fails) ∙ before

pub any-found : (f : ℕ → Bool) (j : ℕ) (all : Bool) → j < NUMBERS → f j ≡ true → list_any f (numbers_from j (NUMBERS - j)) ≡ all → true ≡ all
any-found f j all within holds before = sym (any-now f j true within holds) ∙ before

pub any-end : (f : ℕ → Bool) (j : ℕ) (all : Bool) → NUMBERS ≤ j → list_any f (numbers_from j (NUMBERS - j)) ≡ all → false ≡ all
any-end f j all end before = sym (ap (list_any f) (rest-end j end)) ∙ before

any-same_from : (f g : ℕ → Bool) (count first : ℕ) → first + count ≤ NUMBERS → ((m : ℕ) → m < NUMBERS → f m ≡ g m)
    → list_any f (numbers_from first count) ≡ list_any g (numbers_from first count)
unfolding numbers_from
any-same_from f g zero first h same = refl
any-same_from f g (suc count) first h same =
    ap (λ b. b || list_any f (numbers_from (first + 1) count)) (same first (omega arith))
    ∙ ap (λ b. g first || b) (any-same_from f g count (first + 1) (omega arith) same)

pub any-same : (f g : ℕ → Bool) → ((m : ℕ) → m < NUMBERS → f m ≡ g m) → list_any f jobs ≡ list_any g jobs
unfolding jobs
any-same f g same = any-same_from f g JOBS 1 (omega arith) same

pub or-left : (a b : Bool) → (a || b) ≡ false → a ≡ false
or-left true b h = h
or-left false b h = refl

pub or-right : (a b : Bool) → (a || b) ≡ false → b ≡ false
or-right true b h = cc
or-right false b h = h

-- the test fails at each number for which it is known to fail at all
pub none-at : (f : ℕ → Bool) (count first j : ℕ) → list_any f (numbers_from first count) ≡ false → first ≤ j → j < first + count → f j ≡ false
unfolding numbers_from
none-at f zero first j h least most = absurd (omega arith)
none-at f (suc count) first j h least most =
    elim (cases_lt first j) [
      | inl before ↦ none-at f count (first + 1) j (or-right (f first) _ h) (omega arith) (omega arith)
      | inr here ↦ let same : first ≡ j = omega arith in subst (λ i. f i ≡ false) same (or-left (f first) _ h)
    ]

pub never : (xs : List ℕ) → list_any (λ m. false) xs ≡ false
never [] = refl
never (x ∷ xs) = never xs

pub any-less : (f g : ℕ → Bool) (xs : List ℕ) → list_any f xs ≡ false → list_any (λ m. f m && g m) xs ≡ false
any-less f g [] h = refl
any-less f g (x ∷ xs) h =
    ap (λ b. (b && g x) || list_any (λ m. f m && g m) xs) (or-left (f x) (list_any f xs) h) ∙ any-less f g xs (or-right (f x) (list_any f xs) h)
