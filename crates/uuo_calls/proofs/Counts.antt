-- The requests of one job, counted one request after another.
use Rattle.std.proofs.Common.{◌≡◌, ◌≢◌, ◌+◌, ◌==◌, ◌∙◌, ap, sym, ℕ, Bool, true, false, cond, List, ◌∷◌, drop, Some, slice_get, unwrap_or, arith}
use Rattle.std.proofs.lemmas.List.{drop_more}
use Rattle.std.proofs.lemmas.Option.{slice_get_within, unwrap_or-slice_get}
use Rattle.std.proofs.lemmas.Bool.Decides.{nat_tests}
use Rattle.lock_queue.specs.declared.request.Request.{Request}
use Rattle.uuo_calls.specs.QuotaRows.{count}

-- the rest from a place on begins with what is there
drop-at : {X : Type 0} (xs : List X) (i : ℕ) (x : X) → slice_get xs i ≡ Some x → drop i xs ≡ x ∷ drop (i + 1) xs
drop-at xs i x h =
    drop_more xs i x (slice_get_within xs i x h)
    ∙ ap (λ y. y ∷ drop (i + 1) xs) (sym (unwrap_or-slice_get xs i x) ∙ ap (λ o. unwrap_or o x) h)

abbrev counts_by : Bool → ℕ → ℕ
counts_by is more = cond is (more + 1) more

count-cons : (r : Request) (rest : List Request) (k : ℕ) (is : Bool) → (r.job == k) ≡ is → count (r ∷ rest) k ≡ counts_by is (count rest k)
count-cons r rest k true e = grind (arith, e)
count-cons r rest k false e = grind (arith, e)

-- one more request of the job
pub counted-own : (requests : List Request) (i k sofar : ℕ) (r : Request) (all : ℕ) → slice_get requests i ≡ Some r → r.job ≡ k
    → sofar + count (drop i requests) k ≡ all → sofar + 1 + count (drop (i + 1) requests) k ≡ all
counted-own requests i k sofar r all here own before =
    let step : count (drop i requests) k ≡ count (drop (i + 1) requests) k + 1 =
    ap (λ l. count l k) (drop-at requests i r here) ∙ count-cons r (drop (i + 1) requests) k true (grind (arith, nat_tests)) in
    omega (arith, step, before)

-- a request of another job
pub counted-other : (requests : List Request) (i k sofar : ℕ) (r : Request) (all : ℕ) → slice_get requests i ≡ Some r → r.job ≢ k
    → sofar + count (drop i requests) k ≡ all → sofar + count (drop (i + 1) requests) k ≡ all
counted-other requests i k sofar r all here other before =
    let step : count (drop i requests) k ≡ count (drop (i + 1) requests) k =
    ap (λ l. count l k) (drop-at requests i r here) ∙ count-cons r (drop (i + 1) requests) k false (grind (arith, nat_tests)) in
    omega (arith, step, before)
