-- What every call keeps.
use Rattle.std.proofs.Common.{◌≡◌, ◌≤◌, sym, subst, ℕ, List, [], ◌∷◌, ◌++◌, length, map, arith, length-append}
use Rattle.std.proofs.lemmas.List.{length-map}
use Rattle.lock_queue.specs.declared.call.LockCall.{LockCall}
use Rattle.lock_queue.specs.declared.request.Request.{Request}
use Rattle.lock_queue.specs.Calls.{outcome_of, requests_after}
use Rattle.lock_laws.specs.Claims.{claims_of, claims, AreAlike, AreApart, Rises}
use Rattle.lock_laws.specs.Safe.{Safe}
use Rattle.lock_laws.proofs.CallSteps.{Step, grows, releases, step_of}
use Rattle.lock_laws.proofs.Granting.{alone, owners_agree, all_or_none, fits_in_front, no_overtaking}
use Rattle.lock_queue.proofs.Lists.{Has, Pairs, Pairs-append, Pairs-joined, Pairs-weaker, Sub-Pairs, flat_map-append}
use Rattle.lock_laws.proofs.Positions.{nil-append}
use Rattle.lock_laws.proofs.PoolSums.{pools_suffice}
use Rattle.lock_laws.proofs.Steps.{Ordered, Grows, stays, arrives, changes, Leaves, is_job_of, Releases-claims, Releases-length}
use Rattle.lock_laws.proofs.Telling.{told_alike}
use Rattle.lock_laws.proofs.Words.{Pairs-AllPairs, AllPairs-Pairs}

pub record Kept (size : ℕ) (requests : List Request) : Type 0 where
  pub ordered : Pairs Ordered (claims requests)
  pub few : length requests ≤ size

-- a call that is no dequeue keeps it
kept-grows : (size : ℕ) (job : ℕ) (before after : List Request) → Grows size job before after → Kept size before → Kept size after
kept-grows size job before after (stays e) k = subst (Kept size) (sym e) k
kept-grows size job before after (arrives r e a) k =
    let own : claims (r ∷ []) ≡ claims_of r = nil-append (claims_of r) in
    let here : Kept size (before ++ r ∷ []) =
    record {
      ordered = subst (λ l. Pairs Ordered l) (sym (flat_map-append claims_of before (r ∷ [])))
          (Pairs-append Ordered (claims before) (claims (r ∷ [])) k.ordered (subst (λ l. Pairs Ordered l) (sym own) a.own)
          (λ c d h g. a.behind c d h (subst (λ l. Has l d) own g)));
      few = omega (arith, length-append before (r ∷ []), a.room);
    } in
    subst (Kept size) (sym e) here
kept-grows size job before after (changes f e c) k =
    let here : Kept size (map f before) =
    record { ordered = c.claims k.ordered; few = omega (arith, length-map before f, k.few) } in
    subst (Kept size) (sym e) here

-- each call keeps it, and so do lists of calls
kept-step : (size : ℕ) (job : ℕ) (call : LockCall) (before after : List Request) → Step size job call before after → Kept size before
    → Kept size after
kept-step size job call before after (grows g) k = kept-grows size job before after g k
kept-step size job call before after (releases d s) k =
    record {
      ordered = Sub-Pairs Ordered (Releases-claims (is_job_of job) s) k.ordered;
      few = omega (arith, Releases-length (is_job_of job) s, k.few);
    }

pub kept-call : (size : ℕ) (requests : List Request) (job : ℕ) (call : LockCall) → Kept size requests
    → Kept size (outcome_of size requests job call).requests
kept-call size requests job call k = kept-step size job call requests _ (step_of size requests job call) k

pub kept-calls : (size : ℕ) (requests : List Request) (calls : List (ℕ × LockCall)) → Kept size requests
    → Kept size (requests_after size requests calls)
kept-calls size requests [] k = k
kept-calls size requests (c ∷ later) k = kept-calls size (outcome_of size requests c.0 c.1).requests later (kept-call size requests c.0 c.1 k)

-- it holds of no requests
pub kept-none : (size : ℕ) → Kept size []
kept-none size = record { ordered = tt; few = omega arith }

-- all of safety follows from it, and it is part of safety
pub safe-kept : (size : ℕ) (requests : List Request) → Kept size requests → Safe size requests
safe-kept size requests k = record {
  exclusive_alone = alone requests k.ordered;
  owners_agree = owners_agree requests;
  pools_suffice = pools_suffice requests k.ordered;
  all_or_none = all_or_none requests;
  fits_in_front = fits_in_front requests k.ordered;
  no_overtaking = no_overtaking requests k.ordered;
  alike = Pairs-AllPairs AreAlike (claims requests) (Pairs-weaker Ordered AreAlike (λ c d o. o.alike) (claims requests) k.ordered);
  apart = Pairs-AllPairs AreApart (claims requests) (Pairs-weaker Ordered AreApart (λ c d o. o.apart) (claims requests) k.ordered);
  rising = Pairs-AllPairs Rises (claims requests) (Pairs-weaker Ordered Rises (λ c d o. o.rises) (claims requests) k.ordered);
  few = k.few;
  told_alike = told_alike requests;
}

pub kept-safe : (size : ℕ) (requests : List Request) → Safe size requests → Kept size requests
kept-safe size requests s =
    let alike = AllPairs-Pairs AreAlike (claims requests) s.alike in
    let apart = AllPairs-Pairs AreApart (claims requests) s.apart in
    let rises = AllPairs-Pairs Rises (claims requests) s.rising in
    record {
      ordered = Pairs-joined AreAlike AreApart Rises Ordered (λ c d a b r. record { alike = a; apart = b; rises = r }) (claims requests) alike apart rises;
      few = s.few;
    }

pub kept-releases : (size : ℕ) (whose : ℕ → Type 0) (before after : List Request) → Leaves whose before after → Kept size before → Kept size after
kept-releases size whose before after s k = record {
  ordered = Sub-Pairs Ordered (Releases-claims whose s) k.ordered;
  few = omega (arith, Releases-length whose s, k.few);
}
