-- The present wants with their jobs, in order of arrival (this project's profile).
use Rattle.std.specs.Prelude.{◌≡◌, ◌≢◌, ℕ, ◌<◌, true, false, List, map}
use Rattle.std.specs.List.{flat_map}
use Rattle.lock_queue.specs.declared.request.Request.{Request}
use Rattle.lock_queue.specs.declared.want.Want.{Want}
use Rattle.lock_queue.specs.Enqueues.{are_alike}

-- a want, and whose it is
pub record Claim : Type 0 where
  pub job : ℕ
  pub want : Want

abbrev pub claim_of : ℕ → Want → Claim
claim_of job want = record { job = job; want = want }

-- the claims of one request, and those of all
abbrev pub claims_of : Request → List Claim
claims_of r = map (claim_of r.job) r.wants.items

abbrev pub claims : List Request → List Claim
claims requests = flat_map claims_of requests

-- two wants of one key have one level, and one pool size or no pool
abbrev pub AreAlike : Claim → Claim → Type 0
AreAlike c d = c.want.key ≡ d.want.key → are_alike c.want d.want ≡ true

-- two wants of one job are of two keys
abbrev pub AreApart : Claim → Claim → Type 0
AreApart c d = c.job ≡ d.job → c.want.key ≢ d.want.key

-- a want without bypass has a level above an earlier one of its job
abbrev pub Rises : Claim → Claim → Type 0
Rises c d = c.job ≡ d.job → d.want.bypass ≡ false → c.want.level < d.want.level
