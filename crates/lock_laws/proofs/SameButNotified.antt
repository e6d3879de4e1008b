-- A list in which a job is notified of a grant.
use Rattle.std.proofs.Common.{◌≡◌, ◌∙◌, sym, ap, subst, Bool, true, false, cond, List, [], ◌∷◌, ◌++◌, length, map, filter, inl, inr, refl, arith}
use Rattle.std.specs.List.{list_all}
use Rattle.lock_queue.specs.declared.request.Request.{Request}
use Rattle.lock_queue.specs.Jobs.{as_notified, notified_behind}
use Rattle.lock_queue.specs.Keys.{same_key}
use Rattle.lock_queue.specs.Queue.{all_wants, fits, fits_beside, granted_behind}
use Rattle.lock_laws.specs.Claims.{claim_of, claims_of, claims}
use Rattle.lock_queue.proofs.Lists.{Has}

-- two lists with equal requests in equal positions, but for the grants of which jobs were notified
pub data SameButNotified : List Request → List Request → Type 0 where
  none : SameButNotified [] []
  next : {before after : List Request} (r q : Request) → q.job ≡ r.job → q.kind ≡ r.kind
      → q.wants.items ≡ r.wants.items → SameButNotified before after
      → SameButNotified (r ∷ before) (q ∷ after)

-- where no job is notified, and back from where one is
pub SameButNotified-same : (rs : List Request) → SameButNotified rs rs
SameButNotified-same [] = none
SameButNotified-same (r ∷ rs) = next r r refl refl refl (SameButNotified-same rs)

pub SameButNotified-back : {before after : List Request} → SameButNotified before after → SameButNotified after before
SameButNotified-back none = none
SameButNotified-back (next r q j k w s) = next q r (sym j) (sym k) (sym w) (SameButNotified-back s)

-- one job is notified
pub SameButNotified-notified : (test : List Request → Request → Bool) (e rs : List Request) → SameButNotified rs (notified_behind test e rs)
SameButNotified-notified test e [] = none
SameButNotified-notified test e (r ∷ rs) =
    elim (test e r) as (λ b. SameButNotified (r ∷ rs) (cond b (as_notified r ∷ rs) (r ∷ notified_behind test (e ++ r ∷ []) rs))) [
      | true ↦ next r (as_notified r) refl refl refl (SameButNotified-same rs)
      | false ↦ next r r refl refl refl (SameButNotified-notified test (e ++ r ∷ []) rs)
    ]

-- claims, wants, their number and their jobs are as they were
pub SameButNotified-claims : {before after : List Request} → SameButNotified before after → claims after ≡ claims before
SameButNotified-claims none = refl
SameButNotified-claims (next {before} {after} r q j k w s) =
    let here : claims_of q ≡ claims_of r = ap (λ n. map (claim_of n) q.wants.items) j ∙ ap (map (claim_of r.job)) w in
    ap (λ l. l ++ claims after) here ∙ ap (λ l. claims_of r ++ l) (SameButNotified-claims s)

pub SameButNotified-wants : {before after : List Request} → SameButNotified before after → all_wants after ≡ all_wants before
SameButNotified-wants none = refl
SameButNotified-wants (next {before} {after} r q j k w s) = ap (λ l. l ++ all_wants after) w ∙ ap (λ l. r.wants.items ++ l) (SameButNotified-wants s)

pub SameButNotified-length : {before after : List Request} → SameButNotified before after → length after ≡ length before
SameButNotified-length none = refl
SameButNotified-length (next r q j k w s) = omega (arith, SameButNotified-length s)

pub SameButNotified-jobs : {before after : List Request} → SameButNotified before after → (q : Request) → Has after q
    → (r : Request) × Has before r × (q.job ≡ r.job)
SameButNotified-jobs none q h = absurd h
SameButNotified-jobs (next r p j k w s) q (inl e) = (r, inl refl, ap (λ (u : Request). u.job) (sym e) ∙ j)
SameButNotified-jobs (next r p j k w s) q (inr h) = let o = SameButNotified-jobs s q h in (o.0, inr o.1, o.2)

-- a grant rests on wants alone
granted_behind-notified : (a b : List Request) (q r : Request) → all_wants a ≡ all_wants b
    → q.wants.items ≡ r.wants.items → granted_behind a q ≡ granted_behind b r
granted_behind-notified a b q r e f =
    ap (λ l. list_all (λ w. fits_beside (filter (λ v. same_key v.key w.key) l) w w.pool) q.wants.items) e ∙ ap (list_all (fits b)) f

-- the position of a request of the list in the other one
pub record Position (after a : List Request) (r : Request) (b : List Request) : Type 0 where
  pub earlier : List Request
  pub request : Request
  pub later : List Request
  pub is : after ≡ earlier ++ request ∷ later
  pub job : request.job ≡ r.job
  pub kind : request.kind ≡ r.kind
  pub wants : request.wants.items ≡ r.wants.items
  pub granted : granted_behind earlier request ≡ granted_behind a r
  pub front : SameButNotified a earlier
  pub rest : SameButNotified b later

-- a position behind one more request
position-from : (x y : Request) (after a : List Request) (r : Request) (b : List Request) → y.job ≡ x.job → y.kind ≡ x.kind
    → y.wants.items ≡ x.wants.items → Position after a r b → Position (y ∷ after) (x ∷ a) r b
position-from x y after a r b j k w o =
    let front : SameButNotified (x ∷ a) (y ∷ o.earlier) = next x y j k w o.front in
    record {
      earlier = y ∷ o.earlier;
      request = o.request;
      later = o.later;
      is = ap (λ l. y ∷ l) o.is;
      job = o.job;
      kind = o.kind;
      wants = o.wants;
      granted = granted_behind-notified (y ∷ o.earlier) (x ∷ a) o.request r (SameButNotified-wants front) o.wants;
      front = front;
      rest = o.rest;
    }

pub SameButNotified-position : {before after : List Request} → SameButNotified before after → (a b : List Request) (r : Request)
    → before ≡ a ++ r ∷ b → Position after a r b
SameButNotified-position none [] b r is = absurd (cc)
SameButNotified-position none (x ∷ a) b r is = absurd (cc)
SameButNotified-position (next {before} {after} p q j k w s) [] b r is =
    let same : p ≡ r = cc in
    let rest : before ≡ b = cc in
    let wants : q.wants.items ≡ r.wants.items = w ∙ ap (λ (u : Request). u.wants.items) same in
    record {
      earlier = [];
      request = q;
      later = after;
      is = refl;
      job = j ∙ ap (λ (u : Request). u.job) same;
      kind = k ∙ ap (λ (u : Request). u.kind) same;
      wants = wants;
      granted = granted_behind-notified [] [] q r refl wants;
      front = none;
      rest = subst (λ l. SameButNotified l after) rest s;
    }
SameButNotified-position (next {before} {after} p q j k w s) (x ∷ a) b r is =
    let same : p ≡ x = cc in
    let rest : before ≡ a ++ r ∷ b = cc in
    position-from x q after a r b (j ∙ ap (λ (u : Request). u.job) same) (k ∙ ap (λ (u : Request). u.kind) same)
    (w ∙ ap (λ (u : Request). u.wants.items) same) (SameButNotified-position s a b r rest)
