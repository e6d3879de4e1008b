-- What one call can do to the list of requests.
use Rattle.std.proofs.Common.{◌≡◌, ◌≢◌, ◌≤◌, ◌<◌, ◌∙◌, sym, ap, subst, ℕ, true, List, [], ◌∷◌, ◌++◌, length, map, ◌⊎◌, inl, inr, refl, arith}
use Rattle.lock_queue.specs.declared.request.Request.{Request}
use Rattle.lock_queue.specs.declared.key.Key.{Key}
use Rattle.lock_queue.specs.Queue.{all_wants, granted_behind, names}
use Rattle.lock_laws.specs.Claims.{Claim, claim_of, claims_of, claims, AreAlike, AreApart, Rises}
use Rattle.lock_queue.proofs.Lists.{Has, Pairs, Sub, nil, Sub-none, Sub-append, Sub-map}

-- the order of claims: what holds of a claim and a later one
pub record Ordered (c d : Claim) : Type 0 where
  pub alike : AreAlike c d
  pub apart : AreApart c d
  pub rises : Rises c d

-- a request of the job goes last, and its claims are in order behind the others
pub record Arrives (size job : ℕ) (before : List Request) (r : Request) : Type 0 where
  pub by : r.job ≡ job
  pub room : length before < size
  pub own : Pairs Ordered (claims_of r)
  pub behind : (c d : Claim) → Has (claims before) c → Has (claims_of r) d → Ordered c d

-- each request stays in its position, with its job, its kind and its claims but for whether they are shared; each that is
-- granted stays granted
pub record Changes (before : List Request) (f : Request → Request) : Type 0 where
  pub job : (r : Request) → (f r).job ≡ r.job
  pub kind : (r : Request) → (f r).kind ≡ r.kind
  pub named : (r : Request) (key : Key) → names r.wants.items key ≡ true → names (f r).wants.items key ≡ true
  pub claims : Pairs Ordered (claims before) → Pairs Ordered (claims (map f before))
  pub kept : (a b : List Request) (r : Request) → before ≡ a ++ r ∷ b → granted_behind a r ≡ true
      → granted_behind (map f a) (f r) ≡ true

-- the requests of some jobs lose wants or leave, and so do requests without wants
pub data Leaves (whose : ℕ → Type 0) : List Request → List Request → Type 0 where
  none : Leaves whose [] []
  gone : {before after : List Request} (r : Request) → whose r.job ⊎ (r.wants.items ≡ []) → Leaves whose before after
      → Leaves whose (r ∷ before) after
  kept : {before after : List Request} (r q : Request) → q.job ≡ r.job → q.kind ≡ r.kind
      → Sub q.wants.items r.wants.items
      → whose r.job ⊎ (q ≡ r) → Leaves whose before after → Leaves whose (r ∷ before) (q ∷ after)

-- those of one job
abbrev pub is_job_of : ℕ → ℕ → Type 0
is_job_of job n = n ≡ job

abbrev pub Releases : ℕ → List Request → List Request → Type 0
Releases job = Leaves (is_job_of job)

-- what a call does that is no dequeue
pub data Grows (size job : ℕ) (before after : List Request) : Type 0 where
  stays : after ≡ before → Grows size job before after
  arrives : (r : Request) → after ≡ before ++ r ∷ [] → Arrives size job before r → Grows size job before after
  changes : (f : Request → Request) → after ≡ map f before → Changes before f → Grows size job before after

module _ (whose : ℕ → Type 0) where
  -- what is left is part of what was there
  pub Releases-wants : {before after : List Request} → Leaves whose before after
      → Sub (all_wants after) (all_wants before)
  Releases-wants none = nil
  Releases-wants (gone r why s) = Sub-append (Sub-none r.wants.items) (Releases-wants s)
  Releases-wants (kept r q j k f why s) = Sub-append f (Releases-wants s)

  pub Releases-claims : {before after : List Request} → Leaves whose before after → Sub (claims after) (claims before)
  Releases-claims none = nil
  Releases-claims (gone r why s) = Sub-append (Sub-none (claims_of r)) (Releases-claims s)
  Releases-claims (kept r q j k f why s) =
      let here : Sub (claims_of q) (claims_of r) = subst (λ n. Sub (map (claim_of n) q.wants.items) (claims_of r)) (sym j) (Sub-map (claim_of r.job) f) in
      Sub-append here (Releases-claims s)

  pub Releases-length : {before after : List Request} → Leaves whose before after → length after ≤ length before
  Releases-length none = omega arith
  Releases-length (gone r why s) = omega (arith, Releases-length s)
  Releases-length (kept r q j k f why s) = omega (arith, Releases-length s)

  -- where a request that is left comes from
  pub record Source (before a : List Request) (q : Request) (b : List Request) : Type 0 where
    pub earlier : List Request
    pub request : Request
    pub later : List Request
    pub is : before ≡ earlier ++ request ∷ later
    pub by : q.job ≡ request.job
    pub kind : q.kind ≡ request.kind
    pub wants : Sub q.wants.items request.wants.items
    pub fewer : Sub (all_wants a) (all_wants earlier)
    pub rest : Leaves whose later b

  -- the same behind one more request
  source-behind : (before a front b : List Request) (q r : Request)
      → ((e : List Request) → Sub (all_wants a) (all_wants e) → Sub (all_wants front) (r.wants.items ++ all_wants e))
      → Source before a q b
      → Source (r ∷ before) front q b
  source-behind before a front b q r fewer o = record {
    earlier = r ∷ o.earlier;
    request = o.request;
    later = o.later;
    is = ap (λ l. r ∷ l) o.is;
    by = o.by;
    kind = o.kind;
    wants = o.wants;
    fewer = fewer o.earlier o.fewer;
    rest = o.rest;
  }

  pub Releases-source : {before after : List Request} → Leaves whose before after → (a b : List Request) (q : Request)
      → after ≡ a ++ q ∷ b
      → Source before a q b
  Releases-source none [] b q is = cc
  Releases-source none (x ∷ a) b q is = cc
  Releases-source (gone {before} r why s) a b q is =
      source-behind before a a b q r (λ e fewer. Sub-append (Sub-none r.wants.items) fewer) (Releases-source s a b q is)
  Releases-source (kept {before} {after} r p j k f why s) [] b q is =
      let same : p ≡ q = cc in
      let rest : after ≡ b = cc in
      record {
        earlier = [];
        request = r;
        later = before;
        is = refl;
        by = ap (λ (u : Request). u.job) (sym same) ∙ j;
        kind = ap (λ (u : Request). u.kind) (sym same) ∙ k;
        wants = subst (λ u. Sub u.wants.items r.wants.items) same f;
        fewer = nil;
        rest = subst (λ l. Leaves whose before l) rest s;
      }
  Releases-source (kept {before} {after} r p j k f why s) (x ∷ a) b q is =
      let same : p ≡ x = cc in
      let rest : after ≡ a ++ q ∷ b = cc in
      let wants : Sub x.wants.items r.wants.items = subst (λ u. Sub u.wants.items r.wants.items) same f in
      source-behind before a (x ∷ a) b q r (λ e fewer. Sub-append wants fewer) (Releases-source s a b q rest)

  -- where another job's request that is left goes
  pub record Target (a : List Request) (r : Request) (after : List Request) : Type 0 where
    pub earlier : List Request
    pub later : List Request
    pub is : after ≡ earlier ++ r ∷ later
    pub fewer : Sub (all_wants earlier) (all_wants a)

  pub Releases-target : {before after : List Request} → Leaves whose before after → (a b : List Request) (r : Request)
      → before ≡ a ++ r ∷ b
      → (whose r.job → ⊥) → r.wants.items ≢ [] → Target a r after
  Releases-target none [] b r is other some = cc
  Releases-target none (x ∷ a) b r is other some = cc
  Releases-target (gone p why s) [] b r is other some =
      let same : p ≡ r = cc in
      elim why [ inl j ↦ absurd (other (subst (λ u. whose u.job) same j)) | inr w ↦ absurd (some (ap (λ (u : Request). u.wants.items) (sym same) ∙ w)) ]
  Releases-target (gone {before} p why s) (x ∷ a) b r is other some =
      let rest : before ≡ a ++ r ∷ b = cc in
      let o = Releases-target s a b r rest other some in
      record { earlier = o.earlier; later = o.later; is = o.is; fewer = Sub-append (Sub-none x.wants.items) o.fewer }
  Releases-target (kept {before} {after} p q j k f why s) [] b r is other some =
      let same : p ≡ r = cc in
      elim why [
        | inl j ↦ absurd (other (subst (λ u. whose u.job) same j))
        | inr e ↦ record { earlier = []; later = after; is = ap (λ u. u ∷ after) (e ∙ same); fewer = nil }
      ]
  Releases-target (kept {before} {after} p q j k f why s) (x ∷ a) b r is other some =
      let same : p ≡ x = cc in
      let rest : before ≡ a ++ r ∷ b = cc in
      let o = Releases-target s a b r rest other some in
      record {
        earlier = q ∷ o.earlier;
        later = o.later;
        is = ap (λ l. q ∷ l) o.is;
        fewer = Sub-append (subst (λ u. Sub q.wants.items u.wants.items) same f) o.fewer;
      }

  -- the later requests that are left are of the same jobs
  pub Releases-jobs : {before after : List Request} → Leaves whose before after → (q : Request) → Has after q
      → (r : Request) × Has before r × (q.job ≡ r.job)
  Releases-jobs none q h = absurd h
  Releases-jobs (gone r why s) q h = let o = Releases-jobs s q h in (o.0, inr o.1, o.2)
  Releases-jobs (kept r p j k f why s) q (inl e) = (r, inl refl, ap (λ (u : Request). u.job) (sym e) ∙ j)
  Releases-jobs (kept r p j k f why s) q (inr h) = let o = Releases-jobs s q h in (o.0, inr o.1, o.2)
