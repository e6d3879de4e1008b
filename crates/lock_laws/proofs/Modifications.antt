-- What a change of wants leaves.
use Rattle.std.proofs.Common.{◌≡◌, ◌∙◌, sym, ap, subst, ℕ, Bool, true, false, not, ◌&&◌, ◌==◌, cond, List, []}
use Rattle.std.proofs.Common.{◌∷◌, ◌++◌, map, Option, Some, None, inl, inr, refl}
use Rattle.std.proofs.lemmas.Bool.{and_cases, or_parts, not-false, both_ways}
use Rattle.std.proofs.lemmas.List.{map-append}
use Rattle.lock_queue.specs.declared.call.LockReply.TheVariants.{Done}
use Rattle.lock_queue.specs.declared.key.Key.{Key}
use Rattle.lock_queue.specs.declared.refusal.Refusal.{Refusal}
use Rattle.lock_queue.specs.declared.refusal.Refusal.TheVariants.{WouldLose}
use Rattle.lock_queue.specs.declared.request.Request.{Request}
use Rattle.lock_queue.specs.declared.want.Want.{Want}
use Rattle.lock_queue.specs.Changes.{changed_group, modify_fault, changed_want, changed, with_changes, some_lost_behind, some_lost, modify}
use Rattle.lock_queue.specs.Dequeues.{with_wants}
use Rattle.lock_queue.specs.Keys.{same_key}
use Rattle.lock_queue.specs.Outcomes.{outcome, unless_refused, refuse_if, or_else, first_refusal}
use Rattle.lock_queue.specs.Queue.{names, granted_behind}
use Rattle.lock_laws.specs.Claims.{Claim, claim_of, claims_of, claims}
use Rattle.lock_queue.proofs.Refusing.{refuse_if-None, or_else-None}
use Rattle.lock_queue.proofs.Fitting.{names-found, names-Has}
use Rattle.lock_queue.proofs.Lists.{Has-map, Pairs, Pairs-map}
use Rattle.lock_laws.proofs.Positions.{push-append, nil-append}
use Rattle.lock_laws.proofs.Steps.{Ordered, Changes, Grows, stays, changes}

-- what a change of a want keeps
record Keeps (w v : Want) : Type 0 where
  key : v.key ≡ w.key
  bypass : v.bypass ≡ w.bypass
  level : v.level ≡ w.level
  pool : v.pool ≡ w.pool

-- a changed want is shared or not, and otherwise as it was
keeps-changed : (cs : List Want) (w : Want) → Keeps w (changed_want cs w)
keeps-changed [] w = record { key = refl; bypass = refl; level = refl; pool = refl }
keeps-changed (c ∷ cs) w =
    elim (same_key w.key c.key) as (λ b.
    Keeps w
    (cond b (record {
      key = w.key;
      shared = c.shared;
      group = changed_group c.shared w;
      bypass = w.bypass;
      level = w.level;
      pool = w.pool;
    }) (changed_want cs w))) [
      | true ↦ record { key = refl; bypass = refl; level = refl; pool = refl }
      | false ↦ keeps-changed cs w
    ]

-- a claim with its want changed, where it is the job's
abbrev changed_claim : ℕ → List Want → Claim → Claim
changed_claim job cs c = claim_of c.job (cond (c.job == job) (changed_want cs c.want) c.want)

keeps-claim : (job : ℕ) (cs : List Want) (c : Claim) → Keeps c.want (changed_claim job cs c).want
keeps-claim job cs c =
    elim (c.job == job) as (λ b. Keeps c.want (cond b (changed_want cs c.want) c.want)) [
      | true ↦ keeps-changed cs c.want
      | false ↦ record { key = refl; bypass = refl; level = refl; pool = refl }
    ]

-- a changed request is of its job and kind, and names its keys
changed-job : (job : ℕ) (cs : List Want) (r : Request) → (changed job cs r).job ≡ r.job
changed-job job cs r =
    elim (r.job == job) as (λ b. (cond b (with_wants r (map (changed_want cs) r.wants.items)) r).job ≡ r.job) [ true ↦ refl | false ↦ refl ]

changed-kind : (job : ℕ) (cs : List Want) (r : Request) → (changed job cs r).kind ≡ r.kind
changed-kind job cs r =
    elim (r.job == job) as (λ b. (cond b (with_wants r (map (changed_want cs) r.wants.items)) r).kind ≡ r.kind) [ true ↦ refl | false ↦ refl ]

names-changed : (cs ws : List Want) (key : Key) → names ws key ≡ true → names (map (changed_want cs) ws) key ≡ true
names-changed cs ws key h =
    let w = names-found ws key h in
    names-Has (map (changed_want cs) ws) key (changed_want cs w.0) (Has-map (changed_want cs) ws w.0 w.1) ((keeps-changed cs w.0).key ∙ w.2)

changed-names : (job : ℕ) (cs : List Want) (r : Request) (key : Key) → names r.wants.items key ≡ true
    → names (changed job cs r).wants.items key ≡ true
changed-names job cs r key h =
    elim (r.job == job) as (λ b. names (cond b (with_wants r (map (changed_want cs) r.wants.items)) r).wants.items key ≡ true) [
      | true ↦ names-changed cs r.wants.items key h
      | false ↦ h
    ]

-- the order of claims does not look at whether they are shared
Ordered-changed : (job : ℕ) (cs : List Want) (c d : Claim) → Ordered c d
    → Ordered (changed_claim job cs c) (changed_claim job cs d)
Ordered-changed job cs c d o =
    let k : Keeps c.want (changed_claim job cs c).want = keeps-claim job cs c in
    let l : Keeps d.want (changed_claim job cs d).want = keeps-claim job cs d in
    record {
      alike = rw (k.key, l.key, k.level, l.level, k.pool, l.pool) o.alike;
      apart = rw (k.key, l.key) o.apart;
      rises = rw (l.bypass, k.level, l.level) o.rises;
    }

-- the claims of a changed list are the changed claims
claims-changed : (job : ℕ) (cs : List Want) (n : ℕ) (ws : List Want) → (n == job) ≡ true
    → map (claim_of n) (map (changed_want cs) ws) ≡ map (changed_claim job cs) (map (claim_of n) ws)
claims-changed job cs n [] e = refl
claims-changed job cs n (w ∷ ws) e =
    let here : claim_of n (changed_want cs w) ≡ changed_claim job cs (claim_of n w) =
    ap (λ b. claim_of n (cond b (changed_want cs w) w)) (sym e) in
    let rest = claims-changed job cs n ws e in
    cc

claims-unchanged : (job : ℕ) (cs : List Want) (n : ℕ) (ws : List Want) → (n == job) ≡ false
    → map (claim_of n) ws ≡ map (changed_claim job cs) (map (claim_of n) ws)
claims-unchanged job cs n [] e = refl
claims-unchanged job cs n (w ∷ ws) e =
    let here : claim_of n w ≡ changed_claim job cs (claim_of n w) =
    ap (λ b. claim_of n (cond b (changed_want cs w) w)) (sym e) in
    let rest = claims-unchanged job cs n ws e in
    cc

claims_of-changed : (job : ℕ) (cs : List Want) (r : Request)
    → claims_of (changed job cs r) ≡ map (changed_claim job cs) (claims_of r)
claims_of-changed job cs r = go (r.job == job) refl
  where
    go : (b : Bool) → (r.job == job) ≡ b
        → claims_of (cond b (with_wants r (map (changed_want cs) r.wants.items)) r) ≡ map (changed_claim job cs) (claims_of r)
    go true e = claims-changed job cs r.job r.wants.items e
    go false e = claims-unchanged job cs r.job r.wants.items e

all_claims-changed : (job : ℕ) (cs : List Want) (rs : List Request)
    → claims (map (changed job cs) rs) ≡ map (changed_claim job cs) (claims rs)
all_claims-changed job cs [] = refl
all_claims-changed job cs (r ∷ rs) =
    ap (λ l. l ++ claims (map (changed job cs) rs)) (claims_of-changed job cs r)
    ∙ ap (λ l. map (changed_claim job cs) (claims_of r) ++ l) (all_claims-changed job cs rs)
    ∙ sym (map-append (changed_claim job cs) (claims_of r) (claims rs))

-- where none is lost, each granted request stays granted
none-lost : (f : Request → Request) (e g rs : List Request) → some_lost_behind e g rs (map f rs) ≡ false
    → (a b : List Request) (r : Request) → rs ≡ a ++ r ∷ b → granted_behind (e ++ a) r ≡ true
    → granted_behind (g ++ map f a) (f r) ≡ true
none-lost f e g [] h [] b r is t = cc
none-lost f e g [] h (x ∷ a) b r is t = cc
none-lost f e g (x ∷ rs) h [] b r is t =
    let same : x ≡ r = cc in
    let here = (or_parts (granted_behind e x && not (granted_behind g (f x))) (some_lost_behind (e ++ x ∷ []) (g ++ f x ∷ []) rs (map f rs)) h).0 in
    let was : granted_behind e x ≡ true = subst (λ u. granted_behind e u ≡ true) (sym same) (subst (λ l. granted_behind l r ≡ true) (nil-append e) t) in
    let now : granted_behind g (f x) ≡ true =
    elim (and_cases (granted_behind e x) (not (granted_behind g (f x))) here)
    [ inl lost ↦ absurd (both_ways (granted_behind e x) lost was) | inr held ↦ not-false _ held ] in
    subst (λ l. granted_behind l (f r) ≡ true) (sym (nil-append g)) (subst (λ u. granted_behind g (f u) ≡ true) same now)
none-lost f e g (x ∷ rs) h (y ∷ a) b r is t =
    let same : x ≡ y = cc in
    let rest : rs ≡ a ++ r ∷ b = cc in
    let later = (or_parts (granted_behind e x && not (granted_behind g (f x))) (some_lost_behind (e ++ x ∷ []) (g ++ f x ∷ []) rs (map f rs)) h).1 in
    let was : granted_behind ((e ++ x ∷ []) ++ a) r ≡ true =
    subst (λ l. granted_behind l r ≡ true) (ap (λ u. e ++ u ∷ a) (sym same) ∙ sym (push-append e x a)) t in
    let now = none-lost f (e ++ x ∷ []) (g ++ f x ∷ []) rs later a b r rest was in
    subst (λ l. granted_behind l (f r) ≡ true) (push-append g (f x) (map f a) ∙ ap (λ u. g ++ f u ∷ map f a) same) now

-- a change that loses no grant
pub changes-changed : (requests : List Request) (job : ℕ) (cs : List Want)
    → some_lost requests (with_changes requests job cs) ≡ false
    → Changes requests (changed job cs)
changes-changed requests job cs h = record {
  job = changed-job job cs;
  kind = changed-kind job cs;
  named = changed-names job cs;
  claims = λ p. subst (λ l. Pairs Ordered l) (sym (all_claims-changed job cs requests))
      (Pairs-map Ordered Ordered (changed_claim job cs) (Ordered-changed job cs) (claims requests) p);
  kept = none-lost (changed job cs) [] [] requests h;
}

-- the change is made or refused
pub step-modify : (size : ℕ) (requests : List Request) (job : ℕ) (cs : List Want)
    → Grows size job requests (modify requests job cs).requests
step-modify size requests job cs = go _ refl
  where
    go : (o : Option Refusal)
        → or_else (first_refusal (modify_fault requests job) [] cs) (refuse_if (some_lost requests (with_changes requests job cs)) WouldLose) ≡ o
        → Grows size job requests (unless_refused requests o (outcome (with_changes requests job cs) Done)).requests
    go (Some f) e = stays refl
    go None e =
        changes (changed job cs) refl (changes-changed requests job cs (refuse_if-None _ _ (or_else-None _ _ e).1))
