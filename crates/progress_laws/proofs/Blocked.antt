-- Jobs that wait by a request for one key.
use Rattle.std.proofs.Common.{◌≡◌, ◌<◌, ◌∙◌, sym, ap, subst, ℕ, ◌==◌, not, Bool, true, false, List, [], ◌∷◌, ◌++◌, length, refl, arith, inl, inr}
use Rattle.std.specs.List.{list_all, list_any}
use Rattle.std.proofs.lemmas.Bool.{both_ways, and_parts, and_from, eqb-true, eq-eqb, not-true}
use Rattle.lock_queue.specs.declared.key.Key.{Key}
use Rattle.lock_queue.specs.declared.request.Request.{Request}
use Rattle.lock_queue.specs.declared.want.Want.{Want}
use Rattle.lock_queue.specs.Jobs.{is_blocking, is_waiting_job}
use Rattle.lock_queue.specs.Queue.{names, granted_behind, is_owner, owners}
use Rattle.lock_queue.proofs.Fitting.{names-Has}
use Rattle.lock_queue.proofs.Lists.{Has, list_all-Has, list_any-Has, list_any-found, Pairs, Pairs-across, flat_map-append}
use Rattle.lock_laws.specs.Circles.{WaitsByLatest, has_one_plain_want}
use Rattle.lock_laws.specs.Claims.{claim_of, claims_of, claims}
use Rattle.lock_laws.specs.Owning.{owns}
use Rattle.lock_laws.specs.Safe.{Safe as SafeRequests}
use Rattle.lock_laws.proofs.Circling.{WaitsLast, waits_last}
use Rattle.lock_laws.proofs.Granting.{Has-claims}
use Rattle.lock_laws.proofs.Invariant.{kept-safe}
use Rattle.lock_laws.proofs.Positions.{Has-middle, chosen-Has}
use Rattle.lock_laws.proofs.Steps.{Ordered}
use Rattle.lock_laws.proofs.WaitSteps.{Waits, waits_found, found_waits}
use Rattle.progress_laws.specs.Fronts.{wants_key}
use Rattle.progress_laws.proofs.Places.{AtMostOne, one-safe, false-of}

-- two places of a list: one, or one before the other
data Places {X : Type 0} (a : List X) (x : X) (b c : List X) (y : X) (d : List X) : Type 0 where
  one_place : a ≡ c → x ≡ y → Places a x b c y d
  before_it : Has c x → Has b y → Places a x b c y d
  behind_it : Has d x → Places a x b c y d

places : {X : Type 0} (a b c d : List X) (x y : X) → a ++ x ∷ b ≡ c ++ y ∷ d → Places a x b c y d
places [] b [] d x y is = one_place refl (cc)
places [] b (z ∷ c) d x y is =
    let first : z ≡ x = cc in
    let rest : b ≡ c ++ y ∷ d = cc in
    before_it (inl first) (subst (λ l. Has l y) (sym rest) (Has-middle c d y))
places (z ∷ a) b [] d x y is =
    let rest : a ++ x ∷ b ≡ d = cc in
    behind_it (subst (λ l. Has l x) rest (Has-middle a b x))
places (z ∷ a) b (u ∷ c) d x y is =
    let same : z ≡ u = cc in
    let rest : a ++ x ∷ b ≡ c ++ y ∷ d = cc in
    elim (places a b c d x y rest) [
      | one_place l e ↦ one_place (ap (λ m. z ∷ m) l ∙ ap (λ v. v ∷ c) same) e
      | before_it h k ↦ before_it (inr h) k
      | behind_it h ↦ behind_it h
    ]

-- where two pass, and at most one does, they are one
one-place : (test : Request → Bool) (xs a b c d : List Request) (x y : Request) → AtMostOne test xs → xs ≡ a ++ x ∷ b → xs ≡ c ++ y ∷ d
    → test x ≡ true → test y ≡ true → (a ≡ c) × (x ≡ y)
one-place test [] [] b c d x y one is at p q = absurd (cc)
one-place test [] (z ∷ a) b c d x y one is at p q = absurd (cc)
one-place test (z ∷ xs) [] b [] d x y one is at p q = let e : x ≡ y = cc in (refl, e)
one-place test (z ∷ xs) [] b (u ∷ c) d x y one is at p q =
    let first : x ≡ z = cc in
    let rest : xs ≡ c ++ y ∷ d = cc in
    let has : list_any test xs ≡ true = list_any-Has test xs y q (subst (λ l. Has l y) (sym rest) (Has-middle c d y)) in
    absurd (both_ways _ (one.0 (subst (λ (r : Request). test r ≡ true) first p)) has)
one-place test (z ∷ xs) (u ∷ a) b [] d x y one is at p q =
    let first : y ≡ z = cc in
    let rest : xs ≡ a ++ x ∷ b = cc in
    let has : list_any test xs ≡ true = list_any-Has test xs x p (subst (λ l. Has l x) (sym rest) (Has-middle a b x)) in
    absurd (both_ways _ (one.0 (subst (λ (r : Request). test r ≡ true) first q)) has)
one-place test (z ∷ xs) (u ∷ a) b (v ∷ c) d x y one is at p q =
    let rest : xs ≡ a ++ x ∷ b = cc in
    let more : xs ≡ c ++ y ∷ d = cc in
    let same : u ≡ v = cc in
    let o = one-place test xs a b c d x y one.1 rest more p q in
    (ap (λ l. u ∷ l) o.0 ∙ ap (λ r. r ∷ c) same, o.1)

-- a job waits by a request whose one want is of a key
pub record BlockedFor (job : ℕ) (key : Key) (requests : List Request) : Type 0 where
  pub before : List Request
  pub request : Request
  pub later : List Request
  pub want : Want
  pub is : requests ≡ before ++ request ∷ later
  pub by : request.job ≡ job
  pub blocking : is_blocking request.kind ≡ true
  pub late : granted_behind before request ≡ false
  pub wants : request.wants.items ≡ want ∷ []
  pub key_is : want.key ≡ key

abbrev pub IsPlainList : List Request → Type 0
IsPlainList requests = list_all has_one_plain_want requests ≡ true

pub record OneWant (r : Request) : Type 0 where
  pub want : Want
  pub is : r.wants.items ≡ want ∷ []
  pub plain : want.bypass ≡ false

one-of : (ws : List Want) → (length ws == 1) ≡ true → (w : Want) × (ws ≡ w ∷ [])
one-of [] h = absurd (let e : 0 ≡ 1 = eqb-true 0 1 h in omega (arith, e))
one-of (w ∷ []) h = (w, refl)
one-of (w ∷ (v ∷ ws)) h = absurd (let e : length (w ∷ (v ∷ ws)) ≡ 1 = eqb-true _ _ h in omega (arith, e))

pub one-want : (requests : List Request) (r : Request) → IsPlainList requests → Has requests r → OneWant r
one-want requests r plain has =
    let p = and_parts (length r.wants.items == 1) (list_all (λ w. not w.bypass) r.wants.items) (list_all-Has has_one_plain_want requests r plain has) in
    let o = one-of r.wants.items p.0 in
    let in_it : Has r.wants.items o.0 = subst (λ l. Has l o.0) (sym o.1) (inl refl) in
    record { want = o.0; is = o.1; plain = not-true o.0.bypass (list_all-Has (λ w. not w.bypass) r.wants.items o.0 p.1 in_it) }

-- who waits, waits for a key
pub record SomeKey (job : ℕ) (requests : List Request) : Type 0 where
  pub key : Key
  pub blocked : BlockedFor job key requests

pub waits-for-key : (job : ℕ) (requests : List Request) → IsPlainList requests → is_waiting_job requests job ≡ true → SomeKey job requests
waits-for-key job requests plain waits =
    let w : Waits requests job = waits_found requests job waits in
    let o : OneWant w.request = one-want requests w.request plain (subst (λ l. Has l w.request) (sym w.is) (Has-middle w.before w.after w.request)) in
    record {
      key = o.want.key;
      blocked = record {
        before = w.before;
        request = w.request;
        later = w.after;
        want = o.want;
        is = w.is;
        by = w.by;
        blocking = w.blocking;
        late = w.late;
        wants = o.is;
        key_is = refl;
      };
    }

pub blocked-waits : (job : ℕ) (key : Key) (requests : List Request) → BlockedFor job key requests → is_waiting_job requests job ≡ true
blocked-waits job key requests b =
    found_waits requests job (record {
      request = b.request;
      before = b.before;
      after = b.later;
      is = b.is;
      by = b.by;
      blocking = b.blocking;
      late = b.late;
    })

-- it wants the key, and does not own it
pub blocked-named : (job : ℕ) (key : Key) (requests : List Request) (b : BlockedFor job key requests) → names b.request.wants.items key ≡ true
blocked-named job key requests b =
    names-Has b.request.wants.items key b.want (subst (λ l. Has l b.want) (sym b.wants) (inl refl)) b.key_is

pub blocked-wanted : (job : ℕ) (key : Key) (requests : List Request) → BlockedFor job key requests → list_any (wants_key job key) requests ≡ true
blocked-wanted job key requests b =
    list_any-Has (wants_key job key) requests b.request (and_from _ _ (eq-eqb b.request.job job b.by) (blocked-named job key requests b))
    (subst (λ l. Has l b.request) (sym b.is) (Has-middle b.before b.later b.request))

pub blocked-without : {size : ℕ} (job : ℕ) (key : Key) (requests : List Request) → SafeRequests size requests
    → BlockedFor job key requests
    → owns requests job key ≡ false
blocked-without job key requests safe b = false-of (owns requests job key) (λ owning.
    let f = list_any-found (λ (r : Request). r.job == job) (owners requests key) owning in
    let c = chosen-Has (is_owner key) [] requests f.0 f.1 in
    let p = and_parts (names f.0.wants.items key) (granted_behind c.split.before f.0) c.passes in
    let o = one-place (wants_key job key) requests c.split.before c.split.after b.before b.later f.0 b.request (one-safe job key requests safe) c.split.is b.is
    (and_from _ _ f.2 p.0) (and_from _ _ (eq-eqb b.request.job job b.by) (blocked-named job key requests b)) in
    let granted : granted_behind b.before b.request ≡ true =
    subst (λ l. granted_behind l b.request ≡ true) o.0 (subst (λ (r : Request). granted_behind c.split.before r ≡ true) o.1 p.1) in
    both_ways _ b.late granted)

-- a job waits for one key
pub blocked-once : (job : ℕ) (key other : Key) (requests : List Request) → WaitsByLatest requests → BlockedFor job key requests
    → BlockedFor job other requests
    → key ≡ other
unfolding WaitsLast
blocked-once job key other requests latest b c =
    elim (places b.before b.later c.before c.later b.request c.request (sym b.is ∙ c.is)) [
      | one_place l e ↦
          let one : b.want ∷ [] ≡ c.want ∷ [] = sym b.wants ∙ ap (λ (q : Request). q.wants.items) e ∙ c.wants in
          let it : b.want ≡ c.want = cc in
          sym b.key_is ∙ ap (λ (u : Want). u.key) it ∙ c.key_is
      | before_it h k ↦ absurd (waits_last requests latest b.before b.later b.request b.is b.blocking b.late c.request k (c.by ∙ sym b.by))
      | behind_it h ↦ absurd (waits_last requests latest c.before c.later c.request c.is c.blocking c.late b.request h (b.by ∙ sym c.by))
    ]

-- the level rises from what a job has to what it waits for
pub blocked-rises : {size : ℕ} (job : ℕ) (key : Key) (requests a m : List Request) (r : Request) (v : Want)
    → SafeRequests size requests → WaitsByLatest requests
    → IsPlainList requests
    → (b : BlockedFor job key requests) → requests ≡ a ++ r ∷ m → r.job ≡ job → granted_behind a r ≡ true → Has r.wants.items v → v.level < b.want.level
unfolding WaitsLast
blocked-rises job key requests a m r v safe latest plain b is by granted has =
    elim (places a m b.before b.later r b.request (sym is ∙ b.is)) [
      | one_place l e ↦
          let now : granted_behind b.before b.request ≡ true =
          subst (λ l. granted_behind l b.request ≡ true) l (subst (λ (q : Request). granted_behind a q ≡ true) e granted) in
          absurd (both_ways _ b.late now)
      | before_it h k ↦
          let parts : Pairs Ordered (claims b.before ++ claims (b.request ∷ b.later)) =
          subst (λ l. Pairs Ordered l) (ap claims b.is ∙ flat_map-append claims_of b.before (b.request ∷ b.later)) (kept-safe _ requests safe).ordered in
          let mine : Has b.request.wants.items b.want = subst (λ l. Has l b.want) (sym b.wants) (inl refl) in
          let order : Ordered (claim_of r.job v) (claim_of b.request.job b.want) =
          Pairs-across Ordered (claims b.before) (claims (b.request ∷ b.later)) parts (claim_of r.job v) (claim_of b.request.job b.want)
          (Has-claims b.before r v h has) (Has-claims (b.request ∷ b.later) b.request b.want (inl refl) mine) in
          let one : OneWant b.request = one-want requests b.request plain (subst (λ l. Has l b.request) (sym b.is) (Has-middle b.before b.later b.request)) in
          let it : one.want ∷ [] ≡ b.want ∷ [] = sym one.is ∙ b.wants in
          let same : one.want ≡ b.want = cc in
          order.rises (by ∙ sym b.by) (ap (λ (u : Want). u.bypass) (sym same) ∙ one.plain)
      | behind_it h ↦ absurd (waits_last requests latest b.before b.later b.request b.is b.blocking b.late r h (by ∙ sym b.by))
    ]
