-- No circle of waits consists of plain jobs.
use Rattle.std.proofs.Common.{◌≡◌, ◌≢◌, ◌∙◌, sym, ap, subst, ℕ, suc, true, false, ◌+◌, List, [], ◌∷◌, ◌++◌, length}
use Rattle.std.proofs.Common.{map, take, drop, slice_get, Some, ◌⊎◌, inl, inr, refl, arith}
use Rattle.std.proofs.lemmas.Bool.{and_from, both_ways, eq-eqb, false_from_ne_true, not_from_false}
use Rattle.lock_queue.specs.declared.call.LockCall.{LockCall}
use Rattle.lock_queue.specs.declared.request.Request.{Request}
use Rattle.lock_queue.specs.Jobs.{is_blocking, is_blocked, is_waiting_job}
use Rattle.lock_queue.specs.Queue.{granted_behind, is_granted, granted}
use Rattle.lock_laws.specs.Circles.{WaitsByLatest}
use Rattle.lock_laws.proofs.CallSteps.{Step, grows, releases}
use Rattle.lock_queue.proofs.Fitting.{granted_behind-fewer}
use Rattle.lock_queue.proofs.Lists.{Has, Has-cases, map-Has}
use Rattle.lock_laws.proofs.Positions.{some-split, split_at, Has-drop, Has-slice_get, slice_get-split, slice_get-behind, take-split}
use Rattle.lock_laws.proofs.SameButNotified.{SameButNotified, SameButNotified-back, SameButNotified-position, SameButNotified-jobs}
use Rattle.lock_laws.proofs.Steps.{Grows, stays, arrives, changes, Leaves, is_job_of, Releases-source, Releases-jobs}

-- a request by which its job waits is the job's last
unfoldable pub WaitsLast : List Request → Type 0
WaitsLast rs =
    (a b : List Request) (r : Request) → rs ≡ a ++ r ∷ b → is_blocking r.kind ≡ true → granted_behind a r ≡ false → (q : Request) → Has b q
    → q.job ≢ r.job

-- the positions of a list with one more item
push-split : {X : Type 0} (xs a b : List X) (q r : X) → xs ++ q ∷ [] ≡ a ++ r ∷ b
    → (b ≡ []) ⊎ ((m : List X) × (b ≡ m ++ q ∷ []) × (xs ≡ a ++ r ∷ m))
push-split [] [] b q r is = inl (cc)
push-split [] (y ∷ []) b q r is = absurd (cc)
push-split [] (y ∷ (z ∷ a)) b q r is = absurd (cc)
push-split (x ∷ xs) [] b q r is = inr (xs, cc, cc)
push-split (x ∷ xs) (y ∷ a) b q r is =
    let same : x ≡ y = cc in
    let rest : xs ++ q ∷ [] ≡ a ++ r ∷ b = cc in
    elim (push-split xs a b q r rest) [
      | inl e ↦ inl e
      | inr m ↦ inr (m.0, m.1, ap (λ l. x ∷ l) m.2 ∙ ap (λ u. u ∷ (a ++ r ∷ m.0)) same)
    ]

-- the positions of a changed list
record MapSplit {X Y : Type 0} (f : X → Y) (xs : List X) (a : List Y) (y : Y) (b : List Y) : Type 0 where
  before : List X
  item : X
  after : List X
  is : xs ≡ before ++ item ∷ after
  before_is : map f before ≡ a
  item_is : f item ≡ y
  after_is : map f after ≡ b

-- a split behind one more item
map-split-behind : {X Y : Type 0} (f : X → Y) (x : X) (xs : List X) (z : Y) (a : List Y) (y : Y) (b : List Y)
    → f x ≡ z → MapSplit f xs a y b
    → MapSplit f (x ∷ xs) (z ∷ a) y b
map-split-behind f x xs z a y b same s = record {
  before = x ∷ s.before;
  item = s.item;
  after = s.after;
  is = ap (λ l. x ∷ l) s.is;
  before_is = ap (λ l. f x ∷ l) s.before_is ∙ ap (λ u. u ∷ a) same;
  item_is = s.item_is;
  after_is = s.after_is;
}

-- a position of a changed list comes from a position of the list
map-split : {X Y : Type 0} (f : X → Y) (xs : List X) (a : List Y) (y : Y) (b : List Y) → map f xs ≡ a ++ y ∷ b
    → MapSplit f xs a y b
map-split f [] [] y b is = absurd (cc)
map-split f [] (z ∷ a) y b is = absurd (cc)
map-split f (x ∷ xs) [] y b is = record {
  before = [];
  item = x;
  after = xs;
  is = refl;
  before_is = refl;
  item_is = cc;
  after_is = cc;
}
map-split f (x ∷ xs) (z ∷ a) y b is =
    let same : f x ≡ z = cc in
    let rest : map f xs ≡ a ++ y ∷ b = cc in
    map-split-behind f x xs z a y b same (map-split f xs a y b rest)

-- a job that does not wait may add a request; changes leave jobs in their positions
waits-grows : {size : ℕ} (job : ℕ) (before after : List Request) → Grows size job before after → is_waiting_job before job ≡ false
    → WaitsLast before → WaitsLast after
unfolding WaitsLast
waits-grows job before after (stays e) free w a b r is blocking waits q h = w a b r (sym e ∙ is) blocking waits q h
waits-grows job before after (arrives p e c) free w a b r is blocking waits q h =
    elim (push-split before a b p r (sym e ∙ is)) [
      | inl none ↦ let empty : Has [] q = subst (λ l. Has l q) none h in absurd empty
      | inr m ↦ elim (Has-cases m.0 (p ∷ []) q (subst (λ l. Has l q) m.1 h)) [
        | inl earlier ↦ w a m.0 r m.2 blocking waits q earlier
        | inr last ↦ elim last [
          | inl same ↦ λ mine.
              let by : r.job ≡ job = sym mine ∙ ap (λ (u : Request). u.job) (sym same) ∙ c.by in
              let blocked : is_blocked job a r ≡ true = and_from _ _ (and_from _ _ (eq-eqb r.job job by) blocking) (not_from_false _ waits) in
              let busy : is_waiting_job before job ≡ true =
              subst (λ l. is_waiting_job l job ≡ true) (sym m.2) (some-split (is_blocked job) [] a m.0 r blocked) in
              both_ways (is_waiting_job before job) free busy
          | inr gone ↦ absurd gone
        ]
      ]
    ]
waits-grows job before after (changes f e c) free w a b r is blocking waits q h =
    let s = map-split f before a r b (sym e ∙ is) in
    let k : is_blocking s.item.kind ≡ true = subst (λ n. is_blocking n ≡ true) (sym (ap (λ (u : Request). u.kind) s.item_is) ∙ c.kind s.item) blocking in
    let was : granted_behind s.before s.item ≡ false =
    false_from_ne_true _ (λ t.
    let now : granted_behind a r ≡ true =
    subst (λ l. granted_behind l r ≡ true) s.before_is
    (subst (λ u. granted_behind (map f s.before) u ≡ true) s.item_is (c.kept s.before s.after s.item s.is t)) in
    both_ways (granted_behind a r) waits now) in
    let from = map-Has f s.after q (subst (λ l. Has l q) (sym s.after_is) h) in
    λ mine.
    w s.before s.after s.item s.is k was from.0 from.1
    (sym (c.job from.0) ∙ ap (λ (u : Request). u.job) from.2 ∙ mine ∙ ap (λ (u : Request). u.job) (sym s.item_is) ∙ c.job s.item)

-- what is left of a list by a dequeue keeps its order
pub waits-releases : (whose : ℕ → Type 0) (before after : List Request) → Leaves whose before after → WaitsLast before
    → WaitsLast after
unfolding WaitsLast
waits-releases whose before after s w a b r is blocking waits q h =
    let o = Releases-source whose s a b r is in
    let was : granted_behind o.earlier o.request ≡ false =
    false_from_ne_true _ (λ t. both_ways (granted_behind a r) waits (granted_behind-fewer a o.earlier r o.request o.fewer o.wants t)) in
    let from = Releases-jobs whose o.rest q h in
    λ mine. w o.earlier o.later o.request o.is (subst (λ n. is_blocking n ≡ true) o.kind blocking) was from.0 from.1 (sym from.2 ∙ mine ∙ o.by)

-- each call by a job that does not wait keeps it
pub waits-step : {size : ℕ} (job : ℕ) (call : LockCall) (before after : List Request) → Step size job call before after
    → is_waiting_job before job ≡ false
    → WaitsLast before → WaitsLast after
waits-step job call before after (grows g) free w = waits-grows job before after g free w
waits-step job call before after (releases d s) free w = waits-releases (is_job_of job) before after s w

-- it holds of no requests
pub waits-none : WaitsLast []
unfolding WaitsLast
waits-none [] b r is = absurd (cc)
waits-none (x ∷ a) b r is = absurd (cc)

-- it does not look at the grants of which jobs were notified
pub waits-notified : (before after : List Request) → SameButNotified before after → WaitsLast before → WaitsLast after
unfolding WaitsLast
waits-notified before after s w a b r is blocking waits q h =
    let p = SameButNotified-position (SameButNotified-back s) a b r is in
    let from = SameButNotified-jobs (SameButNotified-back p.rest) q h in
    λ mine. w p.earlier p.later p.request p.is (subst (λ n. is_blocking n ≡ true) (sym p.kind) blocking) (p.granted ∙ waits) from.0 from.1
    (sym from.2 ∙ mine ∙ sym p.job)

-- a job waits by its latest request, by positions
pub by_latest : (rs : List Request) → WaitsLast rs → WaitsByLatest rs
unfolding WaitsLast
by_latest rs w i j r s lt at_i at_j blocking waits =
    let is = split_at rs i r at_i in
    let front : granted_behind (take i rs) r ≡ false = subst (λ o. is_granted (take i rs) o ≡ false) at_i waits in
    w (take i rs) (drop (suc i) rs) r is blocking front s (Has-drop rs i j s lt at_j)

pub waits_last : (rs : List Request) → WaitsByLatest rs → WaitsLast rs
unfolding WaitsLast
waits_last rs w a b r is blocking waits q h =
    let k = Has-slice_get b q h in
    let at_r : slice_get rs (length a) ≡ Some r = ap (λ l. slice_get l (length a)) is ∙ slice_get-split a b r in
    let at_q : slice_get rs (length a + suc k.0) ≡ Some q = ap (λ l. slice_get l (length a + suc k.0)) is ∙ slice_get-behind a b r q k.0 k.1 in
    let front : take (length a) rs ≡ a = ap (take (length a)) is ∙ take-split a (r ∷ b) in
    let none : granted rs (length a) ≡ false = rw (at_r, front) waits in
    w (length a) (length a + suc k.0) r q (omega arith) at_r at_q blocking none
