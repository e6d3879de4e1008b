-- Along a circle of plain jobs that wait, levels rise, or stay the same while the position in the list falls.
use Rattle.std.proofs.Common.{◌≡◌, ◌≢◌, ◌<◌, ◌∙◌, sym, ap, subst, ℕ, true, false, not, ◌&&◌, ◌==◌, List, [], ◌∷◌, ◌++◌}
use Rattle.std.proofs.Common.{length, ◌⊎◌, inl, inr, refl, arith, append_assoc, length-append}
use Rattle.std.specs.List.{list_all, list_any}
use Rattle.std.proofs.lemmas.Bool.{and_parts, eqb-true, not-true, false_from_ne_true}
use Rattle.lock_queue.specs.declared.request.Request.{Request}
use Rattle.lock_queue.specs.declared.want.Want.{Want}
use Rattle.lock_queue.specs.Jobs.{is_blocking, is_blocked, is_in_the_way, is_kept_by, is_blocked_by, waits_for}
use Rattle.lock_queue.specs.Keys.{same_key}
use Rattle.lock_queue.specs.Queue.{all_wants, fits, granted_behind, requests_of, wants_at}
use Rattle.lock_queue.specs.Waits.{is_walk}
use Rattle.lock_laws.specs.Claims.{claim_of, claims_of, claims}
use Rattle.lock_laws.specs.Circles.{has_one_plain_want, is_plain, NoPlainCircle}
use Rattle.lock_laws.proofs.Circling.{WaitsLast}
use Rattle.lock_queue.proofs.Fitting.{same_key-eq}
use Rattle.lock_laws.proofs.Granting.{Kin, kin, Has-claims}
use Rattle.lock_queue.proofs.Lists.{Has, Has-filter, filter-Has, flat_map-Has, Pairs, Pairs-across, list_all-Has, list_any-found, flat_map-append}
use Rattle.lock_laws.proofs.Positions.{split_Has, some_found, Has-middle}
use Rattle.lock_laws.proofs.Steps.{Ordered}

-- two positions in one list: the same, the first before the second, or behind it
data Compared {X : Type 0} (a : List X) (x : X) (b c : List X) (y : X) (d : List X) : Type 0 where
  at_one : length a ≡ length c → x ≡ y → Compared a x b c y d
  in_front : length a < length c → Has c x → Has b y → Compared a x b c y d
  in_back : Has d x → Compared a x b c y d

-- any two positions compare
compared : {X : Type 0} (a b c d : List X) (x y : X) → a ++ x ∷ b ≡ c ++ y ∷ d → Compared a x b c y d
compared [] b [] d x y is = at_one refl (cc)
compared [] b (z ∷ c) d x y is =
    let head : z ≡ x = cc in
    let tail : b ≡ c ++ y ∷ d = cc in
    in_front (omega arith) (inl head) (subst (λ l. Has l y) (sym tail) (Has-middle c d y))
compared (z ∷ a) b [] d x y is =
    let tail : a ++ x ∷ b ≡ d = cc in in_back (subst (λ l. Has l x) tail (Has-middle a b x))
compared (z ∷ a) b (u ∷ c) d x y is =
    let tail : a ++ x ∷ b ≡ c ++ y ∷ d = cc in
    elim (compared a b c d x y tail) [
      | at_one l e ↦ at_one (omega (arith, l)) e
      | in_front l h k ↦ in_front (omega (arith, l)) (inr h) k
      | in_back h ↦ in_back h
    ]

-- a plain job that waits: its last request, with its one want
record Waiting (rs : List Request) (job : ℕ) : Type 0 where
  before : List Request
  request : Request
  after : List Request
  want : Want
  is : rs ≡ before ++ request ∷ after
  by : request.job ≡ job
  wants : request.wants.items ≡ want ∷ []
  free : want.bypass ≡ false
  last : (q : Request) → Has after q → q.job ≢ job

-- and what it waits for: an earlier want of the other job
record Behind (rs : List Request) (job other : ℕ) (w : Waiting rs job) : Type 0 where
  request : Request
  want : Want
  there : Has w.before request
  by : request.job ≡ other
  has : Has request.wants.items want
  key : want.key ≡ w.want.key

-- a list of one
single : (ws : List Want) → (length ws == 1) ≡ true → (w : Want) × (ws ≡ w ∷ [])
single [] h = absurd (let e : 0 ≡ 1 = eqb-true 0 1 h in omega (arith, e))
single (w ∷ []) h = (w, refl)
single (w ∷ (v ∷ ws)) h = absurd (let e : length (w ∷ (v ∷ ws)) ≡ 1 = eqb-true _ _ h in omega (arith, e))

-- a link of a chain
record Link (rs : List Request) (job other : ℕ) : Type 0 where
  waiting : Waiting rs job
  behind : Behind rs job other waiting

-- a plain job that waits for another: its request is its last, and behind a want of the other
link : (rs : List Request) (job other : ℕ) → WaitsLast rs → is_plain rs job ≡ true → waits_for rs job other ≡ true
    → Link rs job other
unfolding WaitsLast
link rs job other waits plain h =
    let f = some_found (is_blocked_by job other) [] rs h in
    let r : Request = f.request in
    let a : List Request = f.split.before in
    let parts = and_parts (is_blocked job a r) (list_any (is_kept_by other a) r.wants.items) f.passes in
    let blocked = and_parts (r.job == job && is_blocking r.kind) (not (granted_behind a r)) parts.0 in
    let mine = and_parts (r.job == job) (is_blocking r.kind) blocked.0 in
    let by : r.job ≡ job = eqb-true r.job job mine.0 in
    let kept = list_any-found (is_kept_by other a) r.wants.items parts.1 in
    let w : Want = kept.0 in
    let in_rs : Has rs r = subst (λ l. Has l r) (sym f.split.is) (Has-middle a f.split.after r) in
    let one = and_parts (length r.wants.items == 1) (list_all (λ w. not w.bypass) r.wants.items)
    (list_all-Has has_one_plain_want (requests_of rs job) r plain (Has-filter (λ (q : Request). q.job == job) rs r mine.0 in_rs)) in
    let only = single r.wants.items one.0 in
    let in_one : Has (only.0 ∷ []) w = subst (λ l. Has l w) only.1 kept.1 in
    let is_w : only.0 ≡ w = elim in_one [ inl e ↦ e | inr gone ↦ absurd gone ] in
    let way = and_parts (not (fits a w)) (list_any (λ v. is_in_the_way v w) (wants_at (requests_of a other) w.key)) kept.2 in
    let v = list_any-found (λ v. is_in_the_way v w) (wants_at (requests_of a other) w.key) way.1 in
    let at = filter-Has (λ u. same_key u.key w.key) (all_wants (requests_of a other)) v.0 v.1 in
    let s = flat_map-Has (λ (q : Request). q.wants.items) (requests_of a other) v.0 at.1 in
    let his = filter-Has (λ (q : Request). q.job == other) a s.0 s.1 in
    record {
      waiting = record {
        before = a;
        request = r;
        after = f.split.after;
        want = w;
        is = f.split.is;
        by = by;
        wants = only.1 ∙ ap (λ u. u ∷ []) is_w;
        free = not-true w.bypass (list_all-Has (λ w. not w.bypass) r.wants.items w one.1 kept.1);
        last = λ q k e. waits a f.split.after r f.split.is mine.1 (not-true _ blocked.1) q k (e ∙ sym by);
      };
      behind = record { request = s.0; want = v.0; there = his.1; by = eqb-true s.0.job other his.0; has = s.2; key = same_key-eq v.0.key w.key at.0 };
    }

-- a position lies within its list
longer : {X : Type 0} (xs a b : List X) (x : X) → xs ≡ a ++ x ∷ b → length a < length xs
longer xs a b x is = omega (arith, ap length is, length-append a (x ∷ b))

-- the level rises, or stays the same while the position falls
abbrev Rises : {rs : List Request} {j k : ℕ} → Waiting rs j → Waiting rs k → Type 0
Rises w v = (w.want.level < v.want.level) ⊎ ((w.want.level ≡ v.want.level) × (length v.before < length w.before))

-- a job's last request is one
unique : (rs : List Request) (job : ℕ) (w v : Waiting rs job)
    → (w.want.level ≡ v.want.level) × (length w.before ≡ length v.before)
unique rs job w v =
    elim (compared w.before w.after v.before v.after w.request v.request (sym w.is ∙ v.is)) [
      | at_one l e ↦
          let one : w.want ∷ [] ≡ v.want ∷ [] = sym w.wants ∙ ap (λ (q : Request). q.wants.items) e ∙ v.wants in
          let it : w.want ≡ v.want = cc in
          (ap (λ (u : Want). u.level) it, l)
      | in_front l h k ↦ absurd (w.last v.request k v.by)
      | in_back h ↦ absurd (v.last w.request h w.by)
    ]

-- the other job is a plain one that waits too: the want is of its last request, or of an earlier one with a lower level
rises-link : (rs : List Request) → Pairs Ordered (claims rs) → (job other : ℕ) (w : Waiting rs job)
    → Behind rs job other w → (v : Waiting rs other) → Rises w v
rises-link rs p job other w o v =
    let s = split_Has w.before o.request o.there in
    let m : List Request = s.after ++ w.request ∷ w.after in
    let is : rs ≡ s.before ++ o.request ∷ m =
    w.is ∙ ap (λ l. l ++ w.request ∷ w.after) s.is ∙ append_assoc s.before (o.request ∷ s.after) (w.request ∷ w.after) in
    let shorter : length s.before < length w.before = longer w.before s.before s.after o.request s.is in
    let in_rs : Has rs o.request = subst (λ l. Has l o.request) (sym is) (Has-middle s.before m o.request) in
    let w_in : Has rs w.request = subst (λ l. Has l w.request) (sym w.is) (Has-middle w.before w.after w.request) in
    let w_has : Has w.request.wants.items w.want = subst (λ l. Has l w.want) (sym w.wants) (inl refl) in
    let k : Kin o.want w.want = kin rs p o.request w.request o.want w.want in_rs w_in o.has w_has o.key in
    elim (compared s.before m v.before v.after o.request v.request (sym is ∙ v.is)) [
      | at_one l e ↦
          let held : Has (v.want ∷ []) o.want = subst (λ ws. Has ws o.want) (ap (λ (q : Request). q.wants.items) e ∙ v.wants) o.has in
          let it : v.want ≡ o.want = elim held [ inl e ↦ e | inr gone ↦ absurd gone ] in
          inr (sym (ap (λ (u : Want). u.level) it ∙ k.level), omega (arith, l, shorter))
      | in_front l h g ↦
          let parted : claims rs ≡ claims v.before ++ claims (v.request ∷ v.after) =
          ap claims v.is ∙ flat_map-append claims_of v.before (v.request ∷ v.after) in
          let v_has : Has v.request.wants.items v.want = subst (λ ws. Has ws v.want) (sym v.wants) (inl refl) in
          let order : Ordered (claim_of o.request.job o.want) (claim_of v.request.job v.want) =
          Pairs-across Ordered (claims v.before) (claims (v.request ∷ v.after)) (subst (λ l. Pairs Ordered l) parted p) _ _
          (Has-claims v.before o.request o.want h o.has) (Has-claims (v.request ∷ v.after) v.request v.want (inl refl) v_has) in
          let up : o.want.level < v.want.level = order.rises (o.by ∙ sym v.by) v.free in
          inl (omega (arith, up, k.level))
      | in_back h ↦ absurd (v.last o.request h o.by)
    ]

-- rising goes on along a chain
rises-on : (rs : List Request) (i j k : ℕ) (u : Waiting rs i) (w : Waiting rs j) (v : Waiting rs k) → Rises u w
    → Rises w v → Rises u v
rises-on rs i j k u w v (inl a) (inl b) = inl (omega arith)
rises-on rs i j k u w v (inl a) (inr b) = inl (omega (arith, a, b.0))
rises-on rs i j k u w v (inr a) (inl b) = inl (omega (arith, a.0, b))
rises-on rs i j k u w v (inr a) (inr b) = inr (omega (arith, a.0, b.0), omega (arith, a.1, b.1))

module _ (rs : List Request) (ordered : Pairs Ordered (claims rs)) (waits : WaitsLast rs) where
  -- a link, seen from any view of the job's last request
  rises-linked : (job other : ℕ) → Link rs job other → (w : Waiting rs job) (v : Waiting rs other) → Rises w v
  rises-linked job other l w v =
      let u = unique rs job w l.waiting in
      elim (rises-link rs ordered job other l.waiting l.behind v) [
        | inl up ↦ inl (omega (arith, up, u.0))
        | inr flat ↦ inr (u.0 ∙ flat.0, omega (arith, flat.1, u.1))
      ]

  -- the first job of a chain of plain jobs waits
  first-waits : (job : ℕ) (later : List ℕ) (last : ℕ) → is_plain rs job ≡ true → is_walk (waits_for rs) job later last ≡ true
      → Waiting rs job
  first-waits job [] last plain h = (link rs job last waits plain h).waiting
  first-waits job (k ∷ later) last plain h =
      (link rs job k waits plain (and_parts (waits_for rs job k) (is_walk (waits_for rs) k later last) h).0).waiting

  -- so the last of a chain is above the first
  rises-chain : (job : ℕ) (later : List ℕ) (last : ℕ) → is_plain rs job ≡ true → list_all (is_plain rs) later ≡ true
      → is_walk (waits_for rs) job later last ≡ true → (w : Waiting rs job) (v : Waiting rs last) → Rises w v
  rises-chain job [] last plain all h w v = rises-linked job last (link rs job last waits plain h) w v
  rises-chain job (k ∷ later) last plain all h w v =
      let parts = and_parts (waits_for rs job k) (is_walk (waits_for rs) k later last) h in
      let plains = and_parts (is_plain rs k) (list_all (is_plain rs) later) all in
      let u : Waiting rs k = first-waits k later last plains.0 parts.1 in
      rises-on rs job k last w u v (rises-linked job k (link rs job k waits plain parts.0) w u)
      (rises-chain k later last plains.0 plains.1 parts.1 u v)

  -- but none is above itself
  never-above : (job : ℕ) (w : Waiting rs job) → Rises w w → ⊥
  never-above job w (inl a) = omega arith
  never-above job w (inr a) = omega (arith, a.1)

  pub no_plain_circle : NoPlainCircle rs
  no_plain_circle [] all = refl
  no_plain_circle (job ∷ later) all =
      false_from_ne_true (is_walk (waits_for rs) job later job) (λ h.
      let plains = and_parts (is_plain rs job) (list_all (is_plain rs) later) all in
      let w : Waiting rs job = first-waits job later job plains.0 h in
      never-above job w (rises-chain job later job plains.0 plains.1 h w w))
