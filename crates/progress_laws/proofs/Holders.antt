-- Who has a key, where nobody who wants it wants anything else by the same request.
use Rattle.std.proofs.Common.{◌≡◌, ◌≢◌, ◌≤◌, ◌∙◌, sym, ap, subst, ℕ, suc, ◌+◌, ◌==◌, ◌&&◌, ◌||◌, Bool, true, false, cond}
use Rattle.std.proofs.Common.{if◌then◌else◌, List, [], ◌∷◌, ◌++◌, length, filter, ◌⊎◌, refl, arith, inl, inr}
use Rattle.std.specs.List.{list_any}
use Rattle.std.proofs.lemmas.Bool.{both_ways, and_parts, and_from, eqb-true, eq-eqb}
use Rattle.lock_queue.specs.declared.key.Key.{Key}
use Rattle.lock_queue.specs.declared.request.Request.{Request}
use Rattle.lock_queue.specs.declared.want.Want.{Want}
use Rattle.lock_queue.specs.Queue.{all_wants, names, granted_behind, is_owner, owners}
use Rattle.lock_queue.specs.WellFormed.{are_well_formed}
use Rattle.lock_queue.proofs.Fitting.{names-found, names-Has}
use Rattle.lock_queue.proofs.Lists.{Has, Has-right, flat_map-Has, list_any-Has, list_any-found}
use Rattle.lock_laws.specs.Owning.{owns}
use Rattle.lock_laws.proofs.Positions.{Has-chosen}
use Rattle.progress_laws.specs.Fronts.{IsSameButSharing, Remains, wants_key, in_front}
use Rattle.progress_laws.specs.Thinning.{Thinned}
use Rattle.progress_laws.specs.Together.{is_for}
use Rattle.progress_laws.proofs.Places.{false-of, names-remain}
use Rattle.progress_laws.proofs.Thinning.{thin-first, thin-passing}
use Rattle.progress_laws.proofs.Wakes.{granted-alone, right-pool}

-- whose the first request for a key is
abbrev pub holder : Key → List Request → ℕ
holder key [] = 0
holder key (r ∷ later) = if is_for key r then r.job else holder key later

-- the first request for a key
pub record First (key : Key) (requests : List Request) : Type 0 where
  pub before : List Request
  pub request : Request
  pub later : List Request
  pub is : requests ≡ before ++ request ∷ later
  pub bare : (r : Request) → Has before r → is_for key r ≡ false
  pub named : is_for key request ≡ true
  pub job : holder key requests ≡ request.job

pub first-of : (key : Key) (requests : List Request) → list_any (is_for key) requests ≡ true → First key requests
first-of key [] any = absurd (both_ways false refl any)
first-of key (r ∷ rs) any = go (is_for key r) refl (first-of key rs) any
  where
    go : (b : Bool) → is_for key r ≡ b → (list_any (is_for key) rs ≡ true → First key rs) → (b || list_any (is_for key) rs) ≡ true → First key (r ∷ rs)
    go true e rest h = record {
      before = [];
      request = r;
      later = rs;
      is = refl;
      bare = λ x has. absurd has;
      named = e;
      job = ap (λ b. cond b r.job (holder key rs)) e;
    }
    go false e rest h =
        let f = rest h in
        record {
          before = r ∷ f.before;
          request = f.request;
          later = f.later;
          is = ap (λ l. r ∷ l) f.is;
          bare = λ x has. bare-more e f x has;
          named = f.named;
          job = ap (λ b. cond b r.job (holder key rs)) e ∙ f.job;
        }
      where
        bare-more : is_for key r ≡ false → (f : First key rs) → (x : Request) → Has (r ∷ f.before) x → is_for key x ≡ false
        bare-more e f x (inl same) = subst (λ (u : Request). is_for key u ≡ false) same e
        bare-more e f x (inr has) = f.bare x has

-- a request for one key alone
pub single : (ws : List Want) (v w : Want) → length ws ≤ 1 → Has ws v → Has ws w → v ≡ w
single [] v w low one two = absurd one
single (u ∷ []) v w low (inl e) (inl f) = sym e ∙ f
single (u ∷ []) v w low (inl e) (inr h) = absurd h
single (u ∷ []) v w low (inr h) two = absurd h
single (u ∷ x ∷ ws) v w low one two = absurd (omega arith)

-- the first of them is granted, and its job owns the key
pub first-granted : (key : Key) (requests : List Request) → are_well_formed requests ≡ true
    → ((r : Request) → Has requests r → is_for key r ≡ true → length r.wants.items ≤ 1)
    → (f : First key requests) → granted_behind f.before f.request ≡ true
first-granted key requests well alone f =
    let r : Request = f.request in
    let here : Has requests r = subst (λ l. Has l r) (sym f.is) (Has-right f.before (r ∷ f.later) r (inl refl)) in
    let v = names-found r.wants.items key f.named in
    granted-alone f.before r (λ w wants. right-pool requests r w well here wants) (λ w wants.
    let same : w.key ≡ key = ap (λ (u : Want). u.key) (single r.wants.items w v.0 (alone r here f.named) wants v.1) ∙ v.2 in
    false-of (names (all_wants f.before) w.key) (λ named.
    let u = names-found (all_wants f.before) w.key named in
    let s = flat_map-Has (λ (r : Request). r.wants.items) f.before u.0 u.1 in
    both_ways (is_for key s.0) (f.bare s.0 s.1) (names-Has s.0.wants.items key u.0 s.2 (u.2 ∙ same))))

-- who has a request for a key that is granted owns it
pub owns-by : (requests before later : List Request) (r : Request) (job : ℕ) (key : Key) → requests ≡ before ++ r ∷ later → r.job ≡ job
    → names r.wants.items key ≡ true → granted_behind before r ≡ true → owns requests job key ≡ true
owns-by requests before later r job key is by named granted =
    let chosen : Has (owners (before ++ r ∷ later) key) r =
    Has-chosen (is_owner key) [] before later r (and_from (names r.wants.items key) (granted_behind before r) named granted) in
    let owner : Has (owners requests key) r = subst (λ l. Has (owners l key) r) (sym is) chosen in
    list_any-Has (λ (u : Request). u.job == job) (owners requests key) r (eq-eqb r.job job by) owner

pub holder-owns : (key : Key) (requests : List Request) → are_well_formed requests ≡ true
    → ((r : Request) → Has requests r → is_for key r ≡ true → length r.wants.items ≤ 1)
    → list_any (is_for key) requests ≡ true → owns requests (holder key requests) key ≡ true
holder-owns key requests well alone any =
    let f : First key requests = first-of key requests any in
    owns-by requests f.before f.later f.request (holder key requests) key f.is (sym f.job) f.named (first-granted key requests well alone f)

-- the requests for a key in front of a job's own
abbrev pub ahead_of : ℕ → Key → List Request → List Request
ahead_of n key requests = filter (is_for key) (in_front (wants_key n key) requests)

pub record Head (n : ℕ) (key : Key) (requests : List Request) : Type 0 where
  pub first : Request
  pub more : List Request
  pub is : ahead_of n key requests ≡ first ∷ more
  pub job : first.job ≡ holder key requests

-- the first of them is the holder's
pub head-of : (n : ℕ) (key : Key) (requests : List Request) → list_any (is_for key) requests ≡ true → holder key requests ≢ n → Head n key requests
head-of n key [] any other = absurd (both_ways false refl any)
head-of n key (r ∷ rs) any other = go (is_for key r) refl (head-of n key rs) any other
  where
    front : List Request
    front = in_front (wants_key n key) rs

    go : (b : Bool) → is_for key r ≡ b → (list_any (is_for key) rs ≡ true → holder key rs ≢ n → Head n key rs)
        → (b || list_any (is_for key) rs) ≡ true → holder key (r ∷ rs) ≢ n → Head n key (r ∷ rs)
    go true e rest h ne =
        let mine : holder key (r ∷ rs) ≡ r.job = ap (λ b. cond b r.job (holder key rs)) e in
        let not : (r.job == n) ≡ false = false-of (r.job == n) (λ is. ne (mine ∙ eqb-true r.job n is)) in
        let skip : wants_key n key r ≡ false = ap (λ b. b && is_for key r) not in
        let whole : in_front (wants_key n key) (r ∷ rs) ≡ r ∷ front = ap (λ b. cond b [] (r ∷ front)) skip in
        record {
          first = r;
          more = filter (is_for key) front;
          is = ap (filter (is_for key)) whole ∙ ap (λ b. cond b (r ∷ filter (is_for key) front) (filter (is_for key) front)) e;
          job = sym mine;
        }
    go false e rest h ne =
        let later : holder key (r ∷ rs) ≡ holder key rs = ap (λ b. cond b r.job (holder key rs)) e in
        let skip : wants_key n key r ≡ false = and-false (r.job == n) (is_for key r) e in
        let whole : in_front (wants_key n key) (r ∷ rs) ≡ r ∷ front = ap (λ b. cond b [] (r ∷ front)) skip in
        let t : Head n key rs = rest h (λ is. ne (later ∙ is)) in
        record {
          first = t.first;
          more = t.more;
          is = ap (filter (is_for key)) whole ∙ ap (λ b. cond b (r ∷ filter (is_for key) front) (filter (is_for key) front)) e ∙ t.is;
          job = t.job ∙ sym later;
        }
      where
        and-false : (a b : Bool) → b ≡ false → (a && b) ≡ false
        and-false true b e = e
        and-false false b e = refl

-- whoever wants a key has a request for it
pub any-for : (n : ℕ) (key : Key) (requests : List Request) → list_any (wants_key n key) requests ≡ true → list_any (is_for key) requests ≡ true
any-for n key requests any =
    let f = list_any-found (wants_key n key) requests any in
    list_any-Has (is_for key) requests f.0 (and_parts (f.0.job == n) (is_for key f.0) f.2).1 f.1

-- over a change: the holder is the same, or fewer stand in front
pub record Stays (n : ℕ) (key : Key) (before after : List Request) : Type 0 where
  pub same : holder key after ≡ holder key before
  pub fewer : length (ahead_of n key after) ≤ length (ahead_of n key before)

for-remains : (key : Key) (r s : Request) → Remains IsSameButSharing r s → is_for key s ≡ true → is_for key r ≡ true
for-remains key r s h named = names-remain key h.wants named

pub heads : (n : ℕ) (key : Key) (before after : List Request) → Head n key before → Head n key after
    → Thinned (Remains IsSameButSharing) (in_front (wants_key n key) before) (in_front (wants_key n key) after)
    → Stays n key before after ⊎ (length (ahead_of n key after) + 1 ≤ length (ahead_of n key before))
heads n key before after b a t =
    let u : Thinned (Remains IsSameButSharing) (ahead_of n key before) (ahead_of n key after) =
    thin-passing (Remains IsSameButSharing) (is_for key) (for-remains key) t in
    let v : Thinned (Remains IsSameButSharing) (b.first ∷ b.more) (ahead_of n key after) =
    subst (λ l. Thinned (Remains IsSameButSharing) l (ahead_of n key after)) b.is u in
    go (thin-first (Remains IsSameButSharing) v a.first a.more a.is)
  where
    go : (Remains IsSameButSharing b.first a.first × (length (ahead_of n key after) ≤ suc (length b.more))) ⊎ (length (ahead_of n key after) ≤ length b.more)
        → Stays n key before after ⊎ (length (ahead_of n key after) + 1 ≤ length (ahead_of n key before))
    go (inl h) = inl (record { same = sym a.job ∙ h.0.job ∙ b.job; fewer = omega (arith, h.1, ap length b.is) })
    go (inr h) = inr (omega (arith, h, ap length b.is))

pub head-some : (n : ℕ) (key : Key) (requests : List Request) → Head n key requests → 1 ≤ length (ahead_of n key requests)
head-some n key requests h = omega (arith, ap length h.is)
