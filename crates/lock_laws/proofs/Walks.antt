-- A walk that leads back is found among those no longer than there are jobs.
use Rattle.std.proofs.Common.{◌≡◌, ◌≤◌, ◌<◌, sym, ap, subst, ℕ, zero, suc, Bool, true, false, ◌&&◌, ◌||◌, nat_eq, List, [], ◌∷◌, ◌++◌, length, arith, refl}
use Rattle.std.specs.List.{list_any, IsDistinct, AllByRecursion}
use Rattle.std.specs.Cmp.{nat_eq_equiv}
use Rattle.std.proofs.lemmas.Bool.Decides.{nat_tests}
use Rattle.std.proofs.lemmas.Bool.{and_parts, and_from}
use Rattle.std.proofs.lemmas.Map.Made.{length-le_from_is_member}
use Rattle.lock_queue.specs.Waits.{numbers_from, jobs, is_walk, leads_to, is_in_circle, LeadsBack}
use Rattle.word36.specs.declared.sizes.TheConstants.{JOBS}

-- whether a number is among the jobs
abbrev pub is_among : ℕ → Bool
is_among n = list_any (nat_eq n) jobs

-- a walk over such numbers
unfoldable pub IsWalk : (ℕ → ℕ → Bool) → ℕ → List ℕ → ℕ → Type 0
IsWalk waits j [] k = waits j k ≡ true
IsWalk waits j (m ∷ between) k = (is_among m ≡ true) × (waits j m ≡ true) × IsWalk waits m between k

abbrev mem : ℕ → List ℕ → Bool
mem n ns = list_any (nat_eq n) ns

same : (m n : ℕ) → nat_eq m n ≡ true → m ≡ n
same m n h = grind (arith, nat_tests)

-- the walk's end is behind the jobs between
abbrev targets : List ℕ → ℕ → List ℕ
targets between k = between ++ k ∷ []

-- a walk from n whose jobs are distinct
abbrev Rest : (ℕ → ℕ → Bool) → ℕ → ℕ → Type 0
Rest waits n k = (ms : List ℕ) × IsWalk waits n ms k × IsDistinct nat_eq (n ∷ targets ms k)

cut_at : (waits : ℕ → ℕ → Bool) (n k y : ℕ) (ys : List ℕ) → IsWalk waits y ys k → IsDistinct nat_eq (y ∷ targets ys k)
    → (mem n ys ≡ true → Rest waits n k)
    → (b : Bool) → nat_eq n y ≡ b → (b || mem n ys) ≡ true
    → Rest waits n k
cut_at waits n k y ys h d later true e m =
    let s = sym (same n y e) in
    (ys, subst (λ z. IsWalk waits z ys k) s h, subst (λ z. IsDistinct nat_eq (z ∷ targets ys k)) s d)
cut_at waits n k y ys h d later false e m = later m

-- from a job on a walk, the rest of it
cut : (waits : ℕ → ℕ → Bool) (x n k : ℕ) (ns : List ℕ) → IsWalk waits x ns k → IsDistinct nat_eq (targets ns k) → mem n ns ≡ true
    → Rest waits n k
unfolding IsWalk IsDistinct
cut waits x n k [] h d m = absurd (cc)
cut waits x n k (y ∷ ys) h d m = cut_at waits n k y ys h.2 d (λ m'. cut waits y n k ys h.2 d.1 m') (nat_eq n y) refl m

-- a walk whose jobs behind the first are distinct
abbrev Short : (ℕ → ℕ → Bool) → ℕ → ℕ → Type 0
Short waits j k = (ns : List ℕ) × IsWalk waits j ns k × IsDistinct nat_eq (targets ns k)

apart_next : (m k n : ℕ) (ns : List ℕ) (b : Bool) → nat_eq m n ≡ b → (b || mem m ns) ≡ false
    → (mem m ns ≡ false → AllByRecursion (λ y. nat_eq m y ≡ false) (targets ns k))
    → AllByRecursion (λ y. nat_eq m y ≡ false) (targets (n ∷ ns) k)
apart_next m k n ns true e h later = absurd (cc)
apart_next m k n ns false e h later = (e, later h)

apart_from : (m k : ℕ) (ns : List ℕ) → nat_eq m k ≡ false → mem m ns ≡ false → AllByRecursion (λ y. nat_eq m y ≡ false) (targets ns k)
apart_from m k [] e h = (e, tt)
apart_from m k (n ∷ ns) e h = apart_next m k n ns (nat_eq m n) refl h (λ h'. apart_from m k ns e h')

shorter_in : (waits : ℕ → ℕ → Bool) (j m k : ℕ) → is_among m ≡ true → waits j m ≡ true → (s : Short waits m k)
    → nat_eq m k ≡ false → (b : Bool) → mem m s.0 ≡ b
    → Short waits j k
unfolding IsWalk IsDistinct
shorter_in waits j m k g w s e true h =
    let c = cut waits m m k s.0 s.1 s.2 h in
    (m ∷ c.0, (g, w, c.1), c.2)
shorter_in waits j m k g w s e false h = (m ∷ s.0, (g, w, s.1), (apart_from m k s.0 e h, s.2))

shorter : (waits : ℕ → ℕ → Bool) (j m k : ℕ) → is_among m ≡ true → waits j m ≡ true → (s : Short waits m k)
    → (b : Bool) → nat_eq m k ≡ b
    → Short waits j k
unfolding IsWalk IsDistinct
shorter waits j m k g w s true e = ([], subst (λ z. waits j z ≡ true) (same m k e) w, (tt, tt))
shorter waits j m k g w s false e = shorter_in waits j m k g w s e (mem m s.0) refl

-- each walk has one in it whose jobs are distinct
shortened : (waits : ℕ → ℕ → Bool) (j : ℕ) (ms : List ℕ) (k : ℕ) → IsWalk waits j ms k → Short waits j k
unfolding IsWalk IsDistinct
shortened waits j [] k h = ([], h, (tt, tt))
shortened waits j (m ∷ ms) k h = shorter waits j m k h.0 h.1 (shortened waits m ms k h.2) (nat_eq m k) refl

is_same : (q k : ℕ) → is_among k ≡ true → (b : Bool) → nat_eq q k ≡ b → (b || false) ≡ true → is_among q ≡ true
is_same q k g true e m = subst (λ z. is_among z ≡ true) (sym (same q k e)) g
is_same q k g false e m = absurd (cc)

is_same_or : (q n : ℕ) → is_among n ≡ true → (rest : Bool) → (rest ≡ true → is_among q ≡ true) → (b : Bool) → nat_eq q n ≡ b
    → (b || rest) ≡ true → is_among q ≡ true
is_same_or q n g rest later true e m = subst (λ z. is_among z ≡ true) (sym (same q n e)) g
is_same_or q n g rest later false e m = later m

are_jobs : (waits : ℕ → ℕ → Bool) (j : ℕ) (ms : List ℕ) (k : ℕ) → IsWalk waits j ms k → is_among k ≡ true
    → (q : ℕ) → mem q (targets ms k) ≡ true → is_among q ≡ true
unfolding IsWalk
are_jobs waits j [] k h g q m = is_same q k g (nat_eq q k) refl m
are_jobs waits j (n ∷ ms) k h g q m = is_same_or q n h.0 (mem q (targets ms k)) (λ m'. are_jobs waits n ms k h.2 g q m') (nat_eq q n) refl m

or_left : (a b : Bool) → a ≡ true → (a || b) ≡ true
or_left true b h = refl
or_left false b h = absurd (cc)

or_right : (a b : Bool) → b ≡ true → (a || b) ≡ true
or_right true b h = refl
or_right false b h = h

any_next : (p : ℕ → Bool) (m x : ℕ) (xs : List ℕ) → p m ≡ true → (mem m xs ≡ true → list_any p xs ≡ true)
    → (b : Bool) → nat_eq m x ≡ b → (b || mem m xs) ≡ true → list_any p (x ∷ xs) ≡ true
any_next p m x xs e later true s h = or_left (p x) (list_any p xs) (subst (λ z. p z ≡ true) (same m x s) e)
any_next p m x xs e later false s h = or_right (p x) (list_any p xs) (later h)

self : (n : ℕ) → nat_eq n n ≡ true
self n = grind (arith, nat_tests)

any_head : (p : ℕ → Bool) (x : ℕ) (xs : List ℕ) → (list_any p xs ≡ true → (m : ℕ) × (mem m xs ≡ true) × (p m ≡ true))
    → (b : Bool) → p x ≡ b → (b || list_any p xs) ≡ true → (m : ℕ) × (mem m (x ∷ xs) ≡ true) × (p m ≡ true)
any_head p x xs later true e h = (x, or_left (nat_eq x x) (mem x xs) (self x), e)
any_head p x xs later false e h = let m = later h in (m.0, or_right (nat_eq m.0 x) (mem m.0 xs) m.1, m.2)

any_at : (p : ℕ → Bool) (m : ℕ) (xs : List ℕ) → mem m xs ≡ true → p m ≡ true → list_any p xs ≡ true
any_at p m [] h e = absurd (cc)
any_at p m (x ∷ xs) h e = any_next p m x xs e (λ h'. any_at p m xs h' e) (nat_eq m x) refl h

any_of : (p : ℕ → Bool) (xs : List ℕ) → list_any p xs ≡ true → (m : ℕ) × (mem m xs ≡ true) × (p m ≡ true)
any_of p [] h = absurd (cc)
any_of p (x ∷ xs) h = any_head p x xs (λ h'. any_of p xs h') (p x) refl h

-- a walk over fewer jobs than there are steps is found
leads : (waits : ℕ → ℕ → Bool) (steps j : ℕ) (ns : List ℕ) (k : ℕ) → IsWalk waits j ns k → length ns < steps → leads_to waits steps j k ≡ true
unfolding IsWalk leads_to
leads waits zero j ns k h l = absurd (omega (arith, l))
leads waits (suc steps) j [] k h l = or_left (waits j k) _ h
leads waits (suc steps) j (n ∷ ns) k h l =
    or_right (waits j k) _
    (any_at (λ m. waits j m && leads_to waits steps m k) n jobs h.0 (and_from _ _ h.1 (leads waits steps n ns k h.2 (omega (arith, l)))))

-- what is found is a walk
found_in : (waits : ℕ → ℕ → Bool) (steps j k : ℕ) → ((m : ℕ) → leads_to waits steps m k ≡ true → (ms : List ℕ) × IsWalk waits m ms k)
    → (b : Bool) → waits j k ≡ b → (b || list_any (λ m. waits j m && leads_to waits steps m k) jobs) ≡ true
    → (ms : List ℕ) × IsWalk waits j ms k
unfolding IsWalk
found_in waits steps j k walk true e h = ([], e)
found_in waits steps j k walk false e h =
    let m = any_of (λ m. waits j m && leads_to waits steps m k) jobs h in
    let p = and_parts (waits j m.0) (leads_to waits steps m.0 k) m.2 in
    let w = walk m.0 p.1 in
    (m.0 ∷ w.0, (m.1, p.0, w.1))

found : (waits : ℕ → ℕ → Bool) (steps j k : ℕ) → leads_to waits steps j k ≡ true → (ms : List ℕ) × IsWalk waits j ms k
unfolding leads_to
found waits zero j k h = absurd (cc)
found waits (suc steps) j k h = found_in waits steps j k (λ m g. found waits steps m k g) (waits j k) refl h

length-behind : (ns : List ℕ) (k : ℕ) → length (targets ns k) ≡ suc (length ns)
length-behind [] k = refl
length-behind (n ∷ ns) k = ap suc (length-behind ns k)

fewer : (ns : List ℕ) (k : ℕ) → length (targets ns k) ≤ JOBS → length ns < JOBS
fewer ns k l = omega (arith, l, length-behind ns k)

-- where only jobs are waited for, each walk is one over jobs
abbrev pub ForJobs : (ℕ → ℕ → Bool) → Type 0
ForJobs waits = (j m : ℕ) → waits j m ≡ true → is_among m ≡ true

walk-from : (waits : ℕ → ℕ → Bool) → ForJobs waits → (j : ℕ) (between : List ℕ) (k : ℕ) → is_walk waits j between k ≡ true
    → IsWalk waits j between k
unfolding IsWalk
walk-from waits far j [] k h = h
walk-from waits far j (m ∷ between) k h =
    let p = and_parts (waits j m) (is_walk waits m between k) h in
    (far j m p.0, p.0, walk-from waits far m between k p.1)

walk-to : (waits : ℕ → ℕ → Bool) (j : ℕ) (between : List ℕ) (k : ℕ) → IsWalk waits j between k → is_walk waits j between k ≡ true
unfolding IsWalk
walk-to waits j [] k h = h
walk-to waits j (m ∷ between) k h = and_from _ _ h.1 (walk-to waits m between k h.2)

last-among : (waits : ℕ → ℕ → Bool) → ForJobs waits → (j : ℕ) (between : List ℕ) (k : ℕ) → is_walk waits j between k ≡ true
    → is_among k ≡ true
last-among waits far j [] k h = far j k h
last-among waits far j (m ∷ between) k h = last-among waits far m between k (and_parts (waits j m) (is_walk waits m between k) h).1

-- a walk that is found leads back
pub circle-leads : (waits : ℕ → ℕ → Bool) (j : ℕ) → is_in_circle waits j ≡ true → LeadsBack waits j
circle-leads waits j h = let w = found waits JOBS j j h in (w.0, walk-to waits j w.0 j w.1)

-- and each that leads back is found
pub leads-circle : (waits : ℕ → ℕ → Bool) (j : ℕ) → ForJobs waits → LeadsBack waits j → is_in_circle waits j ≡ true
unfolding jobs numbers_from
leads-circle waits j far w =
    let s = shortened waits j w.0 j (walk-from waits far j w.0 j w.1) in
    let l : length (targets s.0 j) ≤ length jobs =
    length-le_from_is_member nat_eq_equiv (targets s.0 j) jobs s.2 (are_jobs waits j s.0 j s.1 (last-among waits far j w.0 j w.1)) in
    leads waits JOBS j s.0 j s.1 (fewer s.0 j l)
