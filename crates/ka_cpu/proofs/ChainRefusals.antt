-- Where an address is refused, and where an XCT is.
use Rattle.std.proofs.Common.{◌≡◌, ◌<◌, ◌≤◌, ◌↔◌, ◌⊎◌, ◌∙◌, ℕ, zero, suc, Bool, true, false, cond, List, [], ◌∷◌, length}
use Rattle.std.proofs.Common.{Option, Some, None, Result, Ok, Err, refl, subst, sym, ap, inl, inr, arith}
use Rattle.ka_cpu.specs.declared.limits.TheConstants.{MOST_EXECUTES, MOST_LINKS}
use Rattle.ka_cpu.specs.Addresses.{Target, Path, Links, LeadsOutside, LeadsTooFar, target_of, target_from}
use Rattle.ka_cpu.specs.Addresses.{target_here, is_indirect, direct_address, reading, at_target}
use Rattle.ka_cpu.specs.Exec.{Executes, ComesTo, RefusedOnTheWay, ExecutesTooFar, executed_word, is_xct, word_behind}
use Rattle.ka_state.specs.Memory.{word_at}
use Rattle.ka_state.specs.declared.outcome.StopReason.{StopReason}
use Rattle.ka_state.specs.declared.outcome.StopReason.TheVariants.{IllegalAddress, IllegalInstruction, Halt, Pushdown, AddressChain}
use Rattle.ka_cpu.proofs.Executes.{behind_plain}

-- what a result says of the links from w, over at most n of them
LinksFrom : ℕ → List ℕ → List ℕ → ℕ → Result Target StopReason → Type 0
LinksFrom n ac core w (Ok t) = Unit {0}
LinksFrom n ac core w (Err IllegalAddress) =
    (vs : List ℕ) × (v : ℕ) × (length vs < n) × Path (Links ac core) w vs v × (is_indirect v ≡ true) × (word_at ac core (direct_address ac v) ≡ None)
LinksFrom n ac core w (Err AddressChain) = (vs : List ℕ) × (v : ℕ) × (length vs ≡ n) × Path (Links ac core) w vs v × (is_indirect v ≡ true)
LinksFrom n ac core w (Err _) = ⊥

link-on : (n : ℕ) (ac core : List ℕ) (w v : ℕ) (r : Result Target StopReason) → Links ac core w v → LinksFrom n ac core v r → LinksFrom (suc n) ac core w r
unfolding LinksFrom
link-on n ac core w v (Ok t) l h = tt
link-on n ac core w v (Err IllegalAddress) l h = (v ∷ h.0, h.1, omega (arith, h.2), (l, h.3), h.4, h.5)
link-on n ac core w v (Err AddressChain) l h = (v ∷ h.0, h.1, omega (arith, h.2), (l, h.3), h.4)
link-on n ac core w v (Err IllegalInstruction) l h = h
link-on n ac core w v (Err Halt) l h = h
link-on n ac core w v (Err Pushdown) l h = h

links-read : (n : ℕ) (ac core : List ℕ) (w : ℕ) (o : Option ℕ) (f : ℕ → Result Target StopReason) → is_indirect w ≡ true
    → word_at ac core (direct_address ac w) ≡ o
    → ((v : ℕ) → LinksFrom n ac core v (f v)) → LinksFrom (suc n) ac core w (reading o f)
unfolding LinksFrom
links-read n ac core w None f i q h = ([], w, omega arith, refl, i, q)
links-read n ac core w (Some v) f i q h = link-on n ac core w v (f v) (i, q) (h v)

links-test : (b : Bool) (n : ℕ) (ac core : List ℕ) (w : ℕ) (x : Result Target StopReason) (t : Target) → is_indirect w ≡ b
    → (is_indirect w ≡ true → LinksFrom n ac core w x) → LinksFrom n ac core w (cond b x (Ok t))
unfolding LinksFrom
links-test true n ac core w x t e h = h e
links-test false n ac core w x t e h = tt

links-from : (n : ℕ) (ac core : List ℕ) (w : ℕ) (used : Option ℕ) → LinksFrom n ac core w (target_from n ac core w used)
unfolding LinksFrom target_from
links-from zero ac core w used =
    links-test (is_indirect w) zero ac core w (Err AddressChain) (target_here ac w used) refl (λ i. ([], w, refl, refl, i))
links-from (suc n) ac core w used =
    links-test (is_indirect w) (suc n) ac core w
    (reading (word_at ac core (direct_address ac w)) (λ v. target_from n ac core v (Some v))) (target_here ac w used) refl
    (λ i. links-read n ac core w (word_at ac core (direct_address ac w)) (λ v. target_from n ac core v (Some v)) i refl (λ v. links-from n ac core v (Some v)))

outside-only : (ac core : List ℕ) (w : ℕ) → target_of ac core w ≡ Err IllegalAddress → LeadsOutside ac core w
unfolding LinksFrom
outside-only ac core w e = let P : Result Target StopReason → Type 0 = λ r. LinksFrom MOST_LINKS ac core w r in subst P e (links-from MOST_LINKS ac core w None)

far-only : (ac core : List ℕ) (w : ℕ) → target_of ac core w ≡ Err AddressChain → LeadsTooFar ac core w
unfolding LinksFrom
far-only ac core w e = let P : Result Target StopReason → Type 0 = λ r. LinksFrom MOST_LINKS ac core w r in subst P e (links-from MOST_LINKS ac core w None)

outside-found : (n : ℕ) (ac core : List ℕ) (w : ℕ) (used : Option ℕ) (vs : List ℕ) (v : ℕ) → length vs < n → Path (Links ac core) w vs v → is_indirect v ≡ true
    → word_at ac core (direct_address ac v) ≡ None → target_from n ac core w used ≡ Err IllegalAddress
unfolding target_from
outside-found zero ac core w used vs v b p i q = absurd (omega arith)
outside-found (suc n) ac core w used [] v b p i q = rw (← p) (rw i (rw q refl))
outside-found (suc n) ac core w used (x ∷ xs) v b p i q = rw p.0.0 (rw p.0.1 (outside-found n ac core x (Some x) xs v (omega arith) p.1 i q))

far-found : (n : ℕ) (ac core : List ℕ) (w : ℕ) (used : Option ℕ) (vs : List ℕ) (v : ℕ) → length vs ≡ n → Path (Links ac core) w vs v → is_indirect v ≡ true
    → target_from n ac core w used ≡ Err AddressChain
unfolding target_from
far-found zero ac core w used [] v b p i = rw (← p) (rw i refl)
far-found zero ac core w used (x ∷ xs) v b p i = absurd (omega arith)
far-found (suc n) ac core w used [] v b p i = absurd (omega arith)
far-found (suc n) ac core w used (x ∷ xs) v b p i = rw p.0.0 (rw p.0.1 (far-found n ac core x (Some x) xs v (omega arith) p.1 i))

pub outside_law : (ac core : List ℕ) (w : ℕ) → (target_of ac core w ≡ Err IllegalAddress) ↔ LeadsOutside ac core w
outside_law ac core w = (outside-only ac core w, λ h. outside-found MOST_LINKS ac core w None h.0 h.1 h.2 h.3 h.4 h.5)

pub far_law : (ac core : List ℕ) (w : ℕ) → (target_of ac core w ≡ Err AddressChain) ↔ LeadsTooFar ac core w
far_law ac core w = (far-only ac core w, λ h. far-found MOST_LINKS ac core w None h.0 h.1 h.2 h.3 h.4)

-- what a result says of the XCTs from w, over at most n of them
XctsFrom : ℕ → List ℕ → List ℕ → ℕ → Result ℕ StopReason → Type 0
XctsFrom n ac core w (Ok v) = (vs : List ℕ) × (length vs ≤ n) × Path (Executes ac core) w vs v × (is_xct v ≡ false)
XctsFrom n ac core w (Err r) =
    ((vs : List ℕ) × (v : ℕ) × (length vs < n) × Path (Executes ac core) w vs v × (is_xct v ≡ true) × (executed_word ac core v ≡ Err r))
    ⊎ ((r ≡ AddressChain) × ((vs : List ℕ) × (v : ℕ) × (length vs ≡ n) × Path (Executes ac core) w vs v × (is_xct v ≡ true)))

xct-on : (n : ℕ) (ac core : List ℕ) (w v : ℕ) (r : Result ℕ StopReason) → Executes ac core w v → XctsFrom n ac core v r → XctsFrom (suc n) ac core w r
unfolding XctsFrom
xct-on n ac core w v (Ok x) l h = (v ∷ h.0, omega (arith, h.1), (l, h.2), h.3)
xct-on n ac core w v (Err r) l (inl h) = inl (v ∷ h.0, h.1, omega (arith, h.2), (l, h.3), h.4, h.5)
xct-on n ac core w v (Err r) l (inr h) = inr (h.0, (v ∷ h.1.0, h.1.1, omega (arith, h.1.2), (l, h.1.3), h.1.4))

-- the word behind an XCT by the word that it executes
read_err : (o : Option ℕ) (f : ℕ → Result ℕ StopReason) (r : StopReason) → reading {A = ℕ} o (λ v. Ok v) ≡ Err r → reading o f ≡ Err r
read_err None f r h = h
read_err (Some v) f r h = cc

read_ok : (o : Option ℕ) (f : ℕ → Result ℕ StopReason) (v : ℕ) → reading {A = ℕ} o (λ v. Ok v) ≡ Ok v → reading o f ≡ f v
read_ok None f v h = cc
read_ok (Some x) f v h = let e : x ≡ v = cc in rw e refl

at_err : (x : Result Target StopReason) (ac core : List ℕ) (f : ℕ → Result ℕ StopReason) (r : StopReason)
    → at_target {A = ℕ} x (λ t. reading (word_at ac core t.e) (λ v. Ok v)) ≡ Err r → at_target x (λ t. reading (word_at ac core t.e) f) ≡ Err r
at_err (Err s) ac core f r h = h
at_err (Ok t) ac core f r h = read_err (word_at ac core t.e) f r h

at_ok : (x : Result Target StopReason) (ac core : List ℕ) (f : ℕ → Result ℕ StopReason) (v : ℕ)
    → at_target {A = ℕ} x (λ t. reading (word_at ac core t.e) (λ v. Ok v)) ≡ Ok v → at_target x (λ t. reading (word_at ac core t.e) f) ≡ f v
at_ok (Err s) ac core f v h = cc
at_ok (Ok t) ac core f v h = read_ok (word_at ac core t.e) f v h

behind_on : (n : ℕ) (ac core : List ℕ) (w v : ℕ) → Executes ac core w v → word_behind (suc n) ac core w ≡ word_behind n ac core v
unfolding word_behind
behind_on n ac core w v h = rw h.0 (at_ok (target_of ac core w) ac core (λ x. word_behind n ac core x) v h.1)

behind_err : (n : ℕ) (ac core : List ℕ) (w : ℕ) (r : StopReason) → is_xct w ≡ true → executed_word ac core w ≡ Err r → word_behind (suc n) ac core w ≡ Err r
unfolding word_behind
behind_err n ac core w r x h = rw x (at_err (target_of ac core w) ac core (λ y. word_behind n ac core y) r h)

behind_zero : (ac core : List ℕ) (w : ℕ) → is_xct w ≡ true → word_behind 0 ac core w ≡ Err AddressChain
unfolding word_behind
behind_zero ac core w x = rw x refl

xcts-plain : (n : ℕ) (ac core : List ℕ) (w : ℕ) → is_xct w ≡ false → XctsFrom n ac core w (word_behind n ac core w)
unfolding XctsFrom
xcts-plain n ac core w x =
    let P : Result ℕ StopReason → Type 0 = λ r. XctsFrom n ac core w r in
    subst P (sym (behind_plain n ac core w x)) ([], omega arith, refl, x)

xcts-end : (ac core : List ℕ) (w : ℕ) → is_xct w ≡ true → XctsFrom zero ac core w (word_behind zero ac core w)
unfolding XctsFrom
xcts-end ac core w x =
    let P : Result ℕ StopReason → Type 0 = λ r. XctsFrom zero ac core w r in
    subst P (sym (behind_zero ac core w x)) (inr (refl, ([], w, refl, refl, x)))

xcts-next : (n : ℕ) (ac core : List ℕ) (w : ℕ) (o : Result ℕ StopReason) → is_xct w ≡ true → executed_word ac core w ≡ o
    → ((v : ℕ) → XctsFrom n ac core v (word_behind n ac core v)) → XctsFrom (suc n) ac core w (word_behind (suc n) ac core w)
unfolding XctsFrom
xcts-next n ac core w (Err r) x q h =
    let P : Result ℕ StopReason → Type 0 = λ r. XctsFrom (suc n) ac core w r in
    subst P (sym (behind_err n ac core w r x q)) (inl ([], w, omega arith, refl, x, q))
xcts-next n ac core w (Ok v) x q h =
    let P : Result ℕ StopReason → Type 0 = λ r. XctsFrom (suc n) ac core w r in
    subst P (sym (behind_on n ac core w v (x, q))) (xct-on n ac core w v (word_behind n ac core v) (x, q) (h v))

xcts-end-by : (b : Bool) (ac core : List ℕ) (w : ℕ) → is_xct w ≡ b → XctsFrom zero ac core w (word_behind zero ac core w)
xcts-end-by true ac core w x = xcts-end ac core w x
xcts-end-by false ac core w x = xcts-plain zero ac core w x

xcts-next-by : (b : Bool) (n : ℕ) (ac core : List ℕ) (w : ℕ) → is_xct w ≡ b
    → ((v : ℕ) → XctsFrom n ac core v (word_behind n ac core v)) → XctsFrom (suc n) ac core w (word_behind (suc n) ac core w)
xcts-next-by true n ac core w x h = xcts-next n ac core w (executed_word ac core w) x refl h
xcts-next-by false n ac core w x h = xcts-plain (suc n) ac core w x

xcts-from : (n : ℕ) (ac core : List ℕ) (w : ℕ) → XctsFrom n ac core w (word_behind n ac core w)
xcts-from zero ac core w = xcts-end-by (is_xct w) ac core w refl
xcts-from (suc n) ac core w = xcts-next-by (is_xct w) n ac core w refl (λ v. xcts-from n ac core v)

comes-only : (ac core : List ℕ) (w v : ℕ) → word_behind MOST_EXECUTES ac core w ≡ Ok v → ComesTo ac core w v
unfolding XctsFrom
comes-only ac core w v e = let P : Result ℕ StopReason → Type 0 = λ r. XctsFrom MOST_EXECUTES ac core w r in subst P e (xcts-from MOST_EXECUTES ac core w)

refused-only : (ac core : List ℕ) (w : ℕ) (r : StopReason) → word_behind MOST_EXECUTES ac core w ≡ Err r
    → RefusedOnTheWay ac core w r ⊎ ((r ≡ AddressChain) × ExecutesTooFar ac core w)
unfolding XctsFrom
refused-only ac core w r e = let P : Result ℕ StopReason → Type 0 = λ x. XctsFrom MOST_EXECUTES ac core w x in subst P e (xcts-from MOST_EXECUTES ac core w)

comes-found : (n : ℕ) (ac core : List ℕ) (w v : ℕ) (vs : List ℕ) → length vs ≤ n → Path (Executes ac core) w vs v
    → is_xct v ≡ false
    → word_behind n ac core w ≡ Ok v
comes-found n ac core w v [] b p x = rw (← p) (behind_plain n ac core v x)
comes-found zero ac core w v (y ∷ ys) b p x = absurd (omega arith)
comes-found (suc n) ac core w v (y ∷ ys) b p x = behind_on n ac core w y p.0 ∙ comes-found n ac core y v ys (omega arith) p.1 x

way-found : (n : ℕ) (ac core : List ℕ) (w v : ℕ) (r : StopReason) (vs : List ℕ) → length vs < n → Path (Executes ac core) w vs v → is_xct v ≡ true
    → executed_word ac core v ≡ Err r → word_behind n ac core w ≡ Err r
way-found zero ac core w v r vs b p x q = absurd (omega arith)
way-found (suc n) ac core w v r [] b p x q = rw (← p) (behind_err n ac core v r x q)
way-found (suc n) ac core w v r (y ∷ ys) b p x q = behind_on n ac core w y p.0 ∙ way-found n ac core y v r ys (omega arith) p.1 x q

far-xct : (n : ℕ) (ac core : List ℕ) (w v : ℕ) (vs : List ℕ) → length vs ≡ n → Path (Executes ac core) w vs v → is_xct v ≡ true
    → word_behind n ac core w ≡ Err AddressChain
far-xct zero ac core w v [] b p x = rw (← p) (behind_zero ac core v x)
far-xct zero ac core w v (y ∷ ys) b p x = absurd (omega arith)
far-xct (suc n) ac core w v [] b p x = absurd (omega arith)
far-xct (suc n) ac core w v (y ∷ ys) b p x = behind_on n ac core w y p.0 ∙ far-xct n ac core y v ys (omega arith) p.1 x

refused-found : (ac core : List ℕ) (w : ℕ) (r : StopReason) → RefusedOnTheWay ac core w r ⊎ ((r ≡ AddressChain) × ExecutesTooFar ac core w)
    → word_behind MOST_EXECUTES ac core w ≡ Err r
refused-found ac core w r (inl h) = way-found MOST_EXECUTES ac core w h.1 r h.0 h.2 h.3 h.4 h.5
refused-found ac core w r (inr h) = far-xct MOST_EXECUTES ac core w h.1.1 h.1.0 h.1.2 h.1.3 h.1.4 ∙ ap (λ (x : StopReason). Err x) (sym h.0)

pub comes_law : (ac core : List ℕ) (w v : ℕ) → (word_behind MOST_EXECUTES ac core w ≡ Ok v) ↔ ComesTo ac core w v
comes_law ac core w v = (comes-only ac core w v, λ h. comes-found MOST_EXECUTES ac core w v h.0 h.1 h.2 h.3)

pub refused_law : (ac core : List ℕ) (w : ℕ) (r : StopReason)
    → (word_behind MOST_EXECUTES ac core w ≡ Err r) ↔ (RefusedOnTheWay ac core w r ⊎ ((r ≡ AddressChain) × ExecutesTooFar ac core w))
refused_law ac core w r = (refused-only ac core w r, refused-found ac core w r)

pub ruleset refusal_laws = (outside_law, far_law)
