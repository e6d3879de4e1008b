-- Numbers that stand apart, and addresses in a row.
use Rattle.std.proofs.Common.{◌≡◌, ◌∙◌, sym, ap, ℕ, zero, suc, ◌+◌, ◌-◌, ◌<◌, ◌≤◌, Bool, true, false, ◌&&◌}
use Rattle.std.proofs.Common.{nat_eq, List, [], ◌∷◌, ◌++◌, Option, Some, None, refl, arith}
use Rattle.std.specs.Prelude.{◌^◌, ◌||◌, not, nat_le, nat_lt, ◌==◌, if◌then◌else◌}
use Rattle.std.specs.List.{range_with_len, list_any}
use Rattle.std.proofs.lemmas.Bool.{and_parts, and_from, or_parts, or_from, not-true, not_from_false, ltb-true, lt-ltb}
use Rattle.std.proofs.lemmas.List.Folds.{list_any-append}
use Rattle.std.proofs.lemmas.Grind.{common_steps}
use Rattle.mac_layout.specs.declared.error.AsmCode.{AsmCode}
use Rattle.mac_layout.specs.declared.error.AsmCode.TheVariants.{DefinedTwice, AddressTooHigh}
use Rattle.mac_layout.specs.Addresses.{are_apart}
use Rattle.mac_asm.specs.Assembly.{are_below}
use Rattle.mac_layout.specs.Faults.{number_of, least, code_if}
use Rattle.mac_layout.specs.LaidOut.{is_taken, addresses_in, taking}

none-taken : (b : List ℕ) → list_any (is_taken []) b ≡ false
none-taken [] = refl
none-taken (x ∷ b) = none-taken b

pub nat_eq-sym : (a b : ℕ) → nat_eq a b ≡ nat_eq b a
nat_eq-sym a b = grind (arith, common_steps)

shuffle : (p q a b : Bool) → ((p || q) || (a || b)) ≡ ((p || a) || (q || b))
shuffle true q a b = refl
shuffle false true true b = refl
shuffle false true false b = refl
shuffle false false true b = refl
shuffle false false false b = refl

taken-cons : (n : ℕ) (a b : List ℕ) → list_any (is_taken (n ∷ a)) b ≡ (list_any (nat_eq n) b || list_any (is_taken a) b)
taken-cons n a [] = refl
taken-cons n a (x ∷ b) =
    ap (λ r. (nat_eq x n || is_taken a x) || r) (taken-cons n a b)
    ∙ ap (λ e. (e || is_taken a x) || (list_any (nat_eq n) b || list_any (is_taken a) b)) (nat_eq-sym x n)
    ∙ shuffle (nat_eq n x) (is_taken a x) (list_any (nat_eq n) b) (list_any (is_taken a) b)

-- what stands apart is apart in its parts and from part to part
pub apart-parts : (a b : List ℕ) → are_apart (a ++ b) ≡ true
    → (are_apart a ≡ true) × (are_apart b ≡ true) × (list_any (is_taken a) b ≡ false)
unfolding are_apart
apart-parts [] b h = (refl, h, none-taken b)
apart-parts (n ∷ a) b h =
    let p = and_parts (not (list_any (nat_eq n) (a ++ b))) (are_apart (a ++ b)) h in
    let i = apart-parts a b p.1 in
    let o = or_parts (list_any (nat_eq n) a) (list_any (nat_eq n) b) (sym (list_any-append (nat_eq n) a b) ∙ not-true (list_any (nat_eq n) (a ++ b)) p.0) in
    (and_from _ _ (not_from_false (list_any (nat_eq n) a) o.0) i.0, i.1, taken-cons n a b ∙ or_from _ _ o.1 i.2)

pub apart-join : (a b : List ℕ) → are_apart a ≡ true → are_apart b ≡ true → list_any (is_taken a) b ≡ false
    → are_apart (a ++ b) ≡ true
unfolding are_apart
apart-join [] b p q r = q
apart-join (n ∷ a) b p q r =
    let h = and_parts (not (list_any (nat_eq n) a)) (are_apart a) p in
    let o = or_parts (list_any (nat_eq n) b) (list_any (is_taken a) b) (sym (taken-cons n a b) ∙ r) in
    and_from _ _
    (not_from_false (list_any (nat_eq n) (a ++ b))
    (list_any-append (nat_eq n) a b ∙ or_from _ _ (not-true (list_any (nat_eq n) a) h.0) o.0))
    (apart-join a b h.1 q o.1)

pub below-none : (q p n : ℕ) → q < p → list_any (nat_eq q) (range_with_len p n) ≡ false
below-none q p zero h = refl
below-none q p (suc n) h =
    let next : q < p + 1 = omega arith in
    or_from _ _ (unequal q p h) (below-none q (p + 1) n next)
  where
    unequal : (a b : ℕ) → a < b → nat_eq a b ≡ false
    unequal a b h = grind (arith, common_steps)

pub range-apart : (p n : ℕ) → are_apart (range_with_len p n) ≡ true
unfolding are_apart
range-apart p zero = refl
range-apart p (suc n) =
    let next : p < p + 1 = omega arith in
    and_from _ _ (not_from_false (list_any (nat_eq p) (range_with_len (p + 1) n)) (below-none p (p + 1) n next)) (range-apart (p + 1) n)

-- addresses in a row are below 2 ^ 18 where the last is
range-low : (p n : ℕ) → are_below (range_with_len p (suc n)) ≡ true → p + suc n ≤ 2 ^ 18
range-low p zero h =
    let l = ltb-true p (2 ^ 18) (and_parts (nat_lt p (2 ^ 18)) true h).0 in
    omega (arith, l)
range-low p (suc n) h =
    let p' = p + 1 in
    let i : p + 1 + suc n ≤ 2 ^ 18 = range-low (p + 1) n (and_parts (nat_lt p (2 ^ 18)) (are_below (range_with_len (p + 1) (suc n))) h).1 in
    omega (arith, i)

low-range : (p n : ℕ) → p + n ≤ 2 ^ 18 → are_below (range_with_len p n) ≡ true
low-range p zero h = refl
low-range p (suc n) h =
    let here : p < 2 ^ 18 = omega (arith, h) in
    let next : p + 1 + n ≤ 2 ^ 18 = omega (arith, h) in
    and_from _ _ (lt-ltb p (2 ^ 18) here) (low-range (p + 1) n next)

pub least-none : (a b : Option AsmCode) → least a b ≡ None → (a ≡ None) × (b ≡ None)
unfolding least
least-none None b h = (refl, h)
least-none (Some a) None h = absurd (cc)
least-none (Some a) (Some b) h = absurd (some-if (nat_le (number_of a) (number_of b)) a b h)
  where
    some-if : (t : Bool) (a b : AsmCode) → (if t then Some a else Some b) ≡ None → ⊥
    some-if true a b h = cc
    some-if false a b h = cc

pub none-least : (a b : Option AsmCode) → a ≡ None → b ≡ None → least a b ≡ None
unfolding least
none-least a b p q = rw (p, q)

pub code_if-none : (w : Bool) (c : AsmCode) → code_if w c ≡ None → w ≡ false
code_if-none true c h = absurd (cc)
code_if-none false c h = refl

-- the addresses of so many words are those told, unless too high
pub high-free : (p n : ℕ) → (not (n == 0) && not (nat_le (p + n) (2 ^ 18))) ≡ false → are_below (range_with_len p n) ≡ true
high-free p zero h = refl
high-free p (suc n) h = low-range p (suc n) (low p (suc n) h (grind arith))
  where
    low : (p n : ℕ) → (not (n == 0) && not (nat_le (p + n) (2 ^ 18))) ≡ false → 0 < n → p + n ≤ 2 ^ 18
    low p n h g = grind (arith, common_steps)

pub free-high : (p n : ℕ) → are_below (range_with_len p n) ≡ true → (not (n == 0) && not (nat_le (p + n) (2 ^ 18))) ≡ false
free-high p zero h = refl
free-high p (suc n) h = test p (suc n) (range-low p n h)
  where
    test : (p n : ℕ) → p + n ≤ 2 ^ 18 → (not (n == 0) && not (nat_le (p + n) (2 ^ 18))) ≡ false
    test p n h = grind (arith, common_steps)

pub whole-range : (p n : ℕ) → are_below (range_with_len p n) ≡ true → addresses_in p n ≡ range_with_len p n
whole-range p zero h = ap (λ k. range_with_len p k) (fits (2 ^ 18 - p))
  where
    fits : (m : ℕ) → (if nat_le 0 m then 0 else m) ≡ 0
    fits m = grind (arith, common_steps)
whole-range p (suc n) h = ap (λ k. range_with_len p k) (fits p (suc n) (range-low p n h))
  where
    fits : (p n : ℕ) → p + n ≤ 2 ^ 18 → (if nat_le n (2 ^ 18 - p) then n else 2 ^ 18 - p) ≡ n
    fits p n h = grind (arith, common_steps)

-- so many words can be taken from an address on where all their addresses are new and low
pub taking-none : (t : List ℕ) (p n : ℕ) → taking t p n ≡ None → are_apart t ≡ true
    → (are_apart (t ++ range_with_len p n) ≡ true) × (are_below (range_with_len p n) ≡ true)
unfolding taking
taking-none t p n h a =
    let l = least-none (code_if (list_any (is_taken t) (addresses_in p n)) DefinedTwice) _ h in
    let low : are_below (range_with_len p n) ≡ true = high-free p n (code_if-none _ _ l.1) in
    let free : list_any (is_taken t) (range_with_len p n) ≡ false =
    ap (λ r. list_any (is_taken t) r) (sym (whole-range p n low)) ∙ code_if-none _ _ l.0 in
    (apart-join t (range_with_len p n) a (range-apart p n) free, low)

pub none-taking : (t : List ℕ) (p n : ℕ) → are_apart (t ++ range_with_len p n) ≡ true → are_below (range_with_len p n) ≡ true
    → taking t p n ≡ None
unfolding taking
none-taking t p n a low =
    let free = (apart-parts t (range_with_len p n) a).2 in
    none-least _ _
    (ap (λ w. code_if w DefinedTwice) (ap (λ r. list_any (is_taken t) r) (whole-range p n low) ∙ free))
    (ap (λ w. code_if w AddressTooHigh) (free-high p n low))
