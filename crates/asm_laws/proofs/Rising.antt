-- The words of an image rise by address, and are the words that were given.
use Rattle.std.proofs.Common.{◌≡◌, ◌∙◌, sym, ap, subst, ℕ, zero, suc, ◌+◌, ◌<◌, ◌≤◌, true, false, cond, nat_eq, List}
use Rattle.std.proofs.Common.{filter_map, Option, Some, None, option_map, ◌⊎◌, inl, inr, refl, arith}
use Rattle.std.specs.Prelude.{◌^◌}
use Rattle.std.specs.List.{range_with_len, cons_option, AllByRecursion}
use Rattle.std.specs.List.Sorted.{IsStrictlySortedBy, IsStrictlyIncreasing}
use Rattle.std.specs.Map.{lookup, keys_of}
use Rattle.std.specs.Ordering.{nat_cmp}
use Rattle.std.specs.Cmp.{nat_cmp_is}
use Rattle.std.specs.declared.cmp.Ordering.TheVariants.{Less}
use Rattle.std.proofs.lemmas.Map.Keys.{IsStrictlyIncreasing-from_sorted}
use Rattle.std.proofs.lemmas.Grind.{common_steps}
use Rattle.std.proofs.Math.Nat.{eq-or-lt_of_le}
use Rattle.mac_asm.specs.Assembly.{word_at, by_address}

-- the words of n addresses from a on
abbrev slice : List (ℕ × ℕ) → ℕ → ℕ → List (ℕ × ℕ)
slice words a n = filter_map (word_at words) (range_with_len a n)

abbrev front : ℕ → Option ℕ → List (ℕ × ℕ) → List (ℕ × ℕ)
front a o rest = cons_option (option_map (λ word. (a, word)) o) rest

front-above : (b a : ℕ) (o : Option ℕ) (rest : List (ℕ × ℕ)) → nat_cmp b a ≡ Less
    → AllByRecursion (λ y. nat_cmp b y ≡ Less) (keys_of rest)
    → AllByRecursion (λ y. nat_cmp b y ≡ Less) (keys_of (front a o rest))
front-above b a None rest h r = r
front-above b a (Some w) rest h r = (h, r)

less : (b a : ℕ) → b < a → nat_cmp b a ≡ Less
less b a h = sym (nat_cmp_is b a Less h)

above : (words : List (ℕ × ℕ)) (b a n : ℕ) → b < a → AllByRecursion (λ y. nat_cmp b y ≡ Less) (keys_of (slice words a n))
above words b a zero h = tt
above words b a (suc n) h =
    let next : b < a + 1 = omega arith in
    front-above b a (lookup (nat_eq a) words) (slice words (a + 1) n) (less b a h) (above words b (a + 1) n next)

front-sorted : (a : ℕ) (o : Option ℕ) (rest : List (ℕ × ℕ)) → AllByRecursion (λ y. nat_cmp a y ≡ Less) (keys_of rest)
    → IsStrictlySortedBy nat_cmp (keys_of rest)
    → IsStrictlySortedBy nat_cmp (keys_of (front a o rest))
unfolding IsStrictlySortedBy
front-sorted a None rest h r = r
front-sorted a (Some w) rest h r = (h, r)

sorted : (words : List (ℕ × ℕ)) (a n : ℕ) → IsStrictlySortedBy nat_cmp (keys_of (slice words a n))
unfolding IsStrictlySortedBy
sorted words a zero = tt
sorted words a (suc n) =
    let next : a < a + 1 = omega arith in
    front-sorted a (lookup (nat_eq a) words) (slice words (a + 1) n) (above words a (a + 1) n next) (sorted words (a + 1) n)

pub addresses_rise : (words : List (ℕ × ℕ)) → IsStrictlyIncreasing (keys_of (by_address words))
unfolding by_address
addresses_rise words = IsStrictlyIncreasing-from_sorted (keys_of (slice words 0 (2 ^ 18))) (sorted words 0 (2 ^ 18))

miss : (p a : ℕ) (o : Option ℕ) (rest : List (ℕ × ℕ)) → nat_eq p a ≡ false
    → lookup (nat_eq p) (front a o rest) ≡ lookup (nat_eq p) rest
miss p a None rest h = refl
miss p a (Some w) rest h = ap (λ b. cond b (Some w) (lookup (nat_eq p) rest)) h

unequal : (p a : ℕ) → p < a → nat_eq p a ≡ false
unequal p a h = grind (arith, common_steps)

unequal-above : (p a : ℕ) → a < p → nat_eq p a ≡ false
unequal-above p a h = grind (arith, common_steps)

equal : (a : ℕ) → nat_eq a a ≡ true
equal a = grind (arith, common_steps)

none-above : (words : List (ℕ × ℕ)) (p a n : ℕ) → p < a → lookup (nat_eq p) (slice words a n) ≡ None
none-above words p a zero h = refl
none-above words p a (suc n) h =
    let next : p < a + 1 = omega arith in
    miss p a (lookup (nat_eq a) words) (slice words (a + 1) n) (unequal p a h) ∙ none-above words p (a + 1) n next

hit : (a : ℕ) (o : Option ℕ) (rest : List (ℕ × ℕ)) → lookup (nat_eq a) rest ≡ None
    → lookup (nat_eq a) (front a o rest) ≡ o
hit a None rest h = h
hit a (Some w) rest h = ap (λ b. cond b (Some w) (lookup (nat_eq a) rest)) (equal a)

in_slice : (words : List (ℕ × ℕ)) (p a n : ℕ) → a ≤ p → p < a + n → lookup (nat_eq p) (slice words a n) ≡ lookup (nat_eq p) words
in_slice words p a zero l h = absurd (omega arith)
in_slice words p a (suc n) l h =
    let addresses : (a ≡ p) ⊎ (a < p) = eq-or-lt_of_le l in
    elim addresses [
      | inl e ↦ subst (λ q. lookup (nat_eq q) (slice words a (suc n)) ≡ lookup (nat_eq q) words) e
          (let next : a < a + 1 = omega arith in
          hit a (lookup (nat_eq a) words) (slice words (a + 1) n) (none-above words a (a + 1) n next))
      | inr g ↦
          let least : a + 1 ≤ p = omega arith in
          let most : p < a + 1 + n = omega arith in
          miss p a (lookup (nat_eq a) words) (slice words (a + 1) n) (unequal-above p a g)
          ∙ in_slice words p (a + 1) n least most
    ]

pub words_are_kept : (words : List (ℕ × ℕ)) (address : ℕ) → address < 2 ^ 18
    → lookup (nat_eq address) (by_address words) ≡ lookup (nat_eq address) words
unfolding by_address
words_are_kept words address h =
    let least : 0 ≤ address = omega arith in
    let most : address < 0 + 2 ^ 18 = omega (arith, h) in
    in_slice words address 0 (2 ^ 18) least most
