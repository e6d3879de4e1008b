-- The words of an image do not depend on the order in which they are given, where no address has two.
use Rattle.std.proofs.Common.{◌≡◌, ◌∙◌, sym, ap, ℕ, true, false, nat_eq, List, [], ◌∷◌, filter_map, option_map, Option, Some, None, refl}
use Rattle.std.specs.Prelude.{◌^◌, not}
use Rattle.std.specs.Cmp.{nat_eq_equiv}
use Rattle.std.specs.List.{range_with_len, list_any, cons_option, AllByRecursion, IsDistinct}
use Rattle.std.specs.List.Sorted.{IsPermutation}
use Rattle.std.specs.Map.{lookup, keys_of}
use Rattle.std.proofs.lemmas.Bool.{and_parts, or_parts, not-true, eqb-true}
use Rattle.std.proofs.lemmas.List.Sorted.{IsPermutation-sym, IsPermutation-map, Contains-permutation}
use Rattle.std.proofs.lemmas.Map.Keys.{IsDistinct-IsPermutation}
use Rattle.std.proofs.lemmas.Map.Views.{Contains-from_lookup, lookup-from_Contains}
use Rattle.mac_layout.specs.Addresses.{are_apart}
use Rattle.mac_asm.specs.Assembly.{word_at, by_address}
use Rattle.asm_laws.proofs.Apart.{nat_eq-sym}

all-unequal : (n : ℕ) (ns : List ℕ) → list_any (nat_eq n) ns ≡ false → AllByRecursion (λ y. nat_eq n y ≡ false) ns
all-unequal n [] h = tt
all-unequal n (m ∷ ns) h =
    let p = or_parts (nat_eq n m) (list_any (nat_eq n) ns) h in
    (p.0, all-unequal n ns p.1)

distinct : (ns : List ℕ) → are_apart ns ≡ true → IsDistinct nat_eq ns
unfolding are_apart IsDistinct
distinct [] h = tt
distinct (n ∷ ns) h =
    let p = and_parts (not (list_any (nat_eq n) ns)) (are_apart ns) h in
    (all-unequal n ns (not-true (list_any (nat_eq n) ns) p.0), distinct ns p.1)

-- what one list gives, the other gives
either-way : (o p : Option ℕ) → ((v : ℕ) → o ≡ Some v → p ≡ Some v) → ((v : ℕ) → p ≡ Some v → o ≡ Some v) → o ≡ p
either-way None None f g = refl
either-way None (Some v) f g = g v refl
either-way (Some v) p f g = sym (f v refl)

moved : (a b : List (ℕ × ℕ)) (k v : ℕ) → IsDistinct nat_eq (keys_of b) → IsPermutation a b
    → lookup (nat_eq k) a ≡ Some v
    → lookup (nat_eq k) b ≡ Some v
moved a b k v d p h =
    lookup-from_Contains nat_eq_equiv k v b d
    (Contains-permutation a b (k, v) p (Contains-from_lookup (λ x y. eqb-true x y) k v a h))

same-lookup : (a b : List (ℕ × ℕ)) (k : ℕ) → are_apart (keys_of a) ≡ true → IsPermutation a b
    → lookup (nat_eq k) a ≡ lookup (nat_eq k) b
same-lookup a b k h p =
    let d : IsDistinct nat_eq (keys_of a) = distinct (keys_of a) h in
    let e : IsDistinct nat_eq (keys_of b) = IsDistinct-IsPermutation nat_eq nat_eq-sym (keys_of a) (keys_of b) (IsPermutation-map (λ x. x.0) a b p) d in
    either-way (lookup (nat_eq k) a) (lookup (nat_eq k) b)
    (λ v. moved a b k v e p)
    (λ v. moved b a k v d (IsPermutation-sym a b p))

same-words : (a b : List (ℕ × ℕ)) → ((k : ℕ) → lookup (nat_eq k) a ≡ lookup (nat_eq k) b) → (ks : List ℕ)
    → filter_map (word_at a) ks ≡ filter_map (word_at b) ks
same-words a b h [] = refl
same-words a b h (k ∷ ks) =
    ap (λ o. cons_option (option_map (λ word. (k, word)) o) (filter_map (word_at a) ks)) (h k)
    ∙ ap (λ l. cons_option (word_at b k) l) (same-words a b h ks)

pub by_address-permuted : (a b : List (ℕ × ℕ)) → are_apart (keys_of a) ≡ true → IsPermutation a b → by_address a ≡ by_address b
unfolding by_address
by_address-permuted a b h p = same-words a b (λ k. same-lookup a b k h p) (range_with_len 0 (2 ^ 18))
