-- Numbers of parts that were stored.
use Rattle.std.proofs.Common.{◌≡◌, ◌<◌, ◌≤◌, ◌+◌, ◌-◌, ◌++◌, ◌∷◌, ◌∙◌, [], ℕ, List, Some, true, Bool, length, take, drop, take-add, get_or, slice_get, slice_range, refl, sym, ap, subst, arith, inl, inr}
use Rattle.std.proofs.lemmas.Bool.{cases_lt}
use Rattle.std.proofs.lemmas.List.{append-nil, append_assoc, get_or-map, length-drop, length-take-le, get_or_append_left, length-append, map-append}
use Rattle.std.proofs.lemmas.Option.{slice_get-get_or}
use Rattle.std.specs.Bool.{Decides}
use Rattle.std.specs.List.{All}
use Rattle.state_search.specs.Parts.{part_of, parts_of}
use Rattle.job_orders.specs.Tables.{page_at, words_in}

pub some-is : {T : Type 0} (x y : T) → Some x ≡ Some y → x ≡ y
some-is x y e = cc

-- the part of a number that was given to it
pub stored : {T W : Type 0} (seen : T → W) (none : W) (eq : T → T → Bool) (decides : (x y : T) → Decides (eq x y) (seen x ≡ seen y))
    → (parts : List T) (n : ℕ) (part k : T) → n < length parts → slice_get parts n ≡ Some k → eq part k ≡ true → part_of seen none parts n ≡ seen part
stored seen none eq decides parts n part k low got same =
    let at : get_or parts n k ≡ k = some-is (get_or parts n k) k (sym (slice_get-get_or parts n k low) ∙ got) in
    get_or-map seen parts n k none low ∙ ap seen at ∙ sym ((decides part k).0 same)

-- one more
pub all-more : (P : ℕ → Type 0) (ns : List ℕ) (n : ℕ) → All P ns → P n → All P (ns ++ n ∷ [])
all-more P ns n h p k d low =
    let sum : length (ns ++ n ∷ []) ≡ length ns + 1 = length-append ns (n ∷ []) in
    elim (cases_lt k (length ns)) [
      | inl below ↦ subst P (sym (get_or_append_left ns (n ∷ []) d k below)) (h k d below)
      | inr above ↦
          let is : k ≡ length ns = omega (arith, low, above, sum) in
          let last : get_or (ns ++ n ∷ []) k d ≡ n = ap (λ i. get_or (ns ++ n ∷ []) i d) is ∙ at-end ns n d in
          subst P (sym last) p
    ]
  where
    at-end : (ns : List ℕ) (n d : ℕ) → get_or (ns ++ n ∷ []) (length ns) d ≡ n
    at-end [] n d = refl
    at-end (m ∷ ns) n d = at-end ns n d

pub words-more : (pages : List (List ℕ)) (ns : List ℕ) (n : ℕ) → words_in pages (ns ++ n ∷ []) ≡ words_in pages ns ++ page_at pages n
words-more pages [] n = append-nil (page_at pages n)
words-more pages (m ∷ ns) n =
    ap (λ ws. page_at pages m ++ ws) (words-more pages ns n) ∙ sym (append_assoc (page_at pages m) (words_in pages ns) (page_at pages n))

pub parts-more : {T W : Type 0} (seen : T → W) (none : W) (parts : List T) (ns : List ℕ) (n : ℕ)
    → parts_of seen none parts (ns ++ n ∷ []) ≡ parts_of seen none parts ns ++ part_of seen none parts n ∷ []
parts-more seen none parts ns n = map-append (part_of seen none parts) ns (n ∷ [])

-- words from a place on
pub range-length : (ws : List ℕ) (at m : ℕ) → at + m ≤ length ws → length (slice_range ws at (at + m)) ≡ m
range-length ws at m low =
    let long : at + m - at ≡ m = omega arith in
    let rest : length (drop at ws) ≡ length ws - at = length-drop at ws in
    ap (λ k. length (take k (drop at ws))) long ∙ length-take-le m (drop at ws) (omega (arith, rest, low))

pub range-more : (ws : List ℕ) (n m : ℕ) → take n ws ++ slice_range ws n (n + m) ≡ take (n + m) ws
range-more ws n m =
    let long : n + m - n ≡ m = omega arith in
    ap (λ k. take n ws ++ take k (drop n ws)) long ∙ sym (take-add n m ws)
