-- Numbers for parts of states: a part's number is its position in a list that only grows. A part is shown by a function, such as
-- the items of a vector.
use Rattle.std.specs.Prelude.{◌≡◌, ℕ, ◌<◌, List, [], ◌∷◌, ◌++◌, map, length, Bool, slice_index_or}
use Rattle.std.specs.Bool.{Decides}
use Rattle.std.specs.List.{All, IsDistinct}
use Rattle.std.proofs.Common.{zero, suc, inl, inr, get_or, sym, ap, ◌∙◌, refl, arith, length-append, append_assoc, append-nil, true≢false}
use Rattle.std.proofs.Math.ListN.{get_or-append}
use Rattle.std.proofs.lemmas.Bool.{cases_lt}
use Rattle.std.proofs.lemmas.List.{get_or-map}
use Rattle.std.proofs.lemmas.Map.Keys.{apart_from_distinct}

-- the parts of a table stay where they are when there are more
abbrev pub AreGrown : {T : Type 0} → List T → List T → Type 0
AreGrown {T} old new = (more : List T) × (new ≡ old ++ more)

-- each is the number of a part
abbrev pub AreNumbers : {T : Type 0} → List T → List ℕ → Type 0
AreNumbers parts ns = All (λ n. n < length parts) ns

-- the part with a number, as it is shown
abbrev pub part_of : {T W : Type 0} → (T → W) → W → List T → ℕ → W
part_of seen none parts n = slice_index_or (map seen parts) n none

abbrev pub parts_of : {T W : Type 0} → (T → W) → W → List T → List ℕ → List W
parts_of seen none parts ns = map (part_of seen none parts) ns

-- ---- what holds of them

pub grown_itself : {T : Type 0} (xs : List T) → AreGrown xs xs
grown_itself xs = ([], sym (append-nil xs))

pub grown_on : {T : Type 0} (xs ys zs : List T) → AreGrown xs ys → AreGrown ys zs → AreGrown xs zs
grown_on xs ys zs e f = (e.0 ++ f.0, f.1 ∙ ap (λ v. v ++ f.0) e.1 ∙ append_assoc xs e.0 f.0)

pub grown_length : {T : Type 0} (old new : List T) → AreGrown old new → (n : ℕ) → n < length old → n < length new
grown_length old new e n l = (let m = ap length e.1 ∙ length-append old e.0 in omega (arith, m))

pub numbers_stay : {T : Type 0} (old new : List T) (ns : List ℕ) → AreGrown old new → AreNumbers old ns → AreNumbers new ns
numbers_stay old new ns e a k d l = grown_length old new e _ (a k d l)

map-append : {T W : Type 0} (f : T → W) (xs ys : List T) → map f (xs ++ ys) ≡ map f xs ++ map f ys
map-append f [] ys = refl
map-append f (x ∷ xs) ys = ap (λ v. f x ∷ v) (map-append f xs ys)

map-length : {T W : Type 0} (f : T → W) (xs : List T) → length (map f xs) ≡ length xs
map-length f [] = refl
map-length f (x ∷ xs) = ap suc (map-length f xs)

pub part_stays : {T W : Type 0} (seen : T → W) (none : W) (old new : List T) (n : ℕ) → AreGrown old new → n < length old
    → part_of seen none new n ≡ part_of seen none old n
part_stays seen none old new n e l =
    let m = map-length seen old in
    ap (λ v. get_or (map seen v) n none) e.1 ∙ ap (λ v. get_or v n none) (map-append seen old e.0)
    ∙ get_or-append (map seen old) (map seen e.0) none n (omega (arith, m))

-- states that are lists of numbers show the same when the table has grown
pub parts_stay : {T W : Type 0} (seen : T → W) (none : W) (old new : List T) (ns : List ℕ) → AreGrown old new → AreNumbers old ns
    → parts_of seen none new ns ≡ parts_of seen none old ns
parts_stay seen none old new [] e a = refl
parts_stay seen none old new (n ∷ ns) e a =
    let here = part_stays seen none old new n e (a zero zero (omega arith)) in
    let rest = parts_stay seen none old new ns e (λ k d l. a (suc k) d (omega (arith, l))) in
    λ i. here i ∷ rest i

module _ {T W : Type 0} (seen : T → W) (none : W) (eq : T → T → Bool) (decides : (x y : T) → Decides (eq x y) (seen x ≡ seen y)) where
  clash : (parts : List T) → IsDistinct eq parts → (n m : ℕ) → n < m → m < length parts
      → part_of seen none parts n ≡ part_of seen none parts m → ⊥
  clash [] u n m l h e = absurd (omega arith)
  clash (p ∷ ps) u n m l h e =
      true≢false (sym ((decides (get_or (p ∷ ps) n p) (get_or (p ∷ ps) m p)).1
      (sym (get_or-map seen (p ∷ ps) n p none (omega (arith, h, l))) ∙ e ∙ get_or-map seen (p ∷ ps) m p none h))
      ∙ apart_from_distinct eq (p ∷ ps) n m p u l h)

  pub number_apart : (parts : List T) → IsDistinct eq parts → (n m : ℕ) → n < length parts → m < length parts
      → part_of seen none parts n ≡ part_of seen none parts m
      → n ≡ m
  number_apart parts u n m ln lm e =
      elim (cases_lt n m) [
        | inl a ↦ absurd (clash parts u n m a lm e)
        | inr a ↦ elim (cases_lt m n) [ inl b ↦ absurd (clash parts u m n b ln (sym e)) | inr b ↦ omega (arith, a, b) ]
      ]

  -- states that show the same are the same numbers
  pub numbers_apart : (parts : List T) → IsDistinct eq parts → (ns ms : List ℕ) → AreNumbers parts ns → AreNumbers parts ms
      → parts_of seen none parts ns ≡ parts_of seen none parts ms
      → ns ≡ ms
  numbers_apart parts u [] [] a b e = refl
  numbers_apart parts u [] (m ∷ ms) a b e = absurd (cc)
  numbers_apart parts u (n ∷ ns) [] a b e = absurd (cc)
  numbers_apart parts u (n ∷ ns) (m ∷ ms) a b e =
      let first : part_of seen none parts n ≡ part_of seen none parts m = cc in
      let more : parts_of seen none parts ns ≡ parts_of seen none parts ms = cc in
      let here = number_apart parts u n m (a zero zero (omega arith)) (b zero zero (omega arith)) first in
      let rest = numbers_apart parts u ns ms (λ k d l. a (suc k) d (omega (arith, l))) (λ k d l. b (suc k) d (omega (arith, l))) more in
      λ i. here i ∷ rest i
