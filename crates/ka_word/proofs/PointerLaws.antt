-- Pointers that are incremented.
use Rattle.std.proofs.Common.{◌≡◌, ◌∙◌, ℕ, zero, suc, ◌+◌, ◌-◌, ◌*◌, ◌/◌, ◌%◌, ◌^◌, ◌<◌, ◌≤◌, refl, sym, ap, arith}
use Rattle.std.proofs.lemmas.Bool.{le-leb, lt-leb}
use Rattle.std.proofs.Math.Nat.{add-mul}
use Rattle.ka_word.specs.Bytes.{incremented, position_of, size_of}
use Rattle.ka_word.specs.Laws.{times}

-- where there is room for the byte
incremented_within : (p : ℕ) → size_of p ≤ position_of p → incremented p ≡ p - size_of p * 2 ^ 30
unfolding incremented
incremented_within p h = rw (le-leb (size_of p) (position_of p) h) refl

incremented_past : (p : ℕ) → position_of p < size_of p → incremented p ≡ (36 - size_of p) * 2 ^ 30 + p / 2 ^ 18 % 2 ^ 12 * 2 ^ 18 + (p + 1) % 2 ^ 18
unfolding incremented
incremented_past p h = rw (lt-leb (size_of p) (position_of p) h) refl

-- the fields of a number that is moved down by s * 2 ^ 30
moved_down : (q s : ℕ) → s ≤ q / 2 ^ 30 → ((q - s * 2 ^ 30) / 2 ^ 30 ≡ q / 2 ^ 30 - s) × ((q - s * 2 ^ 30) % 2 ^ 30 ≡ q % 2 ^ 30)
moved_down q s h = (omega arith, omega arith)

size_by_rest : (p q : ℕ) → q % 2 ^ 30 ≡ p % 2 ^ 30 → size_of q ≡ size_of p
size_by_rest p q e = size_within q ∙ (ap (λ (r : ℕ). r / 2 ^ 24) e ∙ sym (size_within p))
  where
    size_within : (p : ℕ) → size_of p ≡ p % 2 ^ 30 / 2 ^ 24
    size_within p = omega arith

pub within_law : (p n : ℕ) → p < 2 ^ 36 → n * size_of p ≤ position_of p
    → (position_of (times n incremented p) ≡ position_of p - n * size_of p) × (times n incremented p % 2 ^ 30 ≡ p % 2 ^ 30)
unfolding times
within_law p zero b h = (omega arith, refl)
within_law p (suc n) b h =
    let d : suc n * size_of p ≡ n * size_of p + size_of p = next_product n (size_of p) in
    let q : ℕ = times n incremented p in
    let r = within_law p n b (omega arith) in
    let s : size_of (times n incremented p) ≡ size_of p = size_by_rest p (times n incremented p) r.1 in
    let room : size_of p ≤ position_of (times n incremented p) = omega (arith, r.0) in
    let e : incremented (times n incremented p) ≡ times n incremented p - size_of p * 2 ^ 30 =
    incremented_within (times n incremented p) (rw s room) ∙ ap (λ (k : ℕ). times n incremented p - k * 2 ^ 30) s in
    let m = moved_down (times n incremented p) (size_of p) room in (
      ap position_of e
          ∙ (m.0
          ∙ last_step (position_of (times n incremented p)) (position_of p) (n * size_of p) (size_of p) (suc n * size_of p) r.0 d),
      ap (λ (k : ℕ). k % 2 ^ 30) e ∙ (m.1 ∙ r.1),
    )
  where
    next_product : (n s : ℕ) → suc n * s ≡ n * s + s
    next_product n s = let e : suc n ≡ n + 1 = omega arith in omega (arith, ap (λ (k : ℕ). k * s) e, add-mul n 1 s)

    last_step : (x y a s b : ℕ) → x ≡ y - a → b ≡ a + s → x - s ≡ y - b
    last_step x y a s b e f = omega arith

fields_past : (x y z : ℕ) → x < 2 ^ 6 → y < 2 ^ 12 → z < 2 ^ 18
    → ((x * 2 ^ 30 + y * 2 ^ 18 + z) / 2 ^ 30 ≡ x) × ((x * 2 ^ 30 + y * 2 ^ 18 + z) % 2 ^ 30 / 2 ^ 18 ≡ y)
    × ((x * 2 ^ 30 + y * 2 ^ 18 + z) % 2 ^ 18 ≡ z)
fields_past x y z a b c = (omega arith, omega arith, omega arith)

pub onward_law : (p : ℕ) → p < 2 ^ 36 → position_of p < size_of p
    → (position_of (incremented p) ≡ 36 - size_of p) × (incremented p % 2 ^ 30 / 2 ^ 18 ≡ p % 2 ^ 30 / 2 ^ 18)
    × (incremented p % 2 ^ 18 ≡ (p + 1) % 2 ^ 18)
onward_law p b h =
    let e = incremented_past p h in
    let f = fields_past (36 - size_of p) (p / 2 ^ 18 % 2 ^ 12) ((p + 1) % 2 ^ 18) (omega arith) (omega arith) (omega arith) in
    let y : p / 2 ^ 18 % 2 ^ 12 ≡ p % 2 ^ 30 / 2 ^ 18 = omega arith in
    (ap position_of e ∙ f.0, ap (λ (k : ℕ). k % 2 ^ 30 / 2 ^ 18) e ∙ (f.1 ∙ y), ap (λ (k : ℕ). k % 2 ^ 18) e ∙ f.2)
