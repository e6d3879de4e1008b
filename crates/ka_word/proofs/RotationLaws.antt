-- Rotations forth and back.
use Rattle.std.proofs.Common.{◌≡◌, ◌∙◌, ℕ, ◌+◌, ◌-◌, ◌*◌, ◌/◌, ◌%◌, ◌^◌, ◌<◌, ◌≤◌, inl, inr, cond, refl, sym, ap, arith}
use Rattle.std.proofs.lemmas.Bool.{lt-ltb, le-ltb, cases_order}
use Rattle.std.proofs.lemmas.Nat.{mod_below, mod_low, shr_below, shr_high, shr_split}
use Rattle.std.proofs.Math.Nat.{div-eq_of_lt, mod-eq_of_lt}
use Rattle.ka_word.specs.Shifts.{is_left, places_of, rot_of, rotc_of, turned_left, turned_right}
use Rattle.ka_word.specs.Laws.{opposite}

-- turned by r places and then by the others, n bits stand as before
turn_back : (n r w : ℕ) → w < 2 ^ n → r ≤ n → turned_left n (n - r) (turned_left n r w) ≡ w
turn_back n r w h b =
    let s : r + (n - r) ≡ n = omega arith in
    let e : n - (n - r) ≡ r = omega arith in
    let hw : w < 2 ^ (r + (n - r)) = rw s h in
    let q : w / 2 ^ (n - r) < 2 ^ r = shr_below w r (n - r) hw in
    let low = mod_low (w % 2 ^ (n - r)) r (w / 2 ^ (n - r)) q in
    let high = shr_high (w % 2 ^ (n - r)) r (w / 2 ^ (n - r)) q in
    rw (e, low, high) (shr_split w (n - r))

turn_none : (n w : ℕ) → w < 2 ^ n → turned_left n 0 w ≡ w
turn_none n w h =
    let e : n - 0 ≡ n = omega arith in
    let p : w % 2 ^ n ≡ w = mod-eq_of_lt h in
    let q : w / 2 ^ n ≡ 0 = div-eq_of_lt h in
    rw (e, p, q) (omega arith)

turn_all : (n w : ℕ) → w < 2 ^ n → turned_left n n w ≡ w
turn_all n w h = let e : n - n ≡ 0 = omega arith in rw e (by_one w (2 ^ n))
  where
    by_one : (w m : ℕ) → w % 1 * m + w / 1 ≡ w
    by_one w m = let p : w % 1 ≡ 0 = omega arith in rw p (omega arith)

-- a rotation of n bits by E
abbrev turn : ℕ → ℕ → ℕ → ℕ
turn n e w = cond (is_left e) (turned_left n (places_of e % n) w) (turned_right n (places_of e % n) w)

turn_left : (n e w : ℕ) → e < 2 ^ 17 → turn n e w ≡ turned_left n (e % 256 % n) w
turn_left n e w h = rw (lt-ltb e (2 ^ 17) h) refl

turn_right : (n e w : ℕ) → 2 ^ 17 ≤ e → turn n e w ≡ turned_left n (n - (2 ^ 18 - e) % 256 % n) w
turn_right n e w h = rw (le-ltb e (2 ^ 17) h) refl

turn_zero : (n w : ℕ) → 0 < n → w < 2 ^ n → turn n 0 w ≡ w
turn_zero n w p h = let e : 0 % n ≡ 0 = mod-eq_of_lt p in turn_left n 0 w (omega arith) ∙ rw e (turn_none n w h)

turn_half : (n w : ℕ) → 0 < n → w < 2 ^ n → turn n (2 ^ 17) w ≡ w
turn_half n w p h = let e : 0 % n ≡ 0 = mod-eq_of_lt p in
    turn_right n (2 ^ 17) w (omega arith) ∙ (let f : n - 0 ≡ n = omega arith in rw (e, f) (turn_all n w h))

turn_opposite : (n e w : ℕ) → 0 < n → e < 2 ^ 18 → w < 2 ^ n → turn n (opposite e) (turn n e w) ≡ w
turn_opposite n e w p b h = elim (cases_order e (2 ^ 17)) [
  | inl k ↦ rw k (ap (λ (v : ℕ). turn n (2 ^ 17) v) (turn_half n w p h) ∙ turn_half n w p h)
  | inr k ↦ elim k [
    | inl l ↦ elim (cases_order e 0) [
      | inl z ↦ rw z (ap (λ (v : ℕ). turn n 0 v) (turn_zero n w p h) ∙ turn_zero n w p h)
      | inr y ↦ from_left n e w p h (omega arith) l
    ]
    | inr g ↦ from_right n e w p h g b
  ]
]
  where
    from_left : (n e w : ℕ) → 0 < n → w < 2 ^ n → 0 < e → e < 2 ^ 17 → turn n (opposite e) (turn n e w) ≡ w
    from_left n e w p h z l =
        let o : opposite e ≡ 2 ^ 18 - e = omega arith in
        let i : 2 ^ 18 - (2 ^ 18 - e) ≡ e = omega arith in
        let r : e % 256 % n < n = mod_below (e % 256) n p in
        ap (λ (v : ℕ). turn n (opposite e) v) (turn_left n e w l)
        ∙ (ap (λ (d : ℕ). turn n d (turned_left n (e % 256 % n) w)) o
        ∙ (turn_right n (2 ^ 18 - e) (turned_left n (e % 256 % n) w) (omega arith)
        ∙ rw i (turn_back n (e % 256 % n) w h (omega arith))))

    from_right : (n e w : ℕ) → 0 < n → w < 2 ^ n → 2 ^ 17 < e → e < 2 ^ 18 → turn n (opposite e) (turn n e w) ≡ w
    from_right n e w p h g b =
        let o : opposite e ≡ 2 ^ 18 - e = omega arith in
        let r : ℕ = (2 ^ 18 - e) % 256 % n in
        let q : (2 ^ 18 - e) % 256 % n < n = mod_below ((2 ^ 18 - e) % 256) n p in
        let i : n - (n - r) ≡ r = omega arith in
        ap (λ (v : ℕ). turn n (opposite e) v) (turn_right n e w (omega arith))
        ∙ (ap (λ (d : ℕ). turn n d (turned_left n (n - r) w)) o
        ∙ (turn_left n (2 ^ 18 - e) (turned_left n (n - r) w) (omega arith)
        ∙ (ap (λ (k : ℕ). turned_left n k (turned_left n (n - r) w)) (sym i) ∙ turn_back n (n - r) w h (omega arith))))

pub word_law : (e w : ℕ) → e < 2 ^ 18 → w < 2 ^ 36 → rot_of (opposite e) (rot_of e w) ≡ w
unfolding rot_of
word_law e w b h = turn_opposite 36 e w (omega arith) b h

pub pair_law : (e d : ℕ) → e < 2 ^ 18 → d < 2 ^ 72 → rotc_of (opposite e) (rotc_of e d) ≡ d
unfolding rotc_of
pair_law e d b h = turn_opposite 72 e d (omega arith) b h
