-- A list as it is parted: one character more.
use Rattle.std.proofs.Common.{◌≡◌, ℕ, ◌+◌, ◌≤◌, Bool, true, false, ◌==◌, List, [], ◌∷◌, ◌++◌, length, drop, get_or, drop-cons, suc, ◌<◌, sym, ap, ◌∙◌, arith}
use Rattle.std.specs.Prelude.{if◌then◌else◌, ◌||◌, ◌&&◌}
use Rattle.macro_expansion.specs.Brackets.{is_space}
use Rattle.macro_expansion.specs.Rounds.{Round, Parting, counting, parted_next, parted}

-- a character opens at most one bracket: what holds of both holds of either
either : (f : Parting → ℕ) (n : ℕ) (b : Bool) (p q : Parting) → f p ≤ n → f q ≤ n → f (if b then p else q) ≤ n
either f n true p q l r = l
either f n false p q l r = r

abbrev angles_of : Parting → ℕ
angles_of p = p.angles

abbrev others_of : Parting → ℕ
others_of p = p.others

counting_angles : (c : ℕ) (p : Parting) → (counting c p).angles ≤ p.angles + 1
counting_angles c p =
    either angles_of (p.angles + 1) (c == 60) _ _ (omega arith)
    (either angles_of (p.angles + 1) (c == 62) _ _ (omega arith)
    (either angles_of (p.angles + 1) (c == 40 || c == 91) _ _ (omega arith)
    (either angles_of (p.angles + 1) (c == 41 || c == 93) _ _ (omega arith) (omega arith))))

counting_others : (c : ℕ) (p : Parting) → (counting c p).others ≤ p.others + 1
counting_others c p =
    either others_of (p.others + 1) (c == 60) _ _ (omega arith)
    (either others_of (p.others + 1) (c == 62) _ _ (omega arith)
    (either others_of (p.others + 1) (c == 40 || c == 91) _ _ (omega arith)
    (either others_of (p.others + 1) (c == 41 || c == 93) _ _ (omega arith) (omega arith))))

pub angles_grow : (by_character : Bool) (r : Round) (c : ℕ) (p : Parting) → (parted_next by_character r c p).angles ≤ p.angles + 1
angles_grow true r c p = omega arith
angles_grow false r c p =
    either angles_of (p.angles + 1) (c == 44 && (p.angles == 0 && p.others == 0)) _ _ (omega arith)
    (either angles_of (p.angles + 1) (is_space c) _ _
    (either angles_of (p.angles + 1) (length p.text == 0) _ _ (omega arith) (omega arith))
    (counting_angles c (record p { text = p.text ++ c ∷ []; kept = length p.text + 1 })))

pub others_grow : (by_character : Bool) (r : Round) (c : ℕ) (p : Parting) → (parted_next by_character r c p).others ≤ p.others + 1
others_grow true r c p = omega arith
others_grow false r c p =
    either others_of (p.others + 1) (c == 44 && (p.angles == 0 && p.others == 0)) _ _ (omega arith)
    (either others_of (p.others + 1) (is_space c) _ _
    (either others_of (p.others + 1) (length p.text == 0) _ _ (omega arith) (omega arith))
    (counting_others c (record p { text = p.text ++ c ∷ []; kept = length p.text + 1 })))

-- a character is taken, and more may come
pub goes_on : (by_character : Bool) (r : Round) (p q : Parting) (list : List ℕ) (i : ℕ) (total : Parting) → i < length list
    → q ≡ parted_next by_character r (get_or list i 0) p → parted by_character r p (drop i list) ≡ total
    → parted by_character r q (drop (i + 1) list) ≡ total
unfolding parted
goes_on by_character r p q list i total below is so_far =
    let one : suc i ≡ i + 1 = omega arith in
    let next : drop i list ≡ get_or list i 0 ∷ drop (i + 1) list =
    drop-cons list i 0 below ∙ ap (λ n. get_or list i 0 ∷ drop n list) one
    in
    ap (λ x. parted by_character r x (drop (i + 1) list)) is ∙ (sym (ap (parted by_character r p) next) ∙ so_far)
