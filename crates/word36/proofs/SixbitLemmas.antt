-- The six codes of a text, position by position.
use Rattle.std.proofs.Common.{◌≡◌, ℕ, ◌+◌, ◌-◌, ◌*◌, ◌<◌, ◌≤◌, ◌^◌, List, length, length-append, get_or, map, replicate, true, ◌∙◌, add-one, arith}
use Rattle.std.specs.Prelude.{nat_le}
use Rattle.std.specs.List.{list_all}
use Rattle.std.proofs.lemmas.List.{get_or_append_left, get_or-map, get_or-replicate, length-replicate, length-map}
use Rattle.std.proofs.lemmas.List.Folds.{list_all_at}
use Rattle.std.proofs.lemmas.Bool.{both_ways, true_from_ne_false, and_parts, leb-true}
use Rattle.std.proofs.Math.Seq.{get_or-append_right}
use Rattle.std.proofs.Math.Nat.{pow-suc, pow-le-pow_right}
use Rattle.word36.specs.Sixbit.{is_sixbit, six_codes}

pub in_range : (text : List ℕ) (i : ℕ) → list_all is_sixbit text ≡ true → i < length text → (0o40 ≤ get_or text i 0) × (get_or text i 0 ≤ 0o137)
in_range text i h k =
    let c = get_or text i 0 in
    let t : is_sixbit c ≡ true = true_from_ne_false _ (λ e. both_ways _ (list_all_at is_sixbit text i 0 k e) h) in
    let p = and_parts (nat_le 0o40 c) (nat_le c 0o137) t in
    (leb-true 0o40 c p.0, leb-true c 0o137 p.1)

pub length_six_codes : (text : List ℕ) → length text ≤ 6 → length (six_codes text) ≡ 6
length_six_codes text h =
    omega (
      arith,
      length-append (map (λ c. c - 0o40) text) (replicate (6 - length text) 0),
      length-map text (λ c. c - 0o40),
      length-replicate {A = ℕ} (6 - length text) 0,
    )

pub code_within : (text : List ℕ) (i : ℕ) → i < length text → get_or (six_codes text) i 0 ≡ get_or text i 0 - 0o40
code_within text i h =
    let n = length-map text (λ c. c - 0o40) in
    get_or_append_left (map (λ c. c - 0o40) text) (replicate (6 - length text) 0) 0 i (omega arith) ∙ get_or-map (λ c. c - 0o40) text i 0 0 h

pub code_past : (text : List ℕ) (i : ℕ) → length text ≤ i → i < 6 → get_or (six_codes text) i 0 ≡ 0
code_past text i h k =
    let n = length-map text (λ c. c - 0o40) in
    get_or-append_right (map (λ c. c - 0o40) text) (replicate (6 - length text) 0) i 0 (omega arith)
    ∙ get_or-replicate (6 - length text) (i - length (map (λ c. c - 0o40) text)) 0 0 (omega arith)

-- what has been read fills no more than its positions
pub below_word : (number position : ℕ) → position ≤ 6 → number < 64 ^ position → number < 2 ^ 36
below_word number position h k = let m = pow-le-pow_right {n = 64} (omega arith) h in omega (arith, m)

pub one_more : (number position code : ℕ) → number < 64 ^ position → code < 64 → number * 64 + code < 64 ^ (position + 1)
one_more number position code h k = rw add-one (omega (arith, pow-suc 64 position))

pub ruleset sixbit_codes = (code_within, code_past, in_range)
