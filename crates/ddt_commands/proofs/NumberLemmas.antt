-- Digits that are read one after the other.
use Rattle.std.specs.Prelude.{◌==◌, min, nat_lt, if◌then◌else◌}
use Rattle.std.specs.List.{list_all}
use Rattle.std.proofs.Common.{◌≡◌, ◌≤◌, ◌<◌, ◌+◌, ◌-◌, ◌*◌, ◌^◌, ◌&&◌, ◌∙◌, ap, refl, sym, ℕ, suc, Bool, true, false, List, [], ◌∷◌}
use Rattle.std.proofs.Common.{Some, None, length, get_or, drop, drop-cons, add-one, arith}
use Rattle.std.proofs.lemmas.Bool.{false≢true, le-leb, lt-ltb}
use Rattle.std.proofs.lemmas.Bool.Decides.{nat_tests}
use Rattle.std.proofs.lemmas.Nat.{mul-le}
use Rattle.ddt_commands.specs.Numbers.{is_digit, number_behind, number_of}

-- what is too large stays so by more digits
by_size : (small : Bool) (radix d a b : ℕ) → nat_lt a (2 ^ 40) ≡ small → 2 ≤ radix → min (2 ^ 40) a ≡ min (2 ^ 40) b
    → min (2 ^ 40) (a * radix + (d - 48)) ≡ min (2 ^ 40) (b * radix + (d - 48))
by_size true radix d a b is least same =
    let below : a < 2 ^ 40 = grind (arith, nat_tests, is) in
    let equal : a ≡ b = omega (arith, below, same) in
    ap (λ (n : ℕ). min (2 ^ 40) (n * radix + (d - 48))) equal
by_size false radix d a b is least same =
    let large : 2 ^ 40 ≤ a = grind (arith, nat_tests, is) in
    let other : 2 ^ 40 ≤ b = omega (arith, large, same) in
    let one : a * 1 ≤ a * radix = mul-le a 1 a radix (omega arith) (omega arith) in
    let two : b * 1 ≤ b * radix = mul-le b 1 b radix (omega arith) (omega arith) in
    omega (arith, large, other, one, two)

short_on : (radix d a b : ℕ) → 2 ≤ radix → min (2 ^ 40) a ≡ min (2 ^ 40) b
    → min (2 ^ 40) (a * radix + (d - 48)) ≡ min (2 ^ 40) (b * radix + (d - 48))
short_on radix d a b least same = by_size (nat_lt a (2 ^ 40)) radix d a b refl least same

pub number_short : (radix : ℕ) (ds : List ℕ) (a b : ℕ) → 2 ≤ radix → min (2 ^ 40) a ≡ min (2 ^ 40) b
    → min (2 ^ 40) (number_behind radix a ds) ≡ min (2 ^ 40) (number_behind radix b ds)
number_short radix [] a b least same = same
number_short radix (d ∷ ds) a b least same =
    number_short radix ds (a * radix + (d - 48)) (b * radix + (d - 48)) least (short_on radix d a b least same)

a_digit : (radix byte : ℕ) → 48 ≤ byte → byte < 48 + radix → is_digit radix byte ≡ true
a_digit radix byte least most =
    ap (λ (b : Bool). b && nat_lt byte (48 + radix)) (le-leb 48 byte least) ∙ lt-ltb byte (48 + radix) most

-- one digit more is read
pub digits_on : (radix : ℕ) (text : List ℕ) (i : ℕ) → i < length text → 48 ≤ get_or text i 0 → get_or text i 0 < 48 + radix
    → list_all (is_digit radix) (drop (i + 1) text) ≡ list_all (is_digit radix) (drop i text)
digits_on radix text i within least most =
    ap (λ (n : ℕ). list_all (is_digit radix) (drop n text)) (add-one i)
    ∙ ap (λ (b : Bool). b && list_all (is_digit radix) (drop (suc i) text)) (sym (a_digit radix (get_or text i 0) least most))
    ∙ ap (λ (l : List ℕ). list_all (is_digit radix) l) (sym (drop-cons text i 0 within))

pub number_on : (radix so_far : ℕ) (text : List ℕ) (i : ℕ) → i < length text
    → number_behind radix (so_far * radix + (get_or text i 0 - 48)) (drop (i + 1) text) ≡ number_behind radix so_far (drop i text)
number_on radix so_far text i within =
    ap (λ (n : ℕ). number_behind radix (so_far * radix + (get_or text i 0 - 48)) (drop n text)) (add-one i)
    ∙ ap (λ (l : List ℕ). number_behind radix so_far l) (sym (drop-cons text i 0 within))

-- a text of which it is known that it is not empty
pub not_empty : (text : List ℕ) (empty : Bool) → empty ≡ (length text == 0) → empty ≡ false → 0 < length text
not_empty [] empty is not = absurd (false≢true (sym not ∙ is))
not_empty (c ∷ text) empty is not = omega arith

-- a text of digits has a number
pub number_found : (radix : ℕ) (text : List ℕ) → 0 < length text → list_all (is_digit radix) text ≡ true
    → number_of radix text ≡ Some (number_behind radix 0 text)
number_found radix text some all =
    ap (λ (b : Bool). if b && list_all (is_digit radix) text then Some (number_behind radix 0 text) else None) (lt-ltb 0 (length text) some)
    ∙ ap (λ (b : Bool). if b then Some (number_behind radix 0 text) else None) all
