-- A word as it is printed is read back.
use Rattle.std.proofs.Common.{◌≡◌, ◌<◌, ◌∙◌, sym, ap, ℕ, ◌+◌, ◌*◌, ◌/◌, ◌%◌, ◌^◌, ◌==◌, Bool, true, false, nat_eq, nat_le}
use Rattle.std.proofs.Common.{[], ◌∷◌, Option, Some, None, option_map, if◌then◌else◌, arith, refl}
use Rattle.std.specs.Prelude.{pos}
use Rattle.std.proofs.lemmas.Bool.{cond-true, eqb-true, le-leb}
use Rattle.std.proofs.lemmas.Bool.Decides.{nat_tests}
use Rattle.word36.specs.Words.{left_half, right_half}
use Rattle.ka_isa.specs.declared.Fields.{Fields}
use Rattle.ka_isa.specs.Fields.{fields_of, word_of as encoded}
use Rattle.ka_isa.specs.Operations.{Name, name_of}
use Rattle.mac_text.specs.Printed.{number_alone, unless_zero, instruction_with, named_data, data_of_word}
use Rattle.mac_layout.specs.Values.{◌>>=◌, Names, value_of, residue_of}
use Rattle.mac_asm.specs.Words.{fitted, half_of, register_of, or_zero, operand_of, with_accumulator, with_operand, instruction_of, halves_of, words_of}

pub value-number : (names : Names) (n : ℕ) → value_of names (number_alone n) ≡ Some (pos n)
unfolding value_of
value-number names n =
    let e : 0 + n ≡ n = omega (arith) in
    ap (λ p. Some (pos p)) e

pub half-residue : (n : ℕ) → n < 2 ^ 18 → residue_of 262143 262143 262144 (pos n) ≡ Some n
unfolding residue_of
half-residue n h =
    let e : n % 262144 ≡ n = omega (arith, h) in
    cond-true (nat_le n 262143) _ _ (le-leb n 262143 (omega (arith, h))) ∙ ap Some e

pub register-residue : (n : ℕ) → n < 2 ^ 4 → residue_of 0 15 16 (pos n) ≡ Some n
unfolding residue_of
register-residue n h =
    let e : n % 16 ≡ n = omega (arith, h) in
    cond-true (nat_le n 15) _ _ (le-leb n 15 (omega (arith, h))) ∙ ap Some e

half-number : (names : Names) (n : ℕ) → n < 2 ^ 18 → half_of names (number_alone n) ≡ Some n
unfolding fitted
half-number names n h = ap (λ o. o >>= residue_of 262143 262143 262144) (value-number names n) ∙ half-residue n h

register-number : (names : Names) (n : ℕ) → n < 2 ^ 4 → register_of names (number_alone n) ≡ Some n
unfolding fitted
register-number names n h = ap (λ o. o >>= residue_of 0 15 16) (value-number names n) ∙ register-residue n h

index-at : (names : Names) (n : ℕ) → n < 2 ^ 4 → (b : Bool) → (n == 0) ≡ b
    → or_zero (register_of names) (if b then None else Some (number_alone n)) ≡ Some n
index-at names n h true e = ap Some (sym (eqb-true n 0 e))
index-at names n h false e = register-number names n h

-- a register that is not written is 0
index-number : (names : Names) (n : ℕ) → n < 2 ^ 4 → or_zero (register_of names) (unless_zero n) ≡ Some n
index-number names n h = index-at names n h (n == 0) refl

accumulator-at : (names : Names) (f : Fields) (n : ℕ) → n < 2 ^ 4 → f.ac ≡ 0 → (b : Bool) → (n == 0) ≡ b
    → with_accumulator names f (if b then None else Some (number_alone n)) ≡ Some (record f { ac = n })
unfolding with_accumulator
accumulator-at names f n h z true e = ap (λ m. Some (record f { ac = m })) (z ∙ sym (eqb-true n 0 e))
accumulator-at names f n h z false e = ap (λ o. o >>= λ ac. Some (record f { ac = ac })) (register-number names n h)

operand-number : (names : Names) (i : Bool) (x y : ℕ) → x < 2 ^ 4 → y < 2 ^ 18
    → operand_of names (record { indirect = i; address = Some (number_alone y); index = unless_zero x }) ≡ Some (i, x, y)
unfolding operand_of
operand-number names i x y h g =
    ap (λ o. o >>= λ n. half_of names (number_alone y) >>= λ m. Some (i, n, m)) (index-number names x h)
    ∙ ap (λ o. o >>= λ m. Some (i, x, m)) (half-number names y g)

operand-written : (names : Names) (f : Fields) (i : Bool) (x y : ℕ) → x < 2 ^ 4 → y < 2 ^ 18
    → with_operand names f (record { indirect = i; address = Some (number_alone y); index = unless_zero x }) ≡ Some (record f { i = i; x = x; y = y })
unfolding with_operand
operand-written names f true x y h g = ap (λ o. o >>= λ p. Some (record f { i = p.0; x = p.1; y = p.2 })) (operand-number names true x y h g)
operand-written names f false x y h g = ap (λ o. o >>= λ p. Some (record f { i = p.0; x = p.1; y = p.2 })) (operand-number names false x y h g)

bit-clear : (n : ℕ) → n < 2 → nat_eq n 1 ≡ false → n ≡ 0
bit-clear n l h = grind (arith, nat_tests)

sum-back : (w : ℕ) (b : Bool) → nat_eq (w / 2 ^ 22 % 2) 1 ≡ b
    → w / 2 ^ 27 * 2 ^ 27 + w / 2 ^ 23 % 2 ^ 4 * 2 ^ 23 + (if b then 2 ^ 22 else 0) + w / 2 ^ 18 % 2 ^ 4 * 2 ^ 18 + w % 2 ^ 18 ≡ w
sum-back w true h =
    let e : w / 2 ^ 22 % 2 ≡ 1 = eqb-true (w / 2 ^ 22 % 2) 1 h in
    omega (arith, e)
sum-back w false h =
    let e : w / 2 ^ 22 % 2 ≡ 0 = bit-clear (w / 2 ^ 22 % 2) (omega (arith)) h in
    omega (arith, e)

-- the word of the fields of a word is the word
pub fields-back : (w : ℕ) → encoded (fields_of w) ≡ w
fields-back w = sum-back w (nat_eq (w / 2 ^ 22 % 2) 1) refl

instruction-back : (names : Names) (w : ℕ) → w < 2 ^ 36 → instruction_of names (instruction_with (fields_of w)) ≡ Some w
unfolding instruction_of
instruction-back names w h =
    let f = fields_of w in
    let base = fields_of (f.op * 2 ^ 27) in
    let z : base.ac ≡ 0 = omega (arith, h) in
    let ac : f.ac < 2 ^ 4 = omega (arith) in
    let x : f.x < 2 ^ 4 = omega (arith) in
    let y : f.y < 2 ^ 18 = omega (arith) in
    let op : (f.op * 2 ^ 27) / 2 ^ 27 ≡ f.op = omega (arith) in
    ap (λ o. o >>= λ g. with_operand names g (record { indirect = f.i; address = Some (number_alone f.y); index = unless_zero f.x }) >>= λ k. Some (encoded k))
    (accumulator-at names base f.ac ac z (f.ac == 0) refl)
    ∙ ap (λ o. o >>= λ k. Some (encoded k)) (operand-written names (record base { ac = f.ac }) f.i f.x f.y x y)
    ∙ ap Some (ap (λ o. encoded (record { op = o; ac = f.ac; i = f.i; x = f.x; y = f.y })) op ∙ fields-back w)

halves-back : (names : Names) (w : ℕ) → w < 2 ^ 36 → halves_of names (number_alone (left_half w)) (number_alone (right_half w)) ≡ Some w
unfolding halves_of
halves-back names w h =
    let l : left_half w < 2 ^ 18 = omega (arith, h) in
    let r : right_half w < 2 ^ 18 = omega (arith) in
    let e : left_half w * 2 ^ 18 + right_half w ≡ w = omega (arith) in
    ap (λ o. o >>= λ a. half_of names (number_alone (right_half w)) >>= λ b. Some (a * 2 ^ 18 + b)) (half-number names (left_half w) l)
    ∙ ap (λ o. o >>= λ b. Some (left_half w * 2 ^ 18 + b)) (half-number names (right_half w) r)
    ∙ ap Some e

words-at : (names : Names) (w : ℕ) → w < 2 ^ 36 → (o : Option Name) → words_of names (named_data o w) ≡ Some (w ∷ [])
unfolding words_of
words-at names w h (Some name) = ap (λ o. option_map (λ v. v ∷ []) o) (instruction-back names w h)
words-at names w h None = ap (λ o. option_map (λ v. v ∷ []) o) (halves-back names w h)

pub words_back : (names : Names) (w : ℕ) → w < 2 ^ 36 → words_of names (data_of_word w) ≡ Some (w ∷ [])
words_back names w h = words-at names w h (name_of (w / 2 ^ 27))
