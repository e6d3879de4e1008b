-- The value of the statement of a word is the word, where the labels that it speaks of have their addresses.
use Rattle.std.proofs.Common.{◌≡◌, ◌<◌, ◌≤◌, ◌∙◌, sym, ap, ℕ, ◌+◌, ◌*◌, ◌/◌, ◌%◌, ◌^◌, ◌==◌, Bool, true, false, nat_le}
use Rattle.std.proofs.Common.{[], ◌∷◌, Option, Some, None, option_map, if◌then◌else◌, arith, refl}
use Rattle.std.specs.Prelude.{pos}
use Rattle.std.proofs.lemmas.Bool.{cond-true, eqb-true, le-leb}
use Rattle.word36.specs.Words.{left_half, right_half}
use Rattle.ka_isa.specs.declared.Fields.{Fields}
use Rattle.ka_isa.specs.Fields.{fields_of, word_of as encoded}
use Rattle.ka_isa.specs.Operations.{Name, name_of}
use Rattle.mac_text.specs.Printed.{number_alone}
use Rattle.mac_layout.specs.Values.{◌>>=◌, Names, value_of, residue_of, natural_of}
use Rattle.mac_layout.specs.Addresses.{count_of}
use Rattle.mac_asm.specs.Words.{fitted, half_of, register_of, start_of, or_zero, operand_of, with_accumulator, with_operand, instruction_of, halves_of, words_of}
use Rattle.mac_source.proofs.LabelTexts.{read_number, number_value, size_value}
use Rattle.mac_source.proofs.Given.{symbol_at, label_alone, address_alone, register_if, operation_data, data_in, word_data}
use Rattle.asm_laws.proofs.Printed.{value-number, half-residue, register-residue, fields-back}

value-read : (names : Names) (n : ℕ) → n < 2 ^ 18 → value_of names (number_alone (read_number n)) ≡ Some (pos n)
value-read names n h = value-number names (read_number n) ∙ ap (λ m. Some (pos m)) (number_value n h)

value-label : (names : Names) (p : ℕ) → names.number_of (symbol_at p) ≡ Some p → value_of names (label_alone p) ≡ Some (pos p)
unfolding value_of
value-label names p h =
    let e : 0 + p ≡ p = omega (arith) in
    ap (λ o. o >>= λ n. Some (pos (0 + n))) h ∙ ap (λ q. Some (pos q)) e

-- what a label stands for, where one is written
abbrev pub IsKnown : Names → Bool → ℕ → Type 0
IsKnown names b p = b ≡ true → names.number_of (symbol_at p) ≡ Some p

value-address : (names : Names) (b : Bool) (y : ℕ) → y < 2 ^ 18 → IsKnown names b y → value_of names (address_alone b y) ≡ Some (pos y)
value-address names true y h known = value-label names y (known refl)
value-address names false y h known = value-read names y h

start-residue : (n : ℕ) → n < 2 ^ 18 → residue_of 0 262143 262144 (pos n) ≡ Some n
unfolding residue_of
start-residue n h =
    let e : n % 262144 ≡ n = omega (arith, h) in
    cond-true (nat_le n 262143) _ _ (le-leb n 262143 (omega (arith, h))) ∙ ap Some e

half-address : (names : Names) (b : Bool) (y : ℕ) → y < 2 ^ 18 → IsKnown names b y → half_of names (address_alone b y) ≡ Some y
unfolding fitted
half-address names b y h known = ap (λ o. o >>= residue_of 262143 262143 262144) (value-address names b y h known) ∙ half-residue y h

pub start-address : (names : Names) (b : Bool) (y : ℕ) → y < 2 ^ 18 → IsKnown names b y → start_of names (address_alone b y) ≡ Some y
unfolding fitted
start-address names b y h known = ap (λ o. o >>= residue_of 0 262143 262144) (value-address names b y h known) ∙ start-residue y h

pub count-number : (names : Names) (n : ℕ) → n < 2 ^ 18 → count_of names (number_alone (read_number n)) ≡ Some n
unfolding count_of natural_of
count-number names n h = ap (λ o. o >>= natural_of) (value-read names n h)

pub count-size : (names : Names) (n : ℕ) → n ≤ 2 ^ 18 → count_of names (number_alone (read_number n)) ≡ Some n
unfolding count_of natural_of
count-size names n h =
    ap (λ o. o >>= natural_of) (value-number names (read_number n) ∙ ap (λ m. Some (pos m)) (size_value n h))

half-number : (names : Names) (n : ℕ) → n < 2 ^ 18 → half_of names (number_alone (read_number n)) ≡ Some n
half-number names n h = half-address names false n h (λ e. absurd (cc))

register-number : (names : Names) (n : ℕ) → n < 2 ^ 4 → register_of names (number_alone (read_number n)) ≡ Some n
unfolding fitted
register-number names n h = ap (λ o. o >>= residue_of 0 15 16) (value-read names n (omega (arith, h))) ∙ register-residue n h

-- a register that is not written is 0
index-at : (names : Names) (n : ℕ) → n < 2 ^ 4 → (b : Bool) → (n == 0) ≡ b → or_zero (register_of names) (register_if b n) ≡ Some n
index-at names n h true e = ap Some (sym (eqb-true n 0 e))
index-at names n h false e = register-number names n h

accumulator-at : (names : Names) (f : Fields) (n : ℕ) → n < 2 ^ 4 → f.ac ≡ 0 → (b : Bool) → (n == 0) ≡ b
    → with_accumulator names f (register_if b n) ≡ Some (record f { ac = n })
unfolding with_accumulator
accumulator-at names f n h z true e = ap (λ m. Some (record f { ac = m })) (z ∙ sym (eqb-true n 0 e))
accumulator-at names f n h z false e = ap (λ o. o >>= λ ac. Some (record f { ac = ac })) (register-number names n h)

operand-value : (names : Names) (i b : Bool) (x y : ℕ) → x < 2 ^ 4 → y < 2 ^ 18 → IsKnown names b y
    → operand_of names (record { indirect = i; address = Some (address_alone b y); index = register_if (x == 0) x }) ≡ Some (i, x, y)
unfolding operand_of
operand-value names i b x y h g known =
    ap (λ o. o >>= λ n. half_of names (address_alone b y) >>= λ m. Some (i, n, m)) (index-at names x h (x == 0) refl)
    ∙ ap (λ o. o >>= λ m. Some (i, x, m)) (half-address names b y g known)

operand-written : (names : Names) (f : Fields) (i b : Bool) (x y : ℕ) → x < 2 ^ 4 → y < 2 ^ 18 → IsKnown names b y
    → with_operand names f (record { indirect = i; address = Some (address_alone b y); index = register_if (x == 0) x })
    ≡ Some (record f { i = i; x = x; y = y })
unfolding with_operand
operand-written names f true b x y h g known = ap (λ o. o >>= λ p. Some (record f { i = p.0; x = p.1; y = p.2 })) (operand-value names true b x y h g known)
operand-written names f false b x y h g known = ap (λ o. o >>= λ p. Some (record f { i = p.0; x = p.1; y = p.2 })) (operand-value names false b x y h g known)

instruction-back : (names : Names) (marked : ℕ → Bool) (w : ℕ) → w < 2 ^ 36 → IsKnown names (marked (right_half w)) (right_half w)
    → instruction_of names (operation_data marked (fields_of w)) ≡ Some w
unfolding instruction_of
instruction-back names marked w h known =
    let f = fields_of w in
    let base = fields_of (f.op * 2 ^ 27) in
    let z : base.ac ≡ 0 = omega (arith, h) in
    let ac : f.ac < 2 ^ 4 = omega (arith) in
    let x : f.x < 2 ^ 4 = omega (arith) in
    let y : f.y < 2 ^ 18 = omega (arith) in
    let op : (f.op * 2 ^ 27) / 2 ^ 27 ≡ f.op = omega (arith) in
    ap (λ o. o >>= λ g. with_operand names g (operation_data marked f).operand >>= λ k. Some (encoded k))
    (accumulator-at names base f.ac ac z (f.ac == 0) refl)
    ∙ ap (λ o. o >>= λ k. Some (encoded k)) (operand-written names (record base { ac = f.ac }) f.i (marked f.y) f.x f.y x y known)
    ∙ ap Some (ap (λ o. encoded (record { op = o; ac = f.ac; i = f.i; x = f.x; y = f.y })) op ∙ fields-back w)

halves-back : (names : Names) (marked : ℕ → Bool) (w : ℕ) → w < 2 ^ 36 → IsKnown names (marked (right_half w)) (right_half w)
    → halves_of names (number_alone (read_number (left_half w))) (address_alone (marked (right_half w)) (right_half w)) ≡ Some w
unfolding halves_of
halves-back names marked w h known =
    let l : left_half w < 2 ^ 18 = omega (arith, h) in
    let r : right_half w < 2 ^ 18 = omega (arith) in
    let e : left_half w * 2 ^ 18 + right_half w ≡ w = omega (arith) in
    ap (λ o. o >>= λ a. half_of names (address_alone (marked (right_half w)) (right_half w)) >>= λ b. Some (a * 2 ^ 18 + b)) (half-number names (left_half w) l)
    ∙ ap (λ o. o >>= λ b. Some (left_half w * 2 ^ 18 + b)) (half-address names (marked (right_half w)) (right_half w) r known)
    ∙ ap Some e

words-at : (names : Names) (marked : ℕ → Bool) (w : ℕ) → w < 2 ^ 36 → IsKnown names (marked (right_half w)) (right_half w)
    → (o : Option Name) → words_of names (data_in marked o w) ≡ Some (w ∷ [])
unfolding words_of
words-at names marked w h known (Some name) = ap (λ o. option_map (λ v. v ∷ []) o) (instruction-back names marked w h known)
words-at names marked w h known None = ap (λ o. option_map (λ v. v ∷ []) o) (halves-back names marked w h known)

pub words_back : (names : Names) (marked : ℕ → Bool) (w : ℕ) → w < 2 ^ 36 → IsKnown names (marked (right_half w)) (right_half w)
    → words_of names (word_data marked w) ≡ Some (w ∷ [])
words_back names marked w h known = words-at names marked w h known (name_of (w / 2 ^ 27))
