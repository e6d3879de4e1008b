-- Lemmas on names in bits.
use Rattle.std.proofs.Common.{◌≡◌, ◌<◌, ◌≤◌, ◌+◌, ◌-◌, ◌*◌, ◌++◌, ◌∙◌, ◌&&◌, ℕ, List, [], ◌∷◌, Bool, true, Some, None, refl, ap, sym, cond, length, take}
use Rattle.std.proofs.Common.{arith, get_or, length-append, nat_le, nat_lt}
use Rattle.std.proofs.lemmas.Bool.Decides.{nat_tests}
use Rattle.std.proofs.lemmas.List.{take_more}
use Rattle.std.proofs.lemmas.List.Folds.{list_all-append}
use Rattle.std.specs.Prelude.{option_map}
use Rattle.std.specs.List.{list_all}
use Rattle.script_io.specs.Numbers.{number, is_digit, value_onto}
use Rattle.queue_script.proofs.LockLemmas.{and_parts, both}
use Rattle.queue_script.specs.Locks.{name_of, user_code}
use Rattle.queue_script.specs.Options.{is_option_character}
use Rattle.queue_script.specs.declared.locks.LockName.TheVariants.{Coded}
use Rattle.queue_script.specs.declared.locks.TheConstants.{CODE_DIGITS, MOST_CODE}

-- one more digit
value-behind : (base v : ℕ) (ds : List ℕ) (d : ℕ) → value_onto base v (ds ++ d ∷ []) ≡ base * value_onto base v ds + (d - 48)
value-behind base v [] d = refl
value-behind base v (c ∷ cs) d = value-behind base (base * v + (c - 48)) cs d

-- so many characters in front of a text are a `#` and the octal digits of a number
pub record IsCode (text : List ℕ) (count n : ℕ) : Type 0 where
  pub digits : List ℕ
  pub front : take count text ≡ 35 ∷ digits
  pub long : count ≡ length digits + 1
  pub octal : list_all (is_digit 8) digits ≡ true
  pub value : value_onto 8 0 digits ≡ n

pub code-start : (text : List ℕ) → 0 < length text → get_or text 0 0 ≡ 35 → IsCode text 1 0
code-start [] some here = absurd (omega arith)
code-start (c ∷ cs) some here = record { digits = []; front = ap (λ d. d ∷ []) here; long = refl; octal = refl; value = refl }

pub code-digit : (text : List ℕ) (count n d next : ℕ) → IsCode text count n → count < length text → is_digit 8 (get_or text count 0) ≡ true
    → d ≡ get_or text count 0 - 48
    → next ≡ 8 * n + d
    → IsCode text (count + 1) next
code-digit text count n d next code within digit is more =
    let c = get_or text count 0 in
    let l = length-append code.digits (c ∷ []) in
    let before = code.long in record {
      digits = code.digits ++ c ∷ [];
      front = take_more text count 0 within ∙ ap (λ ds. ds ++ c ∷ []) code.front;
      long = omega arith;
      octal = list_all-append (is_digit 8) code.digits (c ∷ []) ∙ both (list_all (is_digit 8) code.digits) (is_digit 8 c && true) code.octal (both (is_digit 8 c) true digit refl);
      value = value-behind 8 0 code.digits c ∙ ap (λ v. 8 * v + (c - 48)) code.value ∙ ap (λ k. 8 * n + k) (sym is) ∙ sym more;
    }

code-tested : (a b c d : Bool) (n : ℕ) → a ≡ true → b ≡ true → c ≡ true → d ≡ true
    → option_map Coded (cond a (cond (b && (c && d)) (Some n) None) None) ≡ Some (Coded n)
code-tested a b c d n p q r s = rw (p, q, r, s) refl

user-code : (digits : List ℕ) → 0 < length digits → length digits ≤ 11 → list_all (is_digit 8) digits ≡ true → value_onto 8 0 digits ≤ MOST_CODE
    → option_map Coded (user_code digits) ≡ Some (Coded (value_onto 8 0 digits))
unfolding number
user-code digits some few octal small =
    code-tested (nat_le (length digits) CODE_DIGITS) (nat_lt 0 (length digits)) (list_all (is_digit 8) digits) (nat_le (value_onto 8 0 digits) MOST_CODE)
    (value_onto 8 0 digits) (grind (arith, nat_tests)) (grind (arith, nat_tests)) octal (grind (arith, nat_tests))

-- they are the name of this code
pub code-name : (text : List ℕ) (count n : ℕ) → IsCode text count n → 1 < count → count ≤ 12 → n ≤ MOST_CODE → name_of (take count text) ≡ Some (Coded n)
code-name text count n code some few small =
    let l = code.long in
    let v = code.value in
    ap name_of code.front ∙ user-code code.digits (omega arith) (omega arith) code.octal (omega arith) ∙ ap (λ k. Some (Coded k)) code.value

octal-apart : (c : ℕ) → is_digit 8 c ≡ true → is_option_character c ≡ true
octal-apart c h = grind (arith, nat_tests)

digits-apart : (ds : List ℕ) → list_all (is_digit 8) ds ≡ true → list_all is_option_character ds ≡ true
digits-apart [] h = refl
digits-apart (d ∷ ds) h =
    let p = and_parts (is_digit 8 d) (list_all (is_digit 8) ds) h in
    both (is_option_character d) (list_all is_option_character ds) (octal-apart d p.0) (digits-apart ds p.1)

-- and none of them ends it
pub code-apart : (text : List ℕ) (count n : ℕ) → IsCode text count n → list_all is_option_character (take count text) ≡ true
code-apart text count n code = ap (list_all is_option_character) code.front ∙ digits-apart code.digits code.octal
