-- What the size of a statement or a literal is, and which code is told of one that has none.
use Rattle.std.proofs.Common.{◌≡◌, ◌∙◌, sym, ap, ℕ, Bool, true, false, ◌&&◌, List, [], unwrap_or, is_some, Option, Some, None, Result, Ok, Err, refl, arith}
use Rattle.std.specs.Prelude.{ℤ, ◌==◌, not, is_none, if◌then◌else◌}
use Rattle.std.specs.Map.{keys_of}
use Rattle.std.proofs.lemmas.Grind.{common_steps}
use Rattle.mac_text.specs.declared.syntax.SignedTerm.{SignedTerm}
use Rattle.mac_text.specs.declared.syntax.Data.{Data}
use Rattle.mac_text.specs.declared.syntax.Data.TheVariants as data_of
use Rattle.mac_layout.specs.declared.error.AsmCode.{AsmCode}
use Rattle.mac_layout.specs.declared.error.AsmCode.TheVariants.{DoesNotFit, NotYetDefined}
use Rattle.mac_layout.specs.Values.{◌>>=◌, value_of, natural_of}
use Rattle.mac_layout.specs.Addresses.{Labels, names_at, count_of, size_of, are_among, is_count_settled}
use Rattle.mac_layout.specs.LaidOut.{count_if, count_from, checked_count, checked_size, at_least_one, literal_size, count_or}
use Rattle.asm_laws.specs.Codes.{is_negative, is_data_unfit, is_literal_unfit}
use Rattle.asm_laws.proofs.Maps.{value-known}

-- a size, or the code of what speaks of no earlier label or does not fit
abbrev pub said : Bool → Bool → ℕ → Result ℕ AsmCode
said true unfit n = Err NotYetDefined
said false true n = Err DoesNotFit
said false false n = Ok n

-- what is not counted has no size, and is wrong in one way
pub record IsSize (early unfit : Bool) (n : ℕ) : Type 0 where
  pub early_none : early ≡ true → n ≡ 0
  pub unfit_none : unfit ≡ true → n ≡ 0
  pub one : early ≡ true → unfit ≡ false

if-said : (o : Option ℕ) (d : ℕ) → count_if o ≡ said false (is_none o) (unwrap_or o d)
if-said None d = refl
if-said (Some n) d = refl

from-said : (v : Option ℤ) (d : ℕ) → count_from v ≡ said (not (is_some v)) (is_negative v) (unwrap_or (v >>= natural_of) d)
from-said None d = refl
from-said (Some value) d = if-said (natural_of value) d

pub count-said : (xs : Labels) (here : ℕ) (e : List SignedTerm) (d : ℕ)
    → checked_count xs here e
    ≡ said (not (are_among (keys_of xs) e)) (is_negative (value_of (names_at xs here []) e)) (unwrap_or (count_of (names_at xs here []) e) d)
unfolding checked_count count_of
count-said xs here e d =
    let v = value_of (names_at xs here []) e in
    from-said v d ∙ ap (λ b. said (not b) (is_negative v) (unwrap_or (v >>= natural_of) d)) (value-known xs here e)

value-size : (v : Option ℤ) (b : Bool) → is_some v ≡ b → IsSize (not b) (is_negative v) (unwrap_or (v >>= natural_of) 0)
value-size None true h = absurd (cc)
value-size None false h = record { early_none = λ e. refl; unfit_none = λ e. refl; one = λ e. refl }
value-size (Some value) false h = absurd (cc)
value-size (Some value) true h =
    record { early_none = λ e. absurd (cc); unfit_none = none (natural_of value); one = λ e. absurd (cc) }
  where
    none : (o : Option ℕ) → is_none o ≡ true → unwrap_or o 0 ≡ 0
    none None h = refl
    none (Some n) h = absurd (cc)

pub count-size : (xs : Labels) (here : ℕ) (e : List SignedTerm)
    → IsSize (not (are_among (keys_of xs) e)) (is_negative (value_of (names_at xs here []) e)) (unwrap_or (count_of (names_at xs here []) e) 0)
unfolding count_of
count-size xs here e = value-size (value_of (names_at xs here []) e) (are_among (keys_of xs) e) (value-known xs here e)

pub size-said : (xs : Labels) (here : ℕ) (given : Data)
    → checked_size xs here given ≡ said (not (is_count_settled (keys_of xs) given)) (is_data_unfit xs here given) (size_of xs here given)
unfolding checked_size size_of
size-said xs here (data_of.Value e) = refl
size-said xs here (data_of.Halves l r) = refl
size-said xs here (data_of.Iowd n a) = refl
size-said xs here (data_of.Exp es) = refl
size-said xs here (data_of.Point n o p) = refl
size-said xs here (data_of.Text form text) = refl
size-said xs here (data_of.Block count) = count-said xs here count 0
size-said xs here (data_of.Instruction given) = refl

always-size : (n : ℕ) → IsSize false false n
always-size n = record { early_none = λ e. absurd (cc); unfit_none = λ e. absurd (cc); one = λ e. refl }

pub size-size : (xs : Labels) (here : ℕ) (given : Data)
    → IsSize (not (is_count_settled (keys_of xs) given)) (is_data_unfit xs here given) (size_of xs here given)
unfolding size_of
size-size xs here (data_of.Value e) = always-size 1
size-size xs here (data_of.Halves l r) = always-size 1
size-size xs here (data_of.Iowd n a) = always-size 1
size-size xs here (data_of.Exp es) = always-size (size_of xs here (data_of.Exp es))
size-size xs here (data_of.Point n o p) = always-size 1
size-size xs here (data_of.Text form text) = always-size (size_of xs here (data_of.Text form text))
size-size xs here (data_of.Block count) = count-size xs here count
size-size xs here (data_of.Instruction given) = always-size 1

if-none-said : (b : Bool) (n : ℕ) → (if b then Err DoesNotFit else Ok n) ≡ said false b n
if-none-said true n = refl
if-none-said false n = refl

at-least-said : (s u : Bool) (n : ℕ) → (u ≡ true → n ≡ 0) → at_least_one (said (not s) u n) ≡ said (not s) (s && n == 0) n
at-least-said false u n h = refl
at-least-said true true n h = ap (λ k. said false (k == 0) k) (sym (h refl))
at-least-said true false n h = if-none-said (n == 0) n

pub literal-said : (xs : Labels) (here : ℕ) (given : Data)
    → literal_size xs here given ≡ said (not (is_count_settled (keys_of xs) given)) (is_literal_unfit xs here given) (size_of xs here given)
literal-said xs here given =
    ap at_least_one (size-said xs here given)
    ∙ at-least-said (is_count_settled (keys_of xs) given) (is_data_unfit xs here given) (size_of xs here given) (size-size xs here given).unfit_none

literal-none : (s : Bool) (n : ℕ) → (s && n == 0) ≡ true → n ≡ 0
literal-none false n h = absurd (cc)
literal-none true n h = zero n h
  where
    zero : (n : ℕ) → (n == 0) ≡ true → n ≡ 0
    zero n h = grind (arith, common_steps)

pub literal-size : (xs : Labels) (here : ℕ) (given : Data)
    → IsSize (not (is_count_settled (keys_of xs) given)) (is_literal_unfit xs here given) (size_of xs here given)
literal-size xs here given = record {
  early_none = (size-size xs here given).early_none;
  unfit_none = literal-none (is_count_settled (keys_of xs) given) (size_of xs here given);
  one = one (is_count_settled (keys_of xs) given) (size_of xs here given == 0);
}
  where
    one : (s b : Bool) → not s ≡ true → (s && b) ≡ false
    one true b h = absurd (cc)
    one false b h = refl

pub said-counts : (e u : Bool) (n : ℕ) → IsSize e u n → count_or 0 (said e u n) ≡ n
said-counts true u n h = sym (h.early_none refl)
said-counts false true n h = sym (h.unfit_none refl)
said-counts false false n h = refl
