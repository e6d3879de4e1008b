-- What LOC, BLOCK and literals count, with a code where it cannot be counted.
use Rattle.std.proofs.Common.{◌≡◌, ◌∙◌, sym, ap, ℕ, zero, suc, ◌+◌, Bool, true, false, ◌&&◌, List, [], ◌∷◌, ◌++◌, map, unwrap_or}
use Rattle.std.proofs.Common.{is_some, Option, Some, None, Result, Ok, Err, refl, arith, append_assoc}
use Rattle.std.specs.Prelude.{◌==◌, nat_lt, nat_le, if◌then◌else◌}
use Rattle.std.specs.List.{range_with_len, list_all}
use Rattle.std.specs.Map.{keys_of}
use Rattle.std.proofs.lemmas.List.{append-nil}
use Rattle.std.proofs.lemmas.List.Folds.{list_all-append}
use Rattle.std.proofs.lemmas.Bool.{and_parts, and_from}
use Rattle.std.proofs.lemmas.Grind.{common_steps}
use Rattle.mac_text.specs.declared.syntax.SignedTerm.{SignedTerm}
use Rattle.mac_text.specs.declared.syntax.Data.{Data}
use Rattle.mac_text.specs.declared.syntax.Data.TheVariants as data_of
use Rattle.mac_text.specs.declared.syntax.Statement.{Statement}
use Rattle.mac_text.specs.declared.syntax.Statement.TheVariants as statements
use Rattle.mac_layout.specs.declared.error.AsmCode.{AsmCode}
use Rattle.mac_layout.specs.declared.error.AsmCode.TheVariants.{DoesNotFit}
use Rattle.std.specs.Prelude.{ℤ}
use Rattle.mac_layout.specs.Values.{◌>>=◌, value_of, natural_of}
use Rattle.mac_layout.specs.Addresses.{Labels, names_at, count_of, size_of, are_among, is_count_settled, are_apart}
use Rattle.mac_asm.specs.Assembly.{have_words, are_below}
use Rattle.mac_layout.specs.LaidOut.{count_if, count_from, checked_count, checked_size, at_least_one, literal_size}
use Rattle.mac_layout.specs.LaidOut.{count_or, taking, taking_size, taking_all, addresses_in}
use Rattle.asm_laws.specs.Laws.{ranges_from}
use Rattle.asm_laws.proofs.Maps.{value-known}
use Rattle.asm_laws.proofs.Apart.{apart-parts, least-none, none-least, whole-range, taking-none, none-taking}

abbrev pub is_ok : Result ℕ AsmCode → Bool
is_ok (Ok n) = true
is_ok (Err code) = false

-- the count of a BLOCK is not negative; a LOC's is not, and a radix is from 2 to 10
abbrev pub data_counts : Labels → ℕ → Data → Bool
data_counts labels here (data_of.Block count) = is_some (count_of (names_at labels here []) count)
data_counts labels here _ = true

abbrev pub counts : Labels → ℕ → Option Statement → Bool
counts labels here (Some (statements.Data given)) = data_counts labels here given
counts labels here (Some (statements.Loc e)) = is_some (count_of (names_at labels here []) e)
counts labels here (Some (statements.Radix n)) = nat_le 2 n && nat_le n 10
counts labels here _ = true

if-counts : (o : Option ℕ) → is_ok (count_if o) ≡ true → is_some o ≡ true
if-counts None h = absurd (cc)
if-counts (Some n) h = refl

from-counts : (v : Option ℤ) → is_ok (count_from v) ≡ true → (is_some v ≡ true) × (is_some (v >>= natural_of) ≡ true)
from-counts None h = absurd (cc)
from-counts (Some sum) h = (refl, if-counts (natural_of sum) h)

pub count-known : (xs : Labels) (here : ℕ) (e : List SignedTerm) → is_ok (checked_count xs here e) ≡ true
    → (are_among (keys_of xs) e ≡ true) × (is_some (count_of (names_at xs here []) e) ≡ true)
unfolding checked_count count_of
count-known xs here e h =
    let f = from-counts (value_of (names_at xs here []) e) h in
    (sym (value-known xs here e) ∙ f.0, f.1)

counts-if : (o : Option ℕ) (d : ℕ) → is_some o ≡ true → count_if o ≡ Ok (unwrap_or o d)
counts-if None d h = absurd (cc)
counts-if (Some n) d h = refl

counts-from : (v : Option ℤ) (d : ℕ) → is_some v ≡ true → is_some (v >>= natural_of) ≡ true
    → count_from v ≡ Ok (unwrap_or (v >>= natural_of) d)
counts-from None d h k = absurd (cc)
counts-from (Some sum) d h k = counts-if (natural_of sum) d k

pub known-count : (xs : Labels) (here : ℕ) (e : List SignedTerm) (d : ℕ) → are_among (keys_of xs) e ≡ true
    → is_some (count_of (names_at xs here []) e) ≡ true
    → checked_count xs here e ≡ Ok (unwrap_or (count_of (names_at xs here []) e) d)
unfolding checked_count count_of
known-count xs here e d h k = counts-from (value_of (names_at xs here []) e) d (value-known xs here e ∙ h) k

pub size-known : (xs : Labels) (here : ℕ) (given : Data) → is_ok (checked_size xs here given) ≡ true
    → (is_count_settled (keys_of xs) given ≡ true) × (data_counts xs here given ≡ true)
unfolding checked_size
size-known xs here (data_of.Value e) h = (refl, refl)
size-known xs here (data_of.Halves l r) h = (refl, refl)
size-known xs here (data_of.Iowd n a) h = (refl, refl)
size-known xs here (data_of.Exp es) h = (refl, refl)
size-known xs here (data_of.Point n o p) h = (refl, refl)
size-known xs here (data_of.Text form text) h = (refl, refl)
size-known xs here (data_of.Block count) h = count-known xs here count h
size-known xs here (data_of.Instruction given) h = (refl, refl)

pub known-size : (xs : Labels) (here : ℕ) (given : Data) → is_count_settled (keys_of xs) given ≡ true
    → data_counts xs here given ≡ true
    → checked_size xs here given ≡ Ok (size_of xs here given)
unfolding checked_size size_of
known-size xs here (data_of.Value e) h k = refl
known-size xs here (data_of.Halves l r) h k = refl
known-size xs here (data_of.Iowd n a) h k = refl
known-size xs here (data_of.Exp es) h k = refl
known-size xs here (data_of.Point n o p) h k = refl
known-size xs here (data_of.Text form text) h k = refl
known-size xs here (data_of.Block count) h k = known-count xs here count 0 h k
known-size xs here (data_of.Instruction given) h k = refl

-- a literal counts where it has words
at-least-known : (r : Result ℕ AsmCode) → is_ok (at_least_one r) ≡ true → is_ok r ≡ true
at-least-known (Ok n) h = refl
at-least-known (Err code) h = absurd (cc)

at-least-positive : (n : ℕ) → is_ok (at_least_one (Ok n)) ≡ true → nat_lt 0 n ≡ true
at-least-positive zero h = absurd (cc)
at-least-positive (suc n) h = positive n
  where
    positive : (n : ℕ) → nat_lt 0 (suc n) ≡ true
    positive n = grind (arith, common_steps)

positive-known : (n : ℕ) → nat_lt 0 n ≡ true → at_least_one (Ok n) ≡ Ok n
positive-known zero h = absurd (cc)
positive-known (suc n) h = ap (λ b. if b then Err DoesNotFit else Ok (suc n)) (test n)
  where
    test : (n : ℕ) → (suc n == 0) ≡ false
    test n = grind (arith, common_steps)

some-from_positive : (o : Option ℕ) → nat_lt 0 (unwrap_or o 0) ≡ true → is_some o ≡ true
some-from_positive None h = absurd (cc)
some-from_positive (Some n) h = refl

positive-counts : (xs : Labels) (here : ℕ) (given : Data) → nat_lt 0 (size_of xs here given) ≡ true
    → data_counts xs here given ≡ true
unfolding size_of
positive-counts xs here (data_of.Value e) h = refl
positive-counts xs here (data_of.Halves l r) h = refl
positive-counts xs here (data_of.Iowd n a) h = refl
positive-counts xs here (data_of.Exp es) h = refl
positive-counts xs here (data_of.Point n o p) h = refl
positive-counts xs here (data_of.Text form text) h = refl
positive-counts xs here (data_of.Block count) h = some-from_positive (count_of (names_at xs here []) count) h
positive-counts xs here (data_of.Instruction given) h = refl

literal-known : (xs : Labels) (here : ℕ) (given : Data) → is_ok (literal_size xs here given) ≡ true
    → (is_count_settled (keys_of xs) given ≡ true) × (nat_lt 0 (size_of xs here given) ≡ true)
literal-known xs here given h =
    let k = size-known xs here given (at-least-known (checked_size xs here given) h) in
    (k.0, at-least-positive (size_of xs here given) (ap (λ r. is_ok (at_least_one r)) (sym (known-size xs here given k.0 k.1)) ∙ h))

known-literal : (xs : Labels) (here : ℕ) (given : Data) → is_count_settled (keys_of xs) given ≡ true
    → nat_lt 0 (size_of xs here given) ≡ true
    → literal_size xs here given ≡ Ok (size_of xs here given)
known-literal xs here given h k =
    ap at_least_one (known-size xs here given h (positive-counts xs here given k)) ∙ positive-known (size_of xs here given) k

pub literals-known : (xs : Labels) (here : ℕ) (given : List Data) → list_all is_ok (map (literal_size xs here) given) ≡ true
    → (list_all (is_count_settled (keys_of xs)) given ≡ true) × (have_words (map (size_of xs here) given) ≡ true)
literals-known xs here [] h = (refl, refl)
literals-known xs here (d ∷ given) h =
    let p = and_parts (is_ok (literal_size xs here d)) _ h in
    let f = literal-known xs here d p.0 in
    let m = literals-known xs here given p.1 in
    (and_from _ _ f.0 m.0, and_from _ _ f.1 m.1)

pub known-literals : (xs : Labels) (here : ℕ) (given : List Data) → list_all (is_count_settled (keys_of xs)) given ≡ true
    → have_words (map (size_of xs here) given) ≡ true
    → map (literal_size xs here) given ≡ map Ok (map (size_of xs here) given)
known-literals xs here [] h k = refl
known-literals xs here (d ∷ given) h k =
    let p = and_parts (is_count_settled (keys_of xs) d) _ h in
    let q = and_parts (nat_lt 0 (size_of xs here d)) _ k in
    let f : literal_size xs here d ≡ Ok (size_of xs here d) = known-literal xs here d p.0 q.0 in
    let m : map (literal_size xs here) given ≡ map Ok (map (size_of xs here) given) = known-literals xs here given p.1 q.1 in
    ap (λ r. r ∷ map (literal_size xs here) given) f ∙ ap (λ l. Ok (size_of xs here d) ∷ l) m

-- all literals have addresses where they count, and their addresses are new and low
pub taking-counts : (t : List ℕ) (p : ℕ) (r : Result ℕ AsmCode) → taking_size t p r ≡ None
    → (n : ℕ) × (r ≡ Ok n) × (taking t p n ≡ None)
taking-counts t p (Ok n) h = (n, refl, h)
taking-counts t p (Err code) h = absurd (cc)

pub all-known : (t : List ℕ) (p : ℕ) (sizes : List (Result ℕ AsmCode)) → taking_all t p sizes ≡ None
    → list_all is_ok sizes ≡ true
unfolding taking_all
all-known t p [] h = refl
all-known t p (r ∷ sizes) h =
    let l = least-none (taking_size t p r) (taking_all (t ++ addresses_in p (count_or 0 r)) (p + count_or 0 r) sizes) h in
    and_from _ _ (ap is_ok (taking-counts t p r l.0).1) (all-known (t ++ addresses_in p (count_or 0 r)) (p + count_or 0 r) sizes l.1)

pub all-taken : (zs : List ℕ) (t : List ℕ) (p : ℕ) → taking_all t p (map Ok zs) ≡ None → are_apart t ≡ true
    → (are_apart (t ++ ranges_from p zs) ≡ true) × (are_below (ranges_from p zs) ≡ true)
unfolding taking_all ranges_from
all-taken [] t p h a = (ap are_apart (append-nil t) ∙ a, refl)
all-taken (z ∷ zs) t p h a =
    let l = least-none (taking t p z) (taking_all (t ++ addresses_in p z) (p + z) (map Ok zs)) h in
    let f = taking-none t p z l.0 a in
    let next : taking_all (t ++ range_with_len p z) (p + z) (map Ok zs) ≡ None =
    ap (λ r. taking_all (t ++ r) (p + z) (map Ok zs)) (sym (whole-range p z f.1)) ∙ l.1 in
    let m = all-taken zs (t ++ range_with_len p z) (p + z) next f.0 in (
      ap are_apart (sym (append_assoc t (range_with_len p z) (ranges_from (p + z) zs))) ∙ m.0,
      list_all-append (λ n. nat_lt n 262144) (range_with_len p z) (ranges_from (p + z) zs) ∙ and_from _ _ f.1 m.1,
    )

pub taken-all : (zs : List ℕ) (t : List ℕ) (p : ℕ) → are_apart (t ++ ranges_from p zs) ≡ true
    → are_below (ranges_from p zs) ≡ true
    → taking_all t p (map Ok zs) ≡ None
unfolding taking_all ranges_from
taken-all [] t p a b = refl
taken-all (z ∷ zs) t p a b =
    let a' : are_apart ((t ++ range_with_len p z) ++ ranges_from (p + z) zs) ≡ true =
    ap are_apart (append_assoc t (range_with_len p z) (ranges_from (p + z) zs)) ∙ a in
    let low = and_parts (are_below (range_with_len p z)) (are_below (ranges_from (p + z) zs))
    (sym (list_all-append (λ n. nat_lt n 262144) (range_with_len p z) (ranges_from (p + z) zs)) ∙ b) in
    let f : taking t p z ≡ None = none-taking t p z (apart-parts (t ++ range_with_len p z) (ranges_from (p + z) zs) a').0 low.0 in
    let m : taking_all (t ++ range_with_len p z) (p + z) (map Ok zs) ≡ None = taken-all zs (t ++ range_with_len p z) (p + z) a' low.1 in
    none-least _ _ f (ap (λ r. taking_all (t ++ r) (p + z) (map Ok zs)) (whole-range p z low.0) ∙ m)
