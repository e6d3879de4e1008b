-- A code of laying out is told only where what it names is so.
use Rattle.std.proofs.Common.{◌≡◌, ◌∙◌, sym, ap, ℕ, zero, suc, ◌+◌, ◌-◌, ◌≤◌, Bool, true, false, ◌&&◌, nat_eq, List, [], ◌∷◌, ◌++◌, map}
use Rattle.std.proofs.Common.{unwrap_or, is_some, Option, Some, None, Result, Ok, Err, inl, inr, refl, arith, append_assoc}
use Rattle.std.specs.Prelude.{◌^◌, ◌==◌, not, nat_le, nat_lt, if◌then◌else◌}
use Rattle.std.specs.List.{range_with_len, list_any, list_all}
use Rattle.std.specs.Map.{keys_of, values_of}
use Rattle.std.proofs.lemmas.Bool.{and_parts, and_from, or_parts, or_from, not-true, not_from_true, not_from_false, true_from_ne_false, cases_Bool}
use Rattle.std.proofs.lemmas.List.Folds.{list_any-append, list_all-append}
use Rattle.std.proofs.lemmas.Grind.{common_steps}
use Rattle.mac_text.specs.Lines.{is_end_statement}
use Rattle.mac_text.specs.declared.syntax.SignedTerm.{SignedTerm}
use Rattle.mac_text.specs.declared.syntax.Data.{Data}
use Rattle.mac_text.specs.declared.syntax.Data.TheVariants as data_of
use Rattle.mac_text.specs.declared.syntax.Statement.{Statement}
use Rattle.mac_text.specs.declared.syntax.Statement.TheVariants as statements
use Rattle.mac_text.specs.declared.syntax.Line.{Line}
use Rattle.mac_layout.specs.declared.error.AsmCode.{AsmCode}
use Rattle.mac_layout.specs.declared.error.AsmCode.TheVariants.{Syntax, UnknownName, DefinedTwice, DoesNotFit, NotYetDefined, AddressTooHigh, NoEnd}
use Rattle.std.specs.Prelude.{ℤ}
use Rattle.mac_layout.specs.Values.{◌>>=◌, value_of, natural_of}
use Rattle.mac_layout.specs.Addresses.{Labels, names_at, count_of, size_of, are_among, is_count_settled, is_settled, are_apart}
use Rattle.mac_asm.specs.Assembly.{have_words, are_below}
use Rattle.mac_layout.specs.Faults.{code_if, code_of}
use Rattle.mac_layout.specs.LaidOut.{count_if, count_from, checked_count, checked_size, at_least_one, literal_size, count_or, is_taken, addresses_in}
use Rattle.mac_layout.specs.LaidOut.{taking, taking_size, taking_all, labels_code, with_labels, statement_code, line_code}
use Rattle.asm_laws.specs.Laws.{ranges_from}
use Rattle.asm_laws.proofs.Maps.{value-known}
use Rattle.asm_laws.proofs.Unique.{own, keys-grow}
use Rattle.asm_laws.proofs.Apart.{apart-parts, free-high}
use Rattle.asm_laws.proofs.Counts.{data_counts, counts, known-count, known-size, known-literals}
use Rattle.asm_laws.proofs.Fits.{state, range_of, low-own, grown-low}
use Rattle.asm_laws.proofs.Phases.{passes, may_fail, passes-least}

pub no-true : (b : Bool) → b ≡ true → b ≡ false → ⊥
no-true b h k = cc

passes-code : (q : AsmCode → Bool) (w : Bool) (code : AsmCode) → (q code ≡ false → w ≡ false) → passes q (code_if w code) ≡ true
passes-code q true code f = true_from_ne_false (q code) (λ e. no-true true refl (f e))
passes-code q false code f = refl

-- fewer addresses stand apart too
any-less : (test : ℕ → Bool) (a b c : List ℕ) → list_any test (a ++ (b ++ c)) ≡ false → list_any test (a ++ c) ≡ false
any-less test a b c h =
    let p = or_parts (list_any test a) (list_any test (b ++ c)) (sym (list_any-append test a (b ++ c)) ∙ h) in
    let r = or_parts (list_any test b) (list_any test c) (sym (list_any-append test b c) ∙ p.1) in
    list_any-append test a c ∙ or_from _ _ p.0 r.1

apart-less : (a b c : List ℕ) → are_apart (a ++ (b ++ c)) ≡ true → are_apart (a ++ c) ≡ true
unfolding are_apart
apart-less [] b c h = (apart-parts b c h).1
apart-less (n ∷ a) b c h =
    let p = and_parts (not (list_any (nat_eq n) (a ++ (b ++ c)))) (are_apart (a ++ (b ++ c))) h in
    and_from _ _ (not_from_false (list_any (nat_eq n) (a ++ c)) (any-less (nat_eq n) a b c (not-true (list_any (nat_eq n) (a ++ (b ++ c))) p.0)))
    (apart-less a b c p.1)

range-front : (n k p : ℕ) → k ≤ n → (rest : List ℕ) × (range_with_len p n ≡ range_with_len p k ++ rest)
range-front n zero p h = (range_with_len p n, refl)
range-front zero (suc k) p h = absurd (omega arith)
range-front (suc n) (suc k) p h =
    let less : k ≤ n = omega arith in
    let i = range-front n k (p + 1) less in
    (i.0, ap (λ l. p ∷ l) i.1)

addresses-front : (p n : ℕ) → (rest : List ℕ) × (range_with_len p n ≡ addresses_in p n ++ rest)
addresses-front p n = range-front n (if nat_le n (2 ^ 18 - p) then n else 2 ^ 18 - p) p (less n (2 ^ 18 - p))
  where
    less : (n m : ℕ) → (if nat_le n m then n else m) ≤ n
    less n m = grind (arith, common_steps)

taking-clear : (q : AsmCode → Bool) (t : List ℕ) (p n : ℕ) → (q DefinedTwice ≡ false → are_apart (t ++ range_with_len p n) ≡ true)
    → (q AddressTooHigh ≡ false → are_below (range_with_len p n) ≡ true)
    → passes q (taking t p n) ≡ true
unfolding taking
taking-clear q t p n f g =
    let front = addresses-front p n in
    passes-least q _ _
    (passes-code q (list_any (is_taken t) (addresses_in p n)) DefinedTwice
    (λ e. (or_parts (list_any (is_taken t) (addresses_in p n)) (list_any (is_taken t) front.0)
    (sym (ap (list_any (is_taken t)) front.1 ∙ list_any-append (is_taken t) (addresses_in p n) front.0)
    ∙ (apart-parts t (range_with_len p n) (f e)).2)).0))
    (passes-code q (not (n == 0) && not (nat_le (p + n) (2 ^ 18))) AddressTooHigh (λ e. free-high p n (g e)))

pub below-append : (xs ys : List ℕ) → are_below (xs ++ ys) ≡ true → (are_below xs ≡ true) × (are_below ys ≡ true)
below-append xs ys h = and_parts (are_below xs) (are_below ys) (sym (list_all-append (λ n. nat_lt n 262144) xs ys) ∙ h)

size-clear : (q : AsmCode → Bool) (t : List ℕ) (p : ℕ) (r : Result ℕ AsmCode) → may_fail q r ≡ true
    → (q DefinedTwice ≡ false → are_apart (t ++ range_with_len p (count_or 0 r)) ≡ true)
    → (q AddressTooHigh ≡ false → are_below (range_with_len p (count_or 0 r)) ≡ true)
    → passes q (taking_size t p r) ≡ true
size-clear q t p (Ok n) h f g = taking-clear q t p n f g
size-clear q t p (Err code) h f g = h

pub all-clear : (sizes : List (Result ℕ AsmCode)) (q : AsmCode → Bool) (t : List ℕ) (p : ℕ) → list_all (may_fail q) sizes ≡ true
    → (q DefinedTwice ≡ false → are_apart (t ++ ranges_from p (map (count_or 0) sizes)) ≡ true)
    → (q AddressTooHigh ≡ false → are_below (ranges_from p (map (count_or 0) sizes)) ≡ true)
    → passes q (taking_all t p sizes) ≡ true
unfolding taking_all ranges_from
all-clear [] q t p h f g = refl
all-clear (r ∷ sizes) q t p h f g =
    let b = and_parts (may_fail q r) (list_all (may_fail q) sizes) h in
    let n = count_or 0 r in
    let here = range_with_len p n in
    let later = ranges_from (p + n) (map (count_or 0) sizes) in
    let front = addresses-front p n in
    let parted : here ++ later ≡ addresses_in p n ++ (front.0 ++ later) =
    ap (λ l. l ++ later) front.1 ∙ append_assoc (addresses_in p n) front.0 later in
    passes-least q _ _
    (size-clear q t p r b.0
    (λ e. (apart-parts (t ++ here) later (ap are_apart (append_assoc t here later) ∙ f e)).0)
    (λ e. (below-append here later (g e)).0))
    (all-clear sizes q (t ++ addresses_in p n) (p + n) b.1
    (λ e. apart-less (t ++ addresses_in p n) front.0 later
    (ap are_apart (append_assoc t (addresses_in p n) (front.0 ++ later)) ∙ ap (λ l. are_apart (t ++ l)) (sym parted) ∙ f e))
    (λ e. (below-append here later (g e)).1))

-- what speaks of earlier labels alone fails only by not fitting
abbrev is_unfit : AsmCode → Bool
is_unfit DoesNotFit = true
is_unfit _ = false

if-unfit : (o : Option ℕ) → is_some o ≡ false → count_if o ≡ Err DoesNotFit
if-unfit None h = refl
if-unfit (Some n) h = absurd (cc)

from-unfit : (v : Option ℤ) → is_some v ≡ true → is_some (v >>= natural_of) ≡ false → count_from v ≡ Err DoesNotFit
from-unfit None h k = absurd (cc)
from-unfit (Some sum) h k = if-unfit (natural_of sum) k

unfit-count : (xs : Labels) (here : ℕ) (e : List SignedTerm) → are_among (keys_of xs) e ≡ true
    → is_some (count_of (names_at xs here []) e) ≡ false
    → checked_count xs here e ≡ Err DoesNotFit
unfolding checked_count count_of
unfit-count xs here e h k = from-unfit (value_of (names_at xs here []) e) (value-known xs here e ∙ h) k

unfit-size : (xs : Labels) (here : ℕ) (given : Data) → is_count_settled (keys_of xs) given ≡ true → data_counts xs here given ≡ false
    → checked_size xs here given ≡ Err DoesNotFit
unfolding checked_size
unfit-size xs here (data_of.Value e) h k = absurd (cc)
unfit-size xs here (data_of.Halves l r) h k = absurd (cc)
unfit-size xs here (data_of.Iowd n a) h k = absurd (cc)
unfit-size xs here (data_of.Exp es) h k = absurd (cc)
unfit-size xs here (data_of.Point n o p) h k = absurd (cc)
unfit-size xs here (data_of.Text form text) h k = absurd (cc)
unfit-size xs here (data_of.Block count) h k = unfit-count xs here count h k
unfit-size xs here (data_of.Instruction given) h k = absurd (cc)

none-size : (o : Option ℕ) → is_some o ≡ false → unwrap_or o 0 ≡ 0
none-size None h = refl
none-size (Some n) h = absurd (cc)

unfit-none : (xs : Labels) (here : ℕ) (given : Data) → data_counts xs here given ≡ false → size_of xs here given ≡ 0
unfolding size_of
unfit-none xs here (data_of.Value e) k = absurd (cc)
unfit-none xs here (data_of.Halves l r) k = absurd (cc)
unfit-none xs here (data_of.Iowd n a) k = absurd (cc)
unfit-none xs here (data_of.Exp es) k = absurd (cc)
unfit-none xs here (data_of.Point n o p) k = absurd (cc)
unfit-none xs here (data_of.Text form text) k = absurd (cc)
unfit-none xs here (data_of.Block count) k = none-size (count_of (names_at xs here []) count) k
unfit-none xs here (data_of.Instruction given) k = absurd (cc)

-- a size in an error counts as none
least-counts : (r : Result ℕ AsmCode) → count_or 0 (at_least_one r) ≡ count_or 0 r
least-counts (Err code) = refl
least-counts (Ok zero) = refl
least-counts (Ok (suc n)) = ap (λ b. count_or 0 (if b then Err DoesNotFit else Ok (suc n))) (test n)
  where
    test : (n : ℕ) → (suc n == 0) ≡ false
    test n = grind (arith, common_steps)

least-unfit : (r : Result ℕ AsmCode) → may_fail is_unfit r ≡ true → may_fail is_unfit (at_least_one r) ≡ true
least-unfit (Err code) h = h
least-unfit (Ok n) h = test (n == 0) n
  where
    test : (b : Bool) (n : ℕ) → may_fail is_unfit (if b then Err DoesNotFit else Ok n) ≡ true
    test true n = refl
    test false n = refl

record SizeTold (xs : Labels) (here : ℕ) (given : Data) : Type 0 where
  size : count_or 0 (checked_size xs here given) ≡ size_of xs here given
  unfit : may_fail is_unfit (checked_size xs here given) ≡ true

size-told : (xs : Labels) (here : ℕ) (given : Data) → is_count_settled (keys_of xs) given ≡ true → SizeTold xs here given
size-told xs here given h = elim (cases_Bool (data_counts xs here given)) [
  | inl k ↦ (let e = known-size xs here given h k in record { size = ap (count_or 0) e; unfit = ap (may_fail is_unfit) e })
  | inr k ↦ (let e = unfit-size xs here given h k in
      record { size = ap (count_or 0) e ∙ sym (unfit-none xs here given k); unfit = ap (may_fail is_unfit) e })
]

pub literals-counted : (given : List Data) (xs : Labels) (here : ℕ) → list_all (is_count_settled (keys_of xs)) given ≡ true
    → map (count_or 0) (map (literal_size xs here) given) ≡ map (size_of xs here) given
literals-counted [] xs here h = refl
literals-counted (d ∷ given) xs here h =
    let b = and_parts (is_count_settled (keys_of xs) d) _ h in
    ap (λ n. n ∷ map (count_or 0) (map (literal_size xs here) given)) (least-counts (checked_size xs here d) ∙ (size-told xs here d b.0).size)
    ∙ ap (λ l. size_of xs here d ∷ l) (literals-counted given xs here b.1)

weaker-code : (q : AsmCode → Bool) (code : AsmCode) → q DoesNotFit ≡ true → is_unfit code ≡ true → q code ≡ true
weaker-code q Syntax h k = absurd (cc)
weaker-code q UnknownName h k = absurd (cc)
weaker-code q DefinedTwice h k = absurd (cc)
weaker-code q DoesNotFit h k = h
weaker-code q NotYetDefined h k = absurd (cc)
weaker-code q AddressTooHigh h k = absurd (cc)
weaker-code q NoEnd h k = absurd (cc)

weaker : (q : AsmCode → Bool) (r : Result ℕ AsmCode) → q DoesNotFit ≡ true → may_fail is_unfit r ≡ true → may_fail q r ≡ true
weaker q (Ok n) h k = refl
weaker q (Err code) h k = weaker-code q code h k

unfit-literals : (given : List Data) (q : AsmCode → Bool) (xs : Labels) (here : ℕ) → q DoesNotFit ≡ true
    → list_all (is_count_settled (keys_of xs)) given ≡ true
    → list_all (may_fail q) (map (literal_size xs here) given) ≡ true
unfit-literals [] q xs here h k = refl
unfit-literals (d ∷ given) q xs here h k =
    let b = and_parts (is_count_settled (keys_of xs) d) _ k in
    and_from _ _ (weaker q (literal_size xs here d) h (least-unfit (checked_size xs here d) (size-told xs here d b.0).unfit))
    (unfit-literals given q xs here h b.1)

all-ok : (q : AsmCode → Bool) (zs : List ℕ) → list_all (may_fail q) (map Ok zs) ≡ true
all-ok q [] = refl
all-ok q (z ∷ zs) = all-ok q zs

pub literals-clear : (given : List Data) (q : AsmCode → Bool) (xs : Labels) (here : ℕ)
    → list_all (is_count_settled (keys_of xs)) given ≡ true
    → (q DoesNotFit ≡ false → have_words (map (size_of xs here) given) ≡ true)
    → list_all (may_fail q) (map (literal_size xs here) given) ≡ true
literals-clear given q xs here h f = elim (cases_Bool (q DoesNotFit)) [
  | inl k ↦ unfit-literals given q xs here k h
  | inr k ↦ ap (list_all (may_fail q)) (known-literals xs here given h (f k)) ∙ all-ok q (map (size_of xs here) given)
]

-- a statement of earlier labels
data-clear : (q : AsmCode → Bool) (xs : Labels) (p : ℕ) (t : List ℕ) (given : Data) → is_count_settled (keys_of xs) given ≡ true
    → (q DoesNotFit ≡ false → data_counts xs p given ≡ true)
    → (q DefinedTwice ≡ false → are_apart (t ++ range_with_len p (size_of xs p given)) ≡ true)
    → (q AddressTooHigh ≡ false → are_below (range_with_len p (size_of xs p given)) ≡ true)
    → passes q (taking_size t p (checked_size xs p given)) ≡ true
data-clear q xs p t given h f g l = elim (cases_Bool (data_counts xs p given)) [
  | inl k ↦ ap (λ r. passes q (taking_size t p r)) (known-size xs p given h k) ∙ taking-clear q t p (size_of xs p given) g l
  | inr k ↦ ap (λ r. passes q (taking_size t p r)) (unfit-size xs p given h k)
      ∙ true_from_ne_false (q DoesNotFit) (λ e. no-true (data_counts xs p given) (f e) k)
]

loc-clear : (q : AsmCode → Bool) (xs : Labels) (p : ℕ) (e : List SignedTerm) → are_among (keys_of xs) e ≡ true
    → (q DoesNotFit ≡ false → is_some (count_of (names_at xs p []) e) ≡ true)
    → passes q (code_of (checked_count xs p e)) ≡ true
loc-clear q xs p e h f = elim (cases_Bool (is_some (count_of (names_at xs p []) e))) [
  | inl k ↦ ap (λ r. passes q (code_of r)) (known-count xs p e 0 h k)
  | inr k ↦ ap (λ r. passes q (code_of r)) (unfit-count xs p e h k)
      ∙ true_from_ne_false (q DoesNotFit) (λ n. no-true (is_some (count_of (names_at xs p []) e)) (f n) k)
]

pub statement-clear : (q : AsmCode → Bool) (xs : Labels) (p : ℕ) (ps t : List ℕ) (sz : List (Result ℕ AsmCode)) (s : Option Statement)
    → is_settled (keys_of xs) s ≡ true → is_end_statement s ≡ false
    → (q DoesNotFit ≡ false → counts xs p s ≡ true)
    → (q DefinedTwice ≡ false → are_apart (t ++ range_of xs p s) ≡ true)
    → (q AddressTooHigh ≡ false → are_below (range_of xs p s) ≡ true)
    → passes q (statement_code (state xs p ps t sz) s) ≡ true
unfolding statement_code
statement-clear q xs p ps t sz None h e f g l = refl
statement-clear q xs p ps t sz (Some (statements.Data given)) h e f g l = data-clear q xs p t given h f g l
statement-clear q xs p ps t sz (Some (statements.Loc at)) h e f g l = loc-clear q xs p at h f
statement-clear q xs p ps t sz (Some (statements.End at)) h e f g l = absurd (cc)
statement-clear q xs p ps t sz (Some (statements.Radix n)) h e f g l =
    passes-code q (not (nat_le 2 n && nat_le n 10)) DoesNotFit (λ c. not_from_true (nat_le 2 n && nat_le n 10) (f c))
statement-clear q xs p ps t sz (Some statements.Title) h e f g l = refl

passes-once : (q : AsmCode → Bool) (b : Bool) (o : Option AsmCode) → (q DefinedTwice ≡ false → b ≡ true) → passes q o ≡ true
    → passes q (if b then o else Some DefinedTwice) ≡ true
passes-once q true o f h = h
passes-once q false o f h = true_from_ne_false (q DefinedTwice) (λ e. no-true false (f e) refl)

pub line-clear : (q : AsmCode → Bool) (xs : Labels) (p : ℕ) (ps t : List ℕ) (sz : List (Result ℕ AsmCode)) (line : Line)
    → (q DefinedTwice ≡ false → are_apart (keys_of (xs ++ own p line)) ≡ true)
    → (q AddressTooHigh ≡ false → are_below (values_of (xs ++ own p line)) ≡ true)
    → passes q (statement_code (with_labels (state xs p ps t sz) line) line.statement) ≡ true
    → passes q (line_code (state xs p ps t sz) line) ≡ true
unfolding line_code
line-clear q xs p ps t sz line f g h =
    passes-once q (are_apart (keys_of xs ++ line.labels)) _ (λ e. ap are_apart (sym (keys-grow xs p line)) ∙ f e)
    (passes-least q (labels_code (state xs p ps t sz) line) _
    (passes-code q _ AddressTooHigh
    (λ e. low-own line.labels p (and_parts (are_below (values_of xs)) _ (sym (grown-low xs p line) ∙ g e)).1))
    h)
