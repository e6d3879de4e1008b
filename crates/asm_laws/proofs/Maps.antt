-- What LOC and BLOCK make of labels that stand earlier does not depend on later ones.
use Rattle.std.proofs.Common.{◌≡◌, ◌∙◌, ap, ℕ, ◌+◌, Bool, true, false, cond, ◌&&◌, nat_eq, is_some, List, [], ◌∷◌, ◌++◌, unwrap_or, Option, Some, None, refl}
use Rattle.std.specs.Map.{lookup, keys_of}
use Rattle.std.proofs.lemmas.Map.Made.{is_some-lookup}
use Rattle.std.proofs.lemmas.Bool.{and_parts}
use Rattle.mac_text.specs.declared.syntax.Term.{Term}
use Rattle.mac_text.specs.declared.syntax.Term.TheVariants.{Number, Label, Here, Literal}
use Rattle.mac_text.specs.declared.syntax.SignedTerm.{SignedTerm}
use Rattle.mac_text.specs.declared.syntax.Data.{Data}
use Rattle.mac_text.specs.declared.syntax.Data.TheVariants as data_of
use Rattle.mac_text.specs.declared.syntax.Statement.{Statement}
use Rattle.mac_text.specs.declared.syntax.Statement.TheVariants as statements
use Rattle.std.specs.Prelude.{ℤ, pos}
use Rattle.mac_layout.specs.Values.{◌>>=◌, term_value, signed, value_onto, value_of, natural_of}
use Rattle.asm_laws.proofs.Options.{bind_same, is_some_bind}
use Rattle.mac_layout.specs.Addresses.{Labels, names_at, count_of, size_of, address_behind, is_among, are_among, is_count_settled, is_settled}

cond-found : {X : Type 0} (b : Bool) (x : X) (p q : Option X) → (is_some q ≡ true → p ≡ q)
    → is_some (cond b (Some x) q) ≡ true
    → cond b (Some x) p ≡ cond b (Some x) q
cond-found true x p q h s = refl
cond-found false x p q h s = h s

-- what is found in front is found
pub lookup-front : (test : ℕ → Bool) (xs ys : Labels) → is_some (lookup test xs) ≡ true
    → lookup test (xs ++ ys) ≡ lookup test xs
lookup-front test [] ys h = absurd (cc)
lookup-front test (e ∷ xs) ys h =
    cond-found (test e.0) e.1 (lookup test (xs ++ ys)) (lookup test xs) (lookup-front test xs ys) h

pub term-settled : (xs ys : Labels) (here : ℕ) (t : Term) → is_among (keys_of xs) t ≡ true
    → term_value (names_at (xs ++ ys) here []) t ≡ term_value (names_at xs here []) t
term-settled xs ys here (Number n) h = refl
term-settled xs ys here (Label name) h = lookup-front (nat_eq name) xs ys (is_some-lookup (nat_eq name) xs ∙ h)
term-settled xs ys here Here h = refl
term-settled xs ys here (Literal n) h = refl

pub sum-settled : (xs ys : Labels) (here : ℕ) (sum : ℤ) (e : List SignedTerm) → are_among (keys_of xs) e ≡ true
    → value_onto (names_at (xs ++ ys) here []) sum e ≡ value_onto (names_at xs here []) sum e
sum-settled xs ys here sum [] h = refl
sum-settled xs ys here sum (t ∷ e) h =
    let parts = and_parts (is_among (keys_of xs) t.term) (are_among (keys_of xs) e) h in
    ap (λ o. o >>= λ n. value_onto (names_at (xs ++ ys) here []) (signed t.sign n sum) e) (term-settled xs ys here t.term parts.0)
    ∙ bind_same (term_value (names_at xs here []) t.term)
    (λ n. value_onto (names_at (xs ++ ys) here []) (signed t.sign n sum) e)
    (λ n. value_onto (names_at xs here []) (signed t.sign n sum) e)
    (λ n. sum-settled xs ys here (signed t.sign n sum) e parts.1)

pub count-settled : (xs ys : Labels) (here : ℕ) (e : List SignedTerm) → are_among (keys_of xs) e ≡ true
    → count_of (names_at (xs ++ ys) here []) e ≡ count_of (names_at xs here []) e
unfolding count_of value_of
count-settled xs ys here e h = ap (λ v. v >>= natural_of) (sum-settled xs ys here (pos 0) e h)

pub size-settled : (xs ys : Labels) (here : ℕ) (given : Data) → is_count_settled (keys_of xs) given ≡ true
    → size_of (xs ++ ys) here given ≡ size_of xs here given
unfolding size_of
size-settled xs ys here (data_of.Value e) h = refl
size-settled xs ys here (data_of.Halves l r) h = refl
size-settled xs ys here (data_of.Iowd n a) h = refl
size-settled xs ys here (data_of.Exp es) h = refl
size-settled xs ys here (data_of.Point s o p) h = refl
size-settled xs ys here (data_of.Text f t) h = refl
size-settled xs ys here (data_of.Block count) h = ap (λ c. unwrap_or c 0) (count-settled xs ys here count h)
size-settled xs ys here (data_of.Instruction given) h = refl

pub address-settled : (xs ys : Labels) (address : ℕ) (s : Option Statement) → is_settled (keys_of xs) s ≡ true
    → address_behind (xs ++ ys) address s ≡ address_behind xs address s
unfolding address_behind
address-settled xs ys address None h = refl
address-settled xs ys address (Some (statements.Data given)) h = ap (λ n. address + n) (size-settled xs ys address given h)
address-settled xs ys address (Some (statements.Loc e)) h = ap (λ c. unwrap_or c address) (count-settled xs ys address e h)
address-settled xs ys address (Some (statements.End e)) h = refl
address-settled xs ys address (Some (statements.Radix n)) h = refl
address-settled xs ys address (Some statements.Title) h = refl

-- an expression is known by the labels above and without literals exactly where all its terms are among them
pub term-known : (xs : Labels) (here : ℕ) (t : Term) → is_some (term_value (names_at xs here []) t) ≡ is_among (keys_of xs) t
term-known xs here (Number n) = refl
term-known xs here (Label name) = is_some-lookup (nat_eq name) xs
term-known xs here Here = refl
term-known xs here (Literal n) = refl

pub sum-known : (xs : Labels) (here : ℕ) (sum : ℤ) (e : List SignedTerm)
    → is_some (value_onto (names_at xs here []) sum e) ≡ are_among (keys_of xs) e
sum-known xs here sum [] = refl
sum-known xs here sum (t ∷ e) =
    is_some_bind (term_value (names_at xs here []) t.term)
    (λ n. value_onto (names_at xs here []) (signed t.sign n sum) e)
    (are_among (keys_of xs) e)
    (λ n. sum-known xs here (signed t.sign n sum) e)
    ∙ ap (λ b. b && are_among (keys_of xs) e) (term-known xs here t.term)

pub value-known : (xs : Labels) (here : ℕ) (e : List SignedTerm)
    → is_some (value_of (names_at xs here []) e) ≡ are_among (keys_of xs) e
unfolding value_of
value-known xs here e = sum-known xs here (pos 0) e

pub value-settled : (xs ys : Labels) (here : ℕ) (e : List SignedTerm) → are_among (keys_of xs) e ≡ true
    → value_of (names_at (xs ++ ys) here []) e ≡ value_of (names_at xs here []) e
unfolding value_of
value-settled xs ys here e h = sum-settled xs ys here (pos 0) e h
