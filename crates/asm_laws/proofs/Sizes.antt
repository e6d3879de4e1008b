-- A statement gives as many words as its size says.
use Rattle.std.proofs.Common.{◌≡◌, ◌∙◌, ap, subst, ℕ, zero, suc, ◌+◌, true, List, [], ◌∷◌, length, replicate}
use Rattle.std.proofs.Common.{unwrap_or, Option, Some, None, option_map, refl, arith}
use Rattle.std.proofs.lemmas.Bool.{and_parts}
use Rattle.std.proofs.lemmas.List.{length-replicate}
use Rattle.mac_text.specs.declared.syntax.Term.{Term}
use Rattle.mac_text.specs.declared.syntax.Term.TheVariants.{Number, Label, Here, Literal}
use Rattle.mac_text.specs.declared.syntax.SignedTerm.{SignedTerm}
use Rattle.mac_text.specs.declared.syntax.TextForm.{TextForm}
use Rattle.mac_text.specs.declared.syntax.Data.{Data}
use Rattle.mac_text.specs.declared.syntax.Data.TheVariants as data_of
use Rattle.std.specs.Prelude.{ℤ, pos}
use Rattle.mac_layout.specs.Values.{◌>>=◌, term_value, signed, value_onto, value_of, natural_of}
use Rattle.mac_layout.specs.TextSizes.{words_in}
use Rattle.mac_asm.specs.Words.{words_of, words_of_all, text_word, text_words_from, alone}
use Rattle.mac_layout.specs.Addresses.{Labels, names_at, count_of, size_of, is_among, are_among, is_count_settled}
use Rattle.mac_asm.specs.Assembly.{all_words_of}
use Rattle.asm_laws.proofs.Options.{some_parts, bind_some, bind_same}

-- where no literal stands, the literals do not matter
term-free : (labels : Labels) (here : ℕ) (literals above : List ℕ) (t : Term) → is_among above t ≡ true
    → term_value (names_at labels here literals) t ≡ term_value (names_at labels here []) t
term-free labels here literals above (Number n) h = refl
term-free labels here literals above (Label name) h = refl
term-free labels here literals above Here h = refl
term-free labels here literals above (Literal n) h = absurd (cc)

sum-free : (labels : Labels) (here : ℕ) (literals above : List ℕ) (sum : ℤ) (e : List SignedTerm)
    → are_among above e ≡ true
    → value_onto (names_at labels here literals) sum e ≡ value_onto (names_at labels here []) sum e
sum-free labels here literals above sum [] h = refl
sum-free labels here literals above sum (t ∷ e) h =
    let parts = and_parts (is_among above t.term) (are_among above e) h in
    ap (λ o. o >>= λ n. value_onto (names_at labels here literals) (signed t.sign n sum) e)
    (term-free labels here literals above t.term parts.0)
    ∙ bind_same (term_value (names_at labels here []) t.term)
    (λ n. value_onto (names_at labels here literals) (signed t.sign n sum) e)
    (λ n. value_onto (names_at labels here []) (signed t.sign n sum) e)
    (λ n. sum-free labels here literals above (signed t.sign n sum) e parts.1)

pub count-free : (labels : Labels) (here : ℕ) (literals above : List ℕ) (e : List SignedTerm)
    → are_among above e ≡ true
    → count_of (names_at labels here literals) e ≡ count_of (names_at labels here []) e
unfolding count_of value_of
count-free labels here literals above e h =
    ap (λ v. v >>= natural_of) (sum-free labels here literals above (pos 0) e h)

alone-length : (o : Option ℕ) (words : List ℕ) → alone o ≡ Some words → length words ≡ 1
alone-length None words h = absurd (cc)
alone-length (Some w) words h = subst (λ l. length l ≡ 1) (some_parts (w ∷ []) words h) refl

all-length : {X : Type 0} (f : X → Option ℕ) (xs : List X) (words : List ℕ) → words_of_all f xs ≡ Some words
    → length words ≡ length xs
all-length f [] words h = subst (λ l. length l ≡ 0) (some_parts [] words h) refl
all-length f (x ∷ xs) words h =
    let p = bind_some (f x) _ words h in
    let q = bind_some (words_of_all f xs) _ words p.2 in
    let ih : length q.0 ≡ length xs = all-length f xs q.0 q.1 in
    let longer : length (p.0 ∷ q.0) ≡ length (x ∷ xs) = omega (arith, ih) in
    subst (λ l. length l ≡ length (x ∷ xs)) (some_parts (p.0 ∷ q.0) words q.2) longer

text-length : (form : TextForm) (text : List ℕ) (i n : ℕ) (words : List ℕ) → text_words_from form text i n ≡ Some words
    → length words ≡ n
text-length form text i zero words h = subst (λ l. length l ≡ 0) (some_parts [] words h) refl
text-length form text i (suc n) words h =
    let p = bind_some (text_word form text i) _ words h in
    let q = bind_some (text_words_from form text (i + 1) n) _ words p.2 in
    let ih : length q.0 ≡ n = text-length form text (i + 1) n q.0 q.1 in
    let longer : length (p.0 ∷ q.0) ≡ suc n = omega (arith, ih) in
    subst (λ l. length l ≡ suc n) (some_parts (p.0 ∷ q.0) words q.2) longer

zeros-length : (o : Option ℕ) (words : List ℕ) → option_map (λ n. replicate n 0) o ≡ Some words
    → length words ≡ unwrap_or o 0
zeros-length None words h = absurd (cc)
zeros-length (Some n) words h =
    subst (λ l. length l ≡ n) (some_parts (replicate n 0) words h) (length-replicate n 0)

pub sizes_fit : (labels : Labels) (here : ℕ) (literals above : List ℕ) (given : Data) (words : List ℕ)
    → is_count_settled above given ≡ true
    → all_words_of (names_at labels here literals) given ≡ Some words
    → length words ≡ size_of labels here given
unfolding all_words_of size_of words_of
sizes_fit labels here literals above (data_of.Value e) words s h = alone-length _ words h
sizes_fit labels here literals above (data_of.Halves l r) words s h = alone-length _ words h
sizes_fit labels here literals above (data_of.Iowd n a) words s h = alone-length _ words h
sizes_fit labels here literals above (data_of.Exp es) words s h = all-length _ es words h
sizes_fit labels here literals above (data_of.Point n o p) words s h = alone-length _ words h
sizes_fit labels here literals above (data_of.Text form text) words s h =
    text-length form text 0 (words_in form (length text)) words h
sizes_fit labels here literals above (data_of.Block count) words s h =
    zeros-length (count_of (names_at labels here literals) count) words h
    ∙ ap (λ c. unwrap_or c 0) (count-free labels here literals above count s)
sizes_fit labels here literals above (data_of.Instruction given) words s h = alone-length _ words h
