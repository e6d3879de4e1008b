-- The steps of the loops that add words.
use Rattle.std.proofs.Common.{◌≡◌, ℕ, suc, ◌+◌, ◌-◌, ◌<◌, List, [], ◌∷◌, ◌++◌, Option, Some, None, refl, sym, ap, ◌∙◌, append_assoc, arith}
use Rattle.mac_text.specs.declared.syntax.TextForm.{TextForm}
use Rattle.mac_asm.specs.Words.{text_word, text_words_from}
use Rattle.mac_layout.specs.Values.{◌>>=◌}

-- what was added before comes first
abbrev pub with_words : List ℕ → Option (List ℕ) → Option (List ℕ)
with_words front words = words >>= λ ws. Some (front ++ ws)

pub pushed_on : (front : List ℕ) (w : ℕ) (words : Option (List ℕ)) → with_words front (words >>= λ ws. Some (w ∷ ws)) ≡ with_words (front ++ w ∷ []) words
pushed_on front w None = refl
pushed_on front w (Some ws) = ap Some (sym (append_assoc front (w ∷ []) ws))

-- word i of a text comes first of those from word i on
text_words_more : (form : TextForm) (text : List ℕ) (i n : ℕ) → i < n
    → text_words_from form text i (n - i)
    ≡ (text_word form text i >>= λ w. text_words_from form text (i + 1) (n - (i + 1)) >>= λ ws. Some (w ∷ ws))
text_words_more form text i n lt =
    let k : n - i ≡ suc (n - (i + 1)) = omega arith in
    ap (text_words_from form text i) k

-- a word that has no code
pub text_stops : (form : TextForm) (text front : List ℕ) (i n : ℕ) (total : Option (List ℕ)) → i < n → text_word form text i ≡ None
    → with_words front (text_words_from form text i (n - i)) ≡ total → total ≡ None
text_stops form text front i n total lt none so_far =
    sym so_far
    ∙ ap (with_words front)
    (text_words_more form text i n lt
    ∙ ap (λ o. o >>= λ w. text_words_from form text (i + 1) (n - (i + 1)) >>= λ ws. Some (w ∷ ws)) none)

-- one more word
pub text_goes_on : (form : TextForm) (text front new : List ℕ) (i n w : ℕ) (total : Option (List ℕ)) → i < n
    → text_word form text i ≡ Some w
    → new ≡ front ++ w ∷ []
    → with_words front (text_words_from form text i (n - i)) ≡ total → with_words new (text_words_from form text (i + 1) (n - (i + 1))) ≡ total
text_goes_on form text front new i n w total lt is longer so_far =
    ap (λ f. with_words f (text_words_from form text (i + 1) (n - (i + 1)))) longer
    ∙ sym (pushed_on front w (text_words_from form text (i + 1) (n - (i + 1))))
    ∙ sym
    (ap (with_words front)
    (text_words_more form text i n lt
    ∙ ap (λ o. o >>= λ x. text_words_from form text (i + 1) (n - (i + 1)) >>= λ ws. Some (x ∷ ws)) is))
    ∙ so_far

none_of_none : (front : List ℕ) (words : Option (List ℕ)) → with_words front words ≡ None → words ≡ None
none_of_none front None e = refl
none_of_none front (Some ws) e = cc

pub stopped : (front : List ℕ) (words : Option (List ℕ)) → with_words front words ≡ None → words ≡ None
stopped front words e = none_of_none front words e
