-- Labels before a line that `macro` writes: what the survey notes, and what a step over one leaves.
use Rattle.std.proofs.Common.{◌≡◌, ℕ, ℤ, ◌^◌, ◌<◌, ◌==◌, ◌||◌, ◌&&◌, not, List, [], ◌∷◌, ◌++◌, Option, Some, None, Ok}
use Rattle.std.proofs.Common.{Bool, true, false, length, drop, refl, sym, ap, ◌∙◌, arith}
use Rattle.std.specs.Prelude.{codes, is_some, pos, nat_eq, nat_lt}
use Rattle.std.specs.List.{list_all, list_any}
use Rattle.std.specs.Str.{bytes_eq}
use Rattle.std.specs.Map.{lookup, keys_of}
use Rattle.std.proofs.lemmas.Bool.{and_parts, lt-ltb}
use Rattle.std.proofs.lemmas.Bool.Decides.{nat_tests}
use Rattle.std.proofs.lemmas.Map.Made.{is_some-lookup}
use Rattle.std.proofs.lemmas.Slice.Eq.{bytes_eq-Decides}
use Rattle.indexmap.specs.IndexMap.{insert_entry}
use Rattle.ka_isa.specs.declared.calls.Named.{Named}
use Rattle.mac_text.specs.Characters.{is_digit, is_name_character}
use Rattle.mac_text.specs.Names.{folded, symbol_of}
use Rattle.mac_text.specs.Scan.{begins_with, word_of}
use Rattle.macro_expressions.specs.declared.symbols.Defined.{Defined}
use Rattle.macro_expressions.specs.Operations.{found_in, operation_of}
use Rattle.macro_expressions.specs.Reading.{Front, begins_name, between}
use Rattle.macro_statements.specs.declared.forms.Form.{Form}
use Rattle.macro_statements.specs.Forms.{form_names, form_of, meant_by, built_in}
use Rattle.macro_statements.specs.Mentions.{behind_word, defines, far_names}
use Rattle.macro_meaning.specs.Meaning.{Walk, defining, is_label, is_barred, takes_label, label_step, step}
use Rattle.meaning_laws.specs.Written.{front}
use Rattle.meaning_laws.specs.WrittenSource.{IsLabel}
use Rattle.meaning_laws.proofs.WrittenNames.{Notes, IsApart, IsQuiet, far_of, run_word, run_behind, quiet_past}
use Rattle.meaning_laws.proofs.WrittenSteps.{so_far}

-- ---- the survey

no_form : (o : Option Named) (f : Option Form) → meant_by o f ≡ None → is_some f ≡ false
no_form None None h = refl
no_form None (Some form) h = absurd (cc)
no_form (Some named) f h = absurd (cc)

other_name : (b : Bool) (name other : List ℕ) → bytes_eq name other ≡ b → is_some (found_in form_names other) ≡ true
    → is_some (found_in form_names name) ≡ false → b ≡ false
other_name false name other e is no_ = refl
other_name true name other e is no_ =
    let same : name ≡ other = (bytes_eq-Decides name other).0 e in
    sym (ap (λ n. is_some (found_in form_names n)) same ∙ is) ∙ no_

is_other : (name other : List ℕ) → is_some (found_in form_names other) ≡ true → is_some (form_of name) ≡ false
    → bytes_eq (folded name) other ≡ false
is_other name other is no_ = other_name (bytes_eq (folded name) other) (folded name) other refl is no_

name_not_far : (name : List ℕ) → is_some (form_of name) ≡ false → list_any (bytes_eq (folded name)) far_names ≡ false
unfolding form_names
name_not_far name h =
    rw (
      is_other name (codes "OPDEF") refl h,
      is_other name (codes "SYN") refl h,
      is_other name (codes "PURGE") refl h,
      is_other name (codes "SEARCH") refl h,
      is_other name (codes "TWOSEG") refl h,
      is_other name (codes "HISEG") refl h,
      is_other name (codes "IF1") refl h,
      is_other name (codes "IF2") refl h,
    )
    refl

name_not_define : (name : List ℕ) → is_some (form_of name) ≡ false → bytes_eq (folded name) (codes "DEFINE") ≡ false
unfolding form_names
name_not_define name h = is_other name (codes "DEFINE") refl h

colon : IsApart 58
colon = record { name = refl; comment = refl }

name_some : (name : List ℕ) → begins_name name ≡ true → 0 < length name
name_some [] h = absurd (cc)
name_some (c ∷ cs) h = omega arith

and_last : (b c : Bool) → c ≡ false → (b && c) ≡ false
and_last true c h = h
and_last false c h = refl

quiet_name : (text name : List ℕ) → word_of text ≡ name → list_any (bytes_eq (folded name)) far_names ≡ false
    → bytes_eq (folded name) (codes "DEFINE") ≡ false → built_in name ≡ None → IsQuiet text
quiet_name text name is far define free = record {
  far =
      far_of (list_any (bytes_eq (folded (word_of text))) far_names) (defines (behind_word text)) (is_some (built_in (word_of text)))
      (ap (λ w. list_any (bytes_eq (folded w)) far_names) is ∙ far)
      (and_last (defines (behind_word text)) (is_some (built_in (word_of text)))
      (ap (λ w. is_some (built_in w)) is ∙ ap (λ o. is_some o) free));
  define = rw is define;
}

pub label_noted : (place : ℕ) (name rest : List ℕ) → IsLabel place name → Notes (name ++ 58 ∷ rest) rest
label_noted place name rest is =
    let no_ = no_form (operation_of name) (form_of name) is.free in
    quiet_past name 58 rest (name_some name is.begins) is.characters colon
    (quiet_name (name ++ 58 ∷ rest) name (run_word name (58 ∷ rest) is.characters refl) (name_not_far name no_)
    (name_not_define name no_) is.free)

-- ---- a step over a label

kept_name : (a b c d : Bool) → (a && not (b || c)) ≡ true → d ≡ true → (a && not (b || (c && d))) ≡ true
kept_name a b true true h e = h
kept_name a b false true h e = h
kept_name a b true false h e = absurd (cc)
kept_name a b false false h e = absurd (cc)

name_begins : (name rest : List ℕ) → begins_name name ≡ true → begins_name (name ++ 58 ∷ rest) ≡ true
name_begins [] rest h = absurd (cc)
name_begins (c ∷ []) rest h = kept_name (is_name_character c) (is_digit c) (c == 46) true h refl
name_begins (c ∷ d ∷ cs) rest h = h

no_space : (c : ℕ) → is_name_character c ≡ true → (c == 32 || (c == 9 || (c == 12 || (c == 10 || c == 13)))) ≡ false
no_space c h = grind (arith, nat_tests)

no_comment : (c : ℕ) → is_name_character c ≡ true → (c == 59) ≡ false
no_comment c h = grind (arith, nat_tests)

pub name_found : (name rest : List ℕ) → begins_name name ≡ true → list_all is_name_character name ≡ true
    → between false (name ++ 58 ∷ rest) ≡ name ++ 58 ∷ rest
name_found [] rest b h = absurd (cc)
name_found (c ∷ cs) rest b h =
    let first = (and_parts (is_name_character c) (list_all is_name_character cs) h).0 in
    rw (no_space c first, no_comment c first, between) refl

label_left : (w : Walk) (text rest name : List ℕ) → word_of text ≡ name → drop (length name) text ≡ 58 ∷ rest
    → is_barred w (symbol_of name) ≡ false → takes_label w (symbol_of name) ≡ true → begins_with 58 rest ≡ false
    → begins_with 33 rest ≡ false
    → label_step w (front text) ≡ Ok (defining (symbol_of name) (pos w.place) true w, front rest)
unfolding label_step
label_left w text rest name a b c d e f = rw (a, c, d, b, e, f) refl

label_by : (table : List (ℕ × ℤ)) (w v : Walk) (text : List ℕ) (s : Front) → is_label text ≡ true → label_step w (front text) ≡ Ok (v, s)
    → step table w (front text) ≡ Ok (None, (v, s))
unfolding step
label_by table w v text s a b = rw (a, b) refl

is_label_by : (text name rest : List ℕ) → begins_name text ≡ true → behind_word text ≡ 58 ∷ rest → is_label text ≡ true
is_label_by text name rest a b = rw (a, b) refl

abbrev pub label_at : ℕ → List ℕ → ℕ × Defined
label_at place name = (symbol_of name, record { value = pos place; is_label = true })

new_by : (b : Bool) (e : ℕ × Defined) (es : List (ℕ × Defined)) (k : ℕ) (v : Defined) → nat_eq k e.0 ≡ b
    → (b || list_any (nat_eq k) (keys_of es)) ≡ false
    → (list_any (nat_eq k) (keys_of es) ≡ false → insert_entry nat_eq es k v ≡ es ++ (k, v) ∷ [])
    → insert_entry nat_eq (e ∷ es) k v ≡ (e ∷ es) ++ (k, v) ∷ []
new_by true e es k v is h later = absurd (cc)
new_by false e es k v is h later = rw is (ap (λ l. e ∷ l) (later h))

new_last : (d : List (ℕ × Defined)) (k : ℕ) (v : Defined) → list_any (nat_eq k) (keys_of d) ≡ false
    → insert_entry nat_eq d k v ≡ d ++ (k, v) ∷ []
new_last [] k v h = refl
new_last (e ∷ es) k v h = new_by (nat_eq k e.0) e es k v refl h (new_last es k v)

fits_label : (place : ℕ) (known : Bool) → place < 2 ^ 18 → known ≡ false → (nat_lt place (2 ^ 18) && not known) ≡ true
fits_label place known h e = rw (lt-ltb place (2 ^ 18) h, e) refl

-- a label gets the place that is next
pub label_taken : (table : List (ℕ × ℤ)) (d : List (ℕ × Defined)) (place : ℕ) (l : List (ℕ × ℕ)) (name rest : List ℕ) → IsLabel place name
    → list_any (nat_eq (symbol_of name)) (keys_of d) ≡ false → begins_with 58 rest ≡ false → begins_with 33 rest ≡ false
    → step table (so_far d place l) (front (name ++ 58 ∷ rest)) ≡ Ok (None, (so_far (d ++ label_at place name ∷ []) place l, front rest))
label_taken table d place l name rest is fresh a b =
    let text = name ++ 58 ∷ rest in
    let word = run_word name (58 ∷ rest) is.characters refl in
    let new : is_some (lookup (nat_eq (symbol_of name)) d) ≡ false = is_some-lookup (nat_eq (symbol_of name)) d ∙ fresh in
    let behind = run_behind name (58 ∷ rest) is.characters refl in
    let left = defining (symbol_of name) (pos place) true (so_far d place l) in
    label_by table (so_far d place l) left text (front rest) (is_label_by text name rest (name_begins name rest is.begins) behind)
    (label_left (so_far d place l) text rest name word (ap (λ w. drop (length w) text) (sym word) ∙ behind) refl
    (fits_label place (is_some (lookup (nat_eq (symbol_of name)) d)) is.below new) a b)
    ∙ ap (λ (d' : List (ℕ × Defined)). Ok (None, (so_far d' place l, front rest)))
    (new_last d (symbol_of name) (record { value = pos place; is_label = true }) fresh)
