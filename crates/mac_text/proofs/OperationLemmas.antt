-- What a name means that is found by its symbol. That no operation's name is that of a form is computed once, over all of them.
use Rattle.std.proofs.Common.{◌≡◌, ℕ, List, [], ◌∷◌, length, Option, Some, None, Bool, true, false, refl, sym, ap, ◌∙◌}
use Rattle.std.specs.Prelude.{is_none, IfSome, if◌then◌else◌}
use Rattle.std.specs.List.{list_all}
use Rattle.std.specs.Option.{option_map}
use Rattle.std.specs.Str.{bytes_eq}
use Rattle.std.proofs.lemmas.Bool.{and_parts, false≢true, le-leb}
use Rattle.ka_isa.specs.Keys.{is_plain}
use Rattle.ka_isa.specs.Operations.{Name, Operation, operations, code_in, named_of, operation_meaning}
use Rattle.ka_isa.specs.declared.calls.Named.{Named}
use Rattle.ka_isa.proofs.MeaningLemmas.{named_of_operation}
use Rattle.ka_isa.proofs.SearchLemmas.{same}
use Rattle.mac_text.specs.Characters.{is_name_character}
use Rattle.mac_text.specs.Names.{folded}
use Rattle.mac_text.specs.Keywords.{form_of}
use Rattle.mac_text.specs.declared.keyword.Form.{Form}
use Rattle.mac_text.proofs.NameLemmas.{folded_has_codes, folded_short}

none_are_forms : list_all (λ o. is_none (form_of o.name)) operations ≡ true
unfolding operations form_of
none_are_forms = refl

none_is : (o : Option Form) → is_none o ≡ true → o ≡ None
none_is None h = refl
none_is (Some form) h = absurd (false≢true h)

no_form_first : (b : Bool) (first name : Name) (here code : ℕ) (rest : Option ℕ) → (b ≡ true → first ≡ name) → is_none (form_of first) ≡ true
    → Some code ≡ (if b then Some here else rest) → (Some code ≡ rest → form_of name ≡ None) → form_of name ≡ None
no_form_first true first name here code rest e none found later = ap form_of (sym (e refl)) ∙ none_is (form_of first) none
no_form_first false first name here code rest e none found later = later found

no_form : (os : List Operation) (name : Name) (code : ℕ) → list_all (λ o. is_none (form_of o.name)) os ≡ true
    → Some code ≡ code_in os name
    → form_of name ≡ None
no_form [] name code h found = cc
no_form (o ∷ os) name code h found =
    let parts = and_parts (is_none (form_of o.name)) (list_all (λ o. is_none (form_of o.name)) os) h in
    no_form_first (bytes_eq o.name name) o.name name o.code code (code_in os name) (same o.name name) parts.0 found
    (λ later. no_form os name code parts.1 later)

-- the first six characters of a name are a plain name
pub folded_plain : (name : List ℕ) → list_all is_name_character name ≡ true → is_plain (folded name) ≡ true
folded_plain name h = rw (le-leb (length (folded name)) 6 (folded_short name)) (folded_has_codes name h)

-- what is said of a name with a meaning
pub record Says (name : Name) (found : Option Named) : Type 0 where
  pub form : IfSome found (λ named. form_of name ≡ None)
  pub named : IfSome found (λ named. named_of name ≡ Some named)

meaning_says : (name : Name) (found : Option Named) (code : Option ℕ) → code ≡ code_in operations name
    → found ≡ option_map operation_meaning code
    → Says name found
meaning_says name None code is e = record { form = tt; named = tt }
meaning_says name (Some named) None is e = cc
meaning_says name (Some named) (Some code) is e =
    let meaning : named ≡ operation_meaning code = cc in
    record {
      form = no_form operations name code none_are_forms is;
      named = named_of_operation name code is ∙ ap Some (sym meaning);
    }

pub operation_says : (name : Name) (found : Option Named) → found ≡ option_map operation_meaning (code_in operations name) → Says name found
operation_says name found e = meaning_says name found (code_in operations name) refl e
