-- An operation has a name just where it has a family. The test is computed once, over all operations.
use Rattle.std.proofs.Common.{◌≡◌, ℕ, ◌≤◌, Bor, Bool, true, false, Option, Some, None, refl, sym, ap, ◌∙◌, inl, inr, rules, tests}
use Rattle.std.specs.Prelude.{is_none, IsNone, ◌↔◌}
use Rattle.std.specs.Option.{option_copied}
use Rattle.std.proofs.lemmas.Bool.{false≢true, cases_lt, agree_below, agree_below_at}
use Rattle.ka_isa.specs.declared.Family.{Family}
use Rattle.ka_isa.specs.declared.Family.TheVariants.{Other}
use Rattle.ka_isa.specs.Families.{family_of}
use Rattle.ka_isa.specs.Operations.{Name, operations, name_of}
use Rattle.ka_isa.proofs.TableLemmas.{past}
use Rattle.ka_isa.proofs.MeaningLemmas.{all_below}

abbrev is_other : Family → Bool
is_other Other = true
is_other _ = false

other : (f : Family) → is_other f ≡ true → f ≡ Other
other Other h = refl
other _ h = absurd (false≢true h)

agree : agree_below (λ op. is_none (name_of op)) (λ op. is_other (family_of op)) 512 ≡ true
unfolding name_of operations
agree = refl

above : (op : ℕ) → 512 ≤ op → family_of op ≡ Other
above op h = search (tests, rules)

unnamed_above : (op : ℕ) → 512 ≤ op → name_of op ≡ None
unfolding name_of
unnamed_above op h = past operations 512 op all_below h

no_name : (o : Option Name) → is_none o ≡ true → o ≡ None
no_name None h = refl
no_name (Some name) h = absurd (false≢true h)

pub unnamed-other : (op : ℕ) → name_of op ≡ None → family_of op ≡ Other
unnamed-other op h =
    elim (cases_lt op 512) [
      | inl p ↦ other (family_of op) (sym (agree_below_at (λ op. is_none (name_of op)) (λ op. is_other (family_of op)) 512 op agree p) ∙ ap is_none h)
      | inr p ↦ above op p
    ]

pub other-unnamed : (op : ℕ) → family_of op ≡ Other → name_of op ≡ None
other-unnamed op h =
    elim (cases_lt op 512) [
      | inl p ↦ no_name (name_of op) (agree_below_at (λ op. is_none (name_of op)) (λ op. is_other (family_of op)) 512 op agree p ∙ ap is_other h)
      | inr p ↦ unnamed_above op p
    ]

pub left_out : (name : Option (Bor Name)) (op : ℕ) → option_copied name ≡ name_of op → IsNone name ↔ (family_of op ≡ Other)
left_out None op e = (λ _. unnamed-other op (sym e), λ _. refl)
left_out (Some name) op e = (λ h. cc, λ h. let none = other-unnamed op h in cc)
