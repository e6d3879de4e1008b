-- Ends of what came.
use Rattle.std.proofs.Common.{◌≡◌, ◌≤◌, ◌+◌, ◌∙◌, ℕ, List, [], ◌++◌, length, drop, Result, Ok, Err, is_err, false, sym, ap, arith, inl, inr}
use Rattle.std.specs.Prelude.{OnOk}
use Rattle.std.proofs.lemmas.Bool.{cases_lt}
use Rattle.std.proofs.lemmas.List.{drop_all, drop-append-le}
use Rattle.command_line.specs.Keeping.{IsEndOf}

-- nothing is an end
pub end_nothing : (whole text : List ℕ) → text ≡ [] → IsEndOf whole text
end_nothing whole text none = (length whole, none ∙ sym (drop_all (length whole) whole (omega arith)))

-- an end stays one where more comes
pub end_longer : (old mid more new : List ℕ) → IsEndOf old mid → new ≡ mid ++ more → IsEndOf (old ++ more) new
end_longer old mid more new end is = elim (cases_lt (length old) end.0) [
  | inl h ↦ (
    length old,
    is ∙ ap (λ l. l ++ more) (end.1 ∙ drop_all end.0 old (omega (arith, h)) ∙ sym (drop_all (length old) old (omega arith)))
        ∙ sym (drop-append-le (length old) old more (omega arith)),
  )
  | inr h ↦ (end.0, is ∙ ap (λ l. l ++ more) end.1 ∙ sym (drop-append-le end.0 old more h))
]

-- what a call that was not refused promises
pub not_refused : {A E P : Type 0} (r : Result A E) → is_err r ≡ false → OnOk r P → P
not_refused (Ok a) h p = p
not_refused (Err e) h p = cc
