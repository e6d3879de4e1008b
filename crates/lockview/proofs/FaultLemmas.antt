-- Lemmas on why a script is not drawn.
use Rattle.std.proofs.Common.{◌≡◌, ◌≤◌, ◌+◌, ◌⊎◌, ◌∙◌, ℕ, true, false, cond, is_none, List, [], ◌∷◌, Option, None, Some, IsSome, is_some, unwrap_or, refl, sym, ap, subst, inl, inr, arith}
use Rattle.std.proofs.lemmas.Bool.Decides.{nat_tests}
use Rattle.lock_bars.specs.Courses.{has_line}
use Rattle.lock_bars.specs.declared.errors.ScriptError.{ScriptError}
use Rattle.lock_bars.specs.declared.errors.ScriptError.TheVariants.{Memory, Short}
use Rattle.op_script.specs.RunScripts.{line_effect}
use Rattle.op_script.specs.ScriptStates.{StateValue}
use Rattle.lockview.specs.Faults.{IsLengthFault, lines_done}

-- the line that is asked for did not come
pub short_script : {X : Type 0} (at : Option ℕ) (done count lines : ℕ) (waits : Option X) (e : ScriptError) → lines ≡ done
    → is_some waits ≡ has_line lines at
    → (e ≡ Memory) ⊎ ((e ≡ Short lines) × IsSome at × (waits ≡ None))
    → IsLengthFault at done count e
short_script at done count lines waits e served passed why =
    elim why [
      | inl memory ↦ subst (IsLengthFault at done count) (sym memory) tt
      | inr short ↦ subst (IsLengthFault at done count) (sym short.0) (served, short.1, sym passed ∙ ap is_some short.2)
    ]

-- one line more is done, and the script goes on
pub done_next : (d next : StateValue) (n : ℕ) (line : List ℕ) (all more : List (List ℕ)) (whole : ℕ) → all ≡ line ∷ more
    → is_none (line_effect (n + 1) d line).ending ≡ true
    → next ≡ (line_effect (n + 1) d line).state
    → lines_done d n all ≡ whole
    → lines_done next (n + 1) more ≡ whole
done_next d next n line all more whole here goes left before =
    ap (λ (s : StateValue). lines_done s (n + 1) more) left
    ∙ sym (ap (λ b. cond b (lines_done (line_effect (n + 1) d line).state (n + 1) more) n) goes)
    ∙ sym (ap (lines_done d n) here) ∙ before

-- the script ends there
pub done_last : (d : StateValue) (n : ℕ) (line : List ℕ) (all more : List (List ℕ)) (whole : ℕ) → all ≡ line ∷ more
    → is_none (line_effect (n + 1) d line).ending ≡ false
    → lines_done d n all ≡ whole
    → n ≡ whole
done_last d n line all more whole here ends before =
    sym (ap (λ b. cond b (lines_done (line_effect (n + 1) d line).state (n + 1) more) n) ends)
    ∙ sym (ap (lines_done d n) here) ∙ before

-- there are no more lines
pub done_end : (d : StateValue) (n : ℕ) (all : List (List ℕ)) (whole : ℕ) → all ≡ [] → lines_done d n all ≡ whole → n ≡ whole
done_end d n all whole none before = sym (ap (lines_done d n) none) ∙ before

has_within : (n lines : ℕ) → has_line lines (Some n) ≡ true → n ≤ lines
has_within n lines has = grind (arith, nat_tests)

-- the line after which the waits are drawn is one of these
pub at_within : {X : Type 0} (at : Option ℕ) (lines most : ℕ) (waits : Option X) → lines ≤ most → is_some waits ≡ has_line lines at → (IsSome at → IsSome waits)
    → unwrap_or at lines ≤ most
at_within None lines most waits few passed found = few
at_within (Some n) lines most waits few passed found =
    let within = has_within n lines (sym passed ∙ found refl) in
    omega (arith, within, few)
