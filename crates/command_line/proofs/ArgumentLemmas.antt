-- Lemmas on the program's arguments.
use Rattle.std.proofs.Common.{◌≡◌, ◌⊎◌, ◌∙◌, ℕ, List, Bool, true, false, refl, ap, inl, inr}
use Rattle.clap.specs.Words.{App, Text, takes}
use Rattle.clap.specs.declared.error.kind.ErrorKind.{ErrorKind}
use Rattle.clap.specs.declared.error.kind.ErrorKind.TheVariants as kind
use Rattle.program_shell.specs.declared.refusal.Refusal.{Refusal}
use Rattle.program_shell.specs.declared.refusal.Refusal.TheVariants.{Memory, Usage}
use Rattle.program_shell.specs.Refusals.{IsKind}
use Rattle.command_line.specs.Arguments.{IsDue, app}

true_or_false : (b : Bool) → (b ≡ true) ⊎ (b ≡ false)
true_or_false true = inl refl
true_or_false false = inr refl

-- a parse refused the arguments for another cause than memory
pub due : (r : Refusal) (k : ErrorKind) (a : App) (arguments : List Text) → IsKind r k → (takes a arguments ≡ true → k ≡ kind.OutOfMemory) → a ≡ app → IsDue r arguments
due Memory k a arguments is passes same = tt
due (Usage e) k a arguments is passes same = elim (true_or_false (takes app arguments)) [
  | inl y ↦ absurd (is (passes (ap (λ x. takes x arguments) same ∙ y)))
  | inr n ↦ inl n
]
