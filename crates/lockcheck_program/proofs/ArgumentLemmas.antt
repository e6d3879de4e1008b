-- Lemmas on the program's arguments.
use Rattle.std.proofs.Common.{◌≡◌, ◌≢◌, ◌⊎◌, ◌∙◌, List, true, None, refl, ap, sym, subst, inl, inr}
use Rattle.std.specs.Prelude.{codes}
use Rattle.clap.specs.Words.{App, HasKind, IsAmong, Text, fault_of, first_of, first_value, is_simple, is_simple_and_free, kind_of, matches_of, rows_of}
use Rattle.clap.specs.declared.error.Error.{Error}
use Rattle.clap.specs.declared.error.kind.ErrorKind.{ErrorKind}
use Rattle.clap.specs.declared.error.kind.ErrorKind.TheVariants as kind
use Rattle.clap.specs.declared.parser.matches.Found.{Found}
use Rattle.clap.proofs.WalkLemmas.{first_value-rows}
use Rattle.lockcheck_program.specs.Arguments.{AreOptions, AreWrong, AskFor, AskForHelp, IsDue, app, given_by, states_of}
use Rattle.lockcheck_program.specs.declared.arguments.Options.{Options}

pub app_is_simple : is_simple app ≡ true
app_is_simple = refl

pub app_is_simple_and_free : is_simple_and_free app ≡ true
app_is_simple_and_free = refl

-- what a parse found is what the arguments give
given : (f : Found) (a : App) (arguments : List Text) → a ≡ app → rows_of f ≡ matches_of a arguments → given_by arguments ≡ first_value f
given f a arguments same rows =
    λ i id. (ap (first_of id) (ap (λ x. matches_of x arguments) (sym same) ∙ sym rows) ∙ sym (first_value-rows f id)) i

pub asked : (f : Found) (a : App) (arguments : List Text) (options : Options) → a ≡ app → rows_of f ≡ matches_of a arguments
    → AreOptions (first_value f) options
    → AskFor arguments options
asked f a arguments options same rows h = subst (λ g. AreOptions g options) (sym (given f a arguments same rows)) h

pub out_of_range : (f : Found) (a : App) (arguments : List Text) (k : ErrorKind) → a ≡ app → rows_of f ≡ matches_of a arguments → k ≡ kind.ValueValidation
    → states_of (first_value f (codes "states")) ≡ None
    → IsDue arguments k
out_of_range f a arguments k same rows is h =
    inr (inr (is, ap (λ g. states_of (g (codes "states"))) (given f a arguments same rows) ∙ h))

pub refused : (e : Error) (a : App) (arguments : List Text) → a ≡ app → HasKind (fault_of a arguments) e → IsDue arguments (kind_of e)
refused e a arguments same h = elim h [
  | inl m ↦ inl m
  | inr x ↦ inr (inl (subst (λ b. IsAmong (kind_of e) (fault_of b arguments)) same x))
]

-- an error for the help or the version is one that the command line gives
pub told_help : (arguments : List Text) (k : ErrorKind) → IsDue arguments k → (k ≡ kind.DisplayHelp) ⊎ (k ≡ kind.DisplayVersion) → AskForHelp arguments
told_help arguments k h asks = elim h [
  | inl m ↦ elim asks [ inl a ↦ absurd (cc) | inr b ↦ absurd (cc) ]
  | inr x ↦ elim x [
    | inl y ↦ elim asks [
      | inl a ↦ inl (subst (λ b. IsAmong b (fault_of app arguments)) a y)
      | inr v ↦ inr (subst (λ b. IsAmong b (fault_of app arguments)) v y)
    ]
    | inr z ↦ elim asks [ inl a ↦ absurd (cc) | inr b ↦ absurd (cc) ]
  ]
]

-- any other error but want of memory says that the arguments are wrong
pub told_wrong : (arguments : List Text) (k : ErrorKind) → IsDue arguments k → k ≢ kind.OutOfMemory → k ≢ kind.DisplayHelp → k ≢ kind.DisplayVersion
    → AreWrong arguments
told_wrong arguments k h memory help version = elim h [
  | inl m ↦ absurd (memory m)
  | inr x ↦ elim x [ inl y ↦ inl (k, help, version, y) | inr z ↦ inr z.1 ]
]
