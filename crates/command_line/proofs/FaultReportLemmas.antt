-- What is reported of a refusal.
use Rattle.std.proofs.Common.{◌≡◌, ◌++◌, ◌∙◌, ℕ, Bool, true, false, cond, List, Option, Some, None, Result, Err, ap, subst, sym, refl, inr}
use Rattle.std.specs.Prelude.{codes}
use Rattle.machine.specs.Setups.{Setup}
use Rattle.op_script.specs.Heads.{is_other, other_text}
use Rattle.op_script.specs.declared.heads.OtherMachine.{OtherMachine}
use Rattle.script_io.specs.Endings.{served_as}
use Rattle.script_io.specs.declared.endings.ServeError.{ServeError}
use Rattle.script_io.specs.declared.endings.ServeError.TheVariants as error
use Rattle.script_io.specs.declared.endings.SourceFault.{SourceFault}
use Rattle.program_shell.specs.Reports.{Hands}
use Rattle.command_line.specs.Programs.{IsLineOn, ReportsFault, TellsHead, head_line, place_of_line, place_of_source}

module _ (e : ServeError) (t t' : Option (List ℕ)) (failed : Bool) (items text : List ℕ) (same : text ≡ items) (hands : Hands t t' failed text) where
  pub reports_line : (number : ℕ) → e ≡ error.Script number → IsLineOn (place_of_line number) items → ReportsFault (served_as (Err e)) t t' failed
  reports_line number is line = subst (λ a. ReportsFault (served_as (Err a)) t t' failed)
      (sym is) (inr (text, subst (IsLineOn (place_of_line number)) (sym same) line, hands))

  pub reports_source : (fault : SourceFault) → e ≡ error.Source fault → IsLineOn (place_of_source fault) items → ReportsFault (served_as (Err e)) t t' failed
  reports_source fault is line = subst (λ a. ReportsFault (served_as (Err a)) t t' failed)
      (sym is) (inr (text, subst (IsLineOn (place_of_source fault)) (sym same) line, hands))

-- the line on another machine was handed to the port
module _ (n n' : Option (List ℕ)) (failed : Bool) (said taken : Setup) (other : OtherMachine) (bytes : List ℕ) where
  abbrev both : OtherMachine
  both = record { said = said; taken = taken }

  tells_by : (b : Bool) → is_other said taken ≡ b
      → Some other ≡ cond b (Some both) None
      → bytes ≡ head_line other.said other.taken
      → Hands n n' failed bytes
      → TellsHead taken n n' failed
  tells_by true is made text hands =
      let same : other ≡ both = cc in
      inr (said, is, subst (Hands n n' failed) (text ∙ ap (λ (o : OtherMachine). head_line o.said o.taken) same) hands)
  tells_by false is made text hands = absurd (cc)

  pub tells_head : Some other ≡ cond (is_other said taken) (Some both) None
      → bytes ≡ head_line other.said other.taken
      → Hands n n' failed bytes
      → TellsHead taken n n' failed
  tells_head made text hands = tells_by (is_other said taken) refl made text hands
