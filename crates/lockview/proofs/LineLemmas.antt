-- What a line that has something happen many times does.
use Rattle.std.proofs.Common.{◌≡◌, ◌∙◌, ℕ, Bool, true, false, List, Option, Some, None, refl, ap, sym, cond}
use Rattle.script_io.specs.Lines.{is_allowed}
use Rattle.run_commands.specs.Commands.{command_of}
use Rattle.op_script.specs.Events.{after_steps}
use Rattle.machine.specs.Machine.{S}
use Rattle.op_script.specs.RunScripts.{Effect, allowed_effect, effect_of, fault, line_effect, with_machine}
use Rattle.op_script.specs.ScriptStates.{StateValue}
use Rattle.op_script.specs.Sources.{SourceText}
use Rattle.run_commands.specs.declared.commands.Command.{Command}
use Rattle.run_commands.specs.declared.commands.Command.TheVariants as command
use Rattle.lockview.specs.Rounds.{passed, repeated_by, repeated_of}
use Rattle.lockview.specs.declared.run_lines.Repeated.{Repeated}
use Rattle.lockview.specs.declared.run_lines.Repeated.TheVariants.{Step, Round, Tick}
use Rattle.lockview.proofs.RoundLemmas.{passed_steps, passed_rounds, passed_ticks}

-- what these events are
steps-are : (n : ℕ) (s : S) → after_steps n false s ≡ passed Step n s
unfolding after_steps
steps-are n s = passed_steps n s

rounds-are : (n : ℕ) (s : S) → after_steps n true s ≡ passed Round n s
unfolding after_steps
rounds-are n s = passed_rounds n s

-- the same if the line says so
same-passed : (q r : Repeated) (m n : ℕ) (s : S) → ◌≡◌ {A = Option (Repeated × ℕ)} (Some (r, n)) (Some (q, m)) → passed q m s ≡ passed r n s
same-passed q r m n s e =
    let is : ◌≡◌ {A = Repeated × ℕ} (r, n) (q, m) = cc in
    sym (ap (λ (p : Repeated × ℕ). passed p.0 p.1 s) is)

module _ (number : ℕ) (d : StateValue) (line : List ℕ) (r : Repeated) (n : ℕ) where
  -- the state that it leaves, and that the script goes on
  abbrev Passes : Effect → Type 0
  Passes e = (e.state ≡ with_machine d (passed r n d.machine)) × (e.ending ≡ None)

  by_command : (c : Option Command) → Some (r, n) ≡ repeated_of c → Passes (effect_of number d c)
  by_command (Some (command.Step m)) e = (ap (with_machine d) (steps-are m d.machine ∙ same-passed Step r m n d.machine e), refl)
  by_command (Some (command.Run m)) e = (ap (with_machine d) (rounds-are m d.machine ∙ same-passed Round r m n d.machine e), refl)
  by_command (Some (command.Tick m)) e = (ap (with_machine d) (passed_ticks m d.machine ∙ same-passed Tick r m n d.machine e), refl)
  by_command _ e = absurd (cc)

  by_test : (b : Bool) → Some (r, n) ≡ cond b (repeated_of (command_of line)) None
      → Passes (cond b (allowed_effect number d None line) (fault number d))
  by_test true e = by_command (command_of line) e
  by_test false e = absurd (cc)

  by_source : (o : Option SourceText) → Some (r, n) ≡ repeated_by o line
      → Passes (cond (is_allowed line) (allowed_effect number d o line) (fault number d))
  by_source (Some source) e = absurd (cc)
  by_source None e = by_test (is_allowed line) e

  pub line_passes : Some (r, n) ≡ repeated_by d.source line → Passes (line_effect number d line)
  line_passes e = by_source d.source e

  -- the state that it leaves if the machine passes so
  pub line_leaves : (v : StateValue) (m : S) → v ≡ d → m ≡ passed r n v.machine → Some (r, n) ≡ repeated_by d.source line
      → with_machine v m ≡ (line_effect number d line).state
  line_leaves v m same done e =
      ap (λ (x : StateValue). with_machine x m) same
      ∙ ap (with_machine d) (done ∙ ap (λ (x : StateValue). passed r n x.machine) same)
      ∙ sym (line_passes e).0
