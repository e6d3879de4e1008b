use Rattle.std.proofs.Common.{◌≡◌, ◌∙◌, ◌+◌, ◌==◌, [], ◌∷◌, length, length-append, Ok, false, true, sym, ap, subst, refl, arith, rules}
use Rattle.std.proofs.lemmas.Bool.Decides.{nat_tests}
use Rattle.lockcheck_orders.specs.declared.lines.TheConstants.{MOST_LINES}
use Rattle.queue_script.specs.Commands.{command_of}
use Rattle.queue_script.specs.WellFormed.{is_well_formed}
use Rattle.queue_script.proofs.WellFormedLemmas.{line-right}
use Rattle.lockcheck_program.specs.Reading.{is_by_job, joined, lines_behind, taken_of}
use Rattle.lockcheck_program.specs.declared.reading.Taken.TheVariants as taken
use Rattle.lockcheck_program.proofs.JobLemmas.{line_by_job}
use Rattle.lockcheck_program.proofs.ReadingLemmas.{read_begins, read_kept, read_line}
use Rattle.lockcheck_program.proofs.reading.read_lines.Goals as goal

pub loop-line-init : goal.loop-line-init
loop-line-init c =
    record {
      read = ap (λ k. joined k (lines_behind 0 c.of-lines.result)) c.new-kept.ensures.items
          ∙ ap (λ l. joined [] (lines_behind 0 l)) c.of-lines.ensures ∙ read_begins c.args.script.now;
      right = search rules;
      few = search rules;
      within = omega arith;
    }

pub taken_of-requires-clause-well : goal.taken_of-requires-clause-well
taken_of-requires-clause-well c = subst (λ a. is_well_formed a ≡ true) (sym c.read_command-command.ensures) (line-right c.in-Some.line.now)

pub taken_of-requires-clause-job : goal.taken_of-requires-clause-job
taken_of-requires-clause-job c = subst (λ a. is_by_job a ≡ true) (sym c.read_command-command.ensures) (line_by_job c.in-Some.line.now)

pub loop-line-preserved : goal.loop-line-preserved
loop-line-preserved c =
    let n = c.loop-line.number in
    let few : (n == MOST_LINES) ≡ false = grind (arith, nat_tests, c.if-number-eq-MOST_LINES.false) in
    let t : Ok (taken.Line c.in-Ok-Line.line) ≡ taken_of (n + 1) (command_of c.in-Some.line.now) =
    rw c.in-Ok-Line.field-0-is at c.in-Ok-Line.ensures.value ∙ ap (taken_of (n + 1)) c.read_command-command.ensures in
    let counted = ap length c.in_ok-keep_line-in-Ok-Line.ensures.items ∙ length-append c.loop-line.kept.items (c.in-Ok-Line.line ∷ []) in
    record {
      read = read_kept c.loop-line.kept.items _ c.in-Ok-Line.line _ _ c.in_ok-keep_line-in-Ok-Line.ensures.items
          (read_line n (n + 1) c.in-Some.line.now c.loop-line.lines c.next.new.self c.loop-line.kept.items _ _ c.in-Some.ensures few refl t
          c.loop-line.invariant.read);
      right = search rules;
      few = omega (arith, counted, c.loop-line.invariant.few);
      within = grind (arith, nat_tests, c.loop-line.invariant.within, few);
    }
