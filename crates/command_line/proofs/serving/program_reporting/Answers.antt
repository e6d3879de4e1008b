use Rattle.std.proofs.Common.{inl, inr}
use Rattle.script_io.specs.Endings.{served_as}
use Rattle.command_line.proofs.serving.program_reporting.Goals as goal

-- the answer of the command that was served is the one that its line and its status are about
pub returns-in-Ok-clause-runs : goal.returns-in-Ok-clause-runs
returns-in-Ok-clause-runs g c =
    inl
    (record {
      served =
          record {
            command = c.in-Ok.choice;
            asks = c.in-Ok.ensures.chosen;
            answer = served_as c.serve_choice-answer.result;
            serves = c.serve_choice-answer.ensures.serves;
            blames = c.serve_choice-answer.ensures.blames;
            ended = c.status_of.ensures.status;
            line = c.status_of.ensures.line;
          };
      fault = c.report_fault.ensures;
    })

-- and what is told is of its machine
pub returns-in-Ok-clause-notes : goal.returns-in-Ok-clause-notes
returns-in-Ok-clause-notes g c = inr (c.in-Ok.choice, c.in-Ok.ensures.chosen, c.report_machine.ensures)
