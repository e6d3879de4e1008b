use Rattle.std.proofs.Common.{arith}
use Rattle.lockcheck_orders.specs.declared.kept.KeptState.{KeptState}
use Rattle.lockcheck_orders.specs.Packing.{unpacked}
use Rattle.lockcheck_orders.specs.Tables.{form_of}
use Rattle.lockcheck_orders.proofs.Found.{count-is}
use Rattle.lockcheck_orders.proofs.NormalFound.{counted}
use Rattle.lockcheck_orders.proofs.verdicts.report_on.Goals as goal

pub returns-clause-report : goal.returns-clause-report
returns-clause-report c =
    record {
      states =
          counted c.args.orders.now.programs.now c.len.result
          (count-is c.args.orders.now.programs.now
          (λ (x : KeptState). unpacked c.args.orders.now.programs.now (form_of c.args.orders.now.tables x)) c.args.kept.now.states.keys
          c.args.kept.now.origins.items c.requires.whole c.len.result (omega arith));
      circle = c.in_ok-circle.ensures;
      stuck = c.in_ok-stuck.ensures;
      answers = c.in_ok-answers.ensures;
    }
