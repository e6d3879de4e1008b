use Rattle.std.proofs.Common.{sym, arith}
use Rattle.std.proofs.lemmas.Grind.{common_steps}
use Rattle.std.proofs.lemmas.Option.{none-some}
use Rattle.lock_table.proofs.refusals.refusal_of_enqueue.Goals as goal

pub returns-then-is_some_too_low : goal.returns-then-is_some_too_low
returns-then-is_some_too_low g c = record { refusal = grind (arith, common_steps); long = λ e. absurd (none-some _ (sym e)); found = λ e. absurd (none-some _ (sym e)) }

pub returns-then-not-asking : goal.returns-then-not-asking
returns-then-not-asking g c = record { refusal = grind (arith, common_steps); long = λ e. absurd (none-some _ (sym e)); found = λ e. absurd (none-some _ (sym e)) }

pub returns-then-count_of-asking : goal.returns-then-count_of-asking
returns-then-count_of-asking g c = record { refusal = grind (arith, common_steps); long = λ e. absurd (none-some _ (sym e)); found = λ e. absurd (none-some _ (sym e)) }

pub returns-then-len : goal.returns-then-len
returns-then-len g c = record { refusal = grind (arith, common_steps); long = λ e. absurd (none-some _ (sym e)); found = λ e. absurd (none-some _ (sym e)) }

pub returns-else-len : goal.returns-else-len
returns-else-len g c =
    let come = c.first_enqueue_fault-fault.ensures in
    record { refusal = grind (arith, common_steps); long = λ e. come.long (grind arith); found = λ e. come.found (grind arith) }
