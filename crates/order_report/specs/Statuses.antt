-- The exit status for what was found (this project's profile).
use Rattle.std.specs.Prelude.{ℕ, ◌==◌, Bool, true, false, not, List, length, is_some, if◌then◌else◌}
use Rattle.std.specs.List.{list_any}
use Rattle.run_facts.specs.Ends.{has_ended_well}
use Rattle.run_facts.specs.declared.standing.Standing.{Standing}
use Rattle.run_facts.specs.declared.standing.Standing.TheVariants.{Gone, Stopped, Goes}
use Rattle.run_facts.specs.declared.statuses.TheConstants.{DONE}
use Rattle.order_report.specs.declared.findings.EndedJob.{EndedJob}
use Rattle.order_report.specs.declared.findings.Found.{Found}
use Rattle.order_report.specs.declared.findings.Found.TheVariants.{All, TooMany, GaveUp}
use Rattle.order_report.specs.declared.findings.Report.{Report}
use Rattle.order_report.specs.declared.statuses.TheConstants.{FAILED, CIRCLE, WAITS, FAULT, DIFFERS}

-- the processor stopped it, and it did not HALT
abbrev pub is_fault : Standing → Bool
is_fault Gone = false
is_fault (Stopped why) = not (has_ended_well (Stopped why))
is_fault (Goes wait) = false

-- it waits
abbrev pub is_waiter : Standing → Bool
is_waiter Gone = false
is_waiter (Stopped why) = false
is_waiter (Goes wait) = true

abbrev pub has_fault : List EndedJob → Bool
has_fault jobs = list_any (λ j. is_fault j.standing) jobs

abbrev pub has_waiter : List EndedJob → Bool
has_waiter jobs = list_any (λ j. is_waiter j.standing) jobs

-- 4 where some order leads to a circle; else 6 where a job is stopped in one; else 5 where one is left waiting; else 0 where there is
-- one end; else 7
abbrev pub report_status : Report → ℕ
report_status r =
    if is_some r.circle then CIRCLE
    else if list_any (λ e. has_fault e.jobs.items) r.ends.items then FAULT
    else if list_any (λ e. has_waiter e.jobs.items) r.ends.items then WAITS
    else if length r.ends.items == 1 then DONE
    else DIFFERS

abbrev pub found_status : Found → ℕ
found_status (All r) = report_status r
found_status (TooMany states) = FAILED
found_status (GaveUp g) = FAILED
