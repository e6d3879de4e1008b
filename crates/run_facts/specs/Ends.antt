-- How jobs end, and the exit status for it (this project's profile).
use Rattle.std.specs.Prelude.{ℕ, Bool, true, false, not, List, if◌then◌else◌}
use Rattle.std.specs.List.{list_all, list_any}
use Rattle.job_sched.specs.declared.job.Stop.{Stop}
use Rattle.job_sched.specs.declared.job.Stop.TheVariants as stop
use Rattle.ka_state.specs.declared.outcome.StopReason.{StopReason}
use Rattle.ka_state.specs.declared.outcome.StopReason.TheVariants as reason
use Rattle.run_facts.specs.declared.standing.Cut.{Cut}
use Rattle.run_facts.specs.declared.standing.Cut.TheVariants as cut
use Rattle.run_facts.specs.declared.standing.Standing.{Standing}
use Rattle.run_facts.specs.declared.standing.Standing.TheVariants as standing

-- HALT, of the faults that stop a job
abbrev pub is_halt : StopReason → Bool
is_halt reason.Halt = true
is_halt reason.IllegalAddress = false
is_halt reason.IllegalInstruction = false
is_halt reason.Pushdown = false
is_halt reason.AddressChain = false

-- EXIT, EXIT 1 and HALT
abbrev pub is_end : Stop → Bool
is_end stop.Exit = true
is_end stop.Monitor = true
is_end (stop.Fault why) = is_halt why
is_end stop.Loaded = false
is_end stop.Typed = false

-- by those, or by LOGOUT, after which there is no job
abbrev pub has_ended_well : Standing → Bool
has_ended_well standing.Gone = true
has_ended_well (standing.Stopped why) = is_end why
has_ended_well (standing.Goes wait) = false

-- stopped by the processor, but not by HALT
abbrev pub is_at_fault_by : Stop → Bool
is_at_fault_by (stop.Fault why) = not (is_halt why)
is_at_fault_by stop.Loaded = false
is_at_fault_by stop.Exit = false
is_at_fault_by stop.Monitor = false
is_at_fault_by stop.Typed = false

abbrev pub is_at_fault : Standing → Bool
is_at_fault standing.Gone = false
is_at_fault (standing.Stopped why) = is_at_fault_by why
is_at_fault (standing.Goes wait) = false

-- 5 where a run was cut after as many steps as were asked for, 7 where it was cut and none were asked for, and else 1
abbrev pub status_if_cut : Cut → ℕ
status_if_cut cut.No = 1
status_if_cut cut.Asked = 5
status_if_cut cut.Unasked = 7

-- 4 where jobs wait in a circle, 6 where a job was stopped at a fault, 0 where all jobs ended well, and else by whether the run
-- was cut; the first of these that holds
abbrev pub status_of : Bool → Cut → List Standing → ℕ
status_of has_circle how standings =
    if has_circle then 4
    else if list_any is_at_fault standings then 6
    else if list_all has_ended_well standings then 0
    else status_if_cut how
