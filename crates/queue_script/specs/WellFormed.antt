-- Which commands a line can have (this project's profile).
use Rattle.std.specs.Prelude.{Bool, true, Option, Some, None, Ok, Err}
use Rattle.lock_queue.specs.WellFormed.{is_call}
use Rattle.queue_script.specs.Commands.{OwnedCommand, nothing, call, status, free, show, waits, quit}

-- the call of a command can be made: it is a job's, with at least one lock if it names any, no pool that is shared, and no
-- group other than 0 of a lock that is not shared
abbrev pub is_well_formed : Option OwnedCommand → Bool
is_well_formed None = true
is_well_formed (Some nothing) = true
is_well_formed (Some (call job (Ok c))) = is_call job c
is_well_formed (Some (call job (Err refusal))) = true
is_well_formed (Some (status job wants)) = true
is_well_formed (Some (free job)) = true
is_well_formed (Some show) = true
is_well_formed (Some waits) = true
is_well_formed (Some quit) = true
