-- What hosts over lent bytes do at each call (this project's profile).
use Rattle.std.specs.Prelude.{◌≡◌, ℕ, ◌-◌, ◌==◌, nat_lt, List, length, take, drop}
use Rattle.std.specs.Prelude.{◌++◌, min, Result, Ok, Err, MatchResult, if◌then◌else◌}
use Rattle.script_io.specs.declared.host_fault.HostFault.{HostFault}
use Rattle.script_io.specs.declared.host_fault.HostFault.TheVariants.{Interrupted, Other}
use Rattle.lockmon_tests.specs.declared.lent_hosts.Plan.{Plan}
use Rattle.lockmon_tests.specs.declared.lent_hosts.LentReader.{LentReader}
use Rattle.lockmon_tests.specs.declared.lent_hosts.LentWriter.{LentWriter}

-- how the next call ends: the most bytes that it passes, or a fault
abbrev pub call_of : Plan → Result ℕ HostFault
call_of p = if nat_lt 0 p.interruptions then Err Interrupted else (if p.calls_left == 0 then Err Other else Ok p.most)

-- the plan for the calls behind it
abbrev pub plan_after : Plan → Plan
plan_after p =
    if nat_lt 0 p.interruptions
    then record p { interruptions = p.interruptions - 1 }
    else (if p.calls_left == 0 then p else record p { calls_left = p.calls_left - 1; interruptions = p.every })

-- a read returns the next bytes, as many as the piece has room for and the plan lets pass, or none and a fault
abbrev pub LentReads : LentReader → Result ℕ HostFault → List ℕ → LentReader → Type 0
LentReads old answer piece new =
    (new.plan ≡ plan_after old.plan) × MatchResult (call_of old.plan)
    (λ most. let n = min (min (length piece) most) (length old.rest.now) in
    (answer ≡ Ok n) × (take n piece ≡ take n old.rest.now) × (new.rest.now ≡ drop n old.rest.now))
    (λ fault. (answer ≡ Err fault) × (new.rest.now ≡ old.rest.now))

-- a write takes the front of the piece, as much as there is room for and the plan lets pass, or none and a fault
abbrev pub LentWrites : LentWriter → List ℕ → Result ℕ HostFault → LentWriter → Type 0
LentWrites old piece answer new =
    (new.plan ≡ plan_after old.plan) × MatchResult (call_of old.plan)
    (λ most. let n = min (min (length piece) most) (length old.room.now - old.len) in
    (answer ≡ Ok n) × (take new.len new.room.now ≡ take old.len old.room.now ++ take n piece))
    (λ fault. (answer ≡ Err fault) × (take new.len new.room.now ≡ take old.len old.room.now))
