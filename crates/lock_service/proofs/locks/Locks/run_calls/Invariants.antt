-- The answers so far and those to what is left are the answers to all.
use Rattle.std.proofs.Common.{◌≡◌, ◌++◌, take, drop}
use Rattle.lock_service.specs.Runs.{list_after, answers_to}
use Rattle.lock_service.specs.Served.{requests_of}
use Rattle.lock_service.proofs.locks.Locks.run_calls.Given as goal

abbrev pub invariant-loop-i : goal.invariant-loop-i
invariant-loop-i l =
    record {
      answered : take l.i l.answers ++ answers_to (requests_of l.self) (drop l.i l.calls) ≡ answers_to (requests_of l.fn.self) l.calls;
      performed : list_after (requests_of l.self) (drop l.i l.calls) ≡ list_after (requests_of l.fn.self) l.calls;
    }
