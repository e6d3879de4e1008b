use Rattle.std.proofs.Common.{◌≡◌, take}
use Rattle.job_orders.specs.Tables.{requests_in}
use Rattle.job_orders.proofs.unpacking.set_requests.Given as goal

abbrev pub invariant-loop-number : goal.invariant-loop-number
invariant-loop-number l = l.locks.rows.present ≡ requests_in l.requests (take l.number-index l.numbers)
