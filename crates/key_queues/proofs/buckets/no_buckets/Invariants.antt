use Rattle.std.proofs.Common.{◌≡◌, ◌≤◌, replicate, vec_capacity}
use Rattle.key_queues.specs.Found.{no_bucket}
use Rattle.key_queues.proofs.buckets.no_buckets.Given as goal

abbrev pub invariant-loop : goal.invariant-loop
invariant-loop l = (l.buckets.items ≡ replicate l.counter no_bucket) × (l.count ≤ vec_capacity l.buckets)
