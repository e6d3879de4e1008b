use Rattle.std.proofs.Common.{◌∙◌, ap, false, length, arith}
use Rattle.std.proofs.lemmas.List.{length-replicate}
use Rattle.key_queues.specs.Found.{bucket_at, no_bucket}
use Rattle.key_queues.proofs.Lists.{repeated_at, repeated_more}
use Rattle.key_queues.proofs.buckets.no_buckets.Goals as goal

pub loop-preserved : goal.loop-preserved
loop-preserved c =
    (repeated_more c.loop.counter no_bucket _ _ _ c.push_reserved.ensures.items c.loop.invariant.0 (λ i. record { numbers = record { items = c.new.ensures i }; crowded = false }), omega arith)

pub returns-clause-none : goal.returns-clause-none
returns-clause-none c = λ h. ap (λ l. bucket_at l h) c.loop.invariant.0 ∙ repeated_at c.loop.counter h no_bucket

pub push_reserved-requires : goal.push_reserved-requires
push_reserved-requires c = omega (arith, c.loop.buckets.ok.0, ap length c.loop.invariant.0, length-replicate c.loop.counter no_bucket)

pub returns-clause-long : goal.returns-clause-long
returns-clause-long c = omega (arith, ap length c.loop.invariant.0, length-replicate c.loop.counter no_bucket)
