use Rattle.std.proofs.Common.{arith}
use Rattle.std.proofs.lemmas.Grind.{common_steps}
use Rattle.std.proofs.lemmas.List.{drop_more}
use Rattle.key_queues.proofs.Finding.{bucket_read, hash_below, lock_read, none_found, number_within}
use Rattle.key_queues.proofs.keys.Keys.find_at.Goals as goal

pub returns-then-not-bucket-clause-none : goal.returns-then-not-bucket-clause-none
returns-then-not-bucket-clause-none g c e = grind (arith, common_steps, bucket_read, hash_below, none_found c.self.inside.buckets.items c.self.inside.locks.items c.args.key.now)

pub index-requires : goal.index-requires
index-requires g c = grind (arith, hash_below c.args.hash c.args.key.now c.requires, number_within)

pub returns-then-in_use_for-clause-found : goal.returns-then-in_use_for-clause-found
returns-then-in_use_for-clause-found g c = grind (arith, hash_below c.args.hash c.args.key.now c.requires, lock_read, number_within)

pub loop-n-preserved : goal.loop-n-preserved
loop-n-preserved g c = grind (arith, hash_below c.args.hash c.args.key.now c.requires, drop_more, lock_read, number_within)
