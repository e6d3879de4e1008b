use Rattle.std.proofs.Common.{arith}
use Rattle.key_queues.proofs.Finding.{found_in_use, lock_read, in_use_parts, in_use_within}
use Rattle.key_queues.proofs.keys.Keys.fits_last.Goals as goal

pub returns-in-Some-clause-found : goal.returns-in-Some-clause-found
returns-in-Some-clause-found g c = grind (arith, found_in_use, lock_read, in_use_parts, in_use_within)

pub index-requires : goal.index-requires
index-requires g c = grind (arith, found_in_use, in_use_parts, in_use_within)
