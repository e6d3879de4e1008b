use Rattle.std.proofs.Common.{◌≡◌, ◌≤◌, ◌++◌, drop, filter, length, true}
use Rattle.std.specs.List.{All}
use Rattle.word36.specs.declared.sizes.TheConstants.{MOST_REQUESTS}
use Rattle.key_queues.specs.Tables.{is_there}
use Rattle.key_queues.specs.Stores.{entry_at}
use Rattle.lock_table.specs.Departures.{is_chosen}
use Rattle.lock_table.proofs.leaving.gather.Given as goal

abbrev pub invariant-loop-p : goal.invariant-loop-p
invariant-loop-p g l = record {
  chosen : l.leaving.items ++ filter (λ x. is_chosen l.who (entry_at l.store x)) (drop l.p-index l.p-items) ≡ filter (λ x. is_chosen l.who (entry_at l.store x)) l.p-items;
  few : length l.leaving.items ≤ l.p-index;
  most : length l.p-items ≤ MOST_REQUESTS;
  present : All (λ x. is_there x l.store.order ≡ true) l.p-items;
}
