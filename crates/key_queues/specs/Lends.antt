-- What a slab of entries is once the loan of an entry ends (this project's profile).
use Rattle.std.specs.Prelude.{ℕ}
use Rattle.std.specs.Borrow.{Fml, Lends, MutBor, RattleType}
use Rattle.key_queues.specs.EntrySlabs.{SlabContents, with_request}
use Rattle.key_queues.specs.declared.entry.Entry.{Entry}
use Rattle.key_queues.specs.contracts.entry.Entry.{the_row as entry_row}
use Rattle.key_queues.specs.contracts.entry_slab.EntrySlab.{the_row}

-- the slot holds what r left behind, and all else is as it was
abbrev pub lends_request : RattleType → MutBor SlabContents → ℕ → MutBor Entry → Fml
lends_request REQS s p r = Lends (the_row REQS) entry_row s r (with_request s.now p)
