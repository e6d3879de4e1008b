use Rattle.std.proofs.Common.{ℕ, ◌≡◌, ◌<◌, ◌*◌, []}
use Rattle.word36.specs.declared.sizes.TheConstants.{BLOCK_WORDS}
use Rattle.core_store.specs.Cores.{IsStore, core_of}
use Rattle.machine.specs.Safe.{all_words}
use Rattle.job_orders.proofs.unpacking.give_all.Given as goal

abbrev pub invariant-loop-n : goal.invariant-loop-n
invariant-loop-n g l = record {
  words : all_words (g.C.CoreStore.meaning l.cores) ≡ l.blocks * BLOCK_WORDS;
  store : IsStore (g.C.CoreStore.meaning l.cores);
  bare : (k : ℕ) → k < l.n → core_of (g.C.CoreStore.meaning l.cores) k ≡ [];
}
