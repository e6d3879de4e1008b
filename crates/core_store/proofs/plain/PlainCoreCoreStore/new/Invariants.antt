use Rattle.std.proofs.Common.{◌≡◌, ◌*◌, ◌≤◌, [], length, map, replicate}
use Rattle.std.specs.Prelude.{vec_capacity, All, sum_by}
use Rattle.word36.specs.declared.sizes.TheConstants.{BLOCK_WORDS}
use Rattle.core_store.specs.Cores.{IsWhole}
use Rattle.core_store.proofs.plain.PlainCoreCoreStore.new.Given as goal

abbrev pub invariant-loop : goal.invariant-loop
invariant-loop l = record {
  bare : map (λ v. v.items) l.cores.items ≡ replicate l.counter [];
  long : length l.cores.items ≡ l.counter;
  none : sum_by (λ v. length v.items) l.cores.items ≡ 0;
  whole : All (λ v. IsWhole v.items) l.cores.items;
  roomy : All (λ v. l.blocks * BLOCK_WORDS ≤ vec_capacity v) l.cores.items;
}
