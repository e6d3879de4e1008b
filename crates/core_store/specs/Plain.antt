-- What a store with a vector for each job keeps.
use Rattle.std.specs.Prelude.{ℕ, ◌≡◌, ◌≤◌, ◌+◌, ◌*◌, List, length, vec_capacity, All, sum_by, Vec}
use Rattle.std.proofs.Common.{Global}
use Rattle.word36.specs.declared.sizes.TheConstants.{JOBS, BLOCK_WORDS, MOST_BLOCKS}
use Rattle.core_store.specs.Cores.{IsWhole}

pub record IsPlain (vectors : List (Vec ℕ Global)) (blocks free : ℕ) : Type 0 where
  -- there is a vector for each job, and one before them
  pub jobs : length vectors ≡ JOBS + 1
  -- there are no more blocks than a machine has
  pub most : blocks ≤ MOST_BLOCKS
  -- what the jobs have and what is free are no more than all blocks
  pub within : sum_by (λ v. length v.items) vectors + free * BLOCK_WORDS ≤ blocks * BLOCK_WORDS
  -- a job's words are whole blocks
  pub whole : All (λ v. IsWhole v.items) vectors
  -- a job may have all blocks, and its vector takes no memory for them
  pub reserved : All (λ v. blocks * BLOCK_WORDS ≤ vec_capacity v) vectors
