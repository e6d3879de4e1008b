-- What a store of core means: words of jobs, and free blocks (this project's profile; core is given
-- out in whole blocks, and a job's words are numbered from 0, as in the TOPS-10 Monitor Calls
-- Manual).
use Rattle.std.specs.Prelude.{ℕ, ◌≡◌, ◌≤◌, ◌+◌, ◌-◌, ◌*◌, ◌/◌, List, [], ◌++◌}
use Rattle.std.specs.Prelude.{length, slice_index_or, slice_set, replicate, take, All, sum_by}
use Rattle.word36.specs.declared.sizes.TheConstants.{JOBS, BLOCK_WORDS, MOST_BLOCKS}

-- the words of each job, by its number, and how many blocks are free
pub record Cores : Type 0 where
  pub cores : List (List ℕ)
  pub free : ℕ

-- jobs are numbered from 1, so the words of number 0 are no job's
abbrev pub IsJob : ℕ → Type 0
IsJob job = (1 ≤ job) × (job ≤ JOBS)

-- the words of a job
abbrev pub core_of : Cores → ℕ → List ℕ
core_of s job = slice_index_or s.cores job []

-- how many blocks a job has
abbrev pub blocks_of : Cores → ℕ → ℕ
blocks_of s job = length (core_of s job) / BLOCK_WORDS

-- the store whose words of one job are these, and all else is the same
abbrev pub with_core : Cores → ℕ → List ℕ → Cores
with_core s job words = record { cores = slice_set s.cores job words; free = s.free }

-- no job has core
abbrev pub all_free : ℕ → Cores
all_free blocks = record { cores = replicate (JOBS + 1) []; free = blocks }

-- a job without core has so many blocks of zeros
abbrev pub taken : Cores → ℕ → ℕ → Cores
taken s job blocks =
    record { cores = slice_set s.cores job (replicate (blocks * BLOCK_WORDS) 0); free = s.free - blocks }

-- the words that so many blocks hold, and zeros behind them
abbrev pub resized_words : List ℕ → ℕ → List ℕ
resized_words words blocks =
    take (blocks * BLOCK_WORDS) words ++ replicate (blocks * BLOCK_WORDS - length words) 0

-- a job with core has so many blocks
abbrev pub resized : Cores → ℕ → ℕ → Cores
resized s job blocks =
    record { cores = slice_set s.cores job (resized_words (core_of s job) blocks); free = s.free + blocks_of s job - blocks }

-- a job has no core, and its blocks are free
abbrev pub given : Cores → ℕ → Cores
given s job = record { cores = slice_set s.cores job []; free = s.free + blocks_of s job }

-- words are whole blocks
abbrev pub IsWhole : List ℕ → Type 0
IsWhole words = length words / BLOCK_WORDS * BLOCK_WORDS ≡ length words

-- what holds of every store
pub record IsStore (s : Cores) : Type 0 where
  -- there is a list for each job, and one before them
  pub jobs : length s.cores ≡ JOBS + 1
  -- a job's words are whole blocks
  pub whole : All IsWhole s.cores
  -- all blocks together are no more than a machine has
  pub most : sum_by (λ words. length words) s.cores + s.free * BLOCK_WORDS ≤ MOST_BLOCKS * BLOCK_WORDS
