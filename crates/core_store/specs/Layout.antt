-- One memory for all jobs, and where each job's words lie in it (this project's profile; as the
-- machine's relocation had it: a job's addresses are counted from its base).
use Rattle.std.specs.Prelude.{ℕ, Bool, ◌≡◌, ◌≢◌, ◌<◌, ◌≤◌, ◌+◌, ◌*◌, List}
use Rattle.std.specs.Prelude.{length, map, slice_range, slice_index_or, cond, nat_le, ◌||◌, ◌&&◌, sum_by}
use Rattle.std.specs.List.{list_all}
use Rattle.word36.specs.declared.sizes.TheConstants.{JOBS, BLOCK_WORDS, MOST_BLOCKS}
use Rattle.core_store.specs.declared.areas.Area.{Area}

-- no blocks
abbrev pub no_area : Area
no_area = record { base = 0; blocks = 0 }

-- the blocks of a job
abbrev pub area_of : List Area → ℕ → Area
area_of areas job = slice_index_or areas job no_area

-- the words of an area
abbrev pub area_words : List ℕ → Area → List ℕ
area_words words a = slice_range words (a.base * BLOCK_WORDS) (a.base * BLOCK_WORDS + a.blocks * BLOCK_WORDS)

-- the words of each job
abbrev pub cores_in : List ℕ → List Area → List (List ℕ)
cores_in words areas = map (area_words words) areas

-- two areas have no block in common
abbrev pub lie_apart : Area → Area → Bool
lie_apart a b = nat_le (a.base + a.blocks) b.base || nat_le (b.base + b.blocks) a.base

-- an area is among so many blocks, and no job has one of its blocks
abbrev pub is_hole : List Area → ℕ → Area → Bool
is_hole areas all h = nat_le (h.base + h.blocks) all && list_all (λ a. lie_apart a h) areas

-- how many blocks the jobs have
abbrev pub blocks_in : List Area → ℕ
blocks_in areas = sum_by (λ a. a.blocks) areas

-- an area that begins at a block or behind it, so many blocks higher up
abbrev pub raised : ℕ → ℕ → Area → Area
raised from by a = record { base = cond (nat_le from a.base) (a.base + by) a.base; blocks = a.blocks }

-- the jobs' areas lie among so many words
pub record IsLaidOut (size : ℕ) (areas : List Area) : Type 0 where
  -- each area is among the words
  pub within : (k : ℕ) → k < length areas → (area_of areas k).base * BLOCK_WORDS + (area_of areas k).blocks * BLOCK_WORDS ≤ size
  -- no two jobs have a block in common: one that begins before another ends ends before it begins
  pub apart : (i j : ℕ) → i < length areas → j < length areas → i ≢ j
      → (area_of areas i).base < (area_of areas j).base + (area_of areas j).blocks
      → (area_of areas i).base + (area_of areas i).blocks ≤ (area_of areas j).base
  -- a job without blocks is said to be at block 0, where it is in no other's way
  pub bare : (k : ℕ) → k < length areas → (area_of areas k).blocks ≡ 0 → (area_of areas k).base ≡ 0

-- what one memory for all jobs keeps
pub record IsBlockCore (size : ℕ) (areas : List Area) (blocks free : ℕ) : Type 0 where
  -- there is an area for each job, and one before them
  pub jobs : length areas ≡ JOBS + 1
  -- there are as many words as blocks have, and no more of them than a machine has
  pub whole : size ≡ blocks * BLOCK_WORDS
  pub most : blocks ≤ MOST_BLOCKS
  pub laid_out : IsLaidOut size areas
  -- each block is a job's or free
  pub shared : blocks_in areas + free ≡ blocks
