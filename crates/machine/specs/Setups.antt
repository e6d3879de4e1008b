-- The sizes of a machine (this project's profile).
use Rattle.std.specs.Prelude.{ℕ, ◌≤◌}
use Rattle.word36.specs.declared.sizes.TheConstants.{MOST_BLOCKS}
use Rattle.machine.specs.declared.sizes.TheConstants.{MOST_QUANTUM}

-- the blocks of core and the ticks of a quantum
pub record Setup : Type 0 where
  pub blocks : ℕ
  pub quantum : ℕ

-- the sizes that a machine can have
pub record IsSetup (blocks quantum : ℕ) : Type 0 where
  pub some_blocks : 1 ≤ blocks
  pub most_blocks : blocks ≤ MOST_BLOCKS
  pub some_ticks : 1 ≤ quantum
  pub most_ticks : quantum ≤ MOST_QUANTUM
