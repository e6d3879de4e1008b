-- An instruction whose address is known.
use Rattle.std.specs.Prelude.{ℕ}

-- its operation, its AC field and its E
pub record Instruction : Type 0 where
  pub op : ℕ
  pub ac : ℕ
  pub e : ℕ
