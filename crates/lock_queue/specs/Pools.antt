-- Pools (this project's profile).
use Rattle.std.specs.Prelude.{ℕ, ◌^◌, Bool, ◌&&◌, nat_le, nat_lt}

-- a pool's size, and how much of it a want takes
pub record PoolShare : Type 0 where
  pub size : ℕ
  pub amount : ℕ

abbrev pub share_of : ℕ → ℕ → PoolShare
share_of size amount = record { size = size; amount = amount }

-- the amount is from 1 to the size, which is a number of 18 bits
abbrev pub is_right_share : PoolShare → Bool
is_right_share s = nat_le 1 s.amount && (nat_le s.amount s.size && nat_lt s.size (2 ^ 18))
