-- Pushdown pointers counted up and down.
use Rattle.std.proofs.Common.{◌≡◌, ℕ, ◌+◌, ◌%◌, ◌^◌, ◌<◌, ◌≤◌, true, arith}
use Rattle.std.proofs.lemmas.Bool.{lt-ltb, leb-true}
use Rattle.word36.specs.Words.{right_half}
use Rattle.ka_word.specs.Pushdown.{counted_down, counted_up, runs_over, runs_under}

pub back_law : (a : ℕ) → a < 2 ^ 36 → counted_down (counted_up a) ≡ a
back_law a h = omega arith

pub address_law : (a : ℕ) → a < 2 ^ 36 → right_half (counted_up a) ≡ (right_half a + 1) % 2 ^ 18
address_law a h = omega arith

pub over_law : (a : ℕ) → a < 2 ^ 36 → runs_over a ≡ true → runs_under (counted_up a) ≡ true
over_law a h k = let p : 2 ^ 36 ≤ a + 2 ^ 18 + 1 = leb-true (2 ^ 36) (a + 2 ^ 18 + 1) k in lt-ltb (counted_up a) (2 ^ 18 + 1) (omega arith)
