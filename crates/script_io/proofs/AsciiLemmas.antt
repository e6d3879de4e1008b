-- Lemmas on texts of ASCII characters.
use Rattle.std.proofs.Common.{◌≡◌, ◌<◌, ◌≤◌, ℕ, Bool, true, false, List, length, get_or, nat_lt, sym, arith, inl, inr}
use Rattle.std.proofs.Math.ListN.{get_or-eq_default}
use Rattle.std.proofs.lemmas.Bool.{lt-ltb, le-ltb, cases_lt}
use Rattle.std.proofs.lemmas.List.Elements.{All-from_get_or}
use Rattle.std.proofs.lemmas.List.Folds.{list_all_at}
use Rattle.std.proofs.lemmas.List.Sums.{list_all-from_AllPass}
use Rattle.std.specs.Bool.{MatchBool}
use Rattle.std.specs.List.{list_all}
use Rattle.std.specs.Str.{IsAscii, IsNotAscii}

-- a byte that is no ASCII stands in the list
inside : (bytes : List ℕ) (i : ℕ) → 128 ≤ get_or bytes i 0 → i < length bytes
inside bytes i h = elim (cases_lt i (length bytes)) [
  | inl within ↦ within
  | inr beyond ↦ let zero = get_or-eq_default bytes 0 beyond in absurd (omega (arith, zero, h))
]

pub ascii_tests : (answer : Bool) (bytes : List ℕ) → MatchBool answer (IsAscii bytes) (IsNotAscii bytes) → answer ≡ list_all (λ b. nat_lt b 128) bytes
ascii_tests true bytes h =
    sym (list_all-from_AllPass (λ b. nat_lt b 128) bytes (All-from_get_or (λ b. nat_lt b 128 ≡ true) bytes 0 (λ k within. lt-ltb (get_or bytes k 0) 128 (h k))))
ascii_tests false bytes h = sym (list_all_at (λ b. nat_lt b 128) bytes h.0 0 (inside bytes h.0 h.1) (le-ltb (get_or bytes h.0 0) 128 h.1))
