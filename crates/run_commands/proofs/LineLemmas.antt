-- Lemmas on the parts of a line.
use Rattle.std.proofs.Common.{◌≡◌, ◌≤◌, ◌+◌, ◌-◌, ◌∙◌, ℕ, Bool, List, [], Some, None, length, drop, take, take_all, ap, sym, arith, position, cond, nat_lt}
use Rattle.std.specs.List.{position_or_len, before_first, after_first}
use Rattle.std.proofs.lemmas.Bool.Decides.{nat_tests}
use Rattle.std.proofs.lemmas.List.{take_rest, drop_all}

found : (n len i : ℕ) → Some i ≡ cond (nat_lt n len) (Some n) None → i ≡ n
found n len i h = grind (arith, nat_tests)

missing : (n len : ℕ) → None ≡ cond (nat_lt n len) (Some n) None → len ≤ n
missing n len h = grind (arith, nat_tests)

module _ (p : ℕ → Bool) (text : List ℕ) where
  pub found-before : (i : ℕ) → Some i ≡ position p text → take i text ≡ before_first p text
  found-before i h = ap (λ n. take n text) (found (position_or_len p text) (length text) i h)

  pub found-behind : (i : ℕ) → Some i ≡ position p text → take (length text - (i + 1)) (drop (i + 1) text) ≡ after_first p text
  found-behind i h = take_rest text (i + 1) ∙ ap (λ n. drop (n + 1) text) (found (position_or_len p text) (length text) i h)

  pub missing-before : None ≡ position p text → text ≡ before_first p text
  missing-before h = sym (take_all (position_or_len p text) text (missing (position_or_len p text) (length text) h))

  pub missing-behind : None ≡ position p text → [] ≡ after_first p text
  missing-behind h =
      let beyond = missing (position_or_len p text) (length text) h in
      sym (drop_all (position_or_len p text + 1) text (omega arith))
