-- The last of several addresses decides whether all of them are legal.
use Rattle.std.proofs.Common.{◌≡◌, ℕ, suc, zero, ◌+◌, ◌^◌, ◌<◌, ◌≤◌, List, length, true, ◌&&◌, ◌||◌, refl, arith, nat_le}
use Rattle.std.proofs.lemmas.Bool.Decides.{nat_tests}
use Rattle.ka_state.specs.Memory.{is_legal, are_legal}

pub are_legal-suc : (core : List ℕ) (a n : ℕ)
    → are_legal core a (suc n) ≡ (nat_le (a + suc n) (2 ^ 18) && (nat_le (a + suc n) 16 || nat_le (a + suc n) (length core)))
unfolding are_legal
are_legal-suc core a zero = grind (arith, nat_tests)
are_legal-suc core a (suc n) = let more = are_legal-suc core (a + 1) n in grind (arith, nat_tests)

pub last_word_decides : (core : List ℕ) (a n : ℕ) → 1 ≤ n
    → are_legal core a n ≡ (nat_le (a + n) (2 ^ 18) && (nat_le (a + n) 16 || nat_le (a + n) (length core)))
last_word_decides core a zero h = absurd (omega arith)
last_word_decides core a (suc n) h = are_legal-suc core a n

pub none_is_legal : (core : List ℕ) (a n : ℕ) → n ≡ 0 → are_legal core a n ≡ true
unfolding are_legal
none_is_legal core a n e = rw e refl

pub legal_within : (core : List ℕ) (a n p : ℕ) → are_legal core a n ≡ true → a ≤ p → p < a + n → is_legal core p ≡ true
legal_within core a n p h from below =
    let last = last_word_decides core a n (omega arith) in
    grind (arith, nat_tests)

pub ruleset legal_addresses = (last_word_decides, none_is_legal)
