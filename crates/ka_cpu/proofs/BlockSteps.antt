use Rattle.std.proofs.Common.{◌≡◌, ℕ, zero, ◌+◌, ◌-◌, ◌<◌, ◌≤◌, ◌%◌, ◌^◌, suc, List, length, Some, false}
use Rattle.std.proofs.Common.{refl, sym, ap, ◌∙◌, arith, add_assoc, slice_set, nat_lt}
use Rattle.std.specs.Prelude.{slice_index, slice_get}
use Rattle.std.proofs.lemmas.Option.{slice_get-get_or, get_or_from_slice_get}
use Rattle.std.proofs.lemmas.Bool.Decides.{nat_tests}
use Rattle.std.proofs.Math.ListN.{length-set}
use Rattle.ka_state.specs.Memory.{word_at}
use Rattle.ka_cpu.specs.Blocks.{Store, moved_words, stored}
use Rattle.ka_state.specs.Copies.{copied}

moved_at : (m k : ℕ) (t u : Store) (s d : ℕ) → k ≡ suc m → u ≡ stored t d (word_at t.ac t.core (s % 2 ^ 18))
    → moved_words k t s d ≡ moved_words m u (s + 1) (d + 1)
unfolding moved_words
moved_at m k t u s d e r = rw e (rw r refl)

pub moved_turn : (k i : ℕ) (t u : Store) (s d : ℕ) → i < k → u ≡ stored t (d + i) (word_at t.ac t.core ((s + i) % 2 ^ 18))
    → moved_words (k - i) t (s + i) (d + i) ≡ moved_words (k - (i + 1)) u (s + (i + 1)) (d + (i + 1))
moved_turn k i t u s d h r = rw (← add_assoc s i 1, ← add_assoc d i 1) (moved_at (k - (i + 1)) (k - i) t u (s + i) (d + i) (omega arith) r)

moved_zero : (k : ℕ) (t : Store) (s d : ℕ) → k ≡ 0 → moved_words k t s d ≡ t
unfolding moved_words
moved_zero k t s d e = rw e refl

pub moved_end : (k i : ℕ) (t : Store) (s d : ℕ) → k ≤ i → moved_words (k - i) t s d ≡ t
moved_end k i t s d h = moved_zero (k - i) t s d (omega arith)

-- behind the registers, where no address wraps, the words that are moved are those of core
stored_core : (ac core : List ℕ) (s d : ℕ) → 16 ≤ s → 16 ≤ d → s < length core → s < 2 ^ 18
    → stored (record { ac = ac; core = core }) d (word_at ac core (s % 2 ^ 18)) ≡ record { ac = ac; core = slice_set core d (slice_index core s) }
stored_core ac core s d a b l t =
    let m : s % 2 ^ 18 ≡ s = omega arith in
    let p : nat_lt s 16 ≡ false = grind (arith, nat_tests) in
    let q : nat_lt d 16 ≡ false = grind (arith, nat_tests) in
    let g : slice_get core s ≡ Some (slice_index core s) = slice_get-get_or core s 0 l in
    rw m (rw p (rw g (rw q refl)))

pub moved_core : (k : ℕ) (ac core : List ℕ) (s d : ℕ) → 16 ≤ s → 16 ≤ d → s + k ≤ 2 ^ 18 → s + k ≤ length core
    → moved_words k (record { ac = ac; core = core }) s d ≡ record { ac = ac; core = copied k core s d }
unfolding moved_words copied
moved_core zero ac core s d a b t l = refl
moved_core (suc k) ac core s d a b t l =
    let e = stored_core ac core s d a b (omega arith) (omega arith) in
    let n : length (slice_set core d (slice_index core s)) ≡ length core = length-set core d (slice_index core s) in
    ap (λ (x : Store). moved_words k x (s + 1) (d + 1)) e
    ∙ moved_core k ac (slice_set core d (slice_index core s)) (s + 1) (d + 1) (omega arith) (omega arith) (omega arith)
    (omega arith)

pub ruleset move_steps = (moved_turn, moved_end)
