-- Words of core that are copied one after another, turn by turn.
use Rattle.std.proofs.Common.{◌≡◌, ℕ, ◌+◌, ◌-◌, ◌<◌, ◌≤◌, suc, List, Some, refl, sym, ap, ◌∙◌, arith, add_assoc, slice_set}
use Rattle.std.specs.Prelude.{slice_index, slice_get}
use Rattle.std.proofs.lemmas.Option.{get_or_from_slice_get}
use Rattle.ka_state.specs.Copies.{copied}

copied_at : (m k : ℕ) (ws us : List ℕ) (s d : ℕ) → k ≡ suc m → us ≡ slice_set ws d (slice_index ws s) → copied k ws s d ≡ copied m us (s + 1) (d + 1)
unfolding copied
copied_at m k ws us s d e r = rw e (rw r refl)

pub copied_turn : (k i : ℕ) (ws us : List ℕ) (s d : ℕ) → i < k → us ≡ slice_set ws (d + i) (slice_index ws (s + i))
    → copied (k - i) ws (s + i) (d + i) ≡ copied (k - (i + 1)) us (s + (i + 1)) (d + (i + 1))
copied_turn k i ws us s d h r = rw (← add_assoc s i 1, ← add_assoc d i 1) (copied_at (k - (i + 1)) (k - i) ws us (s + i) (d + i) (omega arith) r)

pub copied_read : (k i w : ℕ) (ws us : List ℕ) (s d : ℕ) → i < k → slice_get ws (s + i) ≡ Some w → us ≡ slice_set ws (d + i) w
    → copied (k - i) ws (s + i) (d + i) ≡ copied (k - (i + 1)) us (s + (i + 1)) (d + (i + 1))
copied_read k i w ws us s d h g r =
    copied_turn k i ws us s d h (r ∙ ap (λ (x : ℕ). slice_set ws (d + i) x) (sym (get_or_from_slice_get ws (s + i) w 0 g)))

copied_zero : (k : ℕ) (ws : List ℕ) (s d : ℕ) → k ≡ 0 → copied k ws s d ≡ ws
unfolding copied
copied_zero k ws s d e = rw e refl

pub copied_end : (k i : ℕ) (ws : List ℕ) (s d : ℕ) → k ≤ i → copied (k - i) ws s d ≡ ws
copied_end k i ws s d h = copied_zero (k - i) ws s d (omega arith)

pub ruleset copy_steps = (copied_turn, copied_read, copied_end)
