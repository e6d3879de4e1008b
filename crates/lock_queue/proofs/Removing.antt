-- A list out of which one is taken, those behind it moved up one by one.
use Rattle.std.proofs.Common.{◌≡◌, ◌≤◌, ◌<◌, ◌+◌, ◌-◌, ◌∙◌, sym, subst, ℕ, List, length, length-take, take, set, get_or, inl, inr, arith}
use Rattle.std.specs.List.{remove}
use Rattle.std.proofs.lemmas.Bool.{cases_lt}
use Rattle.std.proofs.lemmas.List.{ext_get_or, get_or-set_same, get_or-set_other, get_or-take}
use Rattle.std.proofs.lemmas.List.Edits.{get_or-remove_above, get_or-remove_below, length-remove}

module _ (xs l : List ℕ) (i k : ℕ) where
  pub moved_on : length l ≡ length xs → i < length xs → i ≤ k → k < length xs - 1
      → ((m : ℕ) → m < k → get_or l m 0 ≡ get_or (remove xs i) m 0)
      → ((m : ℕ) → k ≤ m → get_or l m 0 ≡ get_or xs m 0)
      → (m : ℕ) → m < k + 1 → get_or (set l k (get_or l (k + 1) 0)) m 0 ≡ get_or (remove xs i) m 0
  moved_on long within from lt done rest m below =
      let v : ℕ = get_or l (k + 1) 0 in
      elim (cases_lt m k) [
        | inl before ↦ get_or-set_other l k m v 0 (λ e. absurd (omega (arith, before, e))) ∙ done m before
        | inr behind ↦
            let same : m ≡ k = omega (arith, below, behind) in
            let here : get_or (set l k v) k 0 ≡ v = get_or-set_same l k v 0 (omega (arith, long, lt)) in
            subst (λ j. get_or (set l k v) j 0 ≡ get_or (remove xs i) j 0) (sym same)
            (here ∙ rest (k + 1) (omega arith) ∙ sym (get_or-remove_above xs i 0 k from within))
      ]

  pub left_on : ((m : ℕ) → k ≤ m → get_or l m 0 ≡ get_or xs m 0)
      → (m : ℕ) → k + 1 ≤ m → get_or (set l k (get_or l (k + 1) 0)) m 0 ≡ get_or xs m 0
  left_on rest m behind =
      get_or-set_other l k m (get_or l (k + 1) 0) 0 (λ e. absurd (omega (arith, behind, e))) ∙ rest m (omega (arith, behind))

  pub moved_all : length l ≡ length xs → i < length xs → length xs - 1 ≤ k
      → ((m : ℕ) → m < k → get_or l m 0 ≡ get_or (remove xs i) m 0)
      → take (length xs - 1) l ≡ remove xs i
  moved_all long within all done =
      let n : ℕ = length xs - 1 in
      let taken = length-take n l in
      let left = length-remove xs i within in
      ext_get_or 0 (take n l) (remove xs i) (omega (arith, taken, left, long, within))
      (λ m lt. let below : m < n = omega (arith, taken, lt) in get_or-take n l m 0 below ∙ done m (omega (arith, below, all)))

-- at first none is moved
pub none_moved : (xs : List ℕ) (i : ℕ) → i < length xs → (m : ℕ) → m < i → get_or xs m 0 ≡ get_or (remove xs i) m 0
none_moved xs i within m lt = sym (get_or-remove_below xs i 0 m lt within)
