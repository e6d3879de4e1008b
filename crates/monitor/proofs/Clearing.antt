-- No core is left when each job has given its own.
use Rattle.std.proofs.Common.{◌≡◌, ◌<◌, ℕ, zero, suc, ◌+◌, ◌*◌, List, [], ◌∷◌, length, replicate, refl, arith, sum_by, slice_index_or}
use Rattle.word36.specs.declared.sizes.TheConstants.{JOBS, BLOCK_WORDS}
use Rattle.core_store.specs.Cores.{Cores, IsStore, core_of, all_free}
use Rattle.machine.specs.Safe.{all_words}

all-empty : (l : List (List ℕ)) (n : ℕ) → length l ≡ n → ((k : ℕ) → k < n → slice_index_or l k [] ≡ []) → l ≡ replicate n []
all-empty [] zero long none = refl
all-empty [] (suc n) long none = absurd (omega arith)
all-empty (x ∷ l) zero long none = absurd (omega arith)
all-empty (x ∷ l) (suc n) long none =
    let first : x ≡ [] = none zero (omega arith) in
    let rest : l ≡ replicate n [] = all-empty l n (omega arith) (λ k low. none (suc k) (omega arith)) in
    rw (first, rest) refl

sum-empty : (k : ℕ) → sum_by (λ (words : List ℕ). length words) (replicate k []) ≡ 0
sum-empty zero = refl
sum-empty (suc k) = sum-empty k

pub cleared : (s : Cores) (blocks : ℕ) → IsStore s → all_words s ≡ blocks * BLOCK_WORDS → ((k : ℕ) → k < JOBS + 1 → core_of s k ≡ []) → s ≡ all_free blocks
cleared s blocks store total none =
    let empty : s.cores ≡ replicate (JOBS + 1) [] = all-empty s.cores (JOBS + 1) store.jobs none in
    let sum : sum_by (λ (words : List ℕ). length words) s.cores ≡ 0 = rw empty (sum-empty (JOBS + 1)) in
    let free : s.free ≡ blocks = omega arith in
    same s (replicate (JOBS + 1) []) blocks empty free
  where
    same : (s : Cores) (cores : List (List ℕ)) (free : ℕ) → s.cores ≡ cores → s.free ≡ free → s ≡ record { cores = cores; free = free }
    same s cores free e f = rw (← e, ← f) refl
