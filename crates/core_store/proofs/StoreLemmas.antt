-- For callers of a store: what holds of every store still holds after each change.
use Rattle.std.proofs.Common.{◌≡◌, ℕ, ◌+◌, ◌-◌, ◌*◌, ◌<◌, ◌≤◌, ◌∙◌, refl, List, [], length, arith, replicate}
use Rattle.std.specs.Prelude.{slice_set, sum_by}
use Rattle.std.proofs.Math.ListN.{length-set}
use Rattle.std.proofs.lemmas.Grind.{common_steps}
use Rattle.std.proofs.lemmas.List.Elements.{All-set}
use Rattle.std.proofs.lemmas.List.Sums.{sum_by-set}
use Rattle.word36.specs.declared.sizes.TheConstants.{BLOCK_WORDS}
use Rattle.core_store.specs.Cores.{Cores, IsJob, IsWhole, IsStore, core_of, blocks_of, with_core, taken, resized, resized_words, given}

-- one job's words and the free blocks change, and are no more than before together
pub IsStore-set : (s : Cores) (job : ℕ) (words : List ℕ) (free : ℕ) → IsStore s → IsJob job → IsWhole words
    → length words + free * BLOCK_WORDS ≤ length (core_of s job) + s.free * BLOCK_WORDS
    → IsStore (record { cores = slice_set s.cores job words; free = free })
IsStore-set s job words free store number whole room =
    let within : job < length s.cores = omega arith in
    let total : sum_by (λ ws. length ws) (slice_set s.cores job words) + length (core_of s job)
    ≡ sum_by (λ ws. length ws) s.cores + length words = sum_by-set (λ ws. length ws) s.cores job words [] within in
    record {
      jobs = length-set s.cores job words ∙ store.jobs;
      whole = All-set IsWhole s.cores job words whole store.whole;
      most = omega arith;
    }

-- a job's words are whole blocks
pub IsWhole-core_of : (s : Cores) (job : ℕ) → IsStore s → IsJob job → IsWhole (core_of s job)
IsWhole-core_of s job store number =
    let within : job < length s.cores = omega arith in
    store.whole job [] within

-- a job's words are written through a loan
pub IsStore-with_core : (s : Cores) (job : ℕ) (words : List ℕ) → IsStore s → IsJob job → length words ≡ length (core_of s job)
    → IsStore (with_core s job words)
IsStore-with_core s job words store number same =
    let whole : IsWhole (core_of s job) = IsWhole-core_of s job store number in
    IsStore-set s job words s.free store number (omega arith) (omega arith)

pub IsStore-taken : (s : Cores) (job blocks : ℕ) → IsStore s → IsJob job → core_of s job ≡ [] → blocks ≤ s.free
    → IsStore (taken s job blocks)
IsStore-taken s job blocks store number none free =
    let long : length (replicate {A = ℕ} (blocks * BLOCK_WORDS) 0) ≡ blocks * BLOCK_WORDS = grind (arith, common_steps) in
    IsStore-set s job (replicate (blocks * BLOCK_WORDS) 0) (s.free - blocks) store number (omega arith) (omega arith)

pub IsStore-resized : (s : Cores) (job blocks : ℕ) → IsStore s → IsJob job → blocks ≤ s.free + blocks_of s job
    → IsStore (resized s job blocks)
IsStore-resized s job blocks store number free =
    let whole : IsWhole (core_of s job) = IsWhole-core_of s job store number in
    let long : length (resized_words (core_of s job) blocks) ≡ blocks * BLOCK_WORDS = grind (arith, common_steps) in
    IsStore-set s job (resized_words (core_of s job) blocks) (s.free + blocks_of s job - blocks) store number (omega arith) (omega arith)

pub IsStore-given : (s : Cores) (job : ℕ) → IsStore s → IsJob job → IsStore (given s job)
IsStore-given s job store number =
    let whole : IsWhole (core_of s job) = IsWhole-core_of s job store number in
    IsStore-set s job [] (s.free + blocks_of s job) store number refl (omega arith)
