-- One memory for all jobs is a store.
use Rattle.std.proofs.Common.{◌≡◌, ℕ, ◌+◌, ◌*◌, ◌<◌, ◌≤◌, ◌∙◌, sym, ap, refl, List, [], ◌∷◌, length, replicate, get_or, arith, zero, suc, zero-add, Vec, Global}
use Rattle.std.proofs.Props.{props}
use Rattle.core_store.specs.declared.block.BlockCore.{BlockCore}
use Rattle.std.specs.Prelude.{slice_set, sum_by}
use Rattle.std.proofs.lemmas.List.{length-map, length-set}
use Rattle.std.proofs.lemmas.List.Elements.{All-from_get_or}
use Rattle.std.proofs.lemmas.List.Sums.{sum_by-cons}
use Rattle.word36.specs.declared.sizes.TheConstants.{JOBS, BLOCK_WORDS, MOST_BLOCKS}
use Rattle.core_store.specs.declared.areas.Area.{Area}
use Rattle.core_store.specs.Cores.{IsWhole, IsStore}
use Rattle.core_store.specs.Layout.{area_of, area_words, blocks_in, cores_in, no_area, IsBlockCore, IsLaidOut}
use Rattle.core_store.specs.AreaWords.{core-at, cores-set, length-part}
use Rattle.core_store.proofs.AreaLemmas.{area-other, area-set}
use Rattle.core_store.proofs.Sums.{sum-same}

length-words : (words : List ℕ) (areas : List Area) (k : ℕ) → IsLaidOut (length words) areas → k < length areas
    → length (area_words words (area_of areas k)) ≡ (area_of areas k).blocks * BLOCK_WORDS
length-words words areas k h l = length-part words ((area_of areas k).base * BLOCK_WORDS) ((area_of areas k).blocks * BLOCK_WORDS) (h.within k l)

-- a job has as many words as its blocks have
pub length-core : (words : List ℕ) (areas : List Area) (k : ℕ) → IsLaidOut (length words) areas → k < length areas
    → length (get_or (cores_in words areas) k []) ≡ (area_of areas k).blocks * BLOCK_WORDS
length-core words areas k h l = ap length (core-at words areas k l) ∙ length-words words areas k h l

sum-words : (words : List ℕ) (areas : List Area) → sum_by (λ ws. length ws) (cores_in words areas) ≡ sum_by (λ a. length (area_words words a)) areas
sum-words words [] = refl
sum-words words (a ∷ areas) =
    sum_by-cons (λ ws. length ws) (area_words words a) (cores_in words areas)
    ∙ ap (λ n. length (area_words words a) + n) (sum-words words areas)
    ∙ sym (sum_by-cons (λ x. length (area_words words x)) a areas)

sum-scaled : (areas : List Area) → sum_by (λ a. a.blocks * BLOCK_WORDS) areas ≡ sum_by (λ a. a.blocks) areas * BLOCK_WORDS
sum-scaled [] = refl
sum-scaled (a ∷ areas) =
    let l : sum_by (λ x. x.blocks * BLOCK_WORDS) (a ∷ areas)
    ≡ a.blocks * BLOCK_WORDS + sum_by (λ x. x.blocks * BLOCK_WORDS) areas =
    sum_by-cons (λ x. x.blocks * BLOCK_WORDS) a areas in
    let r : sum_by (λ x. x.blocks) (a ∷ areas) ≡ a.blocks + sum_by (λ x. x.blocks) areas = sum_by-cons (λ x. x.blocks) a areas in
    let e : sum_by (λ x. x.blocks * BLOCK_WORDS) areas ≡ sum_by (λ x. x.blocks) areas * BLOCK_WORDS = sum-scaled areas in
    omega arith

-- all words of jobs together
total-words : (words : List ℕ) (areas : List Area) → IsLaidOut (length words) areas
    → sum_by (λ ws. length ws) (cores_in words areas) ≡ blocks_in areas * BLOCK_WORDS
total-words words areas h =
    sum-words words areas
    ∙ sum-same (λ a. a.blocks * BLOCK_WORDS) (λ a. length (area_words words a)) areas areas refl (λ k l. length-words words areas k h l)
    ∙ sum-scaled areas

pub IsStore-laid : (words : List ℕ) (areas : List Area) (blocks free : ℕ) → IsBlockCore (length words) areas blocks free
    → IsStore (record { cores = cores_in words areas; free = free })
IsStore-laid words areas blocks free h =
    let long : length (cores_in words areas) ≡ length areas = length-map areas (area_words words) in
    let total : sum_by (λ ws. length ws) (cores_in words areas) ≡ blocks_in areas * BLOCK_WORDS = total-words words areas h.laid_out in
    let shared = h.shared in
    let most = h.most in
    record {
      jobs = long ∙ h.jobs;
      whole = All-from_get_or IsWhole (cores_in words areas) [] (λ k l.
          let one : length (get_or (cores_in words areas) k []) ≡ (area_of areas k).blocks * BLOCK_WORDS = length-core words areas k h.laid_out (omega arith) in
          omega arith);
      most = omega arith;
    }

-- where all blocks are free
none : (n k : ℕ) → area_of (replicate n no_area) k ≡ no_area
none zero k = refl
none (suc n) zero = refl
none (suc n) (suc k) = none n k

no-blocks : (n : ℕ) → blocks_in (replicate n no_area) ≡ 0
no-blocks zero = refl
no-blocks (suc n) = no-blocks n

IsLaidOut-none : (size n : ℕ) → IsLaidOut size (replicate n no_area)
IsLaidOut-none size n = record {
  within = λ k l. (let a = none n k in rw a (omega arith));
  apart = λ i j li lj ne. (let a = none n i in let b = none n j in rw (a, b) (λ lt. absurd (omega arith)));
  bare = λ k l e. (let a = none n k in rw a refl);
}

pub IsBlockCore-new : (size blocks : ℕ) → size ≡ blocks * BLOCK_WORDS → blocks ≤ MOST_BLOCKS → IsBlockCore size (replicate (JOBS + 1) no_area) blocks blocks
IsBlockCore-new size blocks whole most =
    let zero-blocks : blocks_in (replicate (JOBS + 1) no_area) ≡ 0 = no-blocks (JOBS + 1) in
    record {
      jobs = refl;
      whole = whole;
      most = most;
      laid_out = IsLaidOut-none size (JOBS + 1);
      shared = zero-add blocks;
    }

pub given-cores : (words : List ℕ) (areas : List Area) (job : ℕ) → job < length areas
    → cores_in words (slice_set areas job no_area) ≡ slice_set (cores_in words areas) job []
given-cores words areas job there =
    cores-set words words areas (slice_set areas job no_area) job [] (length-set areas job no_area) there
    (λ k l ne. ap (area_words words) (area-other areas job k no_area ne))
    (ap (area_words words) (area-set areas job no_area there))

-- the proof that a layout is kept does not tell two memories apart
pub same-store : (words : Vec ℕ Global) (areas : List Area) (blocks free : ℕ) (p q : IsBlockCore (length words.items) areas blocks free)
    → ◌≡◌ {A = BlockCore} (record { words = words; areas = areas; blocks = blocks; free = free; laid_out = p })
    (record { words = words; areas = areas; blocks = blocks; free = free; laid_out = q })
same-store words areas blocks free p q =
    let prop : IsProp (IsBlockCore (length words.items) areas blocks free) = hlevel props in
    let same : p ≡ q = prop p q in
    ap (λ (h : IsBlockCore (length words.items) areas blocks free). record { words = words; areas = areas; blocks = blocks; free = free; laid_out = h }) same
