-- Areas that stay apart.
use Rattle.std.proofs.Common.{◌≡◌, ◌≢◌, ℕ, ◌+◌, ◌*◌, ◌<◌, ◌≤◌, ◌∙◌, sym, ap, List, [], length, get_or, arith, inl, inr}
use Rattle.std.specs.Prelude.{slice_set, IsTrue, true, nat_le}
use Rattle.std.specs.List.{list_all}
use Rattle.std.proofs.lemmas.Bool.{and_parts, cases_eq, cases_lt, leb-true, or_cases}
use Rattle.std.proofs.lemmas.List.{length-set, get_or-set_same, get_or-set_other}
use Rattle.std.proofs.lemmas.List.Sums.{AllPass-from_list_all}
use Rattle.word36.specs.declared.sizes.TheConstants.{BLOCK_WORDS}
use Rattle.core_store.specs.declared.areas.Area.{Area}
use Rattle.core_store.specs.Layout.{area_of, area_words, cores_in, blocks_in, no_area, lie_apart, is_hole, IsLaidOut}
use Rattle.core_store.specs.AreaWords.{core-at, length-part}
use Rattle.core_store.proofs.Sums.{sum-same, sum-changed}

-- the areas with one of them changed
pub area-set : (areas : List Area) (job : ℕ) (a : Area) → job < length areas → area_of (slice_set areas job a) job ≡ a
area-set areas job a h = get_or-set_same areas job a no_area h

pub area-other : (areas : List Area) (job k : ℕ) (a : Area) → k ≢ job → area_of (slice_set areas job a) k ≡ area_of areas k
area-other areas job k a ne = get_or-set_other areas job k a no_area ne

-- two areas that lie apart, seen from the other one
turned : (a b : Area) → (a.base < b.base + b.blocks → a.base + a.blocks ≤ b.base) → b.base < a.base + a.blocks → b.base + b.blocks ≤ a.base
turned a b apart lt = elim (cases_lt a.base (b.base + b.blocks)) [
  | inl q ↦ (let before : a.base + a.blocks ≤ b.base = apart q in omega arith)
  | inr q ↦ q
]

-- an area of which no other job has a block may be a job's
pub IsLaidOut-set : (size : ℕ) (areas : List Area) (job : ℕ) (a : Area) → IsLaidOut size areas → job < length areas
    → a.base * BLOCK_WORDS + a.blocks * BLOCK_WORDS ≤ size
    → (a.blocks ≡ 0 → a.base ≡ 0)
    → ((k : ℕ) → k < length areas → k ≢ job → (area_of areas k).base < a.base + a.blocks → (area_of areas k).base + (area_of areas k).blocks ≤ a.base)
    → IsLaidOut size (slice_set areas job a)
IsLaidOut-set size areas job a h there fits bare apart =
    let long : length (slice_set areas job a) ≡ length areas = length-set areas job a in
    let is : area_of (slice_set areas job a) job ≡ a = area-set areas job a there in
    record {
      within = λ k l.
          let m : k < length areas = omega arith in
          elim (cases_eq k job) [
            | inl q ↦ rw (q, is) fits
            | inr q ↦ rw (area-other areas job k a q) (h.within k m)
          ];
      apart = λ i j li lj ne.
          let mi : i < length areas = omega arith in
          let mj : j < length areas = omega arith in
          elim (cases_eq i job) [
            | inl q ↦
                let nj : j ≢ job = λ e. ne (q ∙ sym e) in
                rw (q, is, area-other areas job j a nj) (λ lt. turned (area_of areas j) a (apart j mj nj) lt)
            | inr q ↦ elim (cases_eq j job) [
              | inl p ↦ rw (p, is, area-other areas job i a q) (apart i mi q)
              | inr p ↦ rw (area-other areas job i a q, area-other areas job j a p) (h.apart i j mi mj ne)
            ]
          ];
      bare = λ k l.
          let m : k < length areas = omega arith in
          elim (cases_eq k job) [
            | inl q ↦ rw (q, is) bare
            | inr q ↦ rw (area-other areas job k a q) (h.bare k m)
          ];
    }

-- a hole is within the blocks
pub hole-fits : (areas : List Area) (all : ℕ) (h : Area) → IsTrue (is_hole areas all h) → h.base + h.blocks ≤ all
hole-fits areas all h t =
    let both = and_parts (nat_le (h.base + h.blocks) all) (list_all (λ a. lie_apart a h) areas) t in
    leb-true (h.base + h.blocks) all both.0

-- and each job lies before it or behind it
pub hole-apart : (areas : List Area) (all : ℕ) (h : Area) → IsTrue (is_hole areas all h) → (k : ℕ) → k < length areas
    → (area_of areas k).base < h.base + h.blocks → (area_of areas k).base + (area_of areas k).blocks ≤ h.base
hole-apart areas all h t k l begins =
    let both = and_parts (nat_le (h.base + h.blocks) all) (list_all (λ a. lie_apart a h) areas) t in
    let a = area_of areas k in
    let apart : lie_apart a h ≡ true = AllPass-from_list_all (λ a. lie_apart a h) areas both.1 k no_area l in
    elim (or_cases (nat_le (a.base + a.blocks) h.base) (nat_le (h.base + h.blocks) a.base) apart) [
      | inl q ↦ leb-true (a.base + a.blocks) h.base q
      | inr q ↦ (let beyond : h.base + h.blocks ≤ a.base = leb-true (h.base + h.blocks) a.base q in omega arith)
    ]

-- a hole may be a job's
pub IsLaidOut-hole : (size all : ℕ) (areas : List Area) (job : ℕ) (a : Area) → IsLaidOut size areas → job < length areas
    → size ≡ all * BLOCK_WORDS
    → 1 ≤ a.blocks
    → IsTrue (is_hole areas all a) → IsLaidOut size (slice_set areas job a)
IsLaidOut-hole size all areas job a h there whole some hole =
    let fits : a.base + a.blocks ≤ all = hole-fits areas all a hole in
    IsLaidOut-set size areas job a h there (omega arith) (λ e. absurd (omega arith)) (λ k l ne. hole-apart areas all a hole k l)

-- jobs with the same words have as many blocks
pub same-blocks : (words news : List ℕ) (areas moved : List Area) → length news ≡ length words → length moved ≡ length areas
    → IsLaidOut (length words) areas → IsLaidOut (length words) moved
    → cores_in news moved ≡ cores_in words areas → (k : ℕ) → k < length areas → (area_of moved k).blocks ≡ (area_of areas k).blocks
same-blocks words news areas moved size e ha hm same k l =
    let m : k < length moved = omega arith in
    let a = area_of areas k in
    let b = area_of moved k in
    let fits : b.base * BLOCK_WORDS + b.blocks * BLOCK_WORDS ≤ length words = hm.within k m in
    let la : length (area_words words a) ≡ a.blocks * BLOCK_WORDS = length-part words (a.base * BLOCK_WORDS) (a.blocks * BLOCK_WORDS) (ha.within k l) in
    let lb : length (area_words news b) ≡ b.blocks * BLOCK_WORDS = length-part news (b.base * BLOCK_WORDS) (b.blocks * BLOCK_WORDS) (omega arith) in
    let one : area_words news b ≡ area_words words a = sym (core-at news moved k m) ∙ ap (λ cs. get_or cs k []) same ∙ core-at words areas k l in
    let both : length (area_words news b) ≡ length (area_words words a) = ap length one in
    omega arith

pub same-sum : (words news : List ℕ) (areas moved : List Area) → length news ≡ length words → length moved ≡ length areas
    → IsLaidOut (length words) areas → IsLaidOut (length words) moved
    → cores_in news moved ≡ cores_in words areas → blocks_in moved ≡ blocks_in areas
same-sum words news areas moved size e ha hm same =
    sum-same (λ a. a.blocks) (λ a. a.blocks) areas moved e (same-blocks words news areas moved size e ha hm same)

-- the blocks of all jobs, where one has another area
pub sum-set : (areas : List Area) (job : ℕ) (a : Area) → job < length areas
    → blocks_in (slice_set areas job a) + (area_of areas job).blocks ≡ blocks_in areas + a.blocks
sum-set areas job a there =
    sum-changed (λ x. x.blocks) (λ x. x.blocks) areas (slice_set areas job a) job (length-set areas job a) there
    (λ k l ne. ap (λ x. x.blocks) (area-other areas job k a ne))
    ∙ ap (λ x. blocks_in areas + x.blocks) (area-set areas job a there)
