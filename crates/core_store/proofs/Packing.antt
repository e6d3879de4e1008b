-- Jobs moved together, one after the other in the order in which they lie.
use Rattle.std.proofs.Common.{◌≡◌, ◌≢◌, ℕ, ◌+◌, ◌*◌, ◌<◌, ◌≤◌, ◌∙◌, sym, ap, refl, List, [], ◌∷◌, length, arith, inl, inr}
use Rattle.std.specs.Prelude.{slice_set, sum_by, cond, true, false, nat_le}
use Rattle.std.proofs.lemmas.Bool.{cases_eq, cases_lt, le-leb, lt-leb}
use Rattle.std.proofs.lemmas.List.{length-set}
use Rattle.word36.specs.declared.sizes.TheConstants.{BLOCK_WORDS}
use Rattle.core_store.specs.declared.areas.Area.{Area}
use Rattle.core_store.specs.Layout.{area_of, blocks_in, IsLaidOut}
use Rattle.core_store.proofs.AreaLemmas.{area-set, area-other, IsLaidOut-set, sum-set}
use Rattle.core_store.proofs.Sums.{sum-same, sum-changed}

-- the blocks of an area that begins at a block or behind it
abbrev blocks_if : ℕ → Area → ℕ
blocks_if block a = cond (nat_le block a.base) a.blocks 0

-- the blocks of all such areas
abbrev pub blocks_from : ℕ → List Area → ℕ
blocks_from block areas = sum_by (blocks_if block) areas

-- the jobs before a block lie among so many blocks, and the others behind these
pub record ArePacked (block packed : ℕ) (areas : List Area) : Type 0 where
  pub done : (k : ℕ) → k < length areas → (area_of areas k).base < block → (area_of areas k).base + (area_of areas k).blocks ≤ packed
  pub rest : (k : ℕ) → k < length areas → block ≤ (area_of areas k).base → 1 ≤ (area_of areas k).blocks → packed ≤ (area_of areas k).base

-- no other job begins where one does
alone : (size : ℕ) (areas : List Area) (job k block : ℕ) → IsLaidOut size areas → job < length areas → k < length areas → k ≢ job
    → (area_of areas job).base ≡ block → 1 ≤ (area_of areas job).blocks → (area_of areas k).base ≡ block → (area_of areas k).blocks ≡ 0
alone size areas job k block h lj lk ne at some same =
    let before : (area_of areas k).base + (area_of areas k).blocks ≤ (area_of areas job).base = h.apart k job lk lj ne (omega arith) in
    omega arith

-- the job at a block may be moved down
pub IsLaidOut-next : (size : ℕ) (areas : List Area) (job block packed : ℕ) → IsLaidOut size areas → ArePacked block packed areas → job < length areas
    → (area_of areas job).base ≡ block → 1 ≤ (area_of areas job).blocks
    → IsLaidOut size (slice_set areas job (record { base = packed; blocks = (area_of areas job).blocks }))
IsLaidOut-next size areas job block packed h p there at some =
    let down : packed ≤ (area_of areas job).base = p.rest job there (omega arith) some in
    let within = h.within job there in
    IsLaidOut-set size areas job (record { base = packed; blocks = (area_of areas job).blocks }) h there (omega arith) (λ e. absurd (omega arith))
    (λ k l ne lt. elim (cases_lt (area_of areas k).base block) [
      | inl q ↦ p.done k l q
      | inr q ↦ elim (cases_lt 0 (area_of areas k).blocks) [
        | inl s ↦
            let after : (area_of areas job).base + (area_of areas job).blocks ≤ (area_of areas k).base =
            h.apart job k there l (λ e. ne (sym e)) (omega arith) in
            absurd (omega arith)
        | inr s ↦ (let bottom : (area_of areas k).base ≡ 0 = h.bare k l (omega arith) in omega arith)
      ]
    ])

-- and then it is packed too
pub ArePacked-next : (size : ℕ) (areas : List Area) (job block packed : ℕ) → IsLaidOut size areas → ArePacked block packed areas → job < length areas
    → (area_of areas job).base ≡ block → 1 ≤ (area_of areas job).blocks
    → ArePacked (block + 1) (packed + (area_of areas job).blocks) (slice_set areas job (record { base = packed; blocks = (area_of areas job).blocks }))
ArePacked-next size areas job block packed h p there at some =
    let a : Area = record { base = packed; blocks = (area_of areas job).blocks } in
    let down : packed ≤ (area_of areas job).base = p.rest job there (omega arith) some in
    let long : length (slice_set areas job a) ≡ length areas = length-set areas job a in
    let here : area_of (slice_set areas job a) job ≡ a = area-set areas job a there in
    record {
      done = λ k l.
          let m : k < length areas = omega arith in
          elim (cases_eq k job) [
            | inl q ↦ rw (q, here) (λ lt. omega arith)
            | inr q ↦ rw (area-other areas job k a q) (λ lt. elim (cases_lt (area_of areas k).base block) [
              | inl s ↦ (let low : (area_of areas k).base + (area_of areas k).blocks ≤ packed = p.done k m s in omega arith)
              | inr s ↦
                  let none : (area_of areas k).blocks ≡ 0 = alone size areas job k block h there m q at some (omega arith) in
                  let bottom : (area_of areas k).base ≡ 0 = h.bare k m none in
                  omega arith
            ])
          ];
      rest = λ k l.
          let m : k < length areas = omega arith in
          elim (cases_eq k job) [
            | inl q ↦ rw (q, here) (λ le one. absurd (omega arith))
            | inr q ↦ rw (area-other areas job k a q) (λ le one.
                let after : (area_of areas job).base + (area_of areas job).blocks ≤ (area_of areas k).base =
                h.apart job k there m (λ e. q (sym e)) (omega arith) in
                omega arith)
          ];
    }

-- where no job begins at a block
pub ArePacked-skip : (size : ℕ) (areas : List Area) (block packed : ℕ) → IsLaidOut size areas → ArePacked block packed areas
    → ((k : ℕ) → k < length areas → (area_of areas k).base ≡ block → (area_of areas k).blocks ≡ 0)
    → ArePacked (block + 1) packed areas
ArePacked-skip size areas block packed h p none = record {
  done = λ k l lt. elim (cases_lt (area_of areas k).base block) [
    | inl s ↦ p.done k l s
    | inr s ↦
        let zero : (area_of areas k).blocks ≡ 0 = none k l (omega arith) in
        let bottom : (area_of areas k).base ≡ 0 = h.bare k l zero in
        omega arith
  ];
  rest = λ k l le one. p.rest k l (omega arith) one;
}

-- how many blocks count
counts : (block : ℕ) (a : Area) → block ≤ a.base → blocks_if block a ≡ a.blocks
counts block a h = let e : nat_le block a.base ≡ true = le-leb block a.base h in rw e refl

counts-not : (block : ℕ) (a : Area) → a.base < block → blocks_if block a ≡ 0
counts-not block a h = let e : nat_le block a.base ≡ false = lt-leb block a.base h in rw e refl

-- an area without blocks, or one that does not begin at a block, counts there as at the next
steady : (block : ℕ) (a : Area) → (a.base ≡ block → a.blocks ≡ 0) → blocks_if (block + 1) a ≡ blocks_if block a
steady block a none = elim (cases_lt a.base block) [
  | inl q ↦ counts-not (block + 1) a (omega arith) ∙ sym (counts-not block a q)
  | inr q ↦ elim (cases_eq a.base block) [
    | inl e ↦ (let zero : a.blocks ≡ 0 = none e in counts-not (block + 1) a (omega arith) ∙ sym zero ∙ sym (counts block a q))
    | inr e ↦ counts (block + 1) a (omega arith) ∙ sym (counts block a q)
  ]
]

pub blocks_from-skip : (areas : List Area) (block : ℕ) → ((k : ℕ) → k < length areas → (area_of areas k).base ≡ block → (area_of areas k).blocks ≡ 0)
    → blocks_from (block + 1) areas ≡ blocks_from block areas
blocks_from-skip areas block none = sum-same (blocks_if block) (blocks_if (block + 1)) areas areas refl (λ k l. steady block (area_of areas k) (none k l))

pub blocks_from-next : (size : ℕ) (areas : List Area) (job block packed : ℕ) → IsLaidOut size areas → ArePacked block packed areas → job < length areas
    → (area_of areas job).base ≡ block → 1 ≤ (area_of areas job).blocks
    → blocks_from (block + 1) (slice_set areas job (record { base = packed; blocks = (area_of areas job).blocks }))
    + (area_of areas job).blocks ≡ blocks_from block areas
blocks_from-next size areas job block packed h p there at some =
    let a : Area = record { base = packed; blocks = (area_of areas job).blocks } in
    let down : packed ≤ (area_of areas job).base = p.rest job there (omega arith) some in
    let changed : blocks_from (block + 1) (slice_set areas job a) + blocks_if block (area_of areas job)
    ≡ blocks_from block areas + blocks_if (block + 1) (area_of (slice_set areas job a) job) =
    sum-changed (blocks_if block) (blocks_if (block + 1)) areas (slice_set areas job a) job (length-set areas job a) there
    (λ k l ne. ap (blocks_if (block + 1)) (area-other areas job k a ne) ∙ steady block (area_of areas k) (alone size areas job k block h there l ne at some)) in
    let was : blocks_if block (area_of areas job) ≡ (area_of areas job).blocks = counts block (area_of areas job) (omega arith) in
    let now : blocks_if (block + 1) (area_of (slice_set areas job a) job) ≡ 0 =
    ap (blocks_if (block + 1)) (area-set areas job a there) ∙ counts-not (block + 1) a (omega arith) in
    omega arith

-- a move keeps how many blocks there are
pub sum-moved : (areas : List Area) (job to : ℕ) → job < length areas
    → blocks_in (slice_set areas job (record { base = to; blocks = (area_of areas job).blocks })) ≡ blocks_in areas
sum-moved areas job to there =
    let e = sum-set areas job (record { base = to; blocks = (area_of areas job).blocks }) there in
    omega arith

no-sum : (areas : List Area) → sum_by (λ (a : Area). 0) areas ≡ 0
no-sum [] = refl
no-sum (a ∷ areas) = no-sum areas

-- behind the last block no job begins
pub blocks_from-end : (size all : ℕ) (areas : List Area) → IsLaidOut size areas → size ≡ all * BLOCK_WORDS → blocks_from all areas ≡ 0
blocks_from-end size all areas h e =
    sum-same (λ a. 0) (blocks_if all) areas areas refl (λ k l.
    let within = h.within k l in
    elim (cases_lt (area_of areas k).base all) [
      | inl q ↦ counts-not all (area_of areas k) q
      | inr q ↦ (let zero : (area_of areas k).blocks ≡ 0 = omega arith in counts all (area_of areas k) q ∙ zero)
    ])
    ∙ no-sum areas
