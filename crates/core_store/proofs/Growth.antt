-- Room behind a job that is to grow.
use Rattle.std.proofs.Common.{◌≡◌, ℕ, ◌+◌, ◌*◌, ◌<◌, ◌≤◌, ◌∙◌, sym, ap, subst, List, length, map, arith, inl, inr}
use Rattle.std.specs.Prelude.{slice_set, IsTrue, nat_le, true}
use Rattle.std.specs.List.{list_all}
use Rattle.std.proofs.lemmas.Bool.{and_from, cases_eq, cases_lt, le-leb, or_left}
use Rattle.std.proofs.lemmas.List.{length-map, set-set}
use Rattle.std.proofs.lemmas.List.Elements.{All-from_get_or}
use Rattle.std.proofs.lemmas.List.Sums.{list_all-from_AllPass}
use Rattle.word36.specs.declared.sizes.TheConstants.{BLOCK_WORDS}
use Rattle.core_store.specs.declared.areas.Area.{Area}
use Rattle.core_store.specs.Layout.{area_of, is_hole, lie_apart, no_area, raised, IsLaidOut}
use Rattle.core_store.proofs.AreaLemmas.{area-set, IsLaidOut-hole, IsLaidOut-set}
use Rattle.core_store.proofs.Moved.{area-high, area-low, EndBy, HasSides}

-- behind all jobs there is a hole
pub hole-behind : (areas : List Area) (all end blocks : ℕ) → EndBy end areas → end + blocks ≤ all
    → IsTrue (is_hole areas all (record { base = end; blocks = blocks }))
hole-behind areas all end blocks below fits =
    let h : Area = record { base = end; blocks = blocks } in
    and_from (nat_le (end + blocks) all) (list_all (λ a. lie_apart a h) areas) (le-leb (end + blocks) all fits)
    (list_all-from_AllPass (λ a. lie_apart a h) areas
    (All-from_get_or (λ a. lie_apart a h ≡ true) areas no_area
    (λ k l. or_left _ (nat_le (end + blocks) (area_of areas k).base) (le-leb _ end (below k l)))))

-- a job was moved to a hole that is larger
pub room-moved : (size all : ℕ) (areas moved : List Area) (job to blocks : ℕ)
    → moved ≡ slice_set areas job (record { base = to; blocks = (area_of areas job).blocks })
    → IsLaidOut size areas → job < length areas → size ≡ all * BLOCK_WORDS → 1 ≤ blocks → IsTrue (is_hole areas all (record { base = to; blocks = blocks }))
    → IsLaidOut size (slice_set moved job (record { base = (area_of moved job).base; blocks = blocks }))
room-moved size all areas moved job to blocks e h there whole some hole =
    let a : Area = record { base = to; blocks = (area_of areas job).blocks } in
    let b : Area = record { base = to; blocks = blocks } in
    let base : (area_of moved job).base ≡ to = ap (λ xs. (area_of xs job).base) e ∙ ap (λ x. x.base) (area-set areas job a there) in
    let twice : slice_set moved job b ≡ slice_set areas job b = ap (λ xs. slice_set xs job b) e ∙ set-set areas job a b in
    subst (λ xs. IsLaidOut size xs) (sym (ap (λ n. slice_set moved job (record { base = n; blocks = blocks })) base ∙ twice))
    (IsLaidOut-hole size all areas job b h there whole some hole)

-- where a job ends no area goes on
pub HasSides-end : (size : ℕ) (areas : List Area) (job from : ℕ) → IsLaidOut size areas → job < length areas
    → from ≡ (area_of areas job).base + (area_of areas job).blocks → 1 ≤ (area_of areas job).blocks → HasSides from areas
HasSides-end size areas job from h there e some k l lt = elim (cases_eq k job) [
  | inl q ↦ (let same : (area_of areas k).base + (area_of areas k).blocks ≡ from = rw q (sym e) in absurd (omega arith))
  | inr q ↦
      let after : (area_of areas job).base + (area_of areas job).blocks ≤ (area_of areas k).base = h.apart job k there l (λ p. q (sym p)) (omega arith) in
      omega arith
]

-- the jobs behind a job were moved up
pub room-raised : (size end : ℕ) (areas moved : List Area) (job from by blocks : ℕ) → moved ≡ map (raised from by) areas
    → IsLaidOut size areas → IsLaidOut size moved → job < length areas
    → from ≡ (area_of areas job).base + (area_of areas job).blocks → 1 ≤ (area_of areas job).blocks → blocks ≡ (area_of areas job).blocks + by
    → EndBy end areas → end * BLOCK_WORDS + by * BLOCK_WORDS ≤ size
    → IsLaidOut size (slice_set moved job (record { base = (area_of moved job).base; blocks = blocks }))
room-raised size end areas moved job from by blocks e h hm there is some grown below room =
    let old = area_of areas job in
    let long : length moved ≡ length areas = ap length e ∙ length-map areas (raised from by) in
    let low : (area_of areas job).base < from = omega arith in
    let stays : (area_of moved job).base ≡ old.base = ap (λ xs. (area_of xs job).base) e ∙ ap (λ x. x.base) (area-low from by areas job there low) in
    let ends : old.base + old.blocks ≤ end = below job there in
    IsLaidOut-set size moved job (record { base = (area_of moved job).base; blocks = blocks }) hm (omega arith) (omega arith) (λ z. absurd (omega arith))
    (λ k l ne lt.
    let m : k < length areas = omega arith in
    elim (cases_lt (area_of areas k).base from) [
      | inl q ↦
          let same : area_of moved k ≡ area_of areas k = ap (λ xs. area_of xs k) e ∙ area-low from by areas k m q in
          let before : (area_of areas k).base + (area_of areas k).blocks ≤ old.base = h.apart k job m there ne (omega arith) in
          rw same (omega arith)
      | inr q ↦
          let up : (area_of moved k).base ≡ (area_of areas k).base + by = ap (λ xs. (area_of xs k).base) e ∙ ap (λ x. x.base) (area-high from by areas k m q) in
          absurd (omega arith)
    ])
