-- What moves do to the words of all jobs.
use Rattle.std.proofs.Common.{◌≡◌, ℕ, ◌+◌, ◌-◌, ◌*◌, ◌<◌, ◌≤◌, ◌∙◌, refl, sym, ap, List, ◌++◌, length, map, take, replicate, get_or, arith, inl, inr}
use Rattle.std.specs.Prelude.{slice_set, true, false, nat_le}
use Rattle.std.specs.List.{SameBelow, SameFrom, CopiedTo}
use Rattle.std.proofs.lemmas.Bool.{cases_eq, cases_lt, le-leb, lt-leb}
use Rattle.std.proofs.lemmas.Grind.{common_steps}
use Rattle.std.proofs.lemmas.List.{get_or-map, get_or_past, length-map, length-set, length-replicate, get_or-replicate}
use Rattle.word36.specs.declared.sizes.TheConstants.{BLOCK_WORDS}
use Rattle.core_store.specs.declared.areas.Area.{Area}
use Rattle.core_store.specs.Cores.{resized_words}
use Rattle.core_store.specs.Layout.{area_of, area_words, cores_in, no_area, raised, IsLaidOut}
use Rattle.core_store.specs.AreaWords.{cores-same, cores-set, same-part, part-is, length-part, part-at}
use Rattle.core_store.proofs.AreaLemmas.{area-set, area-other, IsLaidOut-set}

-- what lies apart from an area in which words were written is as before
kept : (words news : List ℕ) (a b : Area) (from until : ℕ) → length news ≡ length words → a.base * BLOCK_WORDS + a.blocks * BLOCK_WORDS ≤ length words
    → b.base * BLOCK_WORDS ≤ from → until ≤ b.base * BLOCK_WORDS + b.blocks * BLOCK_WORDS
    → SameBelow words news from → SameFrom words news until
    → (a.base < b.base + b.blocks → a.base + a.blocks ≤ b.base)
    → area_words news a ≡ area_words words a
kept words news a b from until e fits low high below above apart =
    let base : ℕ = a.base * BLOCK_WORDS in
    let size : ℕ = a.blocks * BLOCK_WORDS in
    let still : base + size ≤ length news = omega arith in
    same-part words news base base size fits still (λ k l.
    elim (cases_lt a.base (b.base + b.blocks)) [
      | inl q ↦ (let before : a.base + a.blocks ≤ b.base = apart q in below (base + k) 0 (omega arith))
      | inr q ↦ above (base + k) 0 (omega arith)
    ])

-- one job's words are moved
pub moved : (words news : List ℕ) (areas : List Area) (job to : ℕ) (a : Area) → a ≡ record { base = to; blocks = (area_of areas job).blocks }
    → job < length areas → length news ≡ length words
    → IsLaidOut (length words) areas → IsLaidOut (length words) (slice_set areas job a)
    → CopiedTo words news ((area_of areas job).base * BLOCK_WORDS) (to * BLOCK_WORDS) ((area_of areas job).blocks * BLOCK_WORDS)
    → SameBelow words news (to * BLOCK_WORDS)
    → SameFrom words news (to * BLOCK_WORDS + (area_of areas job).blocks * BLOCK_WORDS)
    → cores_in news (slice_set areas job a) ≡ cores_in words areas
moved words news areas job to a is there e before after copied below above =
    let set = slice_set areas job a in
    let long : length set ≡ length areas = length-set areas job a in
    let here : area_of set job ≡ a = area-set areas job a there in
    let old = area_of areas job in
    cores-same words news areas set long (λ k l.
    elim (cases_eq k job) [
      | inl q ↦ rw (q, here, is) (
          let fits : old.base * BLOCK_WORDS + old.blocks * BLOCK_WORDS ≤ length words = before.within job there in
          let room : to * BLOCK_WORDS + old.blocks * BLOCK_WORDS ≤ length words = rw (here, is) at (after.within job (omega arith)) in
          same-part words news (old.base * BLOCK_WORDS) (to * BLOCK_WORDS) (old.blocks * BLOCK_WORDS) fits (omega arith) (λ o lo.
          let c = copied (to * BLOCK_WORDS + o) 0 (omega arith) (omega arith) in
          let at : old.base * BLOCK_WORDS + (to * BLOCK_WORDS + o - to * BLOCK_WORDS) ≡ old.base * BLOCK_WORDS + o = omega arith in
          c ∙ ap (λ n. get_or words n 0) at))
      | inr q ↦ rw (area-other areas job k a q) (
          let other = area_of areas k in
          let apart : other.base < to + old.blocks → other.base + other.blocks ≤ to =
          rw (area-other areas job k a q, here, is) at (after.apart k job (omega arith) (omega arith) q) in
          kept words news other (record { base = to; blocks = old.blocks }) (to * BLOCK_WORDS)
          (to * BLOCK_WORDS + old.blocks * BLOCK_WORDS) e (before.within k l) (omega arith) (omega arith) below above apart)
    ])

-- an area that lies before a block stays
raised-low : (from by : ℕ) (a : Area) → a.base < from → raised from by a ≡ a
raised-low from by a h = let e : nat_le from a.base ≡ false = lt-leb from a.base h in rw e refl

-- and one that does not is higher up
raised-high : (from by : ℕ) (a : Area) → from ≤ a.base → raised from by a ≡ record { base = a.base + by; blocks = a.blocks }
raised-high from by a h = let e : nat_le from a.base ≡ true = le-leb from a.base h in rw e refl

pub area-raised : (from by : ℕ) (areas : List Area) (k : ℕ) → k < length areas → area_of (map (raised from by) areas) k ≡ raised from by (area_of areas k)
area-raised from by areas k h = get_or-map (raised from by) areas k no_area no_area h

pub area-low : (from by : ℕ) (areas : List Area) (k : ℕ) → k < length areas → (area_of areas k).base < from
    → area_of (map (raised from by) areas) k ≡ area_of areas k
area-low from by areas k h l = area-raised from by areas k h ∙ raised-low from by (area_of areas k) l

pub area-high : (from by : ℕ) (areas : List Area) (k : ℕ) → k < length areas → from ≤ (area_of areas k).base
    → area_of (map (raised from by) areas) k ≡ record { base = (area_of areas k).base + by; blocks = (area_of areas k).blocks }
area-high from by areas k h l = area-raised from by areas k h ∙ raised-high from by (area_of areas k) l

-- no area lies on both sides of a block
abbrev pub HasSides : ℕ → List Area → Type 0
HasSides from areas = (k : ℕ) → k < length areas → from < (area_of areas k).base + (area_of areas k).blocks → from ≤ (area_of areas k).base

-- no area goes beyond a block
abbrev pub EndBy : ℕ → List Area → Type 0
EndBy end areas = (k : ℕ) → k < length areas → (area_of areas k).base + (area_of areas k).blocks ≤ end

low-ends : (from : ℕ) (areas : List Area) (k : ℕ) → HasSides from areas → k < length areas → (area_of areas k).base < from
    → (area_of areas k).base + (area_of areas k).blocks ≤ from
low-ends from areas k sides l low = elim (cases_lt from ((area_of areas k).base + (area_of areas k).blocks)) [
  | inl q ↦ (let high : from ≤ (area_of areas k).base = sides k l q in absurd (omega arith))
  | inr q ↦ q
]

pub IsLaidOut-raised : (size from end by : ℕ) (areas : List Area) → IsLaidOut size areas → 1 ≤ from → end * BLOCK_WORDS + by * BLOCK_WORDS ≤ size
    → HasSides from areas → EndBy end areas → IsLaidOut size (map (raised from by) areas)
IsLaidOut-raised size from end by areas h some room sides below =
    let long : length (map (raised from by) areas) ≡ length areas = length-map areas (raised from by) in
    record {
      within = λ k l.
          let m : k < length areas = omega arith in
          let ends = below k m in
          elim (cases_lt (area_of areas k).base from) [
            | inl q ↦ rw (area-low from by areas k m q) (h.within k m)
            | inr q ↦ rw (area-high from by areas k m q) (omega arith)
          ];
      apart = λ i j li lj ne.
          let mi : i < length areas = omega arith in
          let mj : j < length areas = omega arith in
          let apart : (area_of areas i).base < (area_of areas j).base + (area_of areas j).blocks
          → (area_of areas i).base + (area_of areas i).blocks ≤ (area_of areas j).base = h.apart i j mi mj ne in
          elim (cases_lt (area_of areas i).base from) [
            | inl q ↦ elim (cases_lt (area_of areas j).base from) [
              | inl p ↦ rw (area-low from by areas i mi q, area-low from by areas j mj p) apart
              | inr p ↦ rw (area-low from by areas i mi q, area-high from by areas j mj p) (λ lt. (let ends = low-ends from areas i sides mi q in omega arith))
            ]
            | inr q ↦ elim (cases_lt (area_of areas j).base from) [
              | inl p ↦ rw (area-high from by areas i mi q, area-low from by areas j mj p) (λ lt. (let ends = low-ends from areas j sides mj p in omega arith))
              | inr p ↦ rw (area-high from by areas i mi q, area-high from by areas j mj p) (λ lt. (let order = apart (omega arith) in omega arith))
            ]
          ];
      bare = λ k l.
          let m : k < length areas = omega arith in
          elim (cases_lt (area_of areas k).base from) [
            | inl q ↦ rw (area-low from by areas k m q) (h.bare k m)
            | inr q ↦ rw (area-high from by areas k m q) (λ e. (let bottom = h.bare k m e in omega arith))
          ];
    }

-- the words behind a block are moved up, and with them the jobs
pub raised-cores : (words news : List ℕ) (areas : List Area) (from end by : ℕ) → length news ≡ length words
    → IsLaidOut (length words) areas → 1 ≤ from
    → from ≤ end
    → end * BLOCK_WORDS + by * BLOCK_WORDS ≤ length words → HasSides from areas → EndBy end areas
    → CopiedTo words news (from * BLOCK_WORDS) ((from + by) * BLOCK_WORDS) (end * BLOCK_WORDS - from * BLOCK_WORDS)
    → SameBelow words news ((from + by) * BLOCK_WORDS)
    → cores_in news (map (raised from by) areas) ≡ cores_in words areas
raised-cores words news areas from end by e h some order room sides below copied before =
    cores-same words news areas (map (raised from by) areas) (length-map areas (raised from by)) (λ k l.
    let a = area_of areas k in
    let ends : a.base + a.blocks ≤ end = below k l in
    let fits : a.base * BLOCK_WORDS + a.blocks * BLOCK_WORDS ≤ length words = h.within k l in
    elim (cases_lt a.base from) [
      | inl q ↦ rw (area-low from by areas k l q) (
          let low : a.base + a.blocks ≤ from = low-ends from areas k sides l q in
          same-part words news (a.base * BLOCK_WORDS) (a.base * BLOCK_WORDS) (a.blocks * BLOCK_WORDS) fits (omega arith)
          (λ o lo. before (a.base * BLOCK_WORDS + o) 0 (omega arith)))
      | inr q ↦ rw (area-high from by areas k l q) (
          same-part words news (a.base * BLOCK_WORDS) ((a.base + by) * BLOCK_WORDS) (a.blocks * BLOCK_WORDS) fits (omega arith) (λ o lo.
          let c = copied ((a.base + by) * BLOCK_WORDS + o) 0 (omega arith) (omega arith) in
          let at : from * BLOCK_WORDS + ((a.base + by) * BLOCK_WORDS + o - (from + by) * BLOCK_WORDS) ≡ a.base * BLOCK_WORDS + o = omega arith in
          c ∙ ap (λ n. get_or words n 0) at))
    ])

-- one job has new words in an area of its own, and the others have theirs
pub renewed : (words news : List ℕ) (areas : List Area) (job : ℕ) (a : Area) (from until : ℕ) (ws : List ℕ)
    → job < length areas → length news ≡ length words → IsLaidOut (length words) areas → IsLaidOut (length words) (slice_set areas job a)
    → a.base * BLOCK_WORDS ≤ from → until ≤ a.base * BLOCK_WORDS + a.blocks * BLOCK_WORDS
    → SameBelow words news from → SameFrom words news until
    → length ws ≡ a.blocks * BLOCK_WORDS → ((k : ℕ) → k < a.blocks * BLOCK_WORDS → get_or news (a.base * BLOCK_WORDS + k) 0 ≡ get_or ws k 0)
    → cores_in news (slice_set areas job a) ≡ slice_set (cores_in words areas) job ws
renewed words news areas job a from until ws there e before after low high below above long new =
    let set = slice_set areas job a in
    let same : length set ≡ length areas = length-set areas job a in
    let here : area_of set job ≡ a = area-set areas job a there in
    let room : a.base * BLOCK_WORDS + a.blocks * BLOCK_WORDS ≤ length news = (let r = rw here at (after.within job (omega arith)) in omega arith) in
    cores-set words news areas set job ws same there
    (λ k l q. rw (area-other areas job k a q) (
    let other = area_of areas k in
    let apart : other.base < a.base + a.blocks → other.base + other.blocks ≤ a.base =
    rw (area-other areas job k a q, here) at (after.apart k job (omega arith) (omega arith) q) in
    kept words news other a from until e (before.within k l) low high below above apart))
    (rw here (part-is news ws (a.base * BLOCK_WORDS) (a.blocks * BLOCK_WORDS) room long new))

-- words that are cut, or filled up with zeros
length-resized : (ws : List ℕ) (blocks : ℕ) → length (resized_words ws blocks) ≡ blocks * BLOCK_WORDS
length-resized ws blocks = grind (arith, common_steps)

resized-at : (ws : List ℕ) (n k : ℕ) → k < n → get_or (take n ws ++ replicate (n - length ws) 0) k 0 ≡ get_or ws k 0
resized-at ws n k h = elim (cases_lt k (length ws)) [
  | inl q ↦ grind (arith, common_steps)
  | inr q ↦ grind (arith, common_steps)
]

-- a job comes
pub placed : (words news : List ℕ) (areas : List Area) (job : ℕ) (a : Area)
    → job < length areas → length news ≡ length words → IsLaidOut (length words) areas → IsLaidOut (length words) (slice_set areas job a)
    → ((k : ℕ) → k < a.blocks * BLOCK_WORDS → get_or news (a.base * BLOCK_WORDS + k) 0 ≡ 0)
    → SameBelow words news (a.base * BLOCK_WORDS) → SameFrom words news (a.base * BLOCK_WORDS + a.blocks * BLOCK_WORDS)
    → cores_in news (slice_set areas job a) ≡ slice_set (cores_in words areas) job (replicate (a.blocks * BLOCK_WORDS) 0)
placed words news areas job a there e before after zeros below above =
    let size : ℕ = a.blocks * BLOCK_WORDS in
    renewed words news areas job a (a.base * BLOCK_WORDS) (a.base * BLOCK_WORDS + size) (replicate size 0) there e before after
    (omega arith) (omega arith) below above
    (length-replicate size 0)
    (λ k l. zeros k l ∙ sym (get_or-replicate size k 0 0 l))

-- a job's core is cut
pub cut : (words : List ℕ) (areas : List Area) (job blocks : ℕ) → job < length areas → blocks ≤ (area_of areas job).blocks
    → IsLaidOut (length words) areas → IsLaidOut (length words) (slice_set areas job (record { base = (area_of areas job).base; blocks = blocks }))
    → cores_in words (slice_set areas job (record { base = (area_of areas job).base; blocks = blocks }))
    ≡ slice_set (cores_in words areas) job (resized_words (area_words words (area_of areas job)) blocks)
cut words areas job blocks there less before after =
    let old = area_of areas job in
    let ws : List ℕ = area_words words old in
    let base : ℕ = old.base * BLOCK_WORDS in
    let fits : base + old.blocks * BLOCK_WORDS ≤ length words = before.within job there in
    renewed words words areas job (record { base = old.base; blocks = blocks }) base base (resized_words ws blocks) there refl
    before after (omega arith) (omega arith)
    (λ k d l. refl) (λ k d l. refl)
    (length-resized ws blocks)
    (λ k l.
    let m : k < old.blocks * BLOCK_WORDS = omega arith in
    sym (part-at words base (old.blocks * BLOCK_WORDS) k fits m) ∙ sym (resized-at ws (blocks * BLOCK_WORDS) k l))

-- a job's core grows where it lies
pub grown : (words news : List ℕ) (areas : List Area) (job had blocks : ℕ) → had ≡ (area_of areas job).blocks → job < length areas
    → had ≤ blocks
    → length news ≡ length words
    → IsLaidOut (length words) areas → IsLaidOut (length words) (slice_set areas job (record { base = (area_of areas job).base; blocks = blocks }))
    → ((k : ℕ) → k < (blocks - had) * BLOCK_WORDS → get_or news (((area_of areas job).base + had) * BLOCK_WORDS + k) 0 ≡ 0)
    → SameBelow words news (((area_of areas job).base + had) * BLOCK_WORDS)
    → SameFrom words news (((area_of areas job).base + had) * BLOCK_WORDS + (blocks - had) * BLOCK_WORDS)
    → cores_in news (slice_set areas job (record { base = (area_of areas job).base; blocks = blocks }))
    ≡ slice_set (cores_in words areas) job (resized_words (area_words words (area_of areas job)) blocks)
grown words news areas job had blocks is there more e before after zeros below above =
    let old = area_of areas job in
    let ws : List ℕ = area_words words old in
    let base : ℕ = old.base * BLOCK_WORDS in
    let size : ℕ = old.blocks * BLOCK_WORDS in
    let fits : base + size ≤ length words = before.within job there in
    let long : length ws ≡ size = length-part words base size fits in
    renewed words news areas job (record { base = old.base; blocks = blocks }) ((old.base + had) * BLOCK_WORDS)
    ((old.base + had) * BLOCK_WORDS + (blocks - had) * BLOCK_WORDS)
    (resized_words ws blocks) there e before after (omega arith) (omega arith) below above
    (length-resized ws blocks)
    (λ k l. elim (cases_lt k size) [
      | inl q ↦ below (base + k) 0 (omega arith) ∙ sym (part-at words base size k fits q) ∙ sym (resized-at ws (blocks * BLOCK_WORDS) k l)
      | inr q ↦
          let at : (old.base + had) * BLOCK_WORDS + (k - size) ≡ base + k = omega arith in
          let zero : get_or news ((old.base + had) * BLOCK_WORDS + (k - size)) 0 ≡ 0 = zeros (k - size) (omega arith) in
          let past : length ws ≤ k = omega arith in
          ap (λ n. get_or news n 0) (sym at) ∙ zero ∙ sym (get_or_past ws k 0 past) ∙ sym (resized-at ws (blocks * BLOCK_WORDS) k l)
    ])

-- an area that is cut lies where it lay
pub IsLaidOut-cut : (size : ℕ) (areas : List Area) (job blocks : ℕ) → IsLaidOut size areas → job < length areas
    → blocks ≤ (area_of areas job).blocks
    → 1 ≤ blocks
    → IsLaidOut size (slice_set areas job (record { base = (area_of areas job).base; blocks = blocks }))
IsLaidOut-cut size areas job blocks h there less some =
    let within = h.within job there in
    IsLaidOut-set size areas job (record { base = (area_of areas job).base; blocks = blocks }) h there (omega arith) (λ e. absurd (omega arith))
    (λ k l ne lt. h.apart k job l there ne (omega arith))
