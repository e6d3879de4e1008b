-- What one memory for all jobs means, and what a loan of a job's words leaves of it.
use Rattle.std.specs.Prelude.{ℕ, ◌≡◌, ◌<◌, ◌≤◌, ◌+◌, ◌*◌, List, ◌++◌, length, take, drop}
use Rattle.std.specs.Vec.{with_items_from}
use Rattle.std.proofs.Common.{subst, ◌∙◌, sym, refl, Vec, Global, ap, arith, get_or}
use Rattle.std.proofs.lemmas.Grind.{common_steps}
use Rattle.word36.specs.declared.sizes.TheConstants.{JOBS, BLOCK_WORDS}
use Rattle.core_store.specs.Cores.{Cores, IsJob, core_of, with_core}
use Rattle.core_store.specs.Layout.{area_of, cores_in, IsBlockCore}
use Rattle.core_store.specs.AreaWords.{length-part, same-part, part-is, core-at, cores-set}
use Rattle.core_store.specs.declared.block.BlockCore.{BlockCore}

-- the words of each job, and the free blocks
abbrev pub meant : BlockCore → Cores
meant s = record { cores = cores_in s.words.items s.areas; free = s.free }

-- the memory with other words for a job's
abbrev pub written : BlockCore → ℕ → List ℕ → BlockCore
written s job ws =
    let after = with_items_from s.words ((area_of s.areas job).base * BLOCK_WORDS) ws in
    record s { words = after; laid_out = subst (λ n. IsBlockCore n s.areas s.blocks s.free) (sym s.words.ok.0 ∙ after.ok.0) s.laid_out }

-- words that replace others of the same list
abbrev splice : List ℕ → ℕ → List ℕ → List ℕ
splice xs i ws = take i xs ++ (ws ++ drop (length ws) (drop i xs))

length-splice : (xs : List ℕ) (i : ℕ) (ws : List ℕ) → i + length ws ≤ length xs → length (splice xs i ws) ≡ length xs
length-splice xs i ws h = grind (arith, common_steps)

splice-below : (xs : List ℕ) (i : ℕ) (ws : List ℕ) (k : ℕ) → i + length ws ≤ length xs → k < i → get_or (splice xs i ws) k 0 ≡ get_or xs k 0
splice-below xs i ws k h l = grind (arith, common_steps)

splice-in : (xs : List ℕ) (i : ℕ) (ws : List ℕ) (k : ℕ) → i + length ws ≤ length xs → k < length ws
    → get_or (splice xs i ws) (i + k) 0 ≡ get_or ws k 0
splice-in xs i ws k h l = grind (arith, common_steps)

splice-above : (xs : List ℕ) (i : ℕ) (ws : List ℕ) (k : ℕ) → i + length ws ≤ length xs → i + length ws ≤ k
    → get_or (splice xs i ws) k 0 ≡ get_or xs k 0
splice-above xs i ws k h l = grind (arith, common_steps)

items-written : (v : Vec ℕ Global) (i : ℕ) (ws : List ℕ) → i + length ws ≤ length v.items
    → (with_items_from v i ws).items ≡ splice v.items i ws
items-written v i ws h =
    let long : v.len ≡ length v.items = v.ok.0 in
    let same : length (splice v.items i ws) ≡ length v.items = length-splice v.items i ws h in
    grind (arith, common_steps)

-- words that lie apart from those written are as before
splice-apart : (xs : List ℕ) (i : ℕ) (ws : List ℕ) (a n : ℕ) → i + length ws ≤ length xs → a + n ≤ length xs
    → (a < i + length ws → a + n ≤ i)
    → (k : ℕ) → k < n → get_or (splice xs i ws) (a + k) 0 ≡ get_or xs (a + k) 0
splice-apart xs i ws a n h fits apart k l = grind (arith, splice-below xs i ws (a + k) h, splice-above xs i ws (a + k) h)

-- a loan's words are the job's, and all else is as before
pub meant-written : (s : BlockCore) (job : ℕ) (ws : List ℕ) → IsJob job → length ws ≡ length (core_of (meant s) job)
    → meant (written s job ws) ≡ with_core (meant s) job ws
meant-written s job ws number same =
    let words = s.words.items in
    let areas = s.areas in
    let base = (area_of areas job).base * BLOCK_WORDS in
    let size = (area_of areas job).blocks * BLOCK_WORDS in
    let jobs : length areas ≡ JOBS + 1 = s.laid_out.jobs in
    let there : job < length areas = omega arith in
    let fits : base + size ≤ length words = s.laid_out.laid_out.within job there in
    let long : length ws ≡ size = same ∙ ap length (core-at words areas job there) ∙ length-part words base size fits in
    let room : base + length ws ≤ length words = omega arith in
    let kept : length (splice words base ws) ≡ length words = length-splice words base ws room in
    let room-after : base + size ≤ length (splice words base ws) = omega arith in
    ap (λ cs. record { cores = cs; free = s.free }) (
    ap (λ xs. cores_in xs areas) (items-written s.words base ws room)
    ∙ cores-set words (splice words base ws) areas areas job ws refl there
    (λ k l ne.
    let from = (area_of areas k).base * BLOCK_WORDS in
    let many = (area_of areas k).blocks * BLOCK_WORDS in
    let here : from + many ≤ length words = s.laid_out.laid_out.within k l in
    let still : from + many ≤ length (splice words base ws) = omega arith in
    let apart : (area_of areas k).base < (area_of areas job).base + (area_of areas job).blocks
    → (area_of areas k).base + (area_of areas k).blocks ≤ (area_of areas job).base =
    s.laid_out.laid_out.apart k job l there ne in
    let clear : from < base + length ws → from + many ≤ base = λ h. omega arith in
    same-part words (splice words base ws) from from many here still (splice-apart words base ws from many room here clear))
    (part-is (splice words base ws) ws base size room-after long (λ k l.
    let m : k < length ws = omega arith in
    splice-in words base ws k room m)))
