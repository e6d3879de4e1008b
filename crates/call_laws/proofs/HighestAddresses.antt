-- What place 44 octal tells.
use Rattle.std.proofs.Common.{◌≡◌, ◌≤◌, ◌<◌, ◌∙◌, sym, ap, subst, ℕ, ◌+◌, ◌-◌, ◌*◌, ◌/◌, ◌==◌, ◌&&◌, nat_le, nat_lt, Bool, cond, List, []}
use Rattle.std.proofs.Common.{◌∷◌, length, replicate, Option, Some, None, slice_get, slice_set, refl, arith}
use Rattle.std.specs.List.{list_any}
use Rattle.std.proofs.Math.ListN.{length-set}
use Rattle.std.proofs.lemmas.Bool.{le-leb}
use Rattle.std.proofs.lemmas.Grind.{common_steps}
use Rattle.std.proofs.lemmas.List.{get_or-set_same, length-replicate}
use Rattle.std.proofs.lemmas.Option.{slice_get-get_or}
use Rattle.ka_cpu.proofs.ExecLaws.{by_test, length-core_with}
use Rattle.word36.specs.declared.sizes.TheConstants.{BLOCK_WORDS, LINES}
use Rattle.word36.specs.Words.{left_half, right_half}
use Rattle.core_store.specs.Cores.{Cores, blocks_of, core_of, resized, resized_words}
use Rattle.job_sched.specs.Tables.{job_at}
use Rattle.job_sched.specs.declared.job.Job.{Job}
use Rattle.uuo_calls.specs.CallState.{ac_of, skipping, with_ac}
use Rattle.uuo_calls.specs.CoreRow.{blocks_asked, core_done, grown, with_highest}
use Rattle.uuo_calls.specs.Performed.{Performed, World, around, ended, performed, row_of}
use Rattle.uuo_calls.specs.declared.service.Service.TheVariants.{Core}
use Rattle.uuo_calls.specs.StatusRow.{Memory, stored_at}
use Rattle.uuo_calls.proofs.Rows.{performs}
use Rattle.job_sched.specs.Changes.{free_number, is_at, with_job}
use Rattle.job_sched.specs.Jobs.{new_job}
use Rattle.core_store.specs.Cores.{taken as taken_core}
use Rattle.machine.specs.declared.event.Answer.TheVariants.{JobNumber}
use Rattle.machine.specs.declared.event.RefusedEvent.{RefusedEvent}
use Rattle.machine.specs.declared.event.RefusedEvent.TheVariants.{NoLine, LineBusy, NoJobNumber, NoCore}
use Rattle.machine.specs.Images.{blocks_for, fresh_regs, image_memory, image_top, loaded}
use Rattle.machine.specs.Machine.{S, Made, admitted, examined, first_quota, logged_in, refused, with_image}
use Rattle.machine.specs.Safe.{Safe}
use Rattle.monitor_laws.proofs.Safety.{IsFree, free-number}
use Rattle.machine.specs.Views.{place_of}
use Rattle.call_laws.specs.HighestAddresses.{CoreTellsItsSize, HasItsSize, LoginTellsItsSize}

-- words that fill whole blocks
length-resized : (words : List ℕ) (blocks : ℕ) → length (resized_words words blocks) ≡ blocks * BLOCK_WORDS
length-resized words blocks = grind (arith, common_steps)

whole-blocks : (blocks : ℕ) → blocks * 1024 / 1024 ≡ blocks
whole-blocks blocks = omega arith

set-get : (words : List ℕ) (i word : ℕ) → i < length words → slice_get (slice_set words i word) i ≡ Some word
set-get words i word low =
    slice_get-get_or (slice_set words i word) i 0 (omega (arith, length-set words i word)) ∙ ap Some (get_or-set_same words i word 0 low)

-- a job with such core tells its size
tells-size : (w : World) (n blocks : ℕ) (j : Job) (words : List ℕ) → 1 ≤ blocks → length words ≡ blocks * 1024
    → job_at w.table.jobs n ≡ Some j → core_of w.cores n ≡ slice_set words 36 (blocks * 1024 - 1) → HasItsSize w n blocks
tells-size w n blocks j words some size there core = record {
  has = ap (λ l. length l / 1024) core ∙ ap (λ k. k / 1024) (length-set words 36 (blocks * 1024 - 1) ∙ size) ∙ whole-blocks blocks;
  tells =
      let low : 36 < length words = omega (arith, size, some) in
      let same : blocks * 1024 - 1 ≡ 1024 * blocks - 1 = omega arith in
      ap (place_of w n 36) there ∙ ap (λ l. slice_get l 36) core ∙ set-get words 36 (blocks * 1024 - 1) low ∙ ap Some same;
}

-- CORE
some-asked : (word blocks : ℕ) → blocks_asked word ≡ Some blocks → 1 ≤ blocks
some-asked word blocks =
    by_test (λ o. o ≡ Some blocks → 1 ≤ blocks) (left_half word == 0 && nat_lt 0 (right_half word)) (Some (right_half word / BLOCK_WORDS + 1)) None
    (λ _ e. let is : right_half word / BLOCK_WORDS + 1 ≡ blocks = cc in omega (arith, is)) (λ _ e. cc)

pub core_tells_its_size : CoreTellsItsSize
core_tells_its_size w time n blocks c j there here low is asks room =
    let words : List ℕ = resized_words (core_of w.cores n) blocks in
    let sized : Cores = resized w.cores n blocks in
    let new : Cores = with_highest sized n blocks in
    let size : length words ≡ blocks * 1024 = length-resized (core_of w.cores n) blocks in
    let row : performed w time n c ≡ ended w n (row_of Core time n c.ac c.e (around w j)) =
    performs w time n c j there ∙ ap (λ s. ended w n (row_of s time n c.ac c.e (around w j))) is in
    let gets : grown w.cores n (blocks_asked (ac_of j c.ac)) ≡ Some new =
    ap (grown w.cores n) asks ∙ ap (λ (b : Bool). cond b (Some new) None) (le-leb blocks (w.cores.free + blocks_of w.cores n) room) in
    let k : Job = with_ac (skipping j) c.ac new.free in
    let world : World = record w { table = with_job w.table n (Some k); cores = new } in
    let made : (performed w time n c).world ≡ world =
    ap (λ (p : Performed). p.world) row
    ∙ ap (λ o. record w { table = with_job w.table n (Some (core_done c.ac o j w.cores).job); cores = (core_done c.ac o j w.cores).cores }) gets in
    let sized_here : n < length sized.cores = omega (arith, length-set w.cores.cores n words) in
    let words_are : core_of sized n ≡ words = get_or-set_same w.cores.cores n words [] low in
    let core : core_of new n ≡ slice_set words 36 (blocks * 1024 - 1) =
    get_or-set_same sized.cores n (slice_set (core_of sized n) 36 (blocks * 1024 - 1)) [] sized_here ∙ ap (λ l. slice_set l 36 (blocks * 1024 - 1)) words_are in
    subst (λ (x : World). HasItsSize x n blocks) (sym made)
    (tells-size world n blocks k words (some-asked (ac_of j c.ac) blocks asks) size (get_or-set_same w.table.jobs n (Some k) None here) core)

-- a login
length-loaded : (words : List (ℕ × ℕ)) (p : Memory) → length (loaded p words).core ≡ length p.core
length-loaded [] p = refl
length-loaded (x ∷ words) p = length-loaded words (stored_at p x.0 x.1) ∙ length-core_with p.core x.0 x.1

abbrev Tells : ℕ → ℕ → Made → Type 0
Tells n blocks m = m.answer ≡ JobNumber n → HasItsSize m.state.world n blocks

tells-refused : (n blocks : ℕ) (s : S) (r : RefusedEvent) → Tells n blocks (refused s r)
tells-refused n blocks s r e = cc

tells-image : (s : S) (line m n start blocks : ℕ) (words : List (ℕ × ℕ)) → Safe s → IsFree s.world.table.jobs m → 1 ≤ blocks → m ≡ n
    → HasItsSize (with_image s.world m line words start blocks) n blocks
tells-image s line m n start blocks words safe free some same =
    let zeros : List ℕ = replicate (blocks * 1024) 0 in
    let q : Memory = loaded (record { regs = fresh_regs start; core = zeros }) words in
    let p : Memory = image_memory words start blocks in
    let j : Job = new_job line p.regs start (first_quota s.world.size) in
    let taken_so : Cores = taken_core s.world.cores m blocks in
    let size : length q.core ≡ blocks * 1024 = length-loaded words (record { regs = fresh_regs start; core = zeros }) ∙ length-replicate (blocks * 1024) 0 in
    let low : m < length s.world.cores.cores = omega (arith, free.below, safe.housed.slots, safe.housed.store.jobs) in
    let later : m < length taken_so.cores = omega (arith, length-set s.world.cores.cores m zeros) in
    subst (λ (i : ℕ). HasItsSize (with_image s.world m line words start blocks) i blocks) same
    (tells-size (with_image s.world m line words start blocks) m blocks j q.core some size
    (get_or-set_same s.world.table.jobs m (Some j) None free.below)
    (get_or-set_same taken_so.cores m (slice_set q.core 36 (blocks * 1024 - 1)) [] later))

tells-admitted : (s : S) (line n start blocks : ℕ) (words : List (ℕ × ℕ)) (o : Option ℕ) → Safe s → 1 ≤ blocks
    → ((m : ℕ) → o ≡ Some m → IsFree s.world.table.jobs m)
    → Tells n blocks (admitted s line words start blocks o)
tells-admitted s line n start blocks words None safe some free = tells-refused n blocks s NoJobNumber
tells-admitted s line n start blocks words (Some m) safe some free =
    by_test (Tells n blocks) (nat_le blocks s.world.cores.free) _ _
    (λ _ e. let same : m ≡ n = cc in tells-image s line m n start blocks words safe (free m refl) some same)
    (λ _. tells-refused n blocks s NoCore)

tells-login : (s : S) (line n top start : ℕ) (words : List (ℕ × ℕ)) → Safe s → image_top words start ≡ Some top
    → Tells n (blocks_for top) (logged_in s line words start)
tells-login s line n top start words safe is =
    by_test (Tells n (blocks_for top)) (nat_le LINES line) _ _ (λ _. tells-refused n (blocks_for top) s NoLine)
    (λ _. by_test (Tells n (blocks_for top)) (list_any (is_at line) s.world.table.jobs) _ _ (λ _. tells-refused n (blocks_for top) s LineBusy)
    (λ _. subst (λ o. Tells n (blocks_for top) (examined s line words start o)) (sym is)
    (tells-admitted s line n start (blocks_for top) words (free_number s.world.table.jobs) safe (omega arith) (free-number s.world.table.jobs))))

pub login_tells_its_size : LoginTellsItsSize
login_tells_its_size s line n top start words safe is = tells-login s line n top start words safe is
