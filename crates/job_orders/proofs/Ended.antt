-- Ends: no job can take a turn, and what each leaves is the same once the sleeps are erased.
use Rattle.std.proofs.Common.{◌≡◌, ◌<◌, ◌≤◌, ◌+◌, ◌==◌, ◌&&◌, ◌∙◌, ℕ, zero, suc, not, nat_lt, ◌||◌, ◌≢◌, take, length, get_or, cond, Bool, true, false, List, [], ◌∷◌, ◌++◌, map, Option, Some, None, is_none, refl, sym, ap, arith, inl, inr}
use Rattle.std.proofs.lemmas.Bool.{and_parts, cases_eq, eqb-true, false_from_ne_true, false≢true}
use Rattle.std.proofs.lemmas.List.{get_or-map, length-map, map-append, take_more}
use Rattle.std.specs.List.{Contains}
use Rattle.std.specs.Option.{option_map}
use Rattle.core_store.specs.Cores.{IsJob}
use Rattle.job_sched.specs.Jobs.{is_sleep}
use Rattle.job_sched.specs.Ready.{holds, is_ready_job}
use Rattle.job_sched.specs.Tables.{job_at}
use Rattle.job_sched.specs.declared.job.Job.{Job}
use Rattle.job_sched.specs.declared.job.Stop.{Stop}
use Rattle.job_sched.specs.declared.job.Wait.{Wait}
use Rattle.job_sched.specs.declared.job.Wait.TheVariants.{None as Nothing, Sleep, Char, Line, Room, Queue}
use Rattle.uuo_calls.specs.Performed.{World}
use Rattle.monitor_laws.proofs.Housing.{at-mapped}
use Rattle.word36.specs.declared.sizes.TheConstants.{JOBS}
use Rattle.job_order_laws.specs.Choices.{choice, is_counted, is_counted_of, is_timed, ticked_on}
use Rattle.job_order_laws.specs.Erased.{erased, rested, rested_wait}
use Rattle.job_order_laws.specs.Orders.{IsEnd, IsRun}
use Rattle.job_order_laws.specs.Turned.{IsSound, V, can_run, stepped_on, turned}
use Rattle.job_order_laws.proofs.Returning.{plain_ends_are_erased, ticks-on}
use Rattle.job_moves.specs.Moves.{is_clear, is_clear_of}
use Rattle.job_turns.proofs.GoingOn.{next-clear, none-clear}
use Rattle.job_orders.specs.declared.ends.End.{End}
use Rattle.job_orders.specs.declared.ends.Left.{Left}
use Rattle.job_orders.specs.Endings.{Ending, JobEnding, ending_in, ending_of, job_ending, job_ending_of, rests, standing_of, stopped_or}
use Rattle.job_orders.specs.Framing.{jobs-at, jobs-length, jobs-more, jobs-none, no_job}
use Rattle.job_orders.specs.Views.{job_in, jobs_in}
use Rattle.job_orders.proofs.Framed.{quiet-turn}

-- ---- no job of 1 to `count` can take a turn

pub rests-none : (v : V) → rests zero v ≡ true
unfolding rests
rests-none v = refl

pub rests-more : (n : ℕ) (v : V) → rests (suc n) v ≡ (rests n v && not (can_run v.machine.world (suc n)))
unfolding rests
rests-more n v = refl

stopped : (a b : Bool) → a ≡ true → b ≡ false → a && not b ≡ true
stopped true false p q = refl
stopped true true p q = absurd (false≢true (sym q))
stopped false b p q = absurd (false≢true p)

runs-on : (a b : Bool) → b ≡ true → a && not b ≡ false
runs-on true true q = refl
runs-on false b q = refl
runs-on true false q = absurd (false≢true q)

not-true : (b : Bool) → not b ≡ true → b ≡ false
not-true false h = refl
not-true true h = absurd (false≢true h)

pub rests-next : (n : ℕ) (v : V) → rests n v ≡ true → can_run v.machine.world (n + 1) ≡ false → rests (n + 1) v ≡ true
rests-next n v before here =
    let one : n + 1 ≡ suc n = omega arith in
    ap (λ m. rests m v) one ∙ rests-more n v
    ∙ stopped (rests n v) (can_run v.machine.world (suc n)) before (ap (can_run v.machine.world) (sym one) ∙ here)

pub rests-at : (count n : ℕ) (v : V) → rests count v ≡ true → 1 ≤ n → n ≤ count → can_run v.machine.world n ≡ false
rests-at zero n v h some low = absurd (omega (arith, some, low))
rests-at (suc count) n v h some low =
    let parts = and_parts (rests count v) (not (can_run v.machine.world (suc count))) (sym (rests-more count v) ∙ h) in
    elim (cases_eq n (suc count)) [
      | inl is ↦ ap (can_run v.machine.world) is ∙ not-true (can_run v.machine.world (suc count)) parts.1
      | inr ne ↦ rests-at count n v parts.0 some (omega (arith, ne, low))
    ]

pub rests-all : (count : ℕ) (v : V) → ((n : ℕ) → 1 ≤ n → n ≤ count → can_run v.machine.world n ≡ false) → rests count v ≡ true
rests-all zero v h = rests-none v
rests-all (suc count) v h =
    rests-more count v
    ∙ stopped (rests count v) (can_run v.machine.world (suc count)) (rests-all count v (λ n some low. h n some (omega (arith, low))))
    (h (suc count) (omega arith) (omega arith))

pub rests-fails : (count n : ℕ) (v : V) → 1 ≤ n → n ≤ count → can_run v.machine.world n ≡ true → rests count v ≡ false
rests-fails count n v some low runs = by_rest (rests count v) refl
  where
    by_rest : (b : Bool) → rests count v ≡ b → rests count v ≡ false
    by_rest false e = e
    by_rest true e = absurd (false≢true (sym (rests-at count n v e some low) ∙ runs))

-- ---- an end of runs

pub ends-rest : (v w : V) (ns : List ℕ) (count : ℕ) → IsSound v → IsRun choice v ns w → IsEnd choice w → rests count (erased w) ≡ true
ends-rest v w ns count sound run end =
    rests-all count (erased w) (λ n some low. by_run n (can_run (erased w).machine.world n) refl)
  where
    by_run : (n : ℕ) (b : Bool) → can_run (erased w).machine.world n ≡ b → can_run (erased w).machine.world n ≡ false
    by_run n false e = e
    by_run n true e = (let t = quiet-turn (erased w) n e in absurd (plain_ends_are_erased v w ns sound run end n t.0 t.1))

can-turn : (w : V) (n : ℕ) → IsJob n → can_run w.machine.world n ≡ true → choice w n ≡ Some (stepped_on w n)
can-turn w n number ready =
    let no_tick : (n == 0) ≡ false = false_from_ne_true (n == 0) (λ e. (let is : n ≡ 0 = eqb-true n 0 e in omega (arith, is, number.0))) in
    ap (λ b. cond b (cond (is_timed w.machine.world) (Some (ticked_on w)) None) (turned w n)) no_tick
    ∙ ap (λ b. cond b (Some (stepped_on w n)) None) ready

-- a job that sleeps has a tick or a turn left
awake-wait : (w : V) (n : ℕ) (j : Job) (wait : Wait) → IsJob n → IsEnd choice w → job_at w.machine.world.table.jobs n ≡ Some j
    → j.stop ≡ None → j.wait ≡ wait → rested_wait wait ≡ wait
awake-wait w n j Nothing number end at stop is = refl
awake-wait w n j Char number end at stop is = refl
awake-wait w n j Line number end at stop is = refl
awake-wait w n j (Room places) number end at stop is = refl
awake-wait w n j (Queue limit ac) number end at stop is = refl
awake-wait w n j (Sleep ticks) number end at stop is = by_left (nat_lt 0 ticks) refl
  where
    world : World
    world = w.machine.world

    by_left : (b : Bool) → nat_lt 0 ticks ≡ b → rested_wait (Sleep ticks) ≡ Sleep ticks
    by_left true left =
        let counts : is_counted w.machine.world n ≡ true =
        ap (is_counted_of w.machine.world n) at
        ∙ ap (λ x. is_sleep (cond (holds w.machine.world.lines w.machine.world.requests n j.line x) x Nothing)) is
        ∙ ap (λ b. is_sleep (cond b (Sleep ticks) Nothing)) left ∙ left in
        absurd (end 0 _ (ticks-on w n number counts))
    by_left false left =
        let ready : can_run w.machine.world n ≡ true =
        ap (is_ready_job w.machine.world.lines w.machine.world.requests n) at
        ∙ ap (λ s. is_none s && not (holds w.machine.world.lines w.machine.world.requests n j.line j.wait)) stop
        ∙ ap (λ x. not (holds w.machine.world.lines w.machine.world.requests n j.line x)) is ∙ ap not left in
        absurd (end n _ (can-turn w n number ready))

standing-same : (w : V) (n : ℕ) → IsJob n → IsEnd choice w
    → standing_of (option_map rested (job_at w.machine.world.table.jobs n)) ≡ standing_of (job_at w.machine.world.table.jobs n)
standing-same w n number end = by_slot (job_at w.machine.world.table.jobs n) refl
  where
    by_stop : (j : Job) → job_at w.machine.world.table.jobs n ≡ Some j → (s : Option Stop) → j.stop ≡ s
        → stopped_or (rested_wait j.wait) j.stop ≡ stopped_or j.wait j.stop
    by_stop j at (Some stop) e = ap (stopped_or (rested_wait j.wait)) e ∙ sym (ap (stopped_or j.wait) e)
    by_stop j at None e = ap (λ x. stopped_or x j.stop) (awake-wait w n j j.wait number end at e refl)

    by_slot : (o : Option Job) → job_at w.machine.world.table.jobs n ≡ o → standing_of (option_map rested o) ≡ standing_of o
    by_slot None at = refl
    by_slot (Some j) at = by_stop j at j.stop refl

job-same : (w : V) (n : ℕ) → IsJob n → IsEnd choice w → job_ending (job_in (erased w) n) ≡ job_ending (job_in w n)
job-same w n number end =
    let stays : standing_of (job_at (erased w).machine.world.table.jobs n) ≡ standing_of (job_at w.machine.world.table.jobs n) =
    ap standing_of (at-mapped (option_map rested) w.machine.world.table.jobs n refl) ∙ standing-same w n number end in
    λ i. record { standing = stays i; last = (job_in w n).last; text = (job_in w n).text }

jobs-same : (w : V) (count : ℕ) → count ≤ JOBS → IsEnd choice w → map job_ending (jobs_in (erased w) count) ≡ map job_ending (jobs_in w count)
jobs-same w zero few end = ap (map job_ending) (jobs-none (erased w) ∙ sym (jobs-none w))
jobs-same w (suc count) few end =
    ap (map job_ending) (jobs-more (erased w) count) ∙ map-append job_ending (jobs_in (erased w) count) (job_in (erased w) (suc count) ∷ [])
    ∙ ap (λ l. l ++ job_ending (job_in (erased w) (suc count)) ∷ []) (jobs-same w count (omega (arith, few)) end)
    ∙ ap (λ j. map job_ending (jobs_in w count) ++ j ∷ []) (job-same w (suc count) (omega arith, few) end)
    ∙ sym (map-append job_ending (jobs_in w count) (job_in w (suc count) ∷ [])) ∙ sym (ap (map job_ending) (jobs-more w count))

pub ending-same : (w : V) (count : ℕ) → count ≤ JOBS → IsEnd choice w → ending_in count (erased w) ≡ ending_in count w
ending-same w count few end = (let jobs = jobs-same w count few end in λ i. record { jobs = jobs i; shared = w.machine.world.shared })

-- ---- ends that are compared

pub endings-none : (v : V) → map job_ending (jobs_in v zero) ≡ []
endings-none v = ap (map job_ending) (jobs-none v)

pub endings-more : (v : V) (k : ℕ) → map job_ending (jobs_in v (k + 1)) ≡ map job_ending (jobs_in v k) ++ job_ending (job_in v (k + 1)) ∷ []
endings-more v k =
    let one : k + 1 ≡ suc k = omega arith in
    ap (λ m. map job_ending (jobs_in v m)) one ∙ ap (map job_ending) (jobs-more v k) ∙ map-append job_ending (jobs_in v k) (job_in v (suc k) ∷ [])
    ∙ ap (λ m. map job_ending (jobs_in v k) ++ job_ending (job_in v m) ∷ []) (sym one)

-- one job more is the same
pub taken-more : (v : V) (k : ℕ) (lefts : List Left) (d : Left) → k < length lefts
    → map job_ending_of (take k lefts) ≡ map job_ending (jobs_in v k) → job_ending_of (get_or lefts k d) ≡ job_ending (job_in v (k + 1))
    → map job_ending_of (take (k + 1) lefts) ≡ map job_ending (jobs_in v (k + 1))
taken-more v k lefts d low before here =
    ap (map job_ending_of) (take_more lefts k d low) ∙ map-append job_ending_of (take k lefts) (get_or lefts k d ∷ [])
    ∙ ap (λ l. l ++ job_ending_of (get_or lefts k d) ∷ []) before ∙ ap (λ e. map job_ending (jobs_in v k) ++ e ∷ []) here
    ∙ sym (endings-more v k)

-- and each is, if all are
pub same-at : (v : V) (count k : ℕ) (lefts : List Left) (d : Left) → k < count → length lefts ≡ count
    → map job_ending_of lefts ≡ map job_ending (jobs_in v count) → job_ending_of (get_or lefts k d) ≡ job_ending (job_in v (k + 1))
same-at v count k lefts d low long e =
    let z : JobEnding = job_ending no_job in
    let one : suc k ≡ k + 1 = omega arith in
    let many : length (jobs_in v count) ≡ count = jobs-length v count in
    sym (get_or-map job_ending_of lefts k d z (omega (arith, low, long))) ∙ ap (λ l. get_or l k z) e
    ∙ get_or-map job_ending (jobs_in v count) k no_job z (omega (arith, low, many)) ∙ ap job_ending (jobs-at v count k low)
    ∙ ap (λ m. job_ending (job_in v m)) one

pub same-many : (v : V) (count : ℕ) (lefts : List Left) → map job_ending_of lefts ≡ map job_ending (jobs_in v count) → length lefts ≡ count
same-many v count lefts e =
    sym (length-map lefts job_ending_of) ∙ ap length e ∙ length-map (jobs_in v count) job_ending ∙ jobs-length v count

-- an end is among some, or is not
pub known-at : (ends : List End) (k : ℕ) (e : End) (t : Ending) → k < length ends → e ≡ get_or ends k e → ending_of e ≡ t
    → Contains (map ending_of ends) t
known-at ends k e t low is same =
    let long : length (map ending_of ends) ≡ length ends = length-map ends ending_of in
    (k, omega (arith, low, long), get_or-map ending_of ends k e t low ∙ ap ending_of (sym is) ∙ same)

pub not-known : (ends : List End) (t : Ending) → ((k : ℕ) (d : End) → k < length ends → ending_of (get_or ends k d) ≢ t)
    → Contains (map ending_of ends) t → ⊥
not-known [] t none (k, low, same) = omega (arith, low)
not-known (e ∷ ends) t none (k, low, same) =
    let long : length (map ending_of (e ∷ ends)) ≡ length (e ∷ ends) = length-map (e ∷ ends) ending_of in
    none k e (omega (arith, low, long)) (sym (get_or-map ending_of (e ∷ ends) k e t (omega (arith, low, long))) ∙ same)

-- ---- states from which moves can be made

pub idle-clear : (l r n c : Bool) → l ≡ false → r ≡ false → not l && (not r || (n && not c)) ≡ true
idle-clear false false n c p q = refl
idle-clear true r n c p q = absurd (false≢true (sym p))
idle-clear false true n c p q = absurd (false≢true (sym q))

pub noticed-clear : (l r n c : Bool) → l ≡ false → r ≡ true → c ≡ false → r && not (n || c) ≡ false → not l && (not r || (n && not c)) ≡ true
noticed-clear false true true false p q s t = refl
noticed-clear false true false false p q s t = absurd (false≢true (sym t))
noticed-clear false true n true p q s t = absurd (false≢true (sym s))
noticed-clear false false n c p q s t = absurd (false≢true q)
noticed-clear true r n c p q s t = absurd (false≢true (sym p))

pub clear-first : (v : V) → is_clear 0 v ≡ true
clear-first v = sym (none-clear v)

pub clear-next : (k : ℕ) (v : V) → is_clear k v ≡ true → is_clear_of v (k + 1) ≡ true → is_clear (k + 1) v ≡ true
clear-next k v before here = sym (next-clear k v true (is_clear_of v (k + 1)) (sym before) refl) ∙ here
