-- An instruction that is executed for a job by hand leaves the state sound, and the other jobs as they were.
use Rattle.std.proofs.Common.{◌≡◌, ◌≢◌, ◌<◌, ◌%◌, ◌^◌, ◌+◌, ◌∙◌, sym, ap, subst, ℕ, Bool, true, false, cond, List, [], length}
use Rattle.std.proofs.Common.{slice_set, Option, Some, None, is_some, refl, arith}
use Rattle.std.proofs.lemmas.Bool.{both_ways}
use Rattle.std.proofs.lemmas.List.{get_or-set_other}
use Rattle.ka_state.specs.Memory.{word_at}
use Rattle.ka_state.specs.declared.outcome.Outcome.{Outcome}
use Rattle.ka_state.specs.declared.outcome.Outcome.TheVariants as outcome
use Rattle.ka_state.specs.declared.outcome.StopReason.TheVariants.{IllegalAddress, IllegalInstruction, Halt, Pushdown, AddressChain}
use Rattle.ka_state.specs.declared.registers.Regs.{Regs}
use Rattle.ka_cpu.specs.Effects.{After, EndsAs}
use Rattle.ka_cpu.proofs.ExecLaws.{by_test, ends-exec_word, length-exec_word, pc-exec_word, registers-exec_word}
use Rattle.core_store.specs.Cores.{core_of, with_core}
use Rattle.job_sched.specs.Changes.{with_job}
use Rattle.job_sched.specs.Tables.{job_at}
use Rattle.job_sched.specs.declared.job.Job.{Job}
use Rattle.uuo_calls.specs.CallState.{put_back}
use Rattle.uuo_calls.specs.Performed.{World}
use Rattle.machine.specs.Deposits.{by_hand, end_by_hand, end_of, executed_by_hand, is_complete, is_done_by_hand, with_executed, with_result}
use Rattle.machine.specs.Machine.{S}
use Rattle.machine.specs.Safe.{InRange}
use Rattle.machine.specs.Views.{place_of, word_in}
use Rattle.monitor_laws.proofs.Housing.{there-set}
use Rattle.progress_laws.specs.Kept.{IsSound}
use Rattle.monitor.proofs.SoundDeposits.{set-own, sound-core, sound-job}

-- the job with the registers that it has then
abbrev with-regs : Job → After → Job
with-regs j r = record j { regs = cond (is_complete r.outcome) r.regs j.regs }

fits-by : (j : Job) (r : After) (b : Bool) → InRange (Some j) → (j.regs.pc < 2 ^ 18 → r.regs.pc < 2 ^ 18) → length r.regs.ac ≡ length j.regs.ac
    → InRange (Some (record j { regs = cond b r.regs j.regs }))
fits-by j r true h pc long = (pc h.0, h.1, long ∙ h.2, h.3)
fits-by j r false h pc long = h

fits : (j : Job) (core : List ℕ) (word : ℕ) → InRange (Some j) → InRange (Some (with-regs j (by_hand j core word)))
fits j core word h =
    fits-by j (by_hand j core word) (is_complete (by_hand j core word).outcome) h
    (λ low. pc-exec_word (put_back j).regs core word (omega arith))
    (registers-exec_word (put_back j).regs core word)

sound-executed : (s : S) (n word : ℕ) (o : Option Job) → job_at s.world.table.jobs n ≡ o → IsSound s
    → IsSound (record s { world = with_executed s.world n word o })
sound-executed s n word None is h = h
sound-executed s n word (Some j) is h =
    let r : After = by_hand j (core_of s.world.cores n) word in
    let there : is_some (job_at s.world.table.jobs n) ≡ true = ap is_some is in
    sound-core (record s { world = record s.world { table = with_job s.world.table n (Some (with-regs j r)) } }) n r.core
    (there-set s.world.table.jobs n n (with-regs j r) there ∙ there) (length-exec_word (put_back j).regs (core_of s.world.cores n) word)
    (sound-job s n j (with-regs j r) is refl refl (fits j (core_of s.world.cores n) word (subst InRange is (h.safe.ranges n))) h)

pub sound_by_hand : (s : S) (n word : ℕ) → IsSound s → IsSound (executed_by_hand s n word)
sound_by_hand s n word h = sound-executed s n word (job_at s.world.table.jobs n) refl h

-- a word of another job
same-core : (v w : World) (m b : ℕ) (o : Option Job) → core_of v.cores m ≡ core_of w.cores m → place_of v m b o ≡ place_of w m b o
same-core v w m b None same = refl
same-core v w m b (Some j) same = ap (λ (core : List ℕ). word_at j.regs.ac core b) same

others-of : (w : World) (n word : ℕ) (o : Option Job) (m b : ℕ) → m ≢ n → word_in (with_executed w n word o) m b ≡ word_in w m b
others-of w n word None m b ne = refl
others-of w n word (Some j) m b ne =
    let r : After = by_hand j (core_of w.cores n) word in
    let v : World = with_result w n j r in
    let job : job_at v.table.jobs m ≡ job_at w.table.jobs m = get_or-set_other w.table.jobs n m (Some (with-regs j r)) None ne in
    let core : core_of v.cores m ≡ core_of w.cores m = get_or-set_other w.cores.cores n m r.core [] ne in
    ap (λ (o : Option Job). place_of v m b o) job ∙ same-core v w m b (job_at w.table.jobs m) core

pub other_jobs_stay : (s : S) (n word m b : ℕ) → m ≢ n → word_in (executed_by_hand s n word).world m b ≡ word_in s.world m b
other_jobs_stay s n word m b ne = others-of s.world n word (job_at s.world.table.jobs n) m b ne

-- an instruction that is not complete leaves core as it was
core-stays : (o : Outcome) (g h : Regs) (core rest : List ℕ) → is_complete o ≡ false → EndsAs o g core h rest → rest ≡ core
core-stays outcome.Done g h core rest not ends = absurd (both_ways true not refl)
core-stays (outcome.Call kind ac e) g h core rest not ends = ends.3
core-stays (outcome.Stop IllegalAddress) g h core rest not ends = ends.1
core-stays (outcome.Stop IllegalInstruction) g h core rest not ends = ends.1
core-stays (outcome.Stop Halt) g h core rest not ends = ends.1
core-stays (outcome.Stop Pushdown) g h core rest not ends = absurd (both_ways true not refl)
core-stays (outcome.Stop AddressChain) g h core rest not ends = ends.1

kept-of : (w : World) (n word : ℕ) (o : Option Job) → job_at w.table.jobs n ≡ o → is_done_by_hand (end_of w n word o) ≡ false
    → with_executed w n word o ≡ w
kept-of w n word None is not = refl
kept-of w n word (Some j) is not =
    let core : List ℕ = core_of w.cores n in
    let r : After = by_hand j core word in
    let words : r.core ≡ core =
    core-stays r.outcome (put_back j).regs r.regs core r.core not (ends-exec_word (put_back j).regs core word) in
    let own : slice_set w.table.jobs n (Some j) ≡ w.table.jobs = ap (λ (o : Option Job). slice_set w.table.jobs n o) (sym is) ∙ set-own w.table.jobs n None in
    let by_job : Bool → World =
    λ b. record w { table = with_job w.table n (Some (record j { regs = cond b r.regs j.regs })); cores = with_core w.cores n r.core } in
    let by_lists : List (Option Job) → List (List ℕ) → World =
    λ jobs cores. record w { table = record w.table { jobs = jobs }; cores = record w.cores { cores = cores } } in
    ap by_job not
    ∙ ap (λ (l : List ℕ). by_lists (slice_set w.table.jobs n (Some j)) (slice_set w.cores.cores n l)) words
    ∙ ap (λ (jobs : List (Option Job)). by_lists jobs (slice_set w.cores.cores n core)) own
    ∙ ap (λ (cores : List (List ℕ)). by_lists w.table.jobs cores) (set-own w.cores.cores n [])

pub nothing_is_done : (s : S) (n word : ℕ) → is_done_by_hand (end_by_hand s n word) ≡ false → executed_by_hand s n word ≡ s
nothing_is_done s n word not = ap (λ (w : World). record s { world = w }) (kept-of s.world n word (job_at s.world.table.jobs n) refl not)
