-- What keeps the jobs and their core in order.
use Rattle.std.proofs.Common.{◌≡◌, ◌≢◌, ◌≤◌, ◌<◌, ◌∙◌, sym, ap, subst, ℕ, zero, suc, ◌+◌, ◌-◌, ◌*◌, ◌==◌, Bool, true, false, List, [], ◌∷◌, length}
use Rattle.std.proofs.Common.{map, Option, Some, None, is_some, is_none, ◌&&◌, replicate, inl, inr, refl, arith, slice_set}
use Rattle.std.proofs.lemmas.Grind.{common_steps}
use Rattle.std.proofs.lemmas.List.{get_or-set_other, get_or-set_same, length-set, length-map}
use Rattle.std.specs.Option.{option_map}
use Rattle.word36.specs.declared.sizes.TheConstants.{BLOCK_WORDS}
use Rattle.core_store.specs.Cores.{Cores, IsJob, core_of, blocks_of, with_core, taken, resized, resized_words, given}
use Rattle.core_store.proofs.StoreLemmas.{IsStore-with_core, IsStore-taken, IsStore-resized, IsStore-given}
use Rattle.lock_queue.specs.declared.request.Request.{Request}
use Rattle.lock_queue.specs.Jobs.{is_waiting_job}
use Rattle.job_sched.specs.Limits.{is_queue, limited_job, limited_table}
use Rattle.job_sched.specs.Tables.{Table, job_at}
use Rattle.job_sched.proofs.Limits.{job-limited, length-limited, limited-kept, there-limited}
use Rattle.job_sched.specs.declared.job.Job.{Job}
use Rattle.uuo_calls.specs.CoreRow.{with_highest}
use Rattle.machine.specs.Safe.{Housed, wait_of, line_of}
use Rattle.job_sched.specs.Jobs.{ticked_job, ticked_wait, broken_job, halted}
use Rattle.job_sched.specs.declared.job.Stop.TheVariants.{Typed}
use Rattle.ka_cpu.proofs.ExecLaws.{by_test}
use Rattle.std.proofs.lemmas.Bool.{cases_eq}
use Rattle.job_sched.specs.declared.job.Wait.{Wait}
use Rattle.job_sched.specs.declared.job.Wait.TheVariants.{None as Nothing, Sleep, Char, Line, Room, Queue}

pub there-below : (jobs : List (Option Job)) (n : ℕ) → is_some (job_at jobs n) ≡ true → n < length jobs
there-below [] n h = grind (arith, common_steps)
there-below (x ∷ jobs) zero h = omega arith
there-below (x ∷ jobs) (suc n) h = let rest = there-below jobs n h in omega arith

-- who is there after a job that is there is set
pub there-set : (jobs : List (Option Job)) (n k : ℕ) (j : Job) → is_some (job_at jobs n) ≡ true
    → is_some (job_at (slice_set jobs n (Some j)) k) ≡ is_some (job_at jobs k)
there-set jobs n k j h = let low = there-below jobs n h in grind (arith, common_steps)

pub none-set : (jobs : List (Option Job)) (n k : ℕ) (j : Job) → is_some (job_at jobs n) ≡ true
    → job_at (slice_set jobs n (Some j)) k ≡ None → job_at jobs k ≡ None
none-set jobs n k j h e = let low = there-below jobs n h in grind (arith, common_steps)

-- a job that is there has a number
pub is_job : (jobs : List (Option Job)) (cores : Cores) (n : ℕ) → Housed jobs cores → is_some (job_at jobs n) ≡ true → IsJob n
is_job jobs cores zero h there = let none = h.none_0 in cc
is_job jobs cores (suc n) h there = let low = there-below jobs (suc n) there in (omega arith, omega (arith, h.slots))

pub housed-job : (jobs : List (Option Job)) (cores : Cores) (n : ℕ) (j : Job) → is_some (job_at jobs n) ≡ true → Housed jobs cores
    → Housed (slice_set jobs n (Some j)) cores
housed-job jobs cores n j there h = record {
  slots = length-set jobs n (Some j) ∙ h.slots;
  none_0 = let number = is_job jobs cores n h there in get_or-set_other jobs n 0 (Some j) None (omega arith) ∙ h.none_0;
  store = h.store;
  core = λ k e. h.core k (sym (there-set jobs n k j there) ∙ e);
  bare = λ k e. h.bare k (none-set jobs n k j there e);
}

some_length : (xs : List ℕ) → xs ≢ [] → 1 ≤ length xs
some_length [] h = absurd (h refl)
some_length (x ∷ xs) h = omega arith

length_some : (xs : List ℕ) → 1 ≤ length xs → xs ≢ []
length_some [] h e = absurd (omega arith)
length_some (x ∷ xs) h e = cc

-- words of the same length are stored
pub housed-core : (jobs : List (Option Job)) (cores : Cores) (n : ℕ) (words : List ℕ) → is_some (job_at jobs n) ≡ true
    → length words ≡ length (core_of cores n)
    → Housed jobs cores → Housed jobs (with_core cores n words)
housed-core jobs cores n words there same h =
    let number = is_job jobs cores n h there in
    let low : n < length cores.cores = omega (arith, h.store.jobs) in
    let long = some_length (core_of cores n) (h.core n there) in
    record {
      slots = h.slots;
      none_0 = h.none_0;
      store = IsStore-with_core cores n words h.store number same;
      core = λ k e. grind (arith, common_steps, h.core k, length_some words);
      bare = λ k e. grind (arith, common_steps, h.bare k);
    }

-- a job's core grows or shrinks, and tells its highest place
pub housed-resized : (jobs : List (Option Job)) (cores : Cores) (n blocks : ℕ) → is_some (job_at jobs n) ≡ true
    → 1 ≤ blocks → blocks ≤ cores.free + blocks_of cores n
    → Housed jobs cores → Housed jobs (resized cores n blocks)
housed-resized jobs cores n blocks there some room h =
    let number = is_job jobs cores n h there in
    let low : n < length cores.cores = omega (arith, h.store.jobs) in
    let long : length (resized_words (core_of cores n) blocks) ≡ blocks * BLOCK_WORDS = grind (arith, common_steps) in
    let filled = length_some (resized_words (core_of cores n) blocks) (omega arith) in
    record {
      slots = h.slots;
      none_0 = h.none_0;
      store = IsStore-resized cores n blocks h.store number room;
      core = λ k e. grind (arith, common_steps, h.core k);
      bare = λ k e. grind (arith, common_steps, h.bare k);
    }

pub housed-highest : (jobs : List (Option Job)) (cores : Cores) (n blocks : ℕ) → is_some (job_at jobs n) ≡ true
    → Housed jobs cores → Housed jobs (with_highest cores n blocks)
housed-highest jobs cores n blocks there h =
    housed-core jobs cores n _ there (length-set (core_of cores n) 0o44 (blocks * BLOCK_WORDS - 1)) h

-- a job that is gone
pub housed-gone : (jobs : List (Option Job)) (cores : Cores) (n : ℕ) → is_some (job_at jobs n) ≡ true → Housed jobs cores
    → Housed (slice_set jobs n None) (given cores n)
housed-gone jobs cores n there h =
    let number = is_job jobs cores n h there in
    let low : n < length cores.cores = omega (arith, h.store.jobs) in
    let below : n < length jobs = there-below jobs n there in
    record {
      slots = length-set jobs n None ∙ h.slots;
      none_0 = get_or-set_other jobs n 0 None None (omega arith) ∙ h.none_0;
      store = IsStore-given cores n h.store number;
      core = λ k e. grind (arith, common_steps, h.core k);
      bare = λ k e. grind (arith, common_steps, h.bare k);
    }

-- a job that begins
pub housed-taken : (jobs : List (Option Job)) (cores : Cores) (n blocks : ℕ) (j : Job) (words : List ℕ) → IsJob n → job_at jobs n ≡ None
    → 1 ≤ blocks → blocks ≤ cores.free → length words ≡ blocks * BLOCK_WORDS
    → Housed jobs cores → Housed (slice_set jobs n (Some j)) (with_core (taken cores n blocks) n words)
housed-taken jobs cores n blocks j words number none some room long h =
    let low : n < length cores.cores = omega (arith, h.store.jobs) in
    let below : n < length jobs = omega (arith, h.slots) in
    let at : core_of (taken cores n blocks) n ≡ replicate (blocks * BLOCK_WORDS) 0 =
    get_or-set_same cores.cores n (replicate (blocks * BLOCK_WORDS) 0) [] low in
    let zeros : length (replicate {A = ℕ} (blocks * BLOCK_WORDS) 0) ≡ blocks * BLOCK_WORDS = grind (arith, common_steps) in
    let filled = length_some words (omega arith) in
    let after : n < length (taken cores n blocks).cores = omega (arith, length-set cores.cores n (replicate (blocks * BLOCK_WORDS) 0)) in
    let same : core_of (with_core (taken cores n blocks) n words) n ≡ words = get_or-set_same (taken cores n blocks).cores n words [] after in
    record {
      slots = length-set jobs n (Some j) ∙ h.slots;
      none_0 = get_or-set_other jobs n 0 (Some j) None (omega arith) ∙ h.none_0;
      store =
          IsStore-with_core (taken cores n blocks) n words (IsStore-taken cores n blocks h.store number (h.bare n none) room)
          number (long ∙ sym zeros ∙ sym (ap length at));
      core = λ k e. elim (cases_eq k n) [
        | inl is ↦ subst (λ m. core_of (with_core (taken cores n blocks) n words) m ≢ []) (sym is) (λ none. filled (sym same ∙ none))
        | inr other ↦ λ empty. h.core k (sym (ap is_some (get_or-set_other jobs n k (Some j) None other)) ∙ e)
            (sym
            (get_or-set_other (taken cores n blocks).cores n k words [] other
            ∙ get_or-set_other cores.cores n k (replicate (blocks * BLOCK_WORDS) 0) [] other) ∙ empty)
      ];
      bare = λ k e. elim (cases_eq k n) [
        | inl is ↦ absurd (some-none j (sym (get_or-set_same jobs n (Some j) None below) ∙ subst (λ m. job_at (slice_set jobs n (Some j)) m ≡ None) is e))
        | inr other ↦
            get_or-set_other (taken cores n blocks).cores n k words [] other
            ∙ get_or-set_other cores.cores n k (replicate (blocks * BLOCK_WORDS) 0) [] other
            ∙ h.bare k (sym (get_or-set_other jobs n k (Some j) None other) ∙ e)
      ];
    }
  where
    some-none : (j : Job) → Some j ≡ None → ⊥
    some-none j e = cc

-- a change of each job that leaves who is there, the waits for locks and the lines
pub record Mild (f : Option Job → Option Job) : Type 0 where
  pub none : f None ≡ None
  pub some : (o : Option Job) → is_some (f o) ≡ is_some o
  pub wait : (o : Option Job) → is_queue (wait_of o) ≡ true → is_queue (wait_of (f o)) ≡ true
  pub line : (o : Option Job) → line_of (f o) ≡ line_of o

pub at-mapped : (f : Option Job → Option Job) (jobs : List (Option Job)) (k : ℕ) → f None ≡ None → job_at (map f jobs) k ≡ f (job_at jobs k)
at-mapped f [] k none = sym none
at-mapped f (x ∷ jobs) zero none = refl
at-mapped f (x ∷ jobs) (suc k) none = at-mapped f jobs k none

some-none : (o : Option Job) → is_some o ≡ false → o ≡ None
some-none (Some j) e = cc
some-none None e = refl

-- jobs of which each is there or not, and has its line, as before
pub record SameJobs (old new : List (Option Job)) : Type 0 where
  pub slots : length new ≡ length old
  pub some : (k : ℕ) → is_some (job_at new k) ≡ is_some (job_at old k)
  pub line : (k : ℕ) → line_of (job_at new k) ≡ line_of (job_at old k)

pub same-mapped : (f : Option Job → Option Job) (jobs : List (Option Job)) → Mild f → SameJobs jobs (map f jobs)
same-mapped f jobs m = record {
  slots = length-map jobs f;
  some = λ k. ap is_some (at-mapped f jobs k m.none) ∙ m.some (job_at jobs k);
  line = λ k. ap line_of (at-mapped f jobs k m.none) ∙ m.line (job_at jobs k);
}

pub housed-same : (old new : List (Option Job)) (cores : Cores) → SameJobs old new → Housed old cores → Housed new cores
housed-same old new cores m h = record {
  slots = m.slots ∙ h.slots;
  none_0 = some-none (job_at new 0) (m.some 0 ∙ ap is_some h.none_0);
  store = h.store;
  core = λ k e. h.core k (sym (m.some k) ∙ e);
  bare = λ k e. h.bare k (some-none (job_at old k) (sym (m.some k) ∙ ap is_some e));
}

-- ticks, and CTRL-C
pub mild-ticked : Mild (option_map ticked_job)
mild-ticked = record { none = refl; some = some-ticked; wait = wait-ticked; line = line-ticked }
  where
    some-ticked : (o : Option Job) → is_some (option_map ticked_job o) ≡ is_some o
    some-ticked (Some j) = refl
    some-ticked None = refl

    grant-ticked : (v : Wait) → is_queue (ticked_wait v) ≡ is_queue v
    grant-ticked (Queue limit ac) = refl
    grant-ticked Nothing = refl
    grant-ticked (Sleep ticks) = refl
    grant-ticked Char = refl
    grant-ticked Line = refl
    grant-ticked (Room places) = refl

    wait-ticked : (o : Option Job) → is_queue (wait_of o) ≡ true → is_queue (wait_of (option_map ticked_job o)) ≡ true
    wait-ticked (Some j) e = grant-ticked j.wait ∙ e
    wait-ticked None e = e

    line-ticked : (o : Option Job) → line_of (option_map ticked_job o) ≡ line_of o
    line-ticked (Some j) = refl
    line-ticked None = refl

pub mild-broken : (line : ℕ) → Mild (option_map (broken_job line))
mild-broken line = record {
  none = refl;
  some = some-broken line;
  wait = wait-broken line;
  line = line-broken line;
}
  where
    some-broken : (line : ℕ) (o : Option Job) → is_some (option_map (broken_job line) o) ≡ is_some o
    some-broken line (Some j) = by_test (λ (k : Job). is_some (Some k) ≡ true) ((j.line == line) && is_none j.stop) (halted j Typed) j (λ _. refl) (λ _. refl)
    some-broken line None = refl

    wait-broken : (line : ℕ) (o : Option Job) → is_queue (wait_of o) ≡ true → is_queue (wait_of (option_map (broken_job line) o)) ≡ true
    wait-broken line (Some j) e = by_test (λ (k : Job). is_queue k.wait ≡ true) ((j.line == line) && is_none j.stop) (halted j Typed) j (λ _. e) (λ _. e)
    wait-broken line None e = e

    line-broken : (line : ℕ) (o : Option Job) → line_of (option_map (broken_job line) o) ≡ line_of o
    line-broken line (Some j) =
        by_test (λ (k : Job). line_of (Some k) ≡ Some j.line) ((j.line == line) && is_none j.stop) (halted j Typed) j (λ _. refl)
        (λ _. refl)
    line-broken line None = refl

pub at-ticked : (jobs : List (Option Job)) (k : ℕ) → job_at (map (option_map ticked_job) jobs) k ≡ option_map ticked_job (job_at jobs k)
at-ticked jobs k = at-mapped (option_map ticked_job) jobs k refl

-- limits
line_of-limited : (b : Bool) (o : Option Job) → line_of (option_map (limited_job b) o) ≡ line_of o
line_of-limited b (Some j) = ap Some (limited-kept b j).line
line_of-limited b None = refl

pub same-limited : (t : Table) (requests : List Request) → SameJobs t.jobs (limited_table t requests).jobs
same-limited t requests = record {
  slots = length-limited (is_waiting_job requests) 0 t.jobs;
  some = there-limited t requests;
  line = λ k. ap line_of (job-limited t requests k) ∙ line_of-limited (is_waiting_job requests k) (job_at t.jobs k);
}
