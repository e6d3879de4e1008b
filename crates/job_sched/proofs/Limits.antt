-- What a tick of the limits does to the jobs, one by one and in the table.
use Rattle.std.proofs.Common.{◌≡◌, ◌<◌, ◌≤◌, ◌+◌, ◌-◌, ◌*◌, ◌%◌, ◌^◌, ◌==◌, ◌&&◌, ◌||◌, ◌++◌, ◌∙◌, sym, ap, ℕ, zero, suc, Bool, true, false}
use Rattle.std.proofs.Common.{is_some, cond, bit_or, w64, List, [], ◌∷◌, length, Option, Some, None, inl, inr, refl, arith}
use Rattle.std.proofs.lemmas.Bool.{cases_eq, ltb-false}
use Rattle.std.proofs.lemmas.List.{length-set}
use Rattle.std.proofs.lemmas.Bool.Decides.{nat_tests}
use Rattle.std.proofs.lemmas.Nat.Bits.{bit_at-zero, bit_at_set_same, bit_at_set_other}
use Rattle.std.specs.List.{list_any}
use Rattle.std.specs.Option.{option_map}
use Rattle.word36.specs.declared.sizes.TheConstants.{JOBS}
use Rattle.lock_queue.specs.declared.request.Request.{Request}
use Rattle.lock_queue.specs.Jobs.{is_among, is_not_blocked_where, is_waiting_job, withdrawn_where}
use Rattle.lock_queue.specs.Queue.{chosen_behind}
use Rattle.job_sched.specs.declared.job.Job.{Job}
use Rattle.job_sched.specs.declared.job.Wait.{Wait}
use Rattle.job_sched.specs.declared.job.Wait.TheVariants.{None as Nothing, Sleep, Char, Line, Room, Queue}
use Rattle.job_sched.specs.Jobs.{is_sleep}
use Rattle.job_sched.specs.Limits.{at_error_return, expires, is_last_tick, is_queue, limit_of, limited_by, limited_from, limited_job, limited_table}
use Rattle.job_sched.specs.Tables.{IsTable, Table, is_sleeper, job_at}
use Rattle.job_sched.proofs.Sleepers.{left-none, right-none}

-- a job without a limit stays as it is
by-none : (w : Wait) (j : Job) → j.wait ≡ w → limit_of w ≡ 0 → limited_by w j ≡ j
by-none (Queue zero ac) j e none = ap (λ w. record j { wait = w }) (sym e)
by-none (Queue (suc n) ac) j e none = absurd (omega (arith, none))
by-none Nothing j e none = refl
by-none (Sleep ticks) j e none = refl
by-none Char j e none = refl
by-none Line j e none = refl
by-none (Room places) j e none = refl

pub limited-none : (b : Bool) (j : Job) → limit_of j.wait ≡ 0 → limited_job b j ≡ j
limited-none true j none = by-none j.wait j refl none
limited-none false j none = refl

-- What a tick of a limit keeps of a job.
pub record Kept (j k : Job) : Type 0 where
  pub line : k.line ≡ j.line
  pub start : k.start ≡ j.start
  pub stop : k.stop ≡ j.stop
  pub interrupts : k.interrupts ≡ j.interrupts
  pub quota : k.quota ≡ j.quota
  pub accumulators : length k.regs.ac ≡ length j.regs.ac
  pub below : j.regs.pc < 2 ^ 18 → k.regs.pc < 2 ^ 18

same-kept : (j : Job) → Kept j j
same-kept j = record { line = refl; start = refl; stop = refl; interrupts = refl; quota = refl; accumulators = refl; below = λ h. h }

late-kept : (code ac : ℕ) (j : Job) → Kept j (at_error_return code ac j)
late-kept code ac j = record {
  line = refl;
  start = refl;
  stop = refl;
  interrupts = refl;
  quota = refl;
  accumulators = length-set j.regs.ac ac code;
  below = λ h. omega arith;
}

either-kept : (j : Job) (b : Bool) (k l : Job) → Kept j k → Kept j l → Kept j (cond b k l)
either-kept j true k l h i = h
either-kept j false k l h i = i

by-kept : (w : Wait) (j : Job) → Kept j (limited_by w j)
by-kept (Queue limit ac) j =
    either-kept j (limit == 1) (at_error_return 17 ac j) (record j { wait = Queue (limit - 1) ac }) (late-kept 17 ac j)
    (record { line = refl; start = refl; stop = refl; interrupts = refl; quota = refl; accumulators = refl; below = λ h. h })
by-kept Nothing j = same-kept j
by-kept (Sleep ticks) j = same-kept j
by-kept Char j = same-kept j
by-kept Line j = same-kept j
by-kept (Room places) j = same-kept j

pub limited-kept : (b : Bool) (j : Job) → Kept j (limited_job b j)
limited-kept true j = by-kept j.wait j
limited-kept false j = same-kept j

-- a job that waits for a request goes on waiting for it unless its limit ends
by-queue : (w : Wait) (j : Job) → is_queue w ≡ true → (limit_of w == 1) ≡ false → is_queue (limited_by w j).wait ≡ true
by-queue (Queue limit ac) j e more = ap (λ b. is_queue (cond b (at_error_return 17 ac j) (record j { wait = Queue (limit - 1) ac })).wait) more
by-queue Nothing j e more = absurd (cc)
by-queue (Sleep ticks) j e more = absurd (cc)
by-queue Char j e more = absurd (cc)
by-queue Line j e more = absurd (cc)
by-queue (Room places) j e more = absurd (cc)

pub queue-limited : (b : Bool) (j : Job) → is_queue j.wait ≡ true → (b && limit_of j.wait == 1) ≡ false → is_queue (limited_job b j).wait ≡ true
queue-limited true j e more = by-queue j.wait j e more
queue-limited false j e more = e

-- where ticks count for nobody there is no limit
no-limit : (w : Wait) → is_sleep w ≡ false → limit_of w ≡ 0
no-limit (Queue zero ac) e = refl
no-limit (Queue (suc n) ac) e = absurd (omega (arith, ltb-false 0 (suc n) e))
no-limit Nothing e = refl
no-limit (Sleep ticks) e = refl
no-limit Char e = refl
no-limit Line e = refl
no-limit (Room places) e = refl

slot-awake : (b : Bool) (o : Option Job) → is_sleeper o ≡ false → option_map (limited_job b) o ≡ o
slot-awake b None e = refl
slot-awake b (Some j) e = ap (λ k. Some k) (limited-none b j (no-limit j.wait e))

last-awake : (o : Option Job) → is_sleeper o ≡ false → is_last_tick o ≡ false
last-awake None e = refl
last-awake (Some j) e = ap (λ (n : ℕ). n == 1) (no-limit j.wait e)

pub limited-awake : (waits : ℕ → Bool) (n : ℕ) (jobs : List (Option Job)) → list_any is_sleeper jobs ≡ false → limited_from waits n jobs ≡ jobs
limited-awake waits n [] none = refl
limited-awake waits n (o ∷ jobs) none =
    rw (
      slot-awake (waits n) o (left-none (is_sleeper o) (list_any is_sleeper jobs) none),
      limited-awake waits (n + 1) jobs (right-none (is_sleeper o) _ none),
    ) refl

pub table-awake : (t : Table) (requests : List Request) → list_any is_sleeper t.jobs ≡ false → limited_table t requests ≡ t
table-awake t requests none = ap (λ jobs. record t { jobs = jobs }) (limited-awake (is_waiting_job requests) 0 t.jobs none)

last-at : (jobs : List (Option Job)) (n : ℕ) → list_any is_sleeper jobs ≡ false → is_last_tick (job_at jobs n) ≡ false
last-at [] n none = refl
last-at (o ∷ jobs) zero none = last-awake o (left-none (is_sleeper o) (list_any is_sleeper jobs) none)
last-at (o ∷ jobs) (suc n) none = last-at jobs n (right-none (is_sleeper o) _ none)

and-false : (b c : Bool) → c ≡ false → (b && c) ≡ false
and-false true c e = e
and-false false c e = refl

pub expires-awake : (requests : List Request) (jobs : List (Option Job)) → list_any is_sleeper jobs ≡ false → (n : ℕ) → expires requests jobs n ≡ false
expires-awake requests jobs none n = and-false (is_waiting_job requests n) (is_last_tick (job_at jobs n)) (last-at jobs n none)

-- each job for itself
from-at : (waits : ℕ → Bool) (jobs : List (Option Job)) (n m k : ℕ) → k ≡ n + m
    → job_at (limited_from waits n jobs) m ≡ option_map (limited_job (waits k)) (job_at jobs m)
from-at waits [] n m k e = refl
from-at waits (o ∷ jobs) n zero k e = let same : n ≡ k = omega (arith, e) in ap (λ (i : ℕ). option_map (limited_job (waits i)) o) same
from-at waits (o ∷ jobs) n (suc m) k e = from-at waits jobs (n + 1) m k (omega (arith, e))

pub job-limited : (t : Table) (requests : List Request) (n : ℕ)
    → job_at (limited_table t requests).jobs n ≡ option_map (limited_job (is_waiting_job requests n)) (job_at t.jobs n)
job-limited t requests n = from-at (is_waiting_job requests) t.jobs 0 n n (omega arith)

pub length-limited : (waits : ℕ → Bool) (n : ℕ) (jobs : List (Option Job)) → length (limited_from waits n jobs) ≡ length jobs
length-limited waits n [] = refl
length-limited waits n (o ∷ jobs) = ap (λ (k : ℕ). suc k) (length-limited waits (n + 1) jobs)

some-mapped : (f : Job → Job) (o : Option Job) → is_some (option_map f o) ≡ is_some o
some-mapped f None = refl
some-mapped f (Some j) = refl

-- the same jobs are there
pub there-limited : (t : Table) (requests : List Request) (n : ℕ) → is_some (job_at (limited_table t requests).jobs n) ≡ is_some (job_at t.jobs n)
there-limited t requests n = ap (λ o. is_some o) (job-limited t requests n) ∙ some-mapped (limited_job (is_waiting_job requests n)) (job_at t.jobs n)

pub none-limited : (waits : ℕ → Bool) (jobs : List (Option Job)) (m : ℕ) → job_at jobs m ≡ None → job_at (limited_from waits 0 jobs) m ≡ None
none-limited waits jobs m none = from-at waits jobs 0 m m (omega arith) ∙ ap (λ o. option_map (limited_job (waits m)) o) none

pub IsTable-limited : (waits : ℕ → Bool) (jobs : List (Option Job)) (sleepers : Bool) (from : ℕ) → IsTable jobs sleepers from
    → IsTable (limited_from waits 0 jobs) sleepers from
IsTable-limited waits jobs sleepers from h = record {
  slots = length-limited waits 0 jobs ∙ h.slots;
  awake = λ e. rw (limited-awake waits 0 jobs (h.awake e)) (h.awake e);
  most = h.most;
  vacant = λ m high. none-limited waits jobs m (h.vacant m high);
}

-- the empty set
pub nobody : (n : ℕ) → is_among 0 n ≡ false
nobody n = ap (λ (b : ℕ). b == 1) (bit_at-zero n)

-- the set with one job more
or-true : (b : Bool) → (b || true) ≡ true
or-true true = refl
or-true false = refl

or-false : (b : Bool) → (b || false) ≡ b
or-false true = refl
or-false false = refl

pub member : (jobs job n : ℕ) → job ≤ JOBS → is_among (bit_or jobs (1 * 2 ^ job % 2 ^ 64)) n ≡ (is_among jobs n || n == job)
member jobs job n low = elim (cases_eq n job) [
  | inl same ↦
      let yes : (n == job) ≡ true = grind (arith, nat_tests, same) in
      ap (λ (i : ℕ). is_among (bit_or jobs (1 * 2 ^ job % 2 ^ 64)) i) same
      ∙ ap (λ (b : ℕ). b == 1) (bit_at_set_same w64 jobs job (omega arith))
      ∙ sym (ap (λ b. is_among jobs n || b) yes ∙ or-true (is_among jobs n))
  | inr other ↦
      let no : (n == job) ≡ false = grind (arith, nat_tests, other) in
      ap (λ (b : ℕ). b == 1) (bit_at_set_other w64 jobs job (omega arith) n other)
      ∙ sym (ap (λ b. is_among jobs n || b) no ∙ or-false (is_among jobs n))
]

-- nothing is withdrawn where no job is asked for
chosen-all : (f : List Request → Request → Bool) → ((e : List Request) (r : Request) → f e r ≡ true) → (e rs : List Request) → chosen_behind f e rs ≡ rs
chosen-all f all e [] = refl
chosen-all f all e (r ∷ rs) =
    ap (λ b. cond b (r ∷ chosen_behind f (e ++ r ∷ []) rs) (chosen_behind f (e ++ r ∷ []) rs)) (all e r) ∙ ap (λ l. r ∷ l) (chosen-all f all (e ++ r ∷ []) rs)

pub withdrawn-none : (requests : List Request) (f : ℕ → Bool) → ((n : ℕ) → f n ≡ false) → withdrawn_where requests f ≡ requests
withdrawn-none requests f none =
    chosen-all (is_not_blocked_where f) (λ e r. ap (λ b. is_not_blocked_where (λ n. b) e r) (none r.job)) [] requests
