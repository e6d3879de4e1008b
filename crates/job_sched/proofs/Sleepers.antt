-- Who sleeps and which numbers have no job, after one job or all jobs were changed.
use Rattle.std.proofs.Common.{◌≡◌, ◌≢◌, ◌<◌, ◌≤◌, ◌+◌, ◌∙◌, ap, ℕ, zero, suc, Bool, true, false, ◌||◌, List, [], ◌∷◌, length, map}
use Rattle.std.proofs.Common.{replicate, Option, Some, None, slice_set, slice_index_or, refl, arith}
use Rattle.std.proofs.lemmas.Grind.{common_steps}
use Rattle.std.proofs.lemmas.Bool.{ltb-false}
use Rattle.std.proofs.lemmas.List.{length-set, length-map}
use Rattle.std.specs.List.{list_any}
use Rattle.std.specs.Option.{option_map}
use Rattle.word36.specs.declared.sizes.TheConstants.{JOBS}
use Rattle.job_sched.specs.declared.job.Job.{Job}
use Rattle.job_sched.specs.declared.job.Wait.{Wait}
use Rattle.job_sched.specs.declared.job.Wait.TheVariants.{None as Nothing, Sleep, Char, Line, Room, Queue}
use Rattle.job_sched.specs.Jobs.{is_sleep, ticked_wait, ticked_job, broken_job}
use Rattle.job_sched.specs.Tables.{is_sleeper, job_at, IsTable}

pub left-none : (a b : Bool) → (a || b) ≡ false → a ≡ false
left-none true b e = e
left-none false b e = refl

pub right-none : (a b : Bool) → (a || b) ≡ false → b ≡ false
right-none true b e = absurd (cc)
right-none false b e = e

both-none : (a b : Bool) → a ≡ false → b ≡ false → (a || b) ≡ false
both-none true b e f = e
both-none false b e f = f

-- nobody sleeps where nobody did and what was put in a place does not sleep
pub awake-set : (jobs : List (Option Job)) (n : ℕ) (o : Option Job) → list_any is_sleeper jobs ≡ false → is_sleeper o ≡ false
    → list_any is_sleeper (slice_set jobs n o) ≡ false
awake-set [] n o none awake = refl
awake-set (x ∷ jobs) zero o none awake = both-none (is_sleeper o) (list_any is_sleeper jobs) awake (right-none (is_sleeper x) _ none)
awake-set (x ∷ jobs) (suc n) o none awake =
    both-none (is_sleeper x) (list_any is_sleeper (slice_set jobs n o)) (left-none (is_sleeper x) (list_any is_sleeper jobs) none)
    (awake-set jobs n o (right-none (is_sleeper x) _ none) awake)

-- nobody sleeps where nobody did and each was changed to one who sleeps no more than before
pub awake-map : (f : Option Job → Option Job) (jobs : List (Option Job)) → ((o : Option Job) → is_sleeper o ≡ false → is_sleeper (f o) ≡ false)
    → list_any is_sleeper jobs ≡ false → list_any is_sleeper (map f jobs) ≡ false
awake-map f [] keeps none = refl
awake-map f (x ∷ jobs) keeps none =
    both-none (is_sleeper (f x)) (list_any is_sleeper (map f jobs)) (keeps x (left-none (is_sleeper x) (list_any is_sleeper jobs) none))
    (awake-map f jobs keeps (right-none (is_sleeper x) _ none))

-- nobody sleeps in a place where nobody sleeps at all
pub awake-at : (jobs : List (Option Job)) (n : ℕ) (d : Option Job) → n < length jobs → list_any is_sleeper jobs ≡ false
    → is_sleeper (slice_index_or jobs n d) ≡ false
awake-at [] n d low none = absurd (omega arith)
awake-at (x ∷ jobs) zero d low none = left-none (is_sleeper x) (list_any is_sleeper jobs) none
awake-at (x ∷ jobs) (suc n) d low none = awake-at jobs n d (omega arith) (right-none (is_sleeper x) _ none)

-- no job is at a place where none was put
none-set : (jobs : List (Option Job)) (n : ℕ) (o : Option Job) (m : ℕ) → (m ≡ n → o ≡ None) → (m ≢ n → job_at jobs m ≡ None)
    → job_at (slice_set jobs n o) m ≡ None
none-set [] n o m here there = refl
none-set (x ∷ jobs) zero o zero here there = here refl
none-set (x ∷ jobs) zero o (suc m) here there = there (λ e. omega (arith, e))
none-set (x ∷ jobs) (suc n) o zero here there = there (λ e. omega (arith, e))
none-set (x ∷ jobs) (suc n) o (suc m) here there =
    none-set jobs n o m (λ e. here (ap (λ (k : ℕ). suc k) e)) (λ d. there (λ e. d (omega (arith, e))))

none-map : (f : Option Job → Option Job) (jobs : List (Option Job)) (m : ℕ) → f None ≡ None → job_at jobs m ≡ None → job_at (map f jobs) m ≡ None
none-map f [] m keeps none = refl
none-map f (x ∷ jobs) zero keeps none = ap f none ∙ keeps
none-map f (x ∷ jobs) (suc m) keeps none = none-map f jobs m keeps none

pub none-replicate : (k m : ℕ) → job_at (replicate k None) m ≡ None
none-replicate zero m = refl
none-replicate (suc k) zero = refl
none-replicate (suc k) (suc m) = none-replicate k m

-- whatever a read past the end gives, where there is a place the job there is read
pub none-at : (jobs : List (Option Job)) (n : ℕ) (d : Option Job) → n < length jobs → slice_index_or jobs n d ≡ job_at jobs n
none-at [] n d low = absurd (omega arith)
none-at (x ∷ jobs) zero d low = refl
none-at (x ∷ jobs) (suc n) d low = none-at jobs n d (omega arith)

-- What a table keeps where what is put in a place does not sleep, or it is told that one may sleep. The numbers of `m` are
-- those where no job is now.
pub IsTable-set : (jobs : List (Option Job)) (n : ℕ) (o : Option Job) (before after : Bool) (from to : ℕ) → IsTable jobs before from
    → (after ≡ false → before ≡ false) → (after ≡ false → is_sleeper o ≡ false)
    → to ≤ JOBS + 1 → (to ≤ n → o ≡ None) → ((m : ℕ) → to ≤ m → m ≢ n → from ≤ m) → IsTable (slice_set jobs n o) after to
IsTable-set jobs n o before after from to h less awake most here others = record {
  slots = length-set jobs n o ∙ h.slots;
  awake = λ e. awake-set jobs n o (h.awake (less e)) (awake e);
  most = most;
  vacant = λ m high. none-set jobs n o m (λ e. here (omega (arith, e, high))) (λ d. h.vacant m (others m high d));
}

-- where a job was changed in its place
pub IsTable-changed : (jobs : List (Option Job)) (n : ℕ) (o : Option Job) (before after : Bool) (from : ℕ) → IsTable jobs before from
    → (after ≡ false → before ≡ false) → (after ≡ false → is_sleeper o ≡ false) → (job_at jobs n ≡ None → o ≡ None) → IsTable (slice_set jobs n o) after from
IsTable-changed jobs n o before after from h less awake none =
    IsTable-set jobs n o before after from from h less awake h.most (λ high. none (h.vacant n high)) (λ m high d. high)

pub IsTable-map : (f : Option Job → Option Job) (jobs : List (Option Job)) (before after : Bool) (from : ℕ) → f None ≡ None
    → (after ≡ false → list_any is_sleeper (map f jobs) ≡ false) → IsTable jobs before from → IsTable (map f jobs) after from
IsTable-map f jobs before after from none awake h = record {
  slots = length-map jobs f ∙ h.slots;
  awake = awake;
  most = h.most;
  vacant = λ m high. none-map f jobs m none (h.vacant m high);
}

-- a tick changes nothing where nobody sleeps
ticked-wait : (w : Wait) → is_sleep w ≡ false → ticked_wait w ≡ w
ticked-wait Nothing e = refl
ticked-wait (Sleep zero) e = refl
ticked-wait (Sleep (suc n)) e = absurd (omega (arith, ltb-false 0 (suc n) e))
ticked-wait Char e = refl
ticked-wait Line e = refl
ticked-wait (Room places) e = refl
ticked-wait (Queue limit ac) e = refl

ticked-slot : (o : Option Job) → is_sleeper o ≡ false → option_map ticked_job o ≡ o
ticked-slot None e = refl
ticked-slot (Some j) e = ap (λ w. Some (record j { wait = w })) (ticked-wait j.wait e)

pub ticked-awake : (jobs : List (Option Job)) → list_any is_sleeper jobs ≡ false → map (option_map ticked_job) jobs ≡ jobs
ticked-awake [] none = refl
ticked-awake (x ∷ jobs) none =
    rw (ticked-slot x (left-none (is_sleeper x) (list_any is_sleeper jobs) none), ticked-awake jobs (right-none (is_sleeper x) _ none)) refl

-- CTRL-C lets nobody sleep
pub sleeper-broken : (line : ℕ) (o : Option Job) → is_sleeper o ≡ false → is_sleeper (option_map (broken_job line) o) ≡ false
sleeper-broken line None e = refl
sleeper-broken line (Some j) e = grind (arith, common_steps)
