-- What a debugger changes of a job leaves the state sound, and is what there is to see of it then.
use Rattle.std.proofs.Common.{◌≡◌, ◌<◌, ◌^◌, ◌∙◌, sym, ap, subst, ℕ, zero, suc, true, List, [], ◌∷◌, length}
use Rattle.std.proofs.Common.{slice_set, slice_index_or, Option, Some, None, is_some, refl, arith}
use Rattle.std.specs.Option.{option_map}
use Rattle.ka_state.specs.Memory.{core_with}
use Rattle.ka_cpu.proofs.ExecLaws.{by_test, length-core_with}
use Rattle.core_store.specs.Cores.{core_of, with_core}
use Rattle.job_sched.specs.Changes.{with_job}
use Rattle.job_sched.specs.Tables.{job_at}
use Rattle.job_sched.specs.declared.job.Job.{Job}
use Rattle.uuo_calls.specs.CallState.{with_pc}
use Rattle.machine.specs.declared.event.Event.TheVariants.{Start}
use Rattle.machine.specs.Deposits.{deposited, is_done, placed, started_at, with_register, with_word_of}
use Rattle.machine.specs.Machine.{S, started}
use Rattle.machine.specs.Safe.{InRange, Safe, line_of, wait_of}
use Rattle.monitor_laws.proofs.Housing.{housed-core, housed-job, is_job, there-set}
use Rattle.monitor_laws.proofs.Keeping.{apart-kept, below-kept, lines-set, words-core}
use Rattle.monitor_laws.proofs.Ranges.{length-ac_with, ranges-set}
use Rattle.monitor_laws.proofs.Queueing.{queued-going_on}
use Rattle.progress_laws.specs.Kept.{IsSound}
use Rattle.progress_laws.proofs.Kept.{sound_is_kept}

-- a list with its own at an index
pub set-own : {A : Type 0} (l : List A) (n : ℕ) (d : A) → slice_set l n (slice_index_or l n d) ≡ l
set-own [] n d = refl
set-own (x ∷ l) zero d = refl
set-own (x ∷ l) (suc n) d = ap (λ k. x ∷ k) (set-own l n d)

-- a job whose line and wait stay
pub sound-job : (s : S) (n : ℕ) (j k : Job) → job_at s.world.table.jobs n ≡ Some j → k.line ≡ j.line → k.wait ≡ j.wait → InRange (Some k) → IsSound s
    → IsSound (record s { world = record s.world { table = with_job s.world.table n (Some k) } })
sound-job s n j k is line wait fits h =
    let jobs = s.world.table.jobs in
    let there : is_some (job_at jobs n) ≡ true = ap is_some is in
    let keeps = lines-set jobs n k there (ap line_of is ∙ ap Some (sym line)) in
    record {
      safe = record {
        housed = housed-job jobs s.world.cores n k there h.safe.housed;
        queued = queued-going_on s.world.size jobs s.world.requests n k there (ap wait_of is ∙ sym wait) h.safe.queued;
        apart = apart-kept jobs _ keeps h.safe.apart;
        total = h.safe.total;
        most = h.safe.most;
        rings = h.safe.rings;
        numbers = below-kept jobs _ keeps h.safe.numbers;
        ranges = ranges-set jobs n (Some k) fits h.safe.ranges;
      };
      time = record {
        some_ticks = h.time.some_ticks;
        most = h.time.most;
        there = λ some. there-set jobs n s.world.table.current k there ∙ h.time.there some;
      };
      well = h.well;
      low = λ m e. h.low m (sym (there-set jobs n m k there) ∙ e);
    }

-- the slot of a job's core
pub core-below : (s : S) (n : ℕ) → is_some (job_at s.world.table.jobs n) ≡ true → Safe s → n < length s.world.cores.cores
core-below s n there h =
    let number = is_job s.world.table.jobs s.world.cores n h.housed there in
    omega (arith, h.housed.store.jobs, number.1)

-- core that stays as long
pub sound-core : (s : S) (n : ℕ) (words : List ℕ) → is_some (job_at s.world.table.jobs n) ≡ true → length words ≡ length (core_of s.world.cores n) → IsSound s
    → IsSound (record s { world = record s.world { cores = with_core s.world.cores n words } })
sound-core s n words there long h = record {
  safe = record {
    housed = housed-core s.world.table.jobs s.world.cores n words there long h.safe.housed;
    queued = h.safe.queued;
    apart = h.safe.apart;
    total = words-core s.world.cores n words (core-below s n there h.safe) long ∙ h.safe.total;
    most = h.safe.most;
    rings = h.safe.rings;
    numbers = h.safe.numbers;
    ranges = h.safe.ranges;
  };
  time = record { some_ticks = h.time.some_ticks; most = h.time.most; there = h.time.there };
  well = h.well;
  low = h.low;
}

-- a word
with-register : (j : Job) (a word : ℕ) → InRange (Some j) → InRange (Some (with_register j a word))
with-register j a word h = (h.0, h.1, length-ac_with j.regs.ac a word ∙ h.2, h.3)

sound-word : (s : S) (n a word : ℕ) (o : Option Job) → job_at s.world.table.jobs n ≡ o →
    IsSound s → IsSound (record s { world = with_word_of s.world n a word o })
sound-word s n a word None is h = h
sound-word s n a word (Some j) is h =
    let there : is_some (job_at s.world.table.jobs n) ≡ true = ap is_some is in
    sound-core (record s { world = record s.world { table = with_job s.world.table n (Some (with_register j a word)) } }) n
    (core_with (core_of s.world.cores n) a word)
    (there-set s.world.table.jobs n n (with_register j a word) there ∙ there) (length-core_with (core_of s.world.cores n) a word)
    (sound-job s n j (with_register j a word) is refl refl (with-register j a word (subst InRange is (h.safe.ranges n))) h)

pub sound_deposited : (s : S) (n a word : ℕ) → IsSound s → IsSound (deposited s n a word)
sound_deposited s n a word h = sound-word s n a word (job_at s.world.table.jobs n) refl h

-- a PC
sound-pc : (s : S) (n a : ℕ) (o : Option Job) → job_at s.world.table.jobs n ≡ o → a < 2 ^ 18 → IsSound s
    → IsSound (record s { world = record s.world { table = with_job s.world.table n (option_map (λ j. with_pc j a) o) } })
sound-pc s n a (Some j) is low h =
    let ranges : InRange (Some j) = subst InRange is (h.safe.ranges n) in
    sound-job s n j (with_pc j a) is refl refl (low, ranges.1, ranges.2, ranges.3) h
sound-pc s n a None is low h =
    let same : slice_set s.world.table.jobs n None ≡ s.world.table.jobs = ap (λ (o : Option Job). slice_set s.world.table.jobs n o) (sym is)
    ∙ set-own s.world.table.jobs n None in
    subst (λ (jobs : List (Option Job)). IsSound (record s { world = record s.world { table = record s.world.table { jobs = jobs } } })) (sym same) h

sound-placed : (s : S) (n a : ℕ) → a < 2 ^ 18 → IsSound s → IsSound (placed s n a)
sound-placed s n a low h = sound-pc s n a (job_at s.world.table.jobs n) refl low h

-- a start at an address
pub sound_started_at : (s : S) (n a : ℕ) → a < 2 ^ 18 → IsSound s → IsSound (started_at s n a).state
sound_started_at s n a low h =
    let began : IsSound (started s n).state = sound_is_kept s (Start n) h in
    by_test IsSound (is_done (started s n).answer) (placed (started s n).state n a) (started s n).state
    (λ _. sound-placed (started s n).state n a low began) (λ _. began)
