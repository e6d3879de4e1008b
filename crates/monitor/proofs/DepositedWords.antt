-- What there is to see of the jobs after a word was stored at an address of one.
use Rattle.std.proofs.Common.{◌≡◌, ◌≢◌, ◌∙◌, ◌⊎◌, sym, ap, subst, ℕ, zero, suc, nat_lt, Bool, true, false, cond, List, []}
use Rattle.std.proofs.Common.{◌∷◌, slice_set, slice_get, Option, Some, None, is_some, inl, inr, refl}
use Rattle.std.proofs.lemmas.Bool.{both_ways, cases_eq}
use Rattle.std.proofs.lemmas.List.{get_or-set_other, get_or-set_same}
use Rattle.ka_state.specs.Memory.{ac_with, core_with, word_at}
use Rattle.core_store.specs.Cores.{core_of, with_core}
use Rattle.job_sched.specs.Changes.{with_job}
use Rattle.job_sched.specs.Tables.{job_at}
use Rattle.job_sched.specs.declared.job.Job.{Job}
use Rattle.uuo_calls.specs.Performed.{World}
use Rattle.machine.specs.Deposits.{deposited, with_register, with_word_of}
use Rattle.machine.specs.Machine.{S}
use Rattle.machine.specs.Safe.{Safe}
use Rattle.machine.specs.Views.{place_of, word_in}
use Rattle.monitor_laws.proofs.Housing.{there-below}
use Rattle.monitor.proofs.SoundDeposits.{core-below, set-own}

-- a list of words
get-set : (l : List ℕ) (a word : ℕ) → is_some (slice_get l a) ≡ true → slice_get (slice_set l a word) a ≡ Some word
get-set [] a word h = absurd (both_ways false refl h)
get-set (x ∷ l) zero word h = refl
get-set (x ∷ l) (suc a) word h = get-set l a word h

get-other : (l : List ℕ) (a b word : ℕ) → b ≢ a → slice_get (slice_set l a word) b ≡ slice_get l b
get-other [] a b word ne = refl
get-other (x ∷ l) zero zero word ne = absurd (ne refl)
get-other (x ∷ l) zero (suc b) word ne = refl
get-other (x ∷ l) (suc a) zero word ne = refl
get-other (x ∷ l) (suc a) (suc b) word ne = get-other l a b word (λ e. ne (ap (λ (k : ℕ). suc k) e))

set-none : (l : List ℕ) (a word : ℕ) → is_some (slice_get l a) ≡ false → slice_set l a word ≡ l
set-none [] a word h = refl
set-none (x ∷ l) zero word h = absurd (both_ways true h refl)
set-none (x ∷ l) (suc a) word h = ap (λ k. x ∷ k) (set-none l a word h)

-- the memory of one job, by whether the address is a register's
there-by : (low : Bool) (ac core : List ℕ) (a word : ℕ) → is_some (cond low (slice_get ac a) (slice_get core a)) ≡ true
    → cond low (slice_get (cond low (slice_set ac a word) ac) a) (slice_get (cond low core (slice_set core a word)) a) ≡ Some word
there-by true ac core a word h = get-set ac a word h
there-by false ac core a word h = get-set core a word h

memory-there : (ac core : List ℕ) (a word : ℕ) → is_some (word_at ac core a) ≡ true → word_at (ac_with ac a word) (core_with core a word) a ≡ Some word
memory-there ac core a word h = there-by (nat_lt a 16) ac core a word h

other-by : (low put : Bool) (ac core : List ℕ) (a b word : ℕ) → b ≢ a
    → cond low (slice_get (cond put (slice_set ac a word) ac) b)
    (slice_get (cond put core (slice_set core a word)) b) ≡ cond low (slice_get ac b) (slice_get core b)
other-by true true ac core a b word ne = get-other ac a b word ne
other-by true false ac core a b word ne = refl
other-by false true ac core a b word ne = refl
other-by false false ac core a b word ne = get-other core a b word ne

memory-other : (ac core : List ℕ) (a b word : ℕ) → b ≢ a → word_at (ac_with ac a word) (core_with core a word) b ≡ word_at ac core b
memory-other ac core a b word ne = other-by (nat_lt b 16) (nat_lt a 16) ac core a b word ne

same-by : (low : Bool) (ac core : List ℕ) (a word : ℕ) → is_some (cond low (slice_get ac a) (slice_get core a)) ≡ false
    → (cond low (slice_set ac a word) ac ≡ ac) × (cond low core (slice_set core a word) ≡ core)
same-by true ac core a word h = (set-none ac a word h, refl)
same-by false ac core a word h = (refl, set-none core a word h)

memory-same : (ac core : List ℕ) (a word : ℕ) → is_some (word_at ac core a) ≡ false → (ac_with ac a word ≡ ac) × (core_with core a word ≡ core)
memory-same ac core a word h = same-by (nat_lt a 16) ac core a word h

-- the job and its core afterwards
job-now : (s : S) (n a word : ℕ) (j : Job) → job_at s.world.table.jobs n ≡ Some j
    → job_at (with_word_of s.world n a word (Some j)).table.jobs n ≡ Some (with_register j a word)
job-now s n a word j is = get_or-set_same s.world.table.jobs n (Some (with_register j a word)) None (there-below s.world.table.jobs n (ap is_some is))

core-now : (s : S) (n a word : ℕ) (j : Job) → job_at s.world.table.jobs n ≡ Some j → Safe s
    → core_of (with_word_of s.world n a word (Some j)).cores n ≡ core_with (core_of s.world.cores n) a word
core-now s n a word j is h = get_or-set_same s.world.cores.cores n (core_with (core_of s.world.cores n) a word) [] (core-below s n (ap is_some is) h)

-- any word of the job afterwards
word-now : (s : S) (n a b word : ℕ) (j : Job) → job_at s.world.table.jobs n ≡ Some j → Safe s
    → word_in (with_word_of s.world n a word (Some j)) n b ≡ word_at (ac_with j.regs.ac a word) (core_with (core_of s.world.cores n) a word) b
word-now s n a b word j is h =
    let w : World = with_word_of s.world n a word (Some j) in
    ap (λ (o : Option Job). place_of w n b o) (job-now s n a word j is)
    ∙ ap (λ (core : List ℕ). word_at (ac_with j.regs.ac a word) core b) (core-now s n a word j is h)

-- the word that was put there
there-of : (s : S) (n a word : ℕ) (o : Option Job) → job_at s.world.table.jobs n ≡ o → Safe s → is_some (place_of s.world n a o) ≡ true
    → word_in (with_word_of s.world n a word o) n a ≡ Some word
there-of s n a word None is h some = absurd (both_ways false refl some)
there-of s n a word (Some j) is h some = word-now s n a a word j is h ∙ memory-there j.regs.ac (core_of s.world.cores n) a word some

pub word_is_there : (s : S) (n a word : ℕ) → Safe s → is_some (word_in s.world n a) ≡ true → word_in (deposited s n a word).world n a ≡ Some word
word_is_there s n a word h some = there-of s n a word (job_at s.world.table.jobs n) refl h some

-- a word of another job
same-core : (v w : World) (m b : ℕ) (o : Option Job) → core_of v.cores m ≡ core_of w.cores m → place_of v m b o ≡ place_of w m b o
same-core v w m b None same = refl
same-core v w m b (Some j) same = ap (λ (core : List ℕ). word_at j.regs.ac core b) same

other-job : (s : S) (n a word : ℕ) (j : Job) (m b : ℕ) → m ≢ n → word_in (with_word_of s.world n a word (Some j)) m b ≡ word_in s.world m b
other-job s n a word j m b ne =
    let w : World = with_word_of s.world n a word (Some j) in
    let job : job_at w.table.jobs m ≡ job_at s.world.table.jobs m = get_or-set_other s.world.table.jobs n m (Some (with_register j a word)) None ne in
    let core : core_of w.cores m ≡ core_of s.world.cores m = get_or-set_other s.world.cores.cores n m (core_with (core_of s.world.cores n) a word) [] ne in
    ap (λ (o : Option Job). place_of w m b o) job ∙ same-core w s.world m b (job_at s.world.table.jobs m) core

-- another word of the job
other-address : (s : S) (n a word : ℕ) (j : Job) (b : ℕ) → job_at s.world.table.jobs n ≡ Some j → Safe s → b ≢ a
    → word_in (with_word_of s.world n a word (Some j)) n b ≡ word_in s.world n b
other-address s n a word j b is h ne =
    word-now s n a b word j is h
    ∙ memory-other j.regs.ac (core_of s.world.cores n) a b word ne
    ∙ sym (ap (λ (o : Option Job). place_of s.world n b o) is)

others-of : (s : S) (n a word : ℕ) (o : Option Job) (m b : ℕ) → job_at s.world.table.jobs n ≡ o → Safe s → (m ≢ n) ⊎ (b ≢ a)
    → word_in (with_word_of s.world n a word o) m b ≡ word_in s.world m b
others-of s n a word None m b is h other = refl
others-of s n a word (Some j) m b is h (inl ne) = other-job s n a word j m b ne
others-of s n a word (Some j) m b is h (inr ne) = elim (cases_eq m n) [
  | inl same ↦ subst (λ (k : ℕ). word_in (with_word_of s.world n a word (Some j)) k b ≡ word_in s.world k b) (sym same) (other-address s n a word j b is h ne)
  | inr other ↦ other-job s n a word j m b other
]

pub other_words_stay : (s : S) (n a word m b : ℕ) → Safe s → (m ≢ n) ⊎ (b ≢ a) → word_in (deposited s n a word).world m b ≡ word_in s.world m b
other_words_stay s n a word m b h other = others-of s n a word (job_at s.world.table.jobs n) m b refl h other

-- an address that is not legal
kept-of : (w : World) (n a word : ℕ) (o : Option Job) → job_at w.table.jobs n ≡ o → is_some (place_of w n a o) ≡ false → with_word_of w n a word o ≡ w
kept-of w n a word None is none = refl
kept-of w n a word (Some j) is none =
    let same = memory-same j.regs.ac (core_of w.cores n) a word none in
    let own : slice_set w.table.jobs n (Some j) ≡ w.table.jobs = ap (λ (o : Option Job). slice_set w.table.jobs n o) (sym is) ∙ set-own w.table.jobs n None in
    let by_words : List ℕ → List ℕ → World =
    λ ac core. record w { table = with_job w.table n (Some (record j { regs = record j.regs { ac = ac } })); cores = with_core w.cores n core } in
    let by_lists : List (Option Job) → List (List ℕ) → World =
    λ jobs cores. record w { table = record w.table { jobs = jobs }; cores = record w.cores { cores = cores } } in
    ap (λ ac. by_words ac (core_with (core_of w.cores n) a word)) same.0
    ∙ ap (λ core. by_words j.regs.ac core) same.1
    ∙ ap (λ jobs. by_lists jobs (slice_set w.cores.cores n (core_of w.cores n))) own
    ∙ ap (λ cores. by_lists w.table.jobs cores) (set-own w.cores.cores n [])

pub nothing_changes : (s : S) (n a word : ℕ) → is_some (word_in s.world n a) ≡ false → deposited s n a word ≡ s
nothing_changes s n a word none = ap (λ (w : World). record s { world = w }) (kept-of s.world n a word (job_at s.world.table.jobs n) refl none)
