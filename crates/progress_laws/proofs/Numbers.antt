-- A job's number is at most the number of lines.
use Rattle.std.proofs.Common.{◌≡◌, ◌≢◌, ◌≤◌, ◌<◌, ◌∙◌, sym, ap, ℕ, zero, suc, ◌+◌, ◌==◌, nat_le, Bool, true, false, cond, min, List}
use Rattle.std.proofs.Common.{[], ◌∷◌, Option, Some, None, is_some, slice_set, ◌⊎◌, refl, arith, inl, inr}
use Rattle.std.specs.List.{list_any}
use Rattle.std.proofs.lemmas.Grind.{common_steps}
use Rattle.std.proofs.lemmas.Bool.{cases_eq, cases_lt, both_ways, eqb-true, eq-eqb, le-leb, leb-false, or_parts}
use Rattle.std.proofs.lemmas.List.{get_or-set_other}
use Rattle.word36.specs.declared.sizes.TheConstants.{JOBS, LINES}
use Rattle.ka_cpu.proofs.ExecLaws.{by_test}
use Rattle.job_sched.specs.Changes.{free_number, first_free, is_at}
use Rattle.job_sched.specs.Tables.{job_at}
use Rattle.job_sched.specs.declared.job.Job.{Job}
use Rattle.machine.specs.declared.event.Event.{Event}
use Rattle.machine.specs.declared.event.Event.TheVariants.{Step, Tick, Typed, Take, Login, Start, Continue, Kill, Restart}
use Rattle.machine.specs.Along.{Always}
use Rattle.machine.specs.Images.{image_top, blocks_for}
use Rattle.machine.specs.Machine.{S, Made, admitted, at_boot, examined, happens, logged_in}
use Rattle.machine.specs.Safe.{Safe, LinesApart, LinesBelow, line_of}
use Rattle.monitor_laws.proofs.Safety.{safe-happens}
use Rattle.progress_laws.specs.Rounds.{HasJobs, KeepsTime, RunsInTimeAmongLines, has_low_number}
use Rattle.progress_laws.specs.Turns.{passing_from, how_many}
use Rattle.progress_laws.proofs.Places.{false-of}
use Rattle.progress_laws.proofs.Running.{has-next, nobody-there, runs_in_time}

-- what sends one place to the top is sent where the top was
abbrev moved : ℕ → (ℕ → ℕ) → ℕ → ℕ
moved m g i = cond (g i == m) (g (suc m)) (g i)

moved-top : (m : ℕ) (g : ℕ → ℕ) (i : ℕ) → g i ≡ m → moved m g i ≡ g (suc m)
moved-top m g i e = ap (λ (b : Bool). cond b (g (suc m)) (g i)) (eq-eqb (g i) m e)

moved-other : (m : ℕ) (g : ℕ → ℕ) (i : ℕ) → g i ≢ m → moved m g i ≡ g i
moved-other m g i ne = ap (λ (b : Bool). cond b (g (suc m)) (g i)) (false-of (g i == m) (λ e. ne (eqb-true (g i) m e)))

abbrev Low : ℕ → (ℕ → ℕ) → Type 0
Low m g = (i : ℕ) → i ≤ m → g i < m

abbrev Apart : ℕ → (ℕ → ℕ) → Type 0
Apart m g = (i j : ℕ) → i ≤ m → j ≤ m → g i ≡ g j → i ≡ j

moved-low : (m : ℕ) (g : ℕ → ℕ) → Low (suc m) g → Apart (suc m) g → Low m (moved m g)
moved-low m g low apart i few = elim (cases_eq (g i) m) [
  | inl e ↦
      let last = low (suc m) (omega arith) in
      let ne : g (suc m) ≢ m = λ f. let same : i ≡ suc m = apart i (suc m) (omega (arith, few)) (omega arith) (e ∙ sym f) in
      absurd (omega (arith, same, few)) in
      rw (moved-top m g i e) (omega (arith, last, ne))
  | inr ne ↦ let here = low i (omega (arith, few)) in rw (moved-other m g i ne) (omega (arith, here, ne))
]

moved-apart : (m : ℕ) (g : ℕ → ℕ) → Apart (suc m) g → Apart m (moved m g)
moved-apart m g apart i j few less e = elim (cases_eq (g i) m) [
  | inl top ↦ elim (cases_eq (g j) m) [
    | inl also ↦ apart i j (omega (arith, few)) (omega (arith, less)) (top ∙ sym also)
    | inr ne ↦
        let f : g (suc m) ≡ g j = sym (moved-top m g i top) ∙ e ∙ moved-other m g j ne in
        let same : suc m ≡ j = apart (suc m) j (omega arith) (omega (arith, less)) f in absurd (omega (arith, same, less))
  ]
  | inr ne ↦ elim (cases_eq (g j) m) [
    | inl top ↦
        let f : g i ≡ g (suc m) = sym (moved-other m g i ne) ∙ e ∙ moved-top m g j top in
        let same : i ≡ suc m = apart i (suc m) (omega (arith, few)) (omega arith) f in absurd (omega (arith, same, few))
    | inr also ↦ apart i j (omega (arith, few)) (omega (arith, less)) (sym (moved-other m g i ne) ∙ e ∙ moved-other m g j also)
  ]
]

-- so many things and one more do not go into so many places
pigeon : (m : ℕ) (g : ℕ → ℕ) → Low m g → Apart m g → ⊥
pigeon zero g low apart = let h = low 0 (omega arith) in omega (arith, h)
pigeon (suc m) g low apart = pigeon m (moved m g) (moved-low m g low apart) (moved-apart m g apart)

-- below the least free number there is a job at each
taken-first : (k n : ℕ) (jobs : List (Option Job)) → first_free k jobs ≡ Some n → (i : ℕ) → k + i < n → is_some (job_at jobs i) ≡ true
taken-first k n [] e i low = absurd (cc)
taken-first k n (None ∷ jobs) e i low = let same : k ≡ n = cc in absurd (omega (arith, same, low))
taken-first k n (Some j ∷ jobs) e zero low = refl
taken-first k n (Some j ∷ jobs) e (suc i) low = taken-first (k + 1) n jobs e i (omega (arith, low))

taken-below : (jobs : List (Option Job)) (n : ℕ) → free_number jobs ≡ Some n → (i : ℕ) → i + 1 < n → is_some (job_at jobs (suc i)) ≡ true
taken-below [] n e i low = absurd (cc)
taken-below (x ∷ jobs) n e i low = taken-first 1 n jobs e i (omega (arith, low))

-- a line that no job has
line-free : (jobs : List (Option Job)) (line k : ℕ) → list_any (is_at line) jobs ≡ false → line_of (job_at jobs k) ≡ Some line → ⊥
line-free [] line k none e = cc
line-free (x ∷ jobs) line zero none e = grind (arith, common_steps)
line-free (x ∷ jobs) line (suc k) none e = line-free jobs line k (or_parts (is_at line x) (list_any (is_at line) jobs) none).1 e

-- the lines of the jobs below a number, and one that is free
abbrev line_in : Option Job → ℕ
line_in (Some j) = j.line
line_in None = 0

line-is : (o : Option Job) → is_some o ≡ true → line_of o ≡ Some (line_in o)
line-is (Some j) h = refl
line-is None h = absurd (both_ways false refl h)

abbrev line_at : List (Option Job) → ℕ → ℕ → ℕ
line_at jobs line i = cond (i == LINES) line (line_in (job_at jobs (suc i)))

line-last : (jobs : List (Option Job)) (line i : ℕ) → i ≡ LINES → line_at jobs line i ≡ line
line-last jobs line i e = ap (λ (b : Bool). cond b line (line_in (job_at jobs (suc i)))) (eq-eqb i LINES e)

line-other : (jobs : List (Option Job)) (line i : ℕ) → i ≢ LINES → line_at jobs line i ≡ line_in (job_at jobs (suc i))
line-other jobs line i ne = ap (λ (b : Bool). cond b line (line_in (job_at jobs (suc i)))) (false-of (i == LINES) (λ e. ne (eqb-true i LINES e)))

free-low : (jobs : List (Option Job)) (line n : ℕ) → LinesApart jobs → LinesBelow jobs → line < LINES → list_any (is_at line) jobs ≡ false
    → free_number jobs ≡ Some n → n ≤ LINES
free-low jobs line n apart below low none is = elim (cases_lt LINES n) [
  | inr fits ↦ fits
  | inl high ↦ absurd (pigeon LINES (line_at jobs line) (lows high) (aparts high))
]
  where
    there : LINES < n → (i : ℕ) → i < LINES → line_of (job_at jobs (suc i)) ≡ Some (line_in (job_at jobs (suc i)))
    there high i few = line-is (job_at jobs (suc i)) (taken-below jobs n is i (omega (arith, high, few)))

    lows : LINES < n → Low LINES (line_at jobs line)
    lows high i few = elim (cases_eq i LINES) [
      | inl e ↦ rw (line-last jobs line i e) low
      | inr ne ↦ rw (line-other jobs line i ne) (below (suc i) (line_in (job_at jobs (suc i))) (there high i (omega (arith, few, ne))))
    ]

    aparts : LINES < n → Apart LINES (line_at jobs line)
    aparts high i j few less e = elim (cases_eq i LINES) [
      | inl top ↦ elim (cases_eq j LINES) [
        | inl also ↦ top ∙ sym also
        | inr ne ↦
            let f : line_in (job_at jobs (suc j)) ≡ line = sym (line-other jobs line j ne) ∙ sym e ∙ line-last jobs line i top in
            absurd (line-free jobs line (suc j) none (there high j (omega (arith, less, ne)) ∙ ap Some f))
      ]
      | inr ne ↦ elim (cases_eq j LINES) [
        | inl top ↦
            let f : line_in (job_at jobs (suc i)) ≡ line = sym (line-other jobs line i ne) ∙ e ∙ line-last jobs line j top in
            absurd (line-free jobs line (suc i) none (there high i (omega (arith, few, ne)) ∙ ap Some f))
        | inr also ↦
            let f : line_in (job_at jobs (suc i)) ≡ line_in (job_at jobs (suc j)) = sym (line-other jobs line i ne) ∙ e ∙ line-other jobs line j also in
            let same : suc i ≡ suc j =
            apart (suc i) (suc j) (line_in (job_at jobs (suc j))) (there high i (omega (arith, few, ne)) ∙ ap Some f)
            (there high j (omega (arith, less, also))) in
            omega (arith, same)
      ]
    ]

-- a login
set-there : (jobs : List (Option Job)) (n k : ℕ) (o : Option Job) → is_some (job_at (slice_set jobs n o) k) ≡ true → (k ≡ n) ⊎ (is_some (job_at jobs k) ≡ true)
set-there jobs n k o h = elim (cases_eq k n) [
  | inl same ↦ inl same
  | inr other ↦ inr (ap is_some (sym (get_or-set_other jobs n k o None other)) ∙ h)
]

abbrev LowState : S → Type 0
LowState s = HasJobs has_low_number s

low-come : (jobs : List (Option Job)) (n : ℕ) (o : Option Job) → n ≤ LINES → ((k : ℕ) → is_some (job_at jobs k) ≡ true → has_low_number k ≡ true)
    → (k : ℕ) → is_some (job_at (slice_set jobs n o) k) ≡ true → has_low_number k ≡ true
low-come jobs n o low has k there = elim (set-there jobs n k o there) [
  | inl same ↦ le-leb k LINES (omega (arith, same, low))
  | inr old ↦ has k old
]

low-admitted : (s : S) (line : ℕ) (words : List (ℕ × ℕ)) (start blocks : ℕ) (o : Option ℕ) → ((n : ℕ) → o ≡ Some n → n ≤ LINES) → LowState s
    → LowState (admitted s line words start blocks o).state
low-admitted s line words start blocks None low has = has
low-admitted s line words start blocks (Some n) low has =
    by_test (λ (m : Made). LowState m.state) (nat_le blocks s.world.cores.free) _ _ (λ _. low-come s.world.table.jobs n _ (low n refl) has) (λ _. has)

low-examined : (s : S) (line : ℕ) (words : List (ℕ × ℕ)) (start : ℕ) (o : Option ℕ)
    → ((n : ℕ) → free_number s.world.table.jobs ≡ Some n → n ≤ LINES)
    → LowState s
    → LowState (examined s line words start o).state
low-examined s line words start None low has = has
low-examined s line words start (Some top) low has = low-admitted s line words start (blocks_for top) (free_number s.world.table.jobs) low has

low-logged_in : (s : S) (line : ℕ) (words : List (ℕ × ℕ)) (start : ℕ) → Safe s → LowState s → LowState (logged_in s line words start).state
low-logged_in s line words start safe has =
    by_test (λ (m : Made). LowState m.state) (nat_le LINES line) _ _ (λ _. has)
    (λ fits. by_test (λ (m : Made). LowState m.state) (list_any (is_at line) s.world.table.jobs) _ _ (λ _. has)
    (λ none. low-examined s line words start (image_top words start)
    (λ n is. free-low s.world.table.jobs line n safe.apart safe.numbers (leb-false LINES line fits) none is) has))

pub low_at_boot : (size blocks quantum : ℕ) → LowState (at_boot size blocks quantum)
low_at_boot size blocks quantum n there = absurd (both_ways _ (nobody-there (JOBS + 1) n) there)

pub low_is_kept : (s : S) (e : Event) → Safe s → LowState s → LowState (happens s e).state
low_is_kept s Step safe has = has-next has_low_number s Step refl has
low_is_kept s Tick safe has = has-next has_low_number s Tick refl has
low_is_kept s (Typed line c) safe has = has-next has_low_number s (Typed line c) refl has
low_is_kept s (Take line n) safe has = has-next has_low_number s (Take line n) refl has
low_is_kept s (Login line image) safe has = low-logged_in s line image.now.words.items image.now.start safe has
low_is_kept s (Start n) safe has = has-next has_low_number s (Start n) refl has
low_is_kept s (Continue n) safe has = has-next has_low_number s (Continue n) refl has
low_is_kept s (Kill n) safe has = has-next has_low_number s (Kill n) refl has
low_is_kept s Restart safe has = has-next has_low_number s Restart refl has

low-always : (s : S) (es : List Event) → Safe s → LowState s → Always LowState s es
low-always s [] safe has zero = has
low-always s [] safe has (suc k) = has
low-always s (e ∷ es) safe has zero = has
low-always s (e ∷ es) safe has (suc k) = low-always (happens s e).state es (safe-happens s e safe) (low_is_kept s e safe has) k

all-low : how_many has_low_number ≡ min JOBS LINES
unfolding passing_from
all-low = refl

pub runs_in_time_among_lines : (s : S) (es : List Event) → Safe s → KeepsTime s → LowState s → RunsInTimeAmongLines s es
runs_in_time_among_lines s es safe time low n may many =
    runs_in_time s es safe time n has_low_number may (low-always s es safe low) (rw all-low many)
