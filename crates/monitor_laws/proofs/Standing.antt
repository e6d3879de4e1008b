-- What is known of a job at each time of a run, and that an event in which it does not run leaves that.
use Rattle.std.proofs.Common.{◌≡◌, ◌≢◌, ◌<◌, ◌∙◌, sym, ap, subst, ℕ, Bool, true, false, not, ◌&&◌, ◌==◌, nat_le, min, List, [], ◌++◌, length, take}
use Rattle.std.proofs.Common.{drop, Option, Some, None, Result, Ok, Err, is_some, is_none, inl, inr, refl, arith, append_assoc}
use Rattle.std.proofs.lemmas.Grind.{common_steps}
use Rattle.std.proofs.lemmas.Bool.{both_ways, cases_eq, eqb-true, eq-eqb}
use Rattle.std.proofs.lemmas.List.{get_or-set_other, get_or-set_same}
use Rattle.std.specs.List.{list_any}
use Rattle.std.specs.Option.{option_map}
use Rattle.word36.specs.declared.sizes.TheConstants.{LINES, INPUT_RING, TAKEN_AT_ONCE}
use Rattle.core_store.specs.Cores.{core_of, taken as taken_core}
use Rattle.lock_queue.specs.Jobs.{is_waiting_job, pending}
use Rattle.tty_lines.specs.Rings.{Rings, no_characters, input_of, output_of}
use Rattle.job_sched.specs.Ready.{next_job}
use Rattle.job_sched.specs.Tables.{job_at}
use Rattle.job_sched.specs.declared.job.Interrupts.{Interrupts}
use Rattle.job_sched.specs.declared.job.Job.{Job}
use Rattle.job_sched.specs.Jobs.{started_job}
use Rattle.uuo_calls.specs.Laws.{IsSpared}
use Rattle.uuo_calls.specs.Performed.{World, performed, performed_by}
use Rattle.uuo_calls.specs.Services.{service_of}
use Rattle.uuo_calls.specs.declared.call.MonitorCall.{MonitorCall}
use Rattle.uuo_calls.proofs.Frames.{others-spared}
use Rattle.machine.specs.declared.event.Event.{Event}
use Rattle.machine.specs.declared.event.Event.TheVariants.{Step, Tick, Typed, Take, Login, Start, Continue, Kill, Restart}
use Rattle.machine.specs.declared.sizes.TheConstants.{INTERRUPT_CHARACTER}
use Rattle.job_sched.specs.declared.job_error.JobError.{JobError}
use Rattle.machine.specs.Alone.{Solo, spares, is_ran, taken_by}
use Rattle.machine.specs.Images.{image_top, blocks_for}
use Rattle.job_sched.specs.Changes.{standing, with_change, ticked_table, chosen, free_number, is_at}
use Rattle.job_sched.specs.Jobs.{ticked_job, ticked_wait, broken_job, going_on}
use Rattle.job_sched.specs.Limits.{limit_of, limited_job}
use Rattle.job_sched.specs.declared.job.Wait.{Wait}
use Rattle.job_sched.specs.declared.job.Wait.TheVariants.{None as Nothing, Sleep, Char, Line, Room, Queue}
use Rattle.job_sched.proofs.Limits.{job-limited, limited-none}
use Rattle.machine.specs.Machine.{S, Made, limited, made_if, started, continued, with_turn, called, awake, ran, stepped, killed}
use Rattle.machine.specs.Machine.{happens, typed, broken, taken, admitted, examined, logged_in, with_image, after}
use Rattle.machine.specs.Safe.{Safe, Housed, line_of, LinesApart}
use Rattle.machine.specs.Turns.{Turn, turn_of, due}
use Rattle.monitor_laws.proofs.Housing.{at-ticked, at-mapped, there-below}
use Rattle.monitor_laws.proofs.Keeping.{kept-turned, apart-kept}
use Rattle.ka_cpu.proofs.ExecLaws.{by_test}
use Rattle.monitor_laws.proofs.OtherCores.{same-turned, jobs-chosen}
use Rattle.monitor_laws.proofs.Outputs.{output-other, input-same}
use Rattle.monitor_laws.proofs.Safety.{IsFree, free-number}

-- what is known of the job at each time of a run
pub record Stands (w : World) (n line : ℕ) (first taken : List ℕ) (x : Solo) : Type 0 where
  pub job : Job
  pub there : job_at w.table.jobs n ≡ Some job
  pub at : job.line ≡ line
  pub off : job.interrupts.on ≡ false
  pub endless : limit_of job.wait ≡ 0
  pub regs : job.regs ≡ x.regs
  pub core : core_of w.cores n ≡ x.core
  pub output : first ++ x.output ≡ taken ++ output_of w.lines line

-- what another's event leaves of it
pub record Same (v w : World) (n line : ℕ) : Type 0 where
  pub jobs : job_at w.table.jobs n ≡ job_at v.table.jobs n
  core : core_of w.cores n ≡ core_of v.cores n
  output : output_of w.lines line ≡ output_of v.lines line

stands-same : (v w : World) (n line : ℕ) (first taken : List ℕ) (x : Solo) → Same v w n line → Stands v n line first taken x → Stands w n line first taken x
stands-same v w n line first taken x e a = record {
  job = a.job;
  there = e.jobs ∙ a.there;
  at = a.at;
  off = a.off;
  endless = a.endless;
  regs = a.regs;
  core = e.core ∙ a.core;
  output = a.output ∙ ap (λ l. taken ++ l) (sym e.output);
}

same-world : (w : World) (n line : ℕ) → Same w w n line
same-world w n line = record { jobs = refl; core = refl; output = refl }

-- another job's line is another line
other-line : (w : World) (n m line : ℕ) → LinesApart w.table.jobs → line_of (job_at w.table.jobs n) ≡ Some line → n ≢ m
    → (j : Job) → job_at w.table.jobs m ≡ Some j → line ≢ j.line
other-line w n m line apart at ne j is same = ne (apart n m line at (ap line_of is ∙ ap Some (sym same)))

-- another job's step
same-performed : (w : World) (time m n line : ℕ) (c : MonitorCall) (o : Option Job) → job_at w.table.jobs m ≡ o → n ≢ m
    → ((j : Job) → o ≡ Some j → line ≢ j.line)
    → Same w (performed w time m c).world n line
same-performed w time m n line c None is ne other =
    subst (λ (o : Option Job). Same w (performed_by w time m o (service_of c.kind c.ac c.e) c.ac c.e).world n line) (sym is) (same-world w n line)
same-performed w time m n line c (Some j) is ne other =
    let spared : IsSpared w (performed w time m c).world m j.line = (others-spared w time m c j is).0 in
    record { jobs = spared.jobs n ne; core = spared.cores n ne; output = spared.output line (other j refl) }

same-called : (w : World) (time m n line : ℕ) (c : Option MonitorCall) → n ≢ m → ((j : Job) → job_at w.table.jobs m ≡ Some j → line ≢ j.line)
    → Same w (called w time m c) n line
same-called w time m n line None ne other = same-world w n line
same-called w time m n line (Some c) ne other = same-performed w time m n line c (job_at w.table.jobs m) refl ne other

same-ran : (w : World) (time m n line : ℕ) (o : Option Job) → job_at w.table.jobs m ≡ o → Housed w.table.jobs w.cores → LinesApart w.table.jobs
    → line_of (job_at w.table.jobs n) ≡ Some line → n ≢ m → Same w (ran w time m o) n line
same-ran w time m n line None is h apart at ne = same-world w n line
same-ran w time m n line (Some j) is h apart at ne =
    let t : Turn = turn_of m (awake j) w.cores w.requests in
    let turn = kept-turned w m j is (ap is_some is) h in
    let there : job_at (with_turn w m t).table.jobs n ≡ job_at w.table.jobs n = get_or-set_other w.table.jobs m n (Some t.job) None ne in
    let later = same-called (with_turn w m t) time m n line t.call ne
    (other-line (with_turn w m t) n m line (apart-kept w.table.jobs (with_turn w m t).table.jobs turn.lines apart) (ap line_of there ∙ at) ne) in
    record {
      jobs = later.jobs ∙ there;
      core = later.core ∙ same-turned m n (awake j) w.cores w.requests (due j.interrupts (pending w.requests m)) ne;
      output = later.output;
    }

pub same-stepped : (s : S) (o : Option ℕ) (n line : ℕ) → Safe s → line_of (job_at s.world.table.jobs n) ≡ Some line → is_ran n (stepped s o).answer ≡ false
    → Same s.world (stepped s o).state.world n line
same-stepped s None n line h at no_run = same-world s.world n line
same-stepped s (Some m) n line h at no_run =
    let ne : n ≢ m = λ e. both_ways (m == n) no_run (eq-eqb m n (sym e)) in
    let w : World = record s.world { table = chosen s.world.table m s.quantum } in
    let jobs = jobs-chosen s.world.table m s.quantum in
    let r = same-ran w s.time m n line (job_at s.world.table.jobs m) (ap (λ l. job_at l m) jobs) (subst (λ l. Housed l s.world.cores) (sym jobs) h.housed)
    (subst LinesApart (sym jobs) h.apart) (ap (λ l. line_of (job_at l n)) jobs ∙ at) ne in
    record { jobs = r.jobs ∙ ap (λ l. job_at l n) jobs; core = r.core; output = r.output }

-- events that are no step
pub append-none : (l : List ℕ) → l ++ [] ≡ l
append-none l = grind (arith, common_steps)

pub nothing-taken : (w : World) (n line : ℕ) (first taken : List ℕ) (x : Solo) → Stands w n line first taken x → Stands w n line first (taken ++ []) x
nothing-taken w n line first taken x a = subst (λ l. Stands w n line first l x) (sym (append-none taken)) a

-- a sleep becomes shorter, and a wait without a limit stays so
endless-ticked : (v : Wait) → limit_of (ticked_wait v) ≡ limit_of v
endless-ticked (Queue limit ac) = refl
endless-ticked Nothing = refl
endless-ticked (Sleep ticks) = refl
endless-ticked Char = refl
endless-ticked Line = refl
endless-ticked (Room places) = refl

kept-tick : (w : World) (n line : ℕ) (first taken : List ℕ) (x : Solo) → Stands w n line first taken x
    → Stands (limited (record w { table = ticked_table w.table })) n line first taken x
kept-tick w n line first taken x a =
    let waits : Bool = is_waiting_job w.requests n in
    let endless : limit_of (ticked_job a.job).wait ≡ 0 = endless-ticked a.job.wait ∙ a.endless in
    record {
      job = ticked_job a.job;
      there = job-limited (ticked_table w.table) w.requests n
          ∙ ap (option_map (limited_job waits)) (at-ticked w.table.jobs n ∙ ap (option_map ticked_job) a.there)
          ∙ ap Some (limited-none waits (ticked_job a.job) endless);
      at = a.at;
      off = a.off;
      endless = endless;
      regs = a.regs;
      core = a.core;
      output = a.output;
    }

-- CTRL-C
pub same-broken : (l : ℕ) (j : Job)
    → ((broken_job l j).line ≡ j.line) × ((broken_job l j).regs ≡ j.regs) × ((broken_job l j).interrupts ≡ j.interrupts) × ((broken_job l j).wait ≡ j.wait)
same-broken l j =
    by_test (λ (k : Job). (k.line ≡ j.line) × (k.regs ≡ j.regs) × (k.interrupts ≡ j.interrupts) × (k.wait ≡ j.wait)) ((j.line == l) && is_none j.stop) _ _
    (λ _. (refl, refl, refl, refl)) (λ _. (refl, refl, refl, refl))

kept-broken : (w : World) (l n line : ℕ) (first taken : List ℕ) (x : Solo) → Stands w n line first taken x → Stands (broken w l) n line first taken x
kept-broken w l n line first taken x a =
    let same = same-broken l a.job in
    record {
      job = broken_job l a.job;
      there = at-mapped (option_map (broken_job l)) w.table.jobs n refl ∙ ap (option_map (broken_job l)) a.there;
      at = same.0 ∙ a.at;
      off = ap (λ (i : Interrupts). i.on) same.2 ∙ a.off;
      endless = ap limit_of same.3 ∙ a.endless;
      regs = same.1 ∙ a.regs;
      core = a.core;
      output = a.output;
    }

-- characters alone
kept-lines : (w : World) (lines : List Rings) (n line : ℕ) (first taken : List ℕ) (x : Solo) → output_of lines line ≡ output_of w.lines line
    → Stands w n line first taken x → Stands (record w { lines = lines }) n line first taken x
kept-lines w lines n line first taken x same a = record {
  job = a.job;
  there = a.there;
  at = a.at;
  off = a.off;
  endless = a.endless;
  regs = a.regs;
  core = a.core;
  output = a.output ∙ ap (λ l. taken ++ l) (sym same);
}

kept-typed : (s : S) (l c n line : ℕ) (first taken : List ℕ) (x : Solo) → line < length s.world.lines → Stands s.world n line first taken x
    → Stands (typed s l c).state.world n line first taken x
kept-typed s l c n line first taken x within a =
    by_test (λ (m : Made). Stands m.state.world n line first taken x) (nat_le LINES l) _ _ (λ _. a)
    (λ _. by_test (λ (m : Made). Stands m.state.world n line first taken x) (c == INTERRUPT_CHARACTER) _ _ (λ _. kept-broken s.world l n line first taken x a)
    (λ _. by_test (λ (m : Made). Stands m.state.world n line first taken x) (nat_le INPUT_RING (length (input_of s.world.lines l))) _ _ (λ _. a)
    (λ _. kept-lines s.world _ n line first taken x (input-same s.world.lines line l _ within) a)))

-- what is taken goes over from the ring
over : (first output taken ring part rest now : List ℕ) → first ++ output ≡ taken ++ ring → part ++ rest ≡ ring → now ≡ rest
    → first ++ output ≡ (taken ++ part) ++ now
over first output taken ring part rest now all parts is = rw is (all ∙ ap (λ l. taken ++ l) (sym parts) ∙ sym (append_assoc taken part rest))

take-drop : (k : ℕ) (l : List ℕ) → take k l ++ drop k l ≡ l
take-drop k l = grind (arith, common_steps)

abbrev TakenFrom : ℕ → ℕ → ℕ → ℕ → List ℕ → List ℕ → Solo → Made → Type 0
TakenFrom l k n line first taken x m = Stands m.state.world n line first (taken ++ taken_by line (Take l k) m.answer) x

kept-here : (s : S) (k n line : ℕ) (first taken_before : List ℕ) (x : Solo) → line < length s.world.lines → Stands s.world n line first taken_before x
    → TakenFrom line k n line first taken_before x (taken s line k)
kept-here s k n line first taken_before x within a =
    let here : (line == line) ≡ true = eq-eqb line line refl in
    by_test (TakenFrom line k n line first taken_before x) (nat_le LINES line) _ _
    (λ _. rw here (nothing-taken s.world n line first taken_before x a))
    (λ _. rw here (record {
      job = a.job;
      there = a.there;
      at = a.at;
      off = a.off;
      endless = a.endless;
      regs = a.regs;
      core = a.core;
      output =
          over first x.output taken_before (output_of s.world.lines line)
          (take (min k TAKEN_AT_ONCE) (output_of s.world.lines line)) (drop (min k TAKEN_AT_ONCE) (output_of s.world.lines line))
          _
          a.output (take-drop (min k TAKEN_AT_ONCE) (output_of s.world.lines line))
          (ap (λ (r : Rings). r.output) (get_or-set_same s.world.lines line _ no_characters within));
    }))

kept-elsewhere : (s : S) (l k n line : ℕ) (first taken_before : List ℕ) (x : Solo) → line ≢ l → Stands s.world n line first taken_before x
    → TakenFrom l k n line first taken_before x (taken s l k)
kept-elsewhere s l k n line first taken_before x ne a =
    let there : (l == line) ≡ false = grind (arith, common_steps, eqb-true l line) in
    by_test (TakenFrom l k n line first taken_before x) (nat_le LINES l) _ _
    (λ _. rw there (nothing-taken s.world n line first taken_before x a))
    (λ _. rw there (nothing-taken _ n line first taken_before x (kept-lines s.world _ n line first taken_before x (output-other s.world.lines line l _ ne) a)))

kept-taken : (s : S) (l k n line : ℕ) (first taken_before : List ℕ) (x : Solo) → line < length s.world.lines → Stands s.world n line first taken_before x
    → TakenFrom l k n line first taken_before x (taken s l k)
kept-taken s l k n line first taken_before x within a = elim (cases_eq line l) [
  | inl is ↦ subst (λ m. TakenFrom m k n line first taken_before x (taken s m k)) is (kept-here s k n line first taken_before x within a)
  | inr ne ↦ kept-elsewhere s l k n line first taken_before x ne a
]

-- another job begins
none-some : (j : Job) → None ≡ Some j → ⊥
none-some j e = cc

kept-admitted : (s : S) (l : ℕ) (ws : List (ℕ × ℕ)) (start blocks : ℕ) (o : Option ℕ) (n line : ℕ) (first taken : List ℕ) (x : Solo)
    → ((m : ℕ) → o ≡ Some m → IsFree s.world.table.jobs m) → Stands s.world n line first taken x
    → Stands (admitted s l ws start blocks o).state.world n line first taken x
kept-admitted s l ws start blocks None n line first taken x free a = a
kept-admitted s l ws start blocks (Some m) n line first taken x free a =
    let ne : n ≢ m = λ is. none-some a.job (sym (free m refl).none ∙ sym (ap (λ k. job_at s.world.table.jobs k) is) ∙ a.there) in
    by_test (λ (r : Made). Stands r.state.world n line first taken x) (nat_le blocks s.world.cores.free) _ _
    (λ _. stands-same s.world (with_image s.world m l ws start blocks) n line first taken x (record {
      jobs = get_or-set_other s.world.table.jobs m n _ None ne;
      core = get_or-set_other (taken_core s.world.cores m blocks).cores m n _ [] ne ∙ get_or-set_other s.world.cores.cores m n _ [] ne;
      output = refl;
    }) a)
    (λ _. a)

kept-examined : (s : S) (l : ℕ) (ws : List (ℕ × ℕ)) (start : ℕ) (o : Option ℕ) (n line : ℕ) (first taken : List ℕ) (x : Solo)
    → Stands s.world n line first taken x → Stands (examined s l ws start o).state.world n line first taken x
kept-examined s l ws start None n line first taken x a = a
kept-examined s l ws start (Some top) n line first taken x a =
    kept-admitted s l ws start (blocks_for top) (free_number s.world.table.jobs) n line first taken x (free-number s.world.table.jobs) a

kept-login : (s : S) (l : ℕ) (ws : List (ℕ × ℕ)) (start n line : ℕ) (first taken : List ℕ) (x : Solo)
    → Stands s.world n line first taken x → Stands (logged_in s l ws start).state.world n line first taken x
kept-login s l ws start n line first taken x a =
    by_test (λ (m : Made). Stands m.state.world n line first taken x) (nat_le LINES l) _ _ (λ _. a)
    (λ _. by_test (λ (m : Made). Stands m.state.world n line first taken x) (list_any (is_at l) s.world.table.jobs) _ _ (λ _. a)
    (λ _. kept-examined s l ws start (image_top ws start) n line first taken x a))

-- a job starts or goes on
kept-made_if : (s : S) (w : World) (r : Result (Unit {0}) JobError) (n line : ℕ) (first taken : List ℕ) (x : Solo) → Stands s.world n line first taken x
    → Stands w n line first taken x → Stands (made_if s w r).state.world n line first taken x
kept-made_if s w (Ok y) n line first taken x before after = after
kept-made_if s w (Err e) n line first taken x before after = before

kept-started : (s : S) (m n line : ℕ) (first taken : List ℕ) (x : Solo) → n ≢ m → Stands s.world n line first taken x
    → Stands (started s m).state.world n line first taken x
kept-started s m n line first taken x ne a =
    kept-made_if s _ (standing (job_at s.world.table.jobs m)) n line first taken x a
    (stands-same s.world _ n line first taken x (record {
      jobs = get_or-set_other s.world.table.jobs m n (option_map started_job (job_at s.world.table.jobs m)) None ne;
      core = refl;
      output = refl;
    }) a)

-- a job that goes on is as it was but for its stop
kept-going_on : (w : World) (m n line : ℕ) (first taken : List ℕ) (x : Solo) → Stands w n line first taken x
    → Stands (record w { table = with_change w.table m going_on }) n line first taken x
kept-going_on w m n line first taken x a = elim (cases_eq n m) [
  | inl same ↦ subst (λ k. Stands (record w { table = with_change w.table k going_on }) n line first taken x) same (record {
    job = going_on a.job;
    there =
        get_or-set_same w.table.jobs n (option_map going_on (job_at w.table.jobs n)) None
        (there-below w.table.jobs n (ap is_some a.there)) ∙ ap (option_map going_on) a.there;
    at = a.at;
    off = a.off;
    endless = a.endless;
    regs = a.regs;
    core = a.core;
    output = a.output;
  })
  | inr other ↦
      stands-same w _ n line first taken x (record {
        jobs = get_or-set_other w.table.jobs m n (option_map going_on (job_at w.table.jobs m)) None other;
        core = refl;
        output = refl;
      }) a
]

kept-continued : (s : S) (m n line : ℕ) (first taken : List ℕ) (x : Solo) → Stands s.world n line first taken x
    → Stands (continued s m).state.world n line first taken x
kept-continued s m n line first taken x a =
    kept-made_if s _ (standing (job_at s.world.table.jobs m)) n line first taken x a (kept-going_on s.world m n line first taken x a)

-- another job is gone
same-killed : (s : S) (m n line : ℕ) (o : Option Job) → n ≢ m → Same s.world (killed s m o).state.world n line
same-killed s m n line None ne = same-world s.world n line
same-killed s m n line (Some j) ne = record {
  jobs = get_or-set_other s.world.table.jobs m n None None ne;
  core = get_or-set_other s.world.cores.cores m n [] [] ne;
  output = refl;
}

pub other-number : (m n : ℕ) → not (m == n) ≡ true → n ≢ m
other-number m n h e = both_ways (not (m == n)) (ap not (eq-eqb m n (sym e))) h

-- the job's line is there
pub within-rings : (s : S) (n line : ℕ) → Safe s → line_of (job_at s.world.table.jobs n) ≡ Some line → line < length s.world.lines
within-rings s n line h at = subst (λ k. line < k) (sym h.rings) (h.numbers n line at)

-- an event in which the job does not run
pub kept : (s : S) (e : Event) (n line : ℕ) (first taken : List ℕ) (x : Solo) → Safe s → Stands s.world n line first taken x → spares n e ≡ true
    → is_ran n (happens s e).answer ≡ false
    → Stands (happens s e).state.world n line first (taken ++ taken_by line e (happens s e).answer) x
kept s Step n line first taken x h a spared no_run =
    nothing-taken _ n line first taken x (stands-same s.world _ n line first taken x
    (same-stepped s (next_job s.world.table s.world.lines s.world.requests) n line h (ap line_of a.there ∙ ap Some a.at) no_run) a)
kept s Tick n line first taken x h a spared no_run = nothing-taken _ n line first taken x (kept-tick s.world n line first taken x a)
kept s (Typed l c) n line first taken x h a spared no_run =
    nothing-taken _ n line first taken x (kept-typed s l c n line first taken x (within-rings s n line h (ap line_of a.there ∙ ap Some a.at)) a)
kept s (Take l k) n line first taken x h a spared no_run = kept-taken s l k n line first taken x (within-rings s n line h (ap line_of a.there ∙ ap Some a.at)) a
kept s (Login l image) n line first taken x h a spared no_run =
    nothing-taken _ n line first taken x (kept-login s l image.now.words.items image.now.start n line first taken x a)
kept s (Start m) n line first taken x h a spared no_run =
    nothing-taken _ n line first taken x (kept-started s m n line first taken x (other-number m n spared) a)
kept s (Continue m) n line first taken x h a spared no_run =
    nothing-taken _ n line first taken x (kept-continued s m n line first taken x a)
kept s (Kill m) n line first taken x h a spared no_run =
    nothing-taken _ n line first taken x
    (stands-same s.world _ n line first taken x
    (same-killed s m n line (job_at s.world.table.jobs m) (other-number m n spared)) a)
kept s Restart n line first taken x h a spared no_run = cc
