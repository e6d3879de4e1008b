-- What a turn leaves where more stands in the output of the lines: the same, or its job waits for room and nothing else has changed.
use Rattle.std.proofs.Common.{◌≡◌, ◌≤◌, ◌<◌, ◌∙◌, sym, ap, subst, ℕ, ◌+◌, ◌%◌, ◌^◌, nat_le, false, List, [], length, Option, Some, None, ◌⊎◌, inl, inr, refl, arith}
use Rattle.std.proofs.lemmas.List.{get_or-set_same, length-set, set-get_or, set-set}
use Rattle.word36.specs.declared.sizes.TheConstants.{OUTPUT_RING}
use Rattle.ka_cpu.specs.Effects.{After, EndsAs}
use Rattle.ka_state.specs.Registers.{next_pc}
use Rattle.ka_cpu.specs.Exec.{exec}
use Rattle.ka_state.specs.Memory.{are_legal}
use Rattle.ka_state.specs.declared.outcome.Outcome.{Outcome}
use Rattle.ka_state.specs.declared.outcome.Outcome.TheVariants as outcome
use Rattle.ka_state.specs.declared.outcome.StopReason.TheVariants.{IllegalAddress}
use Rattle.ka_state.specs.declared.registers.Regs.{Regs}
use Rattle.ka_cpu.proofs.ExecLaws.{ends-exec}
use Rattle.core_store.specs.Cores.{Cores, core_of, with_core}
use Rattle.lock_queue.specs.Jobs.{pending}
use Rattle.lock_queue.specs.declared.request.Request.{Request}
use Rattle.tty_lines.specs.Rings.{Rings, room_of}
use Rattle.job_sched.specs.Changes.{with_job}
use Rattle.job_sched.specs.Tables.{job_at}
use Rattle.job_sched.specs.declared.job.Job.{Job}
use Rattle.job_sched.specs.declared.job.Wait.TheVariants.{Room}
use Rattle.uuo_calls.specs.CallState.{CallState, put_back, stopped, waiting}
use Rattle.uuo_calls.specs.Laws.{service_in}
use Rattle.uuo_calls.specs.Performed.{Performed, World, around, left_by, performed, row_of, with_around}
use Rattle.uuo_calls.specs.declared.call.CallOutcome.{CallOutcome}
use Rattle.uuo_calls.specs.declared.call.CallOutcome.TheVariants as ending
use Rattle.uuo_calls.specs.declared.call.MonitorCall.{MonitorCall}
use Rattle.uuo_calls.proofs.Rows.{performs}
use Rattle.uuo_calls.proofs.Tests.{by_test}
use Rattle.machine.specs.Machine.{after_turn, awake, called, ran, with_turn}
use Rattle.machine.specs.Turns.{Turn, concluded, done, due, interrupted_at, notified_at, turned}
use Rattle.job_order_laws.specs.Events.{lifted_stop}
use Rattle.job_order_laws.specs.Places.{turn}
use Rattle.job_order_laws.proofs.LineRows.{Fine, Given, KeptLines, lines-kept, row-lines}

-- the world with other lines
abbrev pub with_lines : List Rings → World → World
with_lines lines w = record w { lines = lines }

-- a job that is there, if one is, is fine
abbrev pub FineSlot : ℕ → Option Job → Type 0
FineSlot line (Some j) = Fine line j
FineSlot line None = Unit {0}

-- a turn with these lines does what it did
pub record SameTurn (line : ℕ) (full : List Rings) (w x y : World) (n : ℕ) : Type 0 where
  pub lines : List Rings
  pub is : y ≡ with_lines lines x
  pub kept : KeptLines line w.lines full x.lines lines
  pub fine : FineSlot line (job_at x.table.jobs n)

-- or its job waits for room
pub record FullTurn (full : List Rings) (w y : World) (n : ℕ) (j : Job) : Type 0 where
  pub places : ℕ
  pub is : y ≡ with_lines full (record w { table = with_job w.table n (Some (record j { wait = Room places })) })
  pub few : places ≤ OUTPUT_RING
  pub none : nat_le places (room_of full j.line) ≡ false

-- a turn up to its call
fine-concluded : (line : ℕ) (j : Job) (cores : Cores) (rs : List Request) (o : Outcome) → Fine line j → Fine line (concluded j cores rs o).job
fine-concluded line j cores rs outcome.Done h = h
fine-concluded line j cores rs (outcome.Stop reason) h = (refl, h.1, h.2)
fine-concluded line j cores rs (outcome.Call kind ac e) h = h

fine-turned : (line n : ℕ) (j : Job) (cores : Cores) (rs : List Request) (o : Option (ℕ × ℕ)) → Fine line j → Fine line (turned n j cores rs o).job
fine-turned line n j cores rs None h = fine-concluded line _ _ rs (exec j.regs (core_of cores n)).outcome h
fine-turned line n j cores rs (Some x) h =
    by_test (λ (t : Turn). Fine line t.job) (are_legal (core_of cores n) x.0 4)
    (notified_at n cores rs (interrupted_at j (core_of cores n) x.0 x.1)) (done (stopped j IllegalAddress) cores rs)
    (λ _. h) (λ _. (refl, h.1, h.2))

-- a turn that makes a call has only moved the PC, which can be put back
record Called (t : Turn) (j : Job) (cores : Cores) (rs : List Request) : Type 0 where
  job : put_back t.job ≡ j
  cores_are : t.cores ≡ cores
  requests : t.requests ≡ rs

back : (pc : ℕ) → pc < 2 ^ 18 → ((pc + 1) % 2 ^ 18 + 0o777777) % 2 ^ 18 ≡ pc
back pc low = omega arith

put-again : (j : Job) (g : Regs) → j.regs.pc < 2 ^ 18 → g ≡ record j.regs { pc = next_pc j.regs } → put_back (record j { regs = g }) ≡ j
put-again j g low is =
    ap (λ (r : Regs). put_back (record j { regs = r })) is ∙ ap (λ pc. record j { regs = record j.regs { pc = pc } }) (back j.regs.pc low)

call-concluded : (n : ℕ) (j : Job) (g : Regs) (core : List ℕ) (cores : Cores) (rs : List Request) (o : Outcome) (c : MonitorCall) → j.regs.pc < 2 ^ 18
    → EndsAs o j.regs (core_of cores n) g core → (concluded (record j { regs = g }) (with_core cores n core) rs o).call ≡ Some c
    → Called (concluded (record j { regs = g }) (with_core cores n core) rs o) j cores rs
call-concluded n j g core cores rs outcome.Done c low ends is = cc
call-concluded n j g core cores rs (outcome.Stop reason) c low ends is = cc
call-concluded n j g core cores rs (outcome.Call kind ac e) c low ends is = record {
  job = put-again j g low ends.2;
  cores_are = ap (λ l. with_core cores n l) ends.3 ∙ ap (λ l. record cores { cores = l }) (set-get_or cores.cores n []);
  requests = refl;
}

call-turned : (n : ℕ) (j : Job) (cores : Cores) (rs : List Request) (o : Option (ℕ × ℕ)) (c : MonitorCall) → j.regs.pc < 2 ^ 18
    → (turned n j cores rs o).call ≡ Some c → Called (turned n j cores rs o) j cores rs
call-turned n j cores rs None c low is =
    let r : After = exec j.regs (core_of cores n) in
    call-concluded n j r.regs r.core cores rs r.outcome c low (ends-exec j.regs (core_of cores n)) is
call-turned n j cores rs (Some x) c low is =
    by_test (λ (t : Turn). t.call ≡ Some c → Called t j cores rs) (are_legal (core_of cores n) x.0 4)
    (notified_at n cores rs (interrupted_at j (core_of cores n) x.0 x.1)) (done (stopped j IllegalAddress) cores rs)
    (λ _ none. cc) (λ _ none. cc) is

-- what a call leaves
left-lines : (e : CallOutcome) (w : World) (n : ℕ) (lines : List Rings) → left_by e (with_lines lines w) n ≡ with_lines lines (left_by e w n)
left-lines ending.Done w n lines = refl
left-lines ending.Empty w n lines = refl
left-lines ending.Gone w n lines = refl

left-same : (e : CallOutcome) (w : World) (n : ℕ) → (left_by e w n).lines ≡ w.lines
left-same ending.Done w n = refl
left-same ending.Empty w n = refl
left-same ending.Gone w n = refl

left-fine : (e : CallOutcome) (w : World) (n line : ℕ) (j : Job) → n < length w.table.jobs → job_at w.table.jobs n ≡ Some j → Fine line j
    → FineSlot line (job_at (left_by e w n).table.jobs n)
left-fine ending.Done w n line j low at h = subst (λ o. FineSlot line o) (sym at) h
left-fine ending.Empty w n line j low at h = subst (λ o. FineSlot line o) (sym at) h
left-fine ending.Gone w n line j low at h = subst (λ o. FineSlot line o) (sym (get_or-set_same w.table.jobs n None None low)) tt

-- a turn
pub turn-lines : (w : World) (time n : ℕ) (j : Job) (full : List Rings) → job_at w.table.jobs n ≡ Some j → n < length w.table.jobs → j.regs.pc < 2 ^ 18
    → lifted_stop j.stop ≡ j.stop → Given j.line w.lines full
    → SameTurn j.line full w (turn w time n) (turn (with_lines full w) time n) n ⊎ FullTurn full w (turn (with_lines full w) time n) n j
turn-lines w time n j full at low small calm g =
    let t : Turn = turned n (awake j) w.cores w.requests (due j.interrupts (pending w.requests n)) in
    let p : turn w time n ≡ after_turn w time n t = ap (λ o. ran w time n o) at in
    let q : turn (with_lines full w) time n ≡ after_turn (with_lines full w) time n t = ap (λ o. ran (with_lines full w) time n o) at in
    subst (λ x. SameTurn j.line full w x (turn (with_lines full w) time n) n ⊎ FullTurn full w (turn (with_lines full w) time n) n j) (sym p)
    (subst (λ y. SameTurn j.line full w (after_turn w time n t) y n ⊎ FullTurn full w y n j) (sym q)
    (by_call t (fine-turned j.line n (awake j) w.cores w.requests (due j.interrupts (pending w.requests n)) (calm, refl, refl)) t.call refl
    (λ c is. call-turned n (awake j) w.cores w.requests (due j.interrupts (pending w.requests n)) c small is)))
  where
    by_call : (t : Turn) → Fine j.line t.job → (o : Option MonitorCall) → t.call ≡ o → ((c : MonitorCall) → t.call ≡ Some c → Called t (awake j) w.cores w.requests)
        → SameTurn j.line full w (called (with_turn w n t) time n o) (called (with_lines full (with_turn w n t)) time n o) n
        ⊎ FullTurn full w (called (with_lines full (with_turn w n t)) time n o) n j
    by_call t fine None is moved = inl (record {
      lines = full;
      is = refl;
      kept = lines-kept j.line w.lines full g;
      fine = subst (λ o. FineSlot j.line o) (sym (get_or-set_same w.table.jobs n (Some t.job) None low)) fine;
    })
    by_call t fine (Some c) is moved =
        let w1 : World = with_turn w n t in
        let at1 : job_at w1.table.jobs n ≡ Some t.job = get_or-set_same w.table.jobs n (Some t.job) None low in
        let long : n < length w1.table.jobs = subst (λ m. n < m) (sym (length-set w.table.jobs n (Some t.job))) low in
        let a : CallState = around w1 t.job in
        let r : CallState = row_of (service_in c) time n c.ac c.e a in
        let b : CallState = row_of (service_in c) time n c.ac c.e (record a { lines = full }) in
        let p : (performed w1 time n c).world ≡ left_by r.ending (with_around w1 n r) n = ap (λ (x : Performed). x.world) (performs w1 time n c t.job at1) in
        let q : (performed (with_lines full w1) time n c).world ≡ left_by b.ending (with_around (with_lines full w1) n b) n =
        ap (λ (x : Performed). x.world) (performs (with_lines full w1) time n c t.job at1) in
        let line : t.job.line ≡ j.line = fine.2 in
        let h : Called t (awake j) w.cores w.requests = moved c is in
        elim (row-lines (service_in c) time n c.ac c.e full a (subst (λ l. Given l w.lines full) (sym line) g) (subst (λ l. Fine l t.job) (sym line) fine)) [
          | inl same ↦ inl (record {
            lines = same.lines;
            is = q ∙ ap (λ (x : CallState). left_by x.ending (with_around (with_lines full w1) n x) n) same.is
                ∙ left-lines r.ending (with_around w1 n r) n same.lines ∙ ap (λ x. with_lines same.lines x) (sym p);
            kept = subst (λ (ls : List Rings). KeptLines j.line w.lines full ls same.lines)
                (sym (left-same r.ending (with_around w1 n r) n) ∙ sym (ap (λ (x : World). x.lines) p))
                (subst (λ l. KeptLines l w.lines full r.lines same.lines) line same.kept);
            fine = subst (λ (x : World). FineSlot j.line (job_at x.table.jobs n)) (sym p)
                (left-fine r.ending (with_around w1 n r) n j.line r.job
                (subst (λ m. n < m) (sym (length-set w1.table.jobs n (Some r.job))) long)
                (get_or-set_same w1.table.jobs n (Some r.job) None long) (subst (λ l. Fine l r.job) line same.fine));
          })
          | inr more ↦ inr (record {
            places = more.places;
            is = q ∙ ap (λ (x : CallState). left_by x.ending (with_around (with_lines full w1) n x) n) more.is
                ∙ ap (λ jobs. record w1 { table = record w.table { jobs = jobs }; lines = full })
                (set-set w.table.jobs n (Some t.job) (Some (waiting (put_back t.job) (Room more.places))))
                ∙ ap (λ (i : Job). record w1 { table = with_job w.table n (Some (waiting i (Room more.places))); lines = full }) h.job
                ∙ ap (λ cores. record w1 { table = with_job w.table n (Some (record j { wait = Room more.places })); lines = full; cores = cores }) h.cores_are
                ∙ ap (λ rs. record w { table = with_job w.table n (Some (record j { wait = Room more.places })); lines = full; requests = rs }) h.requests;
            few = more.few;
            none = subst (λ l. nat_le more.places (room_of full l) ≡ false) line more.none;
          })
        ]
