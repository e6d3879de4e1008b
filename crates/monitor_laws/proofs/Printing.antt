-- The job's own step: alone it does the same, but where its text lacks room.
use Rattle.std.proofs.Common.{◌≡◌, ◌<◌, ◌∙◌, sym, ap, subst, ℕ, ◌+◌, ◌%◌, ◌^◌, Bool, true, false, ◌||◌, ◌==◌, nat_le, List, [], ◌++◌}
use Rattle.std.proofs.Common.{length, Option, Some, None, ◌⊎◌, inl, inr, refl, arith, slice_set, append_assoc}
use Rattle.std.proofs.lemmas.Grind.{common_steps}
use Rattle.std.proofs.lemmas.Bool.{both_ways, eqb-true}
use Rattle.std.proofs.lemmas.List.{get_or-set_same}
use Rattle.word36.specs.declared.sizes.TheConstants.{OUTPUT_RING}
use Rattle.ka_cpu.specs.Effects.{EndsAs}
use Rattle.ka_state.specs.Registers.{next_pc}
use Rattle.ka_state.specs.declared.outcome.CallKind.{CallKind}
use Rattle.ka_state.specs.declared.outcome.CallKind.TheVariants.{Calli, Ttcall}
use Rattle.ka_state.specs.declared.outcome.Outcome.{Outcome}
use Rattle.ka_state.specs.declared.outcome.Outcome.TheVariants as outcome
use Rattle.ka_state.specs.declared.registers.Regs.{Regs}
use Rattle.core_store.specs.Cores.{core_of, with_core}
use Rattle.tty_lines.specs.Rings.{Rings, no_characters, output_of, with_output, room_of}
use Rattle.job_sched.specs.Limits.{limit_of}
use Rattle.job_sched.specs.Tables.{job_at}
use Rattle.job_sched.specs.declared.job.Wait.{Wait}
use Rattle.job_sched.specs.declared.job.Wait.TheVariants.{None as Nothing, Sleep, Char, Line, Room, Queue}
use Rattle.job_sched.specs.declared.job.Interrupts.{Interrupts}
use Rattle.job_sched.specs.declared.job.Job.{Job}
use Rattle.uuo_calls.specs.declared.call.CallOutcome.{CallOutcome}
use Rattle.uuo_calls.specs.declared.call.CallOutcome.TheVariants as ending
use Rattle.uuo_calls.specs.declared.service.Service.{Service}
use Rattle.uuo_calls.specs.declared.service.Service.TheVariants.{Outchr, Outstr}
use Rattle.uuo_calls.specs.CallState.{CallState, put_back}
use Rattle.uuo_calls.specs.Performed.{World, Performed, row_of, around, performed_by, with_around, left_by, ended}
use Rattle.uuo_calls.specs.Services.{service_of}
use Rattle.ka_state.specs.Memory.{word_below}
use Rattle.uuo_calls.specs.TerminalRows.{JobLines, put_text, low_character, text_from}
use Rattle.uuo_calls.specs.Laws.{is_terminal_wait}
use Rattle.machine.specs.Alone.{Solo, solo_after, printed, text_of, is_output, is_allowed}
use Rattle.machine.specs.Machine.{with_turn, called}
use Rattle.machine.specs.Safe.{wait_of}
use Rattle.machine.specs.Turns.{Turn, concluded}
use Rattle.monitor_laws.proofs.Emptying.{Calm, empty-row}
use Rattle.ka_cpu.proofs.ExecLaws.{by_test}
use Rattle.monitor_laws.proofs.Standing.{Stands}

-- the job before the text or the wait of its step: what it had alone, and the room that it stands in
pub record Before (w : World) (n line : ℕ) (first taken : List ℕ) (x : Solo) : Type 0 where
  pub low : n < length w.table.jobs
  pub house : n < length w.cores.cores
  pub within : line < length w.lines
  pub small : x.regs.pc < 2 ^ 18
  pub output : first ++ x.output ≡ taken ++ output_of w.lines line

-- whether job n waits for its terminal
abbrev pub is_empty : World → ℕ → Bool
is_empty w n = is_terminal_wait (wait_of (job_at w.table.jobs n))

-- the PC before the call
back : (pc : ℕ) → pc < 2 ^ 18 → ((pc + 1) % 2 ^ 18 + 0o777777) % 2 ^ 18 ≡ pc
back pc low = omega arith

put-back : (j : Job) (g : Regs) → g.pc < 2 ^ 18 → j.regs ≡ record g { pc = next_pc g } → (put_back j).regs ≡ g
put-back j g small is = rw is (ap (λ pc. record g { pc = pc }) (back g.pc small))

-- a text joins what was put out
pushed : (first output taken ring text now : List ℕ) → first ++ output ≡ taken ++ ring → now ≡ ring ++ text → first ++ (output ++ text) ≡ taken ++ now
pushed first output taken ring text now e is = rw is (sym (append_assoc first output text) ∙ ap (λ l. l ++ text) e ∙ append_assoc taken ring text)

-- the world after a text is put out by job n
abbrev with_text : World → ℕ → Job → Option (List ℕ) → World
with_text w n j o =
    let p : JobLines = put_text o j w.lines in
    with_around w n (record (around w j) { job = p.job; lines = p.lines; ending = p.ending })

stands-text : (w : World) (n line : ℕ) (j : Job) (o : Option (List ℕ)) (first taken : List ℕ) (x : Solo) → Before w n line first taken x
    → j.line ≡ line → j.interrupts.on ≡ false → core_of w.cores n ≡ x.core → j.regs ≡ record x.regs { pc = next_pc x.regs }
    → limit_of j.wait ≡ 0 → is_terminal_wait (put_text o j w.lines).job.wait ≡ false
    → Stands (with_text w n j o) n line first taken (printed x j.regs x.core o)
stands-text w n line j None first taken x b at off core moved endless = λ r. record {
  job = _;
  there = get_or-set_same w.table.jobs n _ None b.low;
  at = at;
  off = off;
  endless = endless;
  regs = put-back j x.regs b.small moved;
  core = core;
  output = b.output;
}
stands-text w n line j (Some text) first taken x b at off core moved endless =
    by_test (λ (p : JobLines). is_terminal_wait p.job.wait ≡ false
    → Stands (with_around w n (record (around w j) { job = p.job; lines = p.lines; ending = p.ending })) n line first taken
    (record { regs = j.regs; core = x.core; output = x.output ++ text }))
    (nat_le (length text) (room_of w.lines j.line)) _ _
    (λ _ r. record {
      job = j;
      there = get_or-set_same w.table.jobs n _ None b.low;
      at = at;
      off = off;
      endless = endless;
      regs = refl;
      core = core;
      output = pushed first x.output taken (output_of w.lines line) text _ b.output
          (subst (λ l. output_of (with_output w.lines l (output_of w.lines l ++ text)) line ≡ output_of w.lines line ++ text)
          (sym at) (ap (λ (r : Rings). r.output) (get_or-set_same w.lines line _ no_characters b.within)));
    })
    (λ _ r. cc)

-- such a call does not take its job away
put-left : (o : Option (List ℕ)) (j : Job) (lines : List Rings) (w : World) (n : ℕ) → left_by (put_text o j lines).ending w n ≡ w
put-left None j lines w n = refl
put-left (Some text) j lines w n =
    by_test (λ (p : JobLines). left_by p.ending w n ≡ w) (nat_le (length text) (room_of lines j.line)) _ _ (λ _. refl) (λ _. refl)

wait-set : (w : World) (n : ℕ) (j : Job) → n < length w.table.jobs → wait_of (job_at (slice_set w.table.jobs n (Some j)) n) ≡ j.wait
wait-set w n j low = ap wait_of (get_or-set_same w.table.jobs n (Some j) None low)

-- OUTCHR or OUTSTR
stands-put : (w : World) (n line : ℕ) (j : Job) (o : Option (List ℕ)) (first taken : List ℕ) (x : Solo) → Before w n line first taken x
    → j.line ≡ line → j.interrupts.on ≡ false → core_of w.cores n ≡ x.core → j.regs ≡ record x.regs { pc = next_pc x.regs }
    → limit_of j.wait ≡ 0 → is_empty (left_by (put_text o j w.lines).ending (with_text w n j o) n) n ≡ false
    → Stands (left_by (put_text o j w.lines).ending (with_text w n j o) n) n line first taken (printed x j.regs x.core o)
stands-put w n line j o first taken x b at off core moved endless full =
    let same = put-left o j w.lines (with_text w n j o) n in
    let stays : is_empty (with_text w n j o) n ≡ false = subst (λ v. is_empty v n ≡ false) same full in
    subst (λ v. Stands v n line first taken (printed x j.regs x.core o)) (sym same)
    (stands-text w n line j o first taken x b at off core moved endless (sym (ap is_terminal_wait (wait-set w n (put_text o j w.lines).job b.low)) ∙ stays))

-- the functions of TTCALL that put out
abbrev IsOutput : ℕ → Type 0
IsOutput ac = (ac ≡ 1) ⊎ (ac ≡ 3)

output-cases : (kind : CallKind) (ac : ℕ) → is_output kind ac ≡ true → (kind ≡ Ttcall) × IsOutput ac
output-cases Calli ac h = cc
output-cases Ttcall ac h = (refl, go (ac == 1) refl)
  where
    go : (b : Bool) → (ac == 1) ≡ b → IsOutput ac
    go true e = inl (eqb-true ac 1 e)
    go false e = inr (eqb-true ac 3 (sym (ap (λ b. b || (ac == 3)) e) ∙ h))

abbrev Advanced : World → ℕ → ℕ → List ℕ → List ℕ → Solo → World → Type 0
Advanced w n line first taken x v = is_empty v n ≡ false → Stands v n line first taken x

advanced-row : (w : World) (time n line : ℕ) (j : Job) (kind : CallKind) (ac e : ℕ) (first taken : List ℕ) (x : Solo) → Before w n line first taken x
    → j.line ≡ line → j.interrupts.on ≡ false → core_of w.cores n ≡ x.core → j.regs ≡ record x.regs { pc = next_pc x.regs }
    → limit_of j.wait ≡ 0 → is_output kind ac ≡ true
    → Advanced w n line first taken (printed x j.regs x.core (text_of ac j.regs x.core e))
    (ended w n (row_of (service_of kind ac e) time n ac e (around w j))).world
advanced-row w time n line j kind ac e first taken x b at off core moved endless prints =
    let c = output-cases kind ac prints in
    subst
    (λ k. Advanced w n line first taken (printed x j.regs x.core (text_of ac j.regs x.core e))
    (ended w n (row_of (service_of k ac e) time n ac e (around w j))).world) (sym c.0)
    (elim c.1 [
      | inl one ↦
          subst
          (λ a. Advanced w n line first taken (printed x j.regs x.core (text_of a j.regs x.core e))
          (ended w n (row_of (service_of Ttcall a e) time n a e (around w j))).world) (sym one)
          (subst
          (λ l. Advanced w n line first taken (printed x j.regs x.core (low_character (word_below j.regs.ac l e)))
          (ended w n (row_of Outchr time n 1 e (around w j))).world) core
          (λ full. stands-put w n line j (low_character (word_below j.regs.ac (core_of w.cores n) e)) first taken x b at off core moved endless full))
      | inr three ↦
          subst
          (λ a. Advanced w n line first taken (printed x j.regs x.core (text_of a j.regs x.core e))
          (ended w n (row_of (service_of Ttcall a e) time n a e (around w j))).world) (sym three)
          (subst
          (λ l. Advanced w n line first taken (printed x j.regs x.core (text_from j.regs.ac l e [] OUTPUT_RING))
          (ended w n (row_of Outstr time n 3 e (around w j))).world) core
          (λ full. stands-put w n line j (text_from j.regs.ac (core_of w.cores n) e [] OUTPUT_RING) first taken x b at off core moved endless full))
    ])

-- the world after an instruction of job n whose outcome this is
abbrev pub after_outcome : World → ℕ → ℕ → Job → List ℕ → Outcome → World
after_outcome w time n j core o =
    let t : Turn = concluded j (with_core w.cores n core) w.requests o in
    called (with_turn w n t) time n t.call

-- what stands before an instruction still stands after its job's turn
before-turn : (w : World) (n line : ℕ) (t : Turn) (core first taken : List ℕ) (x : Solo) → t.cores ≡ with_core w.cores n core → Before w n line first taken x
    → Before (with_turn w n t) n line first taken x
before-turn w n line t core first taken x is b = record {
  low = grind (arith, common_steps, b.low);
  house = rw is (grind (arith, common_steps, b.house));
  within = b.within;
  small = b.small;
  output = b.output;
}

performed-is : (w : World) (time n : ℕ) (t : Turn) (kind : CallKind) (ac e : ℕ) → n < length w.table.jobs
    → performed_by (with_turn w n t) time n (job_at (with_turn w n t).table.jobs n) (service_of kind ac e) ac e
    ≡ ended (with_turn w n t) n (row_of (service_of kind ac e) time n ac e (around (with_turn w n t) t.job))
performed-is w time n t kind ac e low =
    ap (λ o. performed_by (with_turn w n t) time n o (service_of kind ac e) ac e) (get_or-set_same w.table.jobs n (Some t.job) None low)

-- a step that is not empty is the step alone
pub advanced : (w : World) (time n line : ℕ) (j : Job) (core : List ℕ) (o : Outcome) (first taken : List ℕ) (x : Solo) → Before w n line first taken x
    → j.line ≡ line → j.interrupts.on ≡ false → limit_of j.wait ≡ 0 → EndsAs o x.regs x.core j.regs core → is_allowed o ≡ true
    → is_empty (after_outcome w time n j core o) n ≡ false
    → Stands (after_outcome w time n j core o) n line first taken (solo_after x j.regs core o)
advanced w time n line j core outcome.Done first taken x b at off endless ends allowed full = record {
  job = j;
  there = get_or-set_same w.table.jobs n (Some j) None b.low;
  at = at;
  off = off;
  endless = endless;
  regs = refl;
  core = get_or-set_same w.cores.cores n core [] b.house;
  output = b.output;
}
advanced w time n line j core (outcome.Stop reason) first taken x b at off endless ends allowed full = record {
  job = _;
  there = get_or-set_same w.table.jobs n _ None b.low;
  at = at;
  off = off;
  endless = endless;
  regs = refl;
  core = get_or-set_same w.cores.cores n core [] b.house;
  output = b.output;
}
advanced w time n line j core (outcome.Call kind ac e) first taken x b at off endless ends allowed full =
    let t : Turn = concluded j (with_core w.cores n core) w.requests (outcome.Call kind ac e) in
    let is = performed-is w time n t kind ac e b.low in
    let stored : core_of (with_turn w n t).cores n ≡ x.core = get_or-set_same w.cores.cores n core [] b.house ∙ ends.3 in
    subst (λ (p : Performed). Stands p.world n line first taken (printed x j.regs core (text_of ac j.regs core e))) (sym is)
    (subst
    (λ l. Stands (ended (with_turn w n t) n (row_of (service_of kind ac e) time n ac e (around (with_turn w n t) j))).world n
    line first taken (printed x j.regs l (text_of ac j.regs l e))) (sym ends.3)
    (advanced-row (with_turn w n t) time n line j kind ac e first taken x (before-turn w n line t core first taken x refl b)
    at off stored ends.2 endless allowed
    (subst (λ (p : Performed). is_empty p.world n ≡ false) is full)))

-- an empty step leaves the job as it was
emptied-left : (o : CallOutcome) (w : World) (n line : ℕ) (a : CallState) (first taken : List ℕ) (x : Solo) → n < length w.table.jobs
    → (is_terminal_wait a.job.wait ≡ true → Stands (with_around w n a) n line first taken x)
    → is_empty (left_by o (with_around w n a) n) n ≡ true → Stands (left_by o (with_around w n a) n) n line first taken x
emptied-left ending.Done w n line a first taken x low stands waits = stands (sym (ap is_terminal_wait (wait-set w n a.job low)) ∙ waits)
emptied-left ending.Empty w n line a first taken x low stands waits = stands (sym (ap is_terminal_wait (wait-set w n a.job low)) ∙ waits)
emptied-left ending.Gone w n line a first taken x low stands waits =
    let low2 : n < length (slice_set w.table.jobs n (Some a.job)) = grind (arith, common_steps, low) in
    absurd
    (both_ways false refl
    (sym (ap (λ o. is_terminal_wait (wait_of o)) (get_or-set_same (slice_set w.table.jobs n (Some a.job)) n None None low2))
    ∙ waits))

terminal-endless : (v : Wait) → is_terminal_wait v ≡ true → limit_of v ≡ 0
terminal-endless (Queue limit ac) e = absurd (both_ways false refl e)
terminal-endless Nothing e = refl
terminal-endless (Sleep ticks) e = refl
terminal-endless Char e = refl
terminal-endless Line e = refl
terminal-endless (Room places) e = refl

emptied-row : (w : World) (time n line : ℕ) (j : Job) (service : Service) (ac e : ℕ) (first taken : List ℕ) (x : Solo) → Before w n line first taken x
    → j.line ≡ line → j.interrupts.on ≡ false → Calm j → core_of w.cores n ≡ x.core → j.regs ≡ record x.regs { pc = next_pc x.regs }
    → is_terminal_wait (row_of service time n ac e (around w j)).job.wait ≡ true
    → Stands (with_around w n (row_of service time n ac e (around w j))) n line first taken x
emptied-row w time n line j service ac e first taken x b at off calm core moved waits =
    let l = empty-row service time n ac e (around w j) b.house calm waits in
    record {
      job = (row_of service time n ac e (around w j)).job;
      there = get_or-set_same w.table.jobs n _ None b.low;
      at = l.line ∙ at;
      off = ap (λ (i : Interrupts). i.on) l.off ∙ off;
      endless = terminal-endless (row_of service time n ac e (around w j)).job.wait waits;
      regs = l.regs ∙ put-back j x.regs b.small moved;
      core = l.core ∙ core;
      output = b.output ∙ ap (λ r. taken ++ output_of r line) (sym l.lines);
    }

pub emptied : (w : World) (time n line : ℕ) (j : Job) (core : List ℕ) (o : Outcome) (first taken : List ℕ) (x : Solo) → Before w n line first taken x
    → j.line ≡ line → j.interrupts.on ≡ false → Calm j → EndsAs o x.regs x.core j.regs core
    → is_empty (after_outcome w time n j core o) n ≡ true
    → Stands (after_outcome w time n j core o) n line first taken x
emptied w time n line j core outcome.Done first taken x b at off calm ends waits =
    absurd (both_ways _ calm (sym (ap is_terminal_wait (wait-set w n j b.low)) ∙ waits))
emptied w time n line j core (outcome.Stop reason) first taken x b at off calm ends waits =
    absurd (both_ways _ calm (sym (ap is_terminal_wait (wait-set w n _ b.low)) ∙ waits))
emptied w time n line j core (outcome.Call kind ac e) first taken x b at off calm ends waits =
    let t : Turn = concluded j (with_core w.cores n core) w.requests (outcome.Call kind ac e) in
    let v : World = with_turn w n t in
    let is = performed-is w time n t kind ac e b.low in
    let a : CallState = row_of (service_of kind ac e) time n ac e (around v j) in
    let stored : core_of v.cores n ≡ x.core = get_or-set_same w.cores.cores n core [] b.house ∙ ends.3 in
    let c = before-turn w n line t core first taken x refl b in
    subst (λ (p : Performed). Stands p.world n line first taken x) (sym is)
    (emptied-left a.ending v n line a first taken x c.low
    (λ h. emptied-row v time n line j (service_of kind ac e) ac e first taken x c at off calm stored ends.2 h)
    (subst (λ (p : Performed). is_empty p.world n ≡ true) is waits))
