-- A turn, and what it leaves.
use Rattle.std.proofs.Common.{rules, ◌≡◌, ◌≢◌, ◌<◌, ◌+◌, ◌∙◌, sym, ap, subst, ℕ, true, false, cond, List, [], ◌++◌, map, length, Option, Some, None, IsSome, is_some, slice_set, refl, arith}
use Rattle.std.specs.Option.{option_map}
use Rattle.std.proofs.Math.ListN.{get_or}
use Rattle.std.proofs.lemmas.List.{get_or-map, map-set, set-set}
use Rattle.tty_lines.specs.Rings.{output_of}
use Rattle.core_store.specs.Cores.{IsJob, core_of}
use Rattle.job_sched.specs.Jobs.{is_sleep}
use Rattle.job_sched.specs.Tables.{Table, is_sleeper, job_at}
use Rattle.job_sched.specs.declared.job.Job.{Job}
use Rattle.job_sched.specs.declared.job.Wait.{Wait}
use Rattle.job_sched.specs.declared.job.Wait.TheVariants.{None as Nothing, Sleep, Char, Line, Room, Queue}
use Rattle.uuo_calls.specs.Performed.{World}
use Rattle.monitor_laws.proofs.Housing.{is_job}
use Rattle.job_order_laws.specs.Erased.{erased, rested_wait, turned_at_once}
use Rattle.job_order_laws.specs.Places.{turn, with_slots}
use Rattle.word36.specs.declared.sizes.TheConstants.{JOBS}
use Rattle.job_order_laws.specs.Turned.{IsSound, V, can_run, emptied, pc_in, steered, stepped_by, stepped_on, taken_off, turned}
use Rattle.job_order_laws.proofs.Choosing.{Ran, ran}
use Rattle.job_order_laws.proofs.Commuting.{has-place}
use Rattle.job_order_laws.proofs.Slots.{turns_read_quotas_alone}
use Rattle.job_order_laws.proofs.Turning.{there}
use Rattle.job_moves.proofs.Resting.{R}
use Rattle.job_moves.specs.Moves.{IsAwake}

-- what a job's turn asks for
pub record CanTurn (w : World) (n : ℕ) : Type 0 where
  pub number : IsJob n
  pub there : IsSome (job_at w.table.jobs n)
  pub core : core_of w.cores n ≢ []

some-there : (o : Option Job) (j : Job) → o ≡ Some j → IsSome o
some-there None j e = cc
some-there (Some i) j e = search rules

pub can-turn : (v : V) (n : ℕ) → IsSound v → can_run v.machine.world n ≡ true → CanTurn v.machine.world n
can-turn v n h run =
    let w : World = v.machine.world in
    let here = there w.lines w.requests n (job_at w.table.jobs n) run in
    let is : is_some (job_at w.table.jobs n) ≡ true = ap is_some here.1 in
    record {
      number = is_job w.table.jobs w.cores n h.housed is;
      there = some-there (job_at w.table.jobs n) here.0 here.1;
      core = h.housed.core n is;
    }

-- the state after a turn
pub stepped-is : (v : V) (n : ℕ) (j : Job) → can_run v.machine.world n ≡ true → job_at v.machine.world.table.jobs n ≡ Some j
    → turned v n ≡ Some (taken_off n j.line (turn v.machine.world v.machine.time n) j.regs.pc v)
stepped-is v n j run at = ap (λ b. cond b (Some (stepped_on v n)) None) run ∙ ap (λ o. Some (stepped_by v n o)) at

-- where no job slept, the sleep of one ends
pub rested-one : (v a : V) (n : ℕ) → IsAwake v → turned v n ≡ Some a
    → erased a
    ≡ record a {
      machine = record a.machine {
        world =
            steered 0 0
            (with_slots (slice_set a.machine.world.table.jobs n (R (job_at a.machine.world.table.jobs n))) a.machine.world);
        time = 0;
      };
    }
rested-one v a n h e =
    let r : Ran v a n = ran v a n e in
    let w : World = v.machine.world in
    let x : World = turn w v.machine.time n in
    let low : n < length w.table.jobs = (has-place v.machine n r.job h.sound r.at).slot in
    let same : x ≡ with_slots (slice_set w.table.jobs n (job_at x.table.jobs n)) x =
    turns_read_quotas_alone w w.table.jobs v.machine.time n low low refl (λ k. refl) (ap is_some r.at) in
    let slots : a.machine.world.table.jobs ≡ x.table.jobs = ap (λ (u : V). u.machine.world.table.jobs) r.is in
    let o : Option Job = job_at x.table.jobs n in
    let before : map R w.table.jobs ≡ w.table.jobs = ap (λ (u : V). u.machine.world.table.jobs) h.awake in
    let all : map R a.machine.world.table.jobs ≡ slice_set a.machine.world.table.jobs n (R (job_at a.machine.world.table.jobs n)) =
    ap (map R) slots
    ∙ ap (λ (u : World). map R u.table.jobs) same
    ∙ map-set R w.table.jobs n o
    ∙ ap (λ l. slice_set l n (R o)) before
    ∙ sym (set-set w.table.jobs n o (R o))
    ∙ sym (ap (λ (u : World). slice_set u.table.jobs n (R o)) same)
    ∙ sym (ap (λ l. slice_set l n (R (job_at l n))) slots) in
    ap (λ l. record a { machine = record a.machine { world = steered 0 0 (with_slots l a.machine.world); time = 0 } }) all

-- who rests does not sleep
pub sleeper-rested : (o : Option Job) → is_sleeper o ≡ false → is_sleeper (R o) ≡ false
sleeper-rested None e = refl
sleeper-rested (Some j) e = by_wait j.wait e
  where
    by_wait : (wait : Wait) → is_sleep wait ≡ false → is_sleep (rested_wait wait) ≡ false
    by_wait Nothing e = refl
    by_wait (Sleep ticks) e = refl
    by_wait Char e = refl
    by_wait Line e = refl
    by_wait (Room places) e = refl
    by_wait (Queue limit ac) e = e

pub none-some : (j : Job) → None ≡ Some j → ⊥
none-some j e = cc

-- the state after a turn, in its parts
pub turned-by : (v u : V) (n : ℕ) → v.machine.time ≡ 0 → can_run v.machine.world n ≡ true
    → ((j : Job) → job_at v.machine.world.table.jobs n ≡ Some j → u ≡ taken_off n j.line (turn v.machine.world 0 n) j.regs.pc v)
    → turned v n ≡ Some u
turned-by v u n midnight run made =
    let w : World = v.machine.world in
    let here = there w.lines w.requests n (job_at w.table.jobs n) run in
    stepped-is v n here.0 run here.1
    ∙ ap (λ t. Some (taken_off n here.0.line (turn w t n) here.0.regs.pc v)) midnight
    ∙ ap Some (sym (made here.0 here.1))

-- a turn's world, its text and its address, each in its place
pub parts-taken : {T : Type 0} (f : T → List ℕ) (v : V) (n : ℕ) (texts : List T) (old new : T) (world after : World) (line pc place : ℕ)
    → v.texts ≡ map f texts → n < length texts → old ≡ get_or texts n old → world ≡ emptied line after
    → f new ≡ f old ++ output_of after.lines line → pc ≡ place
    → record v { machine = record v.machine { world = world }; texts = map f (slice_set texts n new); last = slice_set v.last n pc }
    ≡ taken_off n line after place v
parts-taken f v n texts old new world after line pc place all low here left said last =
    let before : get_or v.texts n [] ≡ f old =
    ap (λ (l : List (List ℕ)). get_or l n []) all ∙ get_or-map f texts n old [] low ∙ sym (ap f here) in
    let more : map f (slice_set texts n new) ≡ slice_set v.texts n (get_or v.texts n [] ++ output_of after.lines line) =
    map-set f texts n new
    ∙ ap (λ x. slice_set (map f texts) n x) (said ∙ ap (λ x. x ++ output_of after.lines line) (sym before))
    ∙ ap (λ l. slice_set l n (get_or v.texts n [] ++ output_of after.lines line)) (sym all) in
    ap (λ (w : World). record v { machine = record v.machine { world = w }; texts = map f (slice_set texts n new); last = slice_set v.last n pc }) left
    ∙ ap (λ l. record v { machine = record v.machine { world = emptied line after }; texts = l; last = slice_set v.last n pc }) more
    ∙ ap (λ a. record v {
      machine = record v.machine { world = emptied line after };
      texts = slice_set v.texts n (get_or v.texts n [] ++ output_of after.lines line);
      last = slice_set v.last n a;
    }) last

-- a turn at once, by the table that is left
pub at-once-by : (v a : V) (n : ℕ) (t : Table) → IsAwake v → turned v n ≡ Some a
    → t ≡ record { jobs = slice_set a.machine.world.table.jobs n (R (job_at a.machine.world.table.jobs n)); current = 0; left = 0 }
    → turned_at_once v n ≡ Some (record a { machine = record a.machine { world = record a.machine.world { table = t }; time = 0 } })
at-once-by v a n t h e is =
    ap (option_map erased) e
    ∙ ap Some
    (rested-one v a n h e
    ∙ ap (λ (u : Table). record a { machine = record a.machine { world = record a.machine.world { table = u }; time = 0 } }) (sym is))

-- a turn that was taken, by the parts of the machine
pub turn-made : {T : Type 0} (f : T → List ℕ) (v : V) (world after : World) (quantum blocks n pc : ℕ) (ts : List T) (old new : T) (last : List ℕ)
    → record { machine = record { world = world; time = 0; quantum = quantum; blocks = blocks }; texts = map f ts; last = last } ≡ v
    → IsSound v → can_run v.machine.world n ≡ true → length ts ≡ JOBS + 1 → old ≡ get_or ts n old
    → ((j : Job) → job_at world.table.jobs n ≡ Some j → after ≡ emptied j.line (turn world 0 n))
    → ((j : Job) → job_at world.table.jobs n ≡ Some j → f new ≡ f old ++ output_of (turn world 0 n).lines j.line)
    → pc ≡ pc_in (job_at world.table.jobs n)
    → turned v n
    ≡ Some
    (record {
      machine = record { world = after; time = 0; quantum = quantum; blocks = blocks };
      texts = map f (slice_set ts n new);
      last = slice_set last n pc;
    })
turn-made f v world after quantum blocks n pc ts old new last is sound run many here left said address =
    let v' : V = record { machine = record { world = world; time = 0; quantum = quantum; blocks = blocks }; texts = map f ts; last = last } in
    let safe : IsSound v' = subst IsSound (sym is) sound in
    let runs : can_run world n ≡ true = subst (λ (u : V). can_run u.machine.world n ≡ true) (sym is) run in
    let low : n < length ts = omega (arith, many, (can-turn v' n safe runs).number.1) in
    let u : V = record {
      machine = record { world = after; time = 0; quantum = quantum; blocks = blocks };
      texts = map f (slice_set ts n new);
      last = slice_set last n pc;
    } in
    subst (λ (w : V). turned w n ≡ Some u) is
    (turned-by v' u n refl runs
    (λ j at. parts-taken f v' n ts old new after (turn world 0 n) j.line pc j.regs.pc refl low here (left j at) (said j at) (address ∙ ap pc_in at)))

-- a turn at once, by the parts of the machine
pub at-once-made : (v a : V) (world : World) (quantum blocks n : ℕ) (texts : List (List ℕ)) (last : List ℕ) (t : Table)
    → record { machine = record { world = world; time = 0; quantum = quantum; blocks = blocks }; texts = texts; last = last } ≡ a
    → IsAwake v → turned v n ≡ Some a
    → t ≡ record { jobs = slice_set world.table.jobs n (R (job_at world.table.jobs n)); current = 0; left = 0 }
    → turned_at_once v n
    ≡ Some
    (record {
      machine = record { world = record world { table = t }; time = 0; quantum = quantum; blocks = blocks };
      texts = texts;
      last = last;
    })
at-once-made v a world quantum blocks n texts last t is h e left =
    at-once-by v (record { machine = record { world = world; time = 0; quantum = quantum; blocks = blocks }; texts = texts; last = last }) n t h
    (e ∙ ap Some (sym is)) left
