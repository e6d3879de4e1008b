-- The machine with which a look begins.
use Rattle.std.proofs.Common.{◌≡◌, ◌≤◌, ◌+◌, ◌*◌, ◌∙◌, ℕ, zero, suc, [], List, length, map, replicate, Option, Some, None, is_some, cond, true, refl, sym, ap, subst, arith, inl, inr, get_or}
use Rattle.std.proofs.lemmas.Bool.{cases_lt}
use Rattle.std.proofs.lemmas.List.{get_or-map, get_or-replicate, get_or_past, length-map, length-replicate}
use Rattle.std.specs.Option.{option_map}
use Rattle.word36.specs.declared.sizes.TheConstants.{BLOCK_WORDS, DATA_WORDS, JOBS, LINES, MOST_BLOCKS, MOST_REQUESTS}
use Rattle.lock_queue.specs.WellFormed.{are_well_formed}
use Rattle.tty_lines.specs.Rings.{all_clear}
use Rattle.job_sched.specs.Tables.{job_at}
use Rattle.job_sched.specs.declared.job.Job.{Job}
use Rattle.uuo_calls.specs.Performed.{World}
use Rattle.machine.specs.Machine.{S}
use Rattle.machine.specs.Safe.{Safe}
use Rattle.monitor_laws.proofs.Housing.{at-mapped}
use Rattle.job_order_laws.specs.Erased.{erased, rested}
use Rattle.job_order_laws.specs.Turned.{IsSound, V, pc_in}
use Rattle.job_moves.specs.Moves.{HasJobs, IsAwake, begun, settled}
use Rattle.job_moves.proofs.Resting.{erased_is_awake}
use Rattle.job_orders.specs.Endings.{highest_job}
use Rattle.job_orders.specs.Reports.{count_of, started}
use Rattle.job_orders.specs.Systems.{IsBegun}
use Rattle.job_orders.specs.Views.{IsFramed, IsOutside}
use Rattle.job_orders.proofs.Counting.{highest-few, highest-next, highest-none, none-above}
use Rattle.job_orders.proofs.Framed.{framed-settled}

some-rested : (o : Option Job) → is_some (option_map rested o) ≡ is_some o
some-rested (Some j) = refl
some-rested None = refl

-- sleeps that are erased do not change how many jobs there are
pub highest-erased : (jobs : List (Option Job)) (n : ℕ) → highest_job (map (option_map rested) jobs) n ≡ highest_job jobs n
highest-erased jobs zero = highest-none (map (option_map rested) jobs) ∙ sym (highest-none jobs)
highest-erased jobs (suc n) =
    let here : is_some (job_at (map (option_map rested) jobs) (suc n)) ≡ is_some (job_at jobs (suc n)) =
    ap is_some (at-mapped (option_map rested) jobs (suc n) refl) ∙ some-rested (job_at jobs (suc n)) in
    highest-next (map (option_map rested) jobs) n
    ∙ ap (λ b. cond b (suc n) (highest_job (map (option_map rested) jobs) n)) here
    ∙ ap (cond (is_some (job_at jobs (suc n))) (suc n)) (highest-erased jobs n) ∙ sym (highest-next jobs n)

module _ (s : S) (blocks : ℕ) (same : blocks ≡ s.blocks) (safe : Safe s) where
  pub start-sound : IsSound (started blocks s.world)
  start-sound = record {
    housed = safe.housed;
    queued = safe.queued;
    apart = safe.apart;
    total = safe.total ∙ ap (λ n. n * BLOCK_WORDS) (sym same);
    most = subst (λ n. n ≤ MOST_BLOCKS) (sym same) safe.most;
    rings = safe.rings;
    numbers = safe.numbers;
    ranges = safe.ranges;
  }

  start-awake : IsAwake (erased (started blocks s.world))
  start-awake = erased_is_awake (started blocks s.world) start-sound

  -- a machine that is made of the world
  module _ (w : World) (t : V) (same_world : w ≡ s.world) (made : t ≡ begun (record { world = w; time = 0; quantum = 1; blocks = blocks })) where
    pub start-is : t ≡ erased (started blocks s.world)
    start-is = made ∙ ap (λ (x : World). begun (record { world = x; time = 0; quantum = 1; blocks = blocks })) same_world

    pub awake-is : IsAwake t
    awake-is = subst IsAwake (sym start-is) start-awake

    pub lines-are : t.machine.world.lines ≡ s.world.lines
    lines-are = ap (λ (u : V). u.machine.world.lines) start-is

    pub lines-long : length t.machine.world.lines ≡ LINES
    lines-long = ap length lines-are ∙ safe.rings

    pub count-is : (n : ℕ) → n ≡ highest_job t.machine.world.table.jobs JOBS → n ≡ count_of (started blocks s.world)
    count-is n is =
        is ∙ ap (λ (u : V). highest_job u.machine.world.table.jobs JOBS) start-is ∙ highest-erased s.world.table.jobs JOBS

    pub settled-is : (most n : ℕ) (u : V) → u ≡ settled most n t → n ≡ highest_job t.machine.world.table.jobs JOBS
        → u ≡ settled most (count_of (started blocks s.world)) (erased (started blocks s.world))
    settled-is most n u is highest =
        is ∙ ap (λ (x : V). settled most n x) start-is
        ∙ ap (λ m. settled most m (erased (started blocks s.world))) (count-is n highest)

  pub start-few : count_of (started blocks s.world) ≤ JOBS
  start-few = highest-few s.world.table.jobs JOBS

  pub start-jobs : HasJobs (count_of (started blocks s.world)) (started blocks s.world)
  start-jobs m above = none-above s.world.table.jobs safe.housed.slots m above

  erased-jobs : HasJobs (count_of (started blocks s.world)) (erased (started blocks s.world))
  erased-jobs m above =
      at-mapped (option_map rested) s.world.table.jobs m refl ∙ ap (option_map rested) (start-jobs m above)

  no-job : (m : ℕ) → IsOutside (count_of (started blocks s.world)) m → job_at s.world.table.jobs m ≡ None
  no-job m out = elim out [
    | inl none ↦ ap (job_at s.world.table.jobs) none ∙ safe.housed.none_0
    | inr above ↦ start-jobs m above
  ]

  no-last : (m : ℕ) → IsOutside (count_of (started blocks s.world)) m → get_or (map pc_in s.world.table.jobs) m 0 ≡ 0
  no-last m out = elim (cases_lt m (length s.world.table.jobs)) [
    | inl low ↦ get_or-map pc_in s.world.table.jobs m None 0 low ∙ ap pc_in (no-job m out)
    | inr past ↦
        let long : length (map pc_in s.world.table.jobs) ≡ length s.world.table.jobs = length-map s.world.table.jobs pc_in in
        get_or_past (map pc_in s.world.table.jobs) m 0 (omega (arith, past, long))
  ]

  no-text : (m : ℕ) → get_or (replicate {A = List ℕ} (JOBS + 1) []) m [] ≡ []
  no-text m = elim (cases_lt m (JOBS + 1)) [
    | inl low ↦ get_or-replicate (JOBS + 1) m [] [] low
    | inr past ↦
        let long : length (replicate {A = List ℕ} (JOBS + 1) []) ≡ JOBS + 1 = length-replicate {A = List ℕ} (JOBS + 1) [] in
        get_or_past (replicate {A = List ℕ} (JOBS + 1) []) m [] (omega (arith, past, long))
  ]

  module _ (size : s.world.size ≡ MOST_REQUESTS) (clear : s.world.lines ≡ all_clear) (well : are_well_formed s.world.requests ≡ true)
      (shared : length s.world.shared ≡ DATA_WORDS) where
    start-framed : IsFramed 1 blocks (count_of (started blocks s.world)) (erased (started blocks s.world))
    start-framed = record {
      awake = start-awake;
      jobs = erased-jobs;
      size = size;
      quantum_is = refl;
      blocks_are = refl;
      lines = clear;
      well = well;
      shared = shared;
      texts = length-replicate {A = List ℕ} (JOBS + 1) [];
      no_text = λ m out. no-text m;
      last = length-map s.world.table.jobs pc_in ∙ safe.housed.slots;
      no_last = no-last;
    }

    start-begun : (most : ℕ) (t : V) → 1 ≤ blocks → t ≡ settled most (count_of (started blocks s.world)) (erased (started blocks s.world))
        → IsBegun (record { state = t; count = count_of (started blocks s.world); most = most })
    start-begun most t some is =
        let framed : IsFramed 1 blocks (count_of (started blocks s.world)) t =
        subst (IsFramed 1 blocks (count_of (started blocks s.world))) (sym is)
        (framed-settled 1 blocks (count_of (started blocks s.world)) most (count_of (started blocks s.world)) (erased (started blocks s.world))
        (omega arith) start-framed) in
        record {
          few = start-few;
          some = subst (λ n. 1 ≤ n) (sym framed.blocks_are) some;
          framed = subst (λ q. IsFramed q t.machine.blocks (count_of (started blocks s.world)) t) (sym framed.quantum_is)
              (subst (λ n. IsFramed 1 n (count_of (started blocks s.world)) t) (sym framed.blocks_are) framed);
        }

    pub start-begun-as : (most n : ℕ) (t : V) → 1 ≤ blocks → n ≡ count_of (started blocks s.world)
        → t ≡ settled most (count_of (started blocks s.world)) (erased (started blocks s.world))
        → IsBegun (record { state = t; count = n; most = most })
    start-begun-as most n t some few is =
        subst (λ m. IsBegun (record { state = t; count = m; most = most })) (sym few) (start-begun most t some is)
