-- A turn keeps requests well-formed.
use Rattle.std.proofs.Common.{◌≡◌, subst, ℕ, true, Some, refl}
use Rattle.lock_queue.specs.WellFormed.{are_well_formed}
use Rattle.job_sched.specs.Ready.{next_job}
use Rattle.uuo_calls.specs.Performed.{World}
use Rattle.machine.specs.declared.event.Event.TheVariants.{Step}
use Rattle.machine.specs.Machine.{S, happens, stepped}
use Rattle.machine.specs.Safe.{Safe}
use Rattle.progress_laws.proofs.WellFormed.{well_is_kept}
use Rattle.job_order_laws.specs.Places.{turn}
use Rattle.job_order_laws.specs.Turned.{can_run, steered}
use Rattle.job_order_laws.proofs.Scheduling.{step-turn, turn-steered}

pub well-turn : (s : S) (n : ℕ) → Safe s → can_run s.world n ≡ true → are_well_formed s.world.requests ≡ true
    → are_well_formed (turn s.world s.time n).requests ≡ true
well-turn s n safe runs well =
    let t : S = record s { world = steered n 1 s.world } in
    let next : next_job t.world.table t.world.lines t.world.requests ≡ Some n = rw runs refl in
    let kept : are_well_formed (happens t Step).state.world.requests ≡ true =
    well_is_kept t Step (record {
      housed = safe.housed;
      queued = safe.queued;
      apart = safe.apart;
      total = safe.total;
      most = safe.most;
      rings = safe.rings;
      numbers = safe.numbers;
      ranges = safe.ranges;
    }) well in
    let made = step-turn t n in
    let same = turn-steered s.world s.time n n 1 in
    subst (λ (w : World). are_well_formed w.requests ≡ true) same.2
    (subst (λ (x : S). are_well_formed x.world.requests ≡ true) made.2
    (subst (λ o. are_well_formed (stepped t o).state.world.requests ≡ true) next kept))
