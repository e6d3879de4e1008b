-- States in which no job sleeps.
use Rattle.std.proofs.Common.{◌≡◌, ◌∙◌, ap, true, List, [], ◌∷◌, map, Option, Some, None, is_some, refl}
use Rattle.std.specs.Option.{option_map}
use Rattle.job_sched.specs.Limits.{is_queue, limit_of}
use Rattle.job_sched.specs.declared.job.Job.{Job}
use Rattle.job_sched.specs.declared.job.Wait.{Wait}
use Rattle.job_sched.specs.declared.job.Wait.TheVariants.{None as Nothing, Sleep, Char, Line, Room, Queue}
use Rattle.uuo_calls.specs.Performed.{World}
use Rattle.machine.specs.Safe.{HasAccumulator, InRange, line_of, wait_of}
use Rattle.monitor_laws.proofs.Housing.{Mild, SameJobs, housed-same, same-mapped}
use Rattle.monitor_laws.proofs.Keeping.{apart-kept, below-kept, lines-same}
use Rattle.monitor_laws.proofs.Queueing.{queued-mapped}
use Rattle.monitor_laws.proofs.Ranges.{ranges-map}
use Rattle.job_order_laws.specs.Erased.{erased, limit_in, rested, rested_wait}
use Rattle.job_order_laws.specs.Places.{with_slots}
use Rattle.job_order_laws.specs.Turned.{IsSound, V, steered}
use Rattle.job_moves.specs.Laws.{BegunIsAwake}
use Rattle.job_moves.specs.Moves.{IsAwake}

abbrev pub R : Option Job → Option Job
R o = option_map rested o

rest-wait : (wait : Wait) → rested_wait (rested_wait wait) ≡ rested_wait wait
rest-wait Nothing = refl
rest-wait (Sleep ticks) = refl
rest-wait Char = refl
rest-wait Line = refl
rest-wait (Room places) = refl
rest-wait (Queue limit ac) = refl

pub rest-twice : (o : Option Job) → R (R o) ≡ R o
rest-twice None = refl
rest-twice (Some j) = ap (λ (v : Wait). Some (record j { wait = v })) (rest-wait j.wait)

map-twice : (jobs : List (Option Job)) → map R (map R jobs) ≡ map R jobs
map-twice [] = refl
map-twice (o ∷ jobs) = ap (λ x. x ∷ map R (map R jobs)) (rest-twice o) ∙ ap (λ l. R o ∷ l) (map-twice jobs)

pub erased-twice : (v : V) → erased (erased v) ≡ erased v
erased-twice v =
    ap (λ l. record v { machine = record v.machine { world = steered 0 0 (with_slots l v.machine.world); time = 0 } })
    (map-twice v.machine.world.table.jobs)

limit-wait : (wait : Wait) → limit_of (rested_wait wait) ≡ limit_of wait
limit-wait Nothing = refl
limit-wait (Sleep ticks) = refl
limit-wait Char = refl
limit-wait Line = refl
limit-wait (Room places) = refl
limit-wait (Queue limit ac) = refl

pub limit-rested : (o : Option Job) → limit_in (R o) ≡ limit_in o
limit-rested None = refl
limit-rested (Some j) = limit-wait j.wait

-- the erased machine is safe
rest-queue : (wait : Wait) → is_queue wait ≡ true → is_queue (rested_wait wait) ≡ true
rest-queue Nothing h = h
rest-queue (Sleep ticks) h = cc
rest-queue Char h = h
rest-queue Line h = h
rest-queue (Room places) h = h
rest-queue (Queue limit ac) h = h

rest-ac : (wait : Wait) → HasAccumulator wait → HasAccumulator (rested_wait wait)
rest-ac Nothing h = h
rest-ac (Sleep ticks) h = tt
rest-ac Char h = h
rest-ac Line h = h
rest-ac (Room places) h = h
rest-ac (Queue limit ac) h = h

rest-range : (o : Option Job) → InRange o → InRange (R o)
rest-range None h = h
rest-range (Some j) h = (h.0, h.1, h.2, rest-ac j.wait h.3)

rest-some : (o : Option Job) → is_some (R o) ≡ is_some o
rest-some None = refl
rest-some (Some j) = refl

rest-line : (o : Option Job) → line_of (R o) ≡ line_of o
rest-line None = refl
rest-line (Some j) = refl

rest-waits : (o : Option Job) → is_queue (wait_of o) ≡ true → is_queue (wait_of (R o)) ≡ true
rest-waits None h = h
rest-waits (Some j) h = rest-queue j.wait h

mild-rested : Mild R
mild-rested = record { none = refl; some = rest-some; wait = rest-waits; line = rest-line }

pub safe-erased : (v : V) → IsSound v → IsSound (erased v)
safe-erased v h =
    let w : World = v.machine.world in
    let same : SameJobs w.table.jobs (map R w.table.jobs) = same-mapped R w.table.jobs mild-rested in
    record {
      housed = housed-same w.table.jobs (map R w.table.jobs) w.cores same h.housed;
      queued = queued-mapped w.size R w.table.jobs w.requests mild-rested h.queued;
      apart = apart-kept w.table.jobs (map R w.table.jobs) (lines-same w.table.jobs (map R w.table.jobs) same) h.apart;
      total = h.total;
      most = h.most;
      rings = h.rings;
      numbers = below-kept w.table.jobs (map R w.table.jobs) (lines-same w.table.jobs (map R w.table.jobs) same) h.numbers;
      ranges = ranges-map R w.table.jobs rest-range h.ranges;
    }

pub erased_is_awake : (v : V) → IsSound v → IsAwake (erased v)
erased_is_awake v h = record { sound = safe-erased v h; awake = erased-twice v }

pub begun_is_awake : BegunIsAwake
begun_is_awake v h = erased_is_awake v h
