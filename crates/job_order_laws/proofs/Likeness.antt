-- A turn of a job in a machine and in the state of a run that it is like.
use Rattle.std.proofs.Common.{◌≡◌, ◌≢◌, ◌≤◌, ◌<◌, ◌∙◌, sym, ap, subst, ℕ, ◌&&◌, not, nat_lt, nat_le, Bool, true, false, cond, List, [], length, Option, Some, None, ◌⊎◌, inl, inr, is_none, is_some, refl, arith}
use Rattle.std.proofs.Common.{slice_set}
use Rattle.std.proofs.lemmas.Bool.{both_ways, cases_eq}
use Rattle.std.proofs.lemmas.List.{get_or-set_other, get_or-set_same}
use Rattle.std.specs.Option.{option_map}
use Rattle.word36.specs.declared.sizes.TheConstants.{OUTPUT_RING}
use Rattle.tty_lines.specs.Rings.{Rings, holds_line, input_of, output_of, room_of, with_output}
use Rattle.job_sched.specs.Ready.{holds, is_ready_job}
use Rattle.job_sched.specs.Tables.{job_at}
use Rattle.job_sched.specs.declared.job.Job.{Job}
use Rattle.job_sched.specs.declared.job.Stop.{Stop}
use Rattle.job_sched.specs.declared.job.Wait.{Wait}
use Rattle.job_sched.specs.declared.job.Wait.TheVariants.{None as Nothing, Sleep, Char, Line, Room, Queue}
use Rattle.uuo_calls.specs.Performed.{World}
use Rattle.uuo_calls.specs.QuotaRows.{quota_at}
use Rattle.machine.specs.Machine.{S, awake}
use Rattle.machine.specs.Safe.{InRange, Safe}
use Rattle.job_order_laws.specs.Events.{IsLike, IsLikeJob, IsLikeSlot, IsLikeWait, lifted_stop}
use Rattle.job_order_laws.specs.Places.{HasPlace, turn, with_slots}
use Rattle.job_order_laws.specs.Turned.{IsSound, V, can_run, emptied, steered, stepped_by, stepped_on, taken_off, turned}
use Rattle.job_order_laws.proofs.Commuting.{has-place, holds-requests, holds-rings, two-lines}
use Rattle.job_order_laws.proofs.LineRows.{KeptLines, is_room}
use Rattle.job_order_laws.proofs.LineTurns.{FineSlot, FullTurn, SameTurn, turn-lines, with_lines}
use Rattle.job_order_laws.proofs.OtherRows.{rings-other}
use Rattle.job_order_laws.proofs.OwnRows.{rings-set}
use Rattle.job_order_laws.proofs.Requests.{StaysFree, holds-free, turn-holds}
use Rattle.job_order_laws.proofs.Scheduling.{turn-steered}
use Rattle.job_order_laws.proofs.Slots.{turns_read_quotas_alone}
use Rattle.job_order_laws.proofs.TickTurns.{not-held}
use Rattle.job_order_laws.proofs.Turning.{there}

-- the job of a run that is like one of the machine
pub record Liked (s : S) (v : V) (n : ℕ) (i : Job) : Type 0 where
  pub job : Job
  pub at : job_at v.machine.world.table.jobs n ≡ Some job
  pub like : IsLikeJob v.machine.world n i job
  pub line : job.line ≡ i.line
  pub stop : job.stop ≡ lifted_stop i.stop

pub liked : (s : S) (v : V) (n : ℕ) (i : Job) → IsLike s v → job_at s.world.table.jobs n ≡ Some i → Liked s v n i
liked s v n i h at =
    by_slot (job_at v.machine.world.table.jobs n) refl
    (subst (λ o. IsLikeSlot v.machine.world n o (job_at v.machine.world.table.jobs n)) at (h.jobs n))
  where
    by_slot : (o : Option Job) → job_at v.machine.world.table.jobs n ≡ o → IsLikeSlot v.machine.world n (Some i) o → Liked s v n i
    by_slot None is like = absurd like
    by_slot (Some j) is like = record {
      job = j;
      at = is;
      like = like;
      line = ap (λ (x : Job). x.line) like.same;
      stop = ap (λ (x : Job). x.stop) like.same;
    }

-- and the other way
pub record Mirrored (s : S) (v : V) (n : ℕ) (j : Job) : Type 0 where
  pub job : Job
  pub at : job_at s.world.table.jobs n ≡ Some job
  pub like : IsLikeJob v.machine.world n job j
  pub line : j.line ≡ job.line
  pub stop : j.stop ≡ lifted_stop job.stop

pub mirrored : (s : S) (v : V) (n : ℕ) (j : Job) → IsLike s v → job_at v.machine.world.table.jobs n ≡ Some j → Mirrored s v n j
mirrored s v n j h at =
    by_slot (job_at s.world.table.jobs n) refl
    (subst (λ o. IsLikeSlot v.machine.world n (job_at s.world.table.jobs n) o) at (h.jobs n))
  where
    by_slot : (o : Option Job) → job_at s.world.table.jobs n ≡ o → IsLikeSlot v.machine.world n o (Some j) → Mirrored s v n j
    by_slot None is like = absurd like
    by_slot (Some i) is like = record {
      job = i;
      at = is;
      like = like;
      line = ap (λ (x : Job). x.line) like.same;
      stop = ap (λ (x : Job). x.stop) like.same;
    }

pub requests-like : (s : S) (v : V) → IsLike s v → v.machine.world.requests ≡ s.world.requests
requests-like s v h = ap (λ (m : S). m.world.requests) h.rest

-- a machine with another world, and the state of a run with another
pub framed : (s : S) (v : V) (w : World) → IsLike s v → record v.machine { world = w } ≡ record s { world = w; time = v.machine.time }
framed s v w h = ap (λ (m : S). record m { world = w }) h.rest

-- the current job does not matter
pub like-steered : (s : S) (w : World) (v : V) (current left : ℕ) → IsLike (record s { world = w }) v → IsLike (record s { world = steered current left w }) v
like-steered s w v current left h = record { jobs = h.jobs; inputs = h.inputs; outputs = h.outputs; rest = h.rest }

-- a wait that is over in the machine is over in the run
free-like : (s : S) (v : V) (n line : ℕ) (held wait : Wait) → IsLike s v → IsLikeWait v.machine.world n line held wait
    → holds s.world.lines s.world.requests n line held ≡ false → holds v.machine.world.lines v.machine.world.requests n line wait ≡ false
free-like s v n line held wait h = by_wait held
  where
    by_wait : (held : Wait) → IsLikeWait v.machine.world n line held wait → holds s.world.lines s.world.requests n line held ≡ false
        → holds v.machine.world.lines v.machine.world.requests n line wait ≡ false
    by_wait Nothing e free = subst (λ x. holds v.machine.world.lines v.machine.world.requests n line x ≡ false) (sym e) refl
    by_wait (Sleep ticks) e free = subst (λ x. holds v.machine.world.lines v.machine.world.requests n line x ≡ false) (sym e) free
    by_wait Char e free =
        subst (λ x. holds v.machine.world.lines v.machine.world.requests n line x ≡ false) (sym e)
        (ap (λ (cs : List ℕ). not (nat_lt 0 (length cs))) (sym (h.inputs line)) ∙ free)
    by_wait Line e free =
        subst (λ x. holds v.machine.world.lines v.machine.world.requests n line x ≡ false) (sym e)
        (ap (λ (cs : List ℕ). not (holds_line cs)) (sym (h.inputs line)) ∙ free)
    by_wait (Room places) e free = e
    by_wait (Queue limit ac) e free =
        subst (λ x. holds v.machine.world.lines v.machine.world.requests n line x ≡ false) (sym e)
        (ap (λ rs. holds s.world.lines rs n line (Queue limit ac)) (requests-like s v h) ∙ free)

-- a job that can run in the machine can run in the run
pub no-stop : (o : Option Stop) → is_none o ≡ true → o ≡ None
no-stop None h = refl
no-stop (Some x) h = absurd (both_ways false refl h)

pub and-first : (a b : Bool) → a && b ≡ true → a ≡ true
and-first true b h = refl
and-first false b h = h

pub record Running (s : S) (v : V) (n : ℕ) : Type 0 where
  pub job : Job
  pub at : job_at s.world.table.jobs n ≡ Some job
  pub liked : Liked s v n job
  pub stop : job.stop ≡ None
  pub stop_run : liked.job.stop ≡ None
  pub free : holds v.machine.world.lines v.machine.world.requests n liked.job.line liked.job.wait ≡ false
  pub runs : can_run v.machine.world n ≡ true

pub running : (s : S) (v : V) (n : ℕ) → IsLike s v → can_run s.world n ≡ true → Running s v n
running s v n h ready =
    let w : World = s.world in
    let x : World = v.machine.world in
    let here = there w.lines w.requests n (job_at w.table.jobs n) ready in
    let i : Job = here.0 in
    let l : Liked s v n i = liked s v n i h here.1 in
    let ready_i : is_ready_job w.lines w.requests n (Some i) ≡ true = sym (ap (is_ready_job w.lines w.requests n) here.1) ∙ ready in
    let none : i.stop ≡ None = no-stop i.stop (and-first (is_none i.stop) _ ready_i) in
    let none_run : l.job.stop ≡ None = l.stop ∙ ap lifted_stop none in
    let over : holds x.lines x.requests n i.line l.job.wait ≡ false =
    free-like s v n i.line i.wait l.job.wait h l.like.wait (not-held w.lines w.requests n i ready_i) in
    let free : holds x.lines x.requests n l.job.line l.job.wait ≡ false =
    subst (λ m. holds x.lines x.requests n m l.job.wait ≡ false) (sym l.line) over in
    record {
      job = i;
      at = here.1;
      liked = l;
      stop = none;
      stop_run = none_run;
      free = free;
      runs = ap (is_ready_job x.lines x.requests n) l.at
          ∙ ap (λ o. is_none o && not (holds x.lines x.requests n l.job.line l.job.wait)) none_run ∙ ap not free;
    }

-- what a turn reads of the slots is the same
quotas-like : (s : S) (v : V) (k : ℕ) → IsLike s v → quota_at s.world.table.jobs k ≡ quota_at v.machine.world.table.jobs k
quotas-like s v k h = by_slots (job_at s.world.table.jobs k) (job_at v.machine.world.table.jobs k) (h.jobs k)
  where
    by_slots : (o p : Option Job) → IsLikeSlot v.machine.world k o p → option_map (λ (j : Job). j.quota) o ≡ option_map (λ (j : Job). j.quota) p
    by_slots None None e = refl
    by_slots (Some i) (Some j) e = ap (λ (x : Job). Some x.quota) (sym e.same)
    by_slots None (Some j) e = absurd e
    by_slots (Some i) None e = absurd e

-- the machine's world, put together from that of the run
world-like : (s : S) (v : V) → IsLike s v
    → s.world ≡ steered s.world.table.current s.world.table.left (with_slots s.world.table.jobs (with_lines s.world.lines v.machine.world))
world-like s v h =
    sym (ap (λ (m : S). steered s.world.table.current s.world.table.left (with_slots s.world.table.jobs (with_lines s.world.lines m.world))) h.rest)

-- what a turn in the machine leaves
pub record Turns (s : S) (v : V) (n : ℕ) : Type 0 where
  pub current : ℕ
  pub left : ℕ
  pub is : turn s.world s.time n ≡ steered current left
      (with_slots (slice_set s.world.table.jobs n (job_at (turn (with_lines s.world.lines v.machine.world) v.machine.time n).table.jobs n))
      (turn (with_lines s.world.lines v.machine.world) v.machine.time n))

turns-like : (s : S) (v : V) (n : ℕ) → Safe s → IsSound v → IsLike s v → Running s v n → turn s.world s.time n ≡ turn s.world v.machine.time n → Turns s v n
turns-like s v n safe sound h r calm =
    let u : World = with_lines s.world.lines v.machine.world in
    let z : World = with_slots s.world.table.jobs u in
    let i : Job = r.job in
    let j : Job = r.liked.job in
    let moved = turn-steered z v.machine.time n s.world.table.current s.world.table.left in
    let awake_is : awake i ≡ awake j =
    ap (λ o. record i { stop = o; wait = Nothing }) (r.stop ∙ sym r.stop_run ∙ r.liked.stop) ∙ sym (ap awake r.liked.like.same) in
    let own : option_map awake (job_at s.world.table.jobs n) ≡ option_map awake (job_at u.table.jobs n) =
    ap (option_map awake) r.at ∙ ap Some awake_is ∙ sym (ap (option_map awake) r.liked.at) in
    record {
      current = moved.0;
      left = moved.1;
      is = calm
          ∙ ap (λ x. turn x v.machine.time n) (world-like s v h)
          ∙ moved.2
          ∙ ap (λ x. steered moved.0 moved.1 x)
          (turns_read_quotas_alone u s.world.table.jobs v.machine.time n (has-place v.machine n j sound r.liked.at).slot (has-place s n i safe r.at).slot
          own (λ k. quotas-like s v k h) (ap is_some r.liked.at));
    }

-- a job that does not wait for room, and was not stopped by CTRL-C, is like itself
pub self-like : (w : World) (n line : ℕ) (o : Option Job) → FineSlot line o → IsLikeSlot w n o o
self-like w n line None fine = tt
self-like w n line (Some k) fine = record { same = ap (λ o. record k { stop = o }) (sym fine.0); wait = by_wait k.wait fine.1 }
  where
    by_wait : (wait : Wait) → is_room wait ≡ false → IsLikeWait w n k.line wait wait
    by_wait Nothing e = refl
    by_wait (Sleep ticks) e = refl
    by_wait Char e = refl
    by_wait Line e = refl
    by_wait (Room places) e = absurd (both_ways true e refl)
    by_wait (Queue limit ac) e = refl

-- a job stays like another where no wait that was over holds again
pub stays-like : (w y : World) (n : ℕ) (o p : Option Job)
    → ((j : Job) → p ≡ Some j → (wait : Wait) → holds w.lines w.requests n j.line wait ≡ false → holds y.lines y.requests n j.line wait ≡ false)
    → IsLikeSlot w n o p → IsLikeSlot y n o p
stays-like w y n None None free h = tt
stays-like w y n None (Some j) free h = h
stays-like w y n (Some i) None free h = h
stays-like w y n (Some i) (Some j) free h = record { same = h.same; wait = by_wait i.wait h.wait }
  where
    by_wait : (held : Wait) → IsLikeWait w n i.line held j.wait → IsLikeWait y n i.line held j.wait
    by_wait Nothing e = e
    by_wait (Sleep ticks) e = e
    by_wait Char e = e
    by_wait Line e = e
    by_wait (Room places) e =
        let line : j.line ≡ i.line = ap (λ (x : Job). x.line) h.same in
        subst (λ m. holds y.lines y.requests n m j.wait ≡ false) line
        (free j refl j.wait (subst (λ m. holds w.lines w.requests n m j.wait ≡ false) (sym line) e))
    by_wait (Queue limit ac) e = e

-- lines whose output is taken
input-emptied : (lines : List Rings) (line l : ℕ) → line < length lines → input_of (with_output lines line []) l ≡ input_of lines l
input-emptied lines line l low = elim (cases_eq l line) [
  | inl is ↦ subst (λ m. input_of (with_output lines line []) m ≡ input_of lines m) (sym is) (ap (λ (r : Rings). r.input) (rings-set lines line _ low))
  | inr ne ↦ ap (λ (r : Rings). r.input) (rings-other lines line l _ ne)
]

output-emptied : (lines : List Rings) (line l : ℕ) → line < length lines → (l ≢ line → output_of lines l ≡ []) → output_of (with_output lines line []) l ≡ []
output-emptied lines line l low others = elim (cases_eq l line) [
  | inl is ↦ subst (λ m. output_of (with_output lines line []) m ≡ []) (sym is) (ap (λ (r : Rings). r.output) (rings-set lines line _ low))
  | inr ne ↦ ap (λ (r : Rings). r.output) (rings-other lines line l _ ne) ∙ others ne
]

-- the turn is one of the run
pub record Took (s : S) (v : V) (n : ℕ) (i j : Job) : Type 0 where
  pub state : V
  pub step : turned v n ≡ Some state
  pub like : IsLike (record s { world = turn s.world s.time n }) state
  pub kept : KeptLines j.line v.machine.world.lines s.world.lines (turn v.machine.world v.machine.time n).lines (turn s.world s.time n).lines
  pub jobs : (turn s.world s.time n).table.jobs ≡ slice_set s.world.table.jobs n (job_at (turn s.world s.time n).table.jobs n)
  pub fine : FineSlot i.line (job_at (turn s.world s.time n).table.jobs n)

-- or it found no room, and the run stays where it is
pub record Stayed (s : S) (v : V) (n : ℕ) (j : Job) : Type 0 where
  pub like : IsLike (record s { world = turn s.world s.time n }) v
  pub places : ℕ
  pub jobs : (turn s.world s.time n).table.jobs ≡ slice_set s.world.table.jobs n (Some (record j { wait = Room places }))
  pub lines : (turn s.world s.time n).lines ≡ s.world.lines
  pub few : places ≤ OUTPUT_RING
  pub none : nat_le places (room_of s.world.lines j.line) ≡ false

took : (s : S) (v : V) (n : ℕ) → Safe s → IsSound v → (h : IsLike s v) → (r : Running s v n) → (t : Turns s v n)
    → SameTurn r.liked.job.line s.world.lines v.machine.world (turn v.machine.world v.machine.time n)
    (turn (with_lines s.world.lines v.machine.world) v.machine.time n) n
    → Took s v n r.job r.liked.job
took s v n safe sound h r t same =
    let w : World = v.machine.world in
    let time : ℕ = v.machine.time in
    let j : Job = r.liked.job in
    let line : ℕ = j.line in
    let x : World = turn w time n in
    let slots : List (Option Job) = s.world.table.jobs in
    let put : List (Option Job) = slice_set slots n (job_at x.table.jobs n) in
    let y : World = steered t.current t.left (with_slots put (with_lines same.lines x)) in
    let is : turn s.world s.time n ≡ y =
    t.is ∙ ap (λ (u : World). steered t.current t.left (with_slots (slice_set slots n (job_at u.table.jobs n)) u)) same.is in
    let a : V = taken_off n line x j.regs.pc v in
    let place : HasPlace n line w = has-place v.machine n j sound r.liked.at in
    let low : n < length slots = (has-place s n r.job safe r.at).slot in
    let ring : line < length x.lines = subst (λ m. line < m) (sym same.kept.count) place.ring in
    let own : x ≡ with_slots (slice_set w.table.jobs n (job_at x.table.jobs n)) x =
    turns_read_quotas_alone w w.table.jobs time n place.slot place.slot refl (λ k. refl) (ap is_some r.liked.at) in
    let here : job_at put n ≡ job_at x.table.jobs n = get_or-set_same slots n (job_at x.table.jobs n) None low in
    let like : IsLike (record s { world = y }) a = record {
      jobs = λ m. elim (cases_eq m n) [
        | inl e ↦ subst (λ k. IsLikeSlot (emptied line x) k (job_at put k) (job_at x.table.jobs k)) (sym e)
            (subst (λ o. IsLikeSlot (emptied line x) n o (job_at x.table.jobs n)) (sym here) (self-like (emptied line x) n line (job_at x.table.jobs n) same.fine))
        | inr ne ↦ (
            let slot : job_at x.table.jobs m ≡ job_at w.table.jobs m =
            ap (λ (u : World). job_at u.table.jobs m) own ∙ get_or-set_other w.table.jobs n m _ None ne in
            subst (λ o. IsLikeSlot (emptied line x) m o (job_at x.table.jobs m)) (sym (get_or-set_other slots n m _ None ne))
            (subst (λ o. IsLikeSlot (emptied line x) m (job_at slots m) o) (sym slot)
            (stays-like w (emptied line x) m (job_at slots m) (job_at w.table.jobs m)
            (λ k at wait free.
            let apart : k.line ≢ line = two-lines v.machine n m j k sound ne r.liked.at at in
            holds-rings w.lines (emptied line x).lines x.requests m k.line wait
            (rings-other x.lines line k.line _ apart ∙ same.kept.others k.line apart)
            ∙ holds-requests w.lines w.requests x.requests m k.line wait
            (turn-holds w time n (StaysFree m) (holds-free m n (λ e. ne (sym e)))) free)
            (h.jobs m))))
      ];
      inputs = λ l. same.kept.inputs l ∙ sym (input-emptied x.lines line l ring);
      outputs = λ l. output-emptied x.lines line l ring (λ ne. ap (λ (q : Rings). q.output) (same.kept.others l ne) ∙ h.outputs l);
      rest = framed s v (emptied line x) h;
    } in
    record {
      state = a;
      step = ap (λ b. cond b (Some (stepped_on v n)) None) r.runs ∙ ap (λ o. Some (stepped_by v n o)) r.liked.at;
      like = subst (λ (u : World). IsLike (record s { world = u }) a) (sym is) like;
      kept = subst (λ (u : World). KeptLines line w.lines s.world.lines x.lines u.lines) (sym is) same.kept;
      jobs = subst (λ (u : World). u.table.jobs ≡ slice_set slots n (job_at u.table.jobs n)) (sym is) (ap (λ o. slice_set slots n o) (sym here));
      fine = subst (λ (u : World). FineSlot r.job.line (job_at u.table.jobs n)) (sym is)
          (subst (λ o. FineSlot r.job.line o) (sym here) (subst (λ l. FineSlot l (job_at x.table.jobs n)) r.liked.line same.fine));
    }

stayed : (s : S) (v : V) (n : ℕ) → Safe s → IsSound v → (h : IsLike s v) → (r : Running s v n) → (t : Turns s v n)
    → FullTurn s.world.lines v.machine.world (turn (with_lines s.world.lines v.machine.world) v.machine.time n) n r.liked.job
    → Stayed s v n r.liked.job
stayed s v n safe sound h r t full =
    let w : World = v.machine.world in
    let j : Job = r.liked.job in
    let i : Job = record j { wait = Room full.places } in
    let slots : List (Option Job) = s.world.table.jobs in
    let put : List (Option Job) = slice_set slots n (Some i) in
    let y : World = steered t.current t.left (with_slots put (with_lines s.world.lines w)) in
    let place : HasPlace n j.line w = has-place v.machine n j sound r.liked.at in
    let low : n < length slots = (has-place s n r.job safe r.at).slot in
    let is : turn s.world s.time n ≡ y =
    t.is
    ∙ ap (λ (u : World). steered t.current t.left (with_slots (slice_set slots n (job_at u.table.jobs n)) u)) full.is
    ∙ ap (λ o. steered t.current t.left (with_slots (slice_set slots n o) (with_lines s.world.lines w))) (get_or-set_same w.table.jobs n (Some i) None place.slot) in
    let calm : lifted_stop j.stop ≡ j.stop = ap lifted_stop r.stop_run ∙ sym r.stop_run in
    let like : IsLike (record s { world = y }) v = record {
      jobs = λ m. elim (cases_eq m n) [
        | inl e ↦ subst (λ k. IsLikeSlot w k (job_at put k) (job_at w.table.jobs k)) (sym e)
            (subst (λ o. IsLikeSlot w n o (job_at w.table.jobs n)) (sym (get_or-set_same slots n (Some i) None low))
            (subst (λ o. IsLikeSlot w n (Some i) o) (sym r.liked.at) (record { same = ap (λ o. record j { stop = o }) (sym calm); wait = r.free })))
        | inr ne ↦ subst (λ o. IsLikeSlot w m o (job_at w.table.jobs m)) (sym (get_or-set_other slots n m (Some i) None ne)) (h.jobs m)
      ];
      inputs = h.inputs;
      outputs = h.outputs;
      rest = framed s v w h;
    } in
    record {
      like = subst (λ (u : World). IsLike (record s { world = u }) v) (sym is) like;
      places = full.places;
      jobs = ap (λ (u : World). u.table.jobs) is;
      lines = ap (λ (u : World). u.lines) is;
      few = full.few;
      none = full.none;
    }

-- the turn of a job that can run
pub record Going (s : S) (v : V) (n : ℕ) : Type 0 where
  pub running : Running s v n
  pub goes : Took s v n running.job running.liked.job ⊎ Stayed s v n running.liked.job

pub like-turn : (s : S) (v : V) (n : ℕ) → Safe s → IsSound v → IsLike s v → can_run s.world n ≡ true
    → turn s.world s.time n ≡ turn s.world v.machine.time n → Going s v n
like-turn s v n safe sound h ready calm =
    let r : Running s v n = running s v n h ready in
    let j : Job = r.liked.job in
    let w : World = v.machine.world in
    let t : Turns s v n = turns-like s v n safe sound h r calm in
    let place : HasPlace n j.line w = has-place v.machine n j sound r.liked.at in
    let wide : j.line < length s.world.lines = omega (arith, place.ring, safe.rings, sound.rings) in
    let small : InRange (Some j) = subst (λ o. InRange o) r.liked.at (sound.ranges n) in
    record {
      running = r;
      goes = elim (turn-lines w v.machine.time n j s.world.lines r.liked.at place.slot small.0 (ap lifted_stop r.stop_run ∙ sym r.stop_run)
          (record { inputs = h.inputs; empty = h.outputs j.line; low = place.ring; high = wide })) [
            | inl same ↦ inl (took s v n safe sound h r t same)
            | inr full ↦ inr (stayed s v n safe sound h r t full)
          ];
    }
