-- No wake-up is lost.
use Rattle.std.proofs.Common.{◌≡◌, ◌≢◌, ◌≤◌, ◌∙◌, sym, ap, subst, ℕ, ◌+◌, ◌==◌, ◌&&◌, nat_le, not, Bool, true, false, List, [], ◌∷◌, ◌++◌}
use Rattle.std.proofs.Common.{take, filter, sum_by, Option, Some, None, is_some, is_none, refl, arith, ◌⊎◌, inl, inr}
use Rattle.std.specs.List.{fold, list_any}
use Rattle.std.proofs.lemmas.Bool.{both_ways, and_parts, and_from, or_parts, leb-true, le-leb, eq-eqb, not_from_false}
use Rattle.lock_queue.specs.declared.request.Request.{Request}
use Rattle.lock_queue.specs.declared.want.Want.{Want}
use Rattle.lock_queue.specs.Jobs.{is_blocked, is_blocked_by, is_in_the_way, is_kept_by, is_waiting_job, waits_for}
use Rattle.lock_queue.specs.Keys.{same_key}
use Rattle.lock_queue.specs.Pools.{PoolShare}
use Rattle.lock_queue.specs.Queue.{all_wants, wants_at, requests_of, names, is_pooled, agree, amount_in}
use Rattle.lock_queue.specs.Queue.{amount_of, fits, fits_beside, granted_behind, is_granted}
use Rattle.lock_queue.specs.WellFormed.{is_right_pool, is_in_range, is_well_formed, are_well_formed}
use Rattle.lock_queue.proofs.Fitting.{same_key-eq}
use Rattle.lock_queue.proofs.Lists.{Has, Has-left, Has-right, Has-filter, filter-Has, Has-map, Has-flat_map, flat_map-Has, list_all-Has}
use Rattle.lock_queue.proofs.Lists.{list_all-each, list_all-fails, list_any-Has, list_any-found, flat_map-append, Pairs, Pairs-across}
use Rattle.lock_queue.proofs.WellKept.{wants_in_range}
use Rattle.lock_laws.specs.Claims.{claim_of, claims_of, claims, AreApart}
use Rattle.lock_laws.specs.Safe.{Safe as SafeRequests}
use Rattle.lock_laws.proofs.Positions.{slice_get-Has, some-split}
use Rattle.lock_laws.proofs.WaitSteps.{Waits, waits_found}
use Rattle.lock_laws.proofs.Words.{AllPairs-Pairs, Has-Contains}
use Rattle.tty_lines.specs.Rings.{Rings}
use Rattle.job_sched.specs.Limits.{is_queue}
use Rattle.job_sched.specs.Ready.{holds, is_ready_job}
use Rattle.job_sched.specs.Tables.{job_at}
use Rattle.job_sched.specs.declared.job.Job.{Job}
use Rattle.job_sched.specs.declared.job.Stop.{Stop}
use Rattle.job_sched.specs.declared.job.Wait.{Wait}
use Rattle.job_sched.specs.declared.job.Wait.TheVariants.{None as Nothing, Sleep, Char, Line, Room, Queue}
use Rattle.machine.specs.declared.event.Event.{Event}
use Rattle.machine.specs.Limits.{IsGranted, IsTimedOut, ticks_in}
use Rattle.machine.specs.Machine.{S, after}
use Rattle.machine.specs.Safe.{Safe}
use Rattle.monitor_laws.proofs.Limiting.{limits_are_kept}
use Rattle.progress_laws.proofs.Places.{or-behind}
use Rattle.progress_laws.specs.Wakes.{FirstIsGranted, HasRoom, WhoHasRoomIsGranted, WaitersWaitForOthers}
use Rattle.progress_laws.specs.Wakes.{GrantedAreReady, IsReadyUnlessStopped, NobodyWaitsPastALimit}

-- a request that is there has pools that are right
pub right-pool : (requests : List Request) (r : Request) (w : Want) → are_well_formed requests ≡ true → Has requests r
    → Has r.wants.items w
    → is_right_pool w.pool ≡ true
right-pool requests r w well has wants =
    let range = wants_in_range r (list_all-Has is_well_formed requests r well has) in
    (and_parts _ (is_right_pool w.pool) (list_all-Has is_in_range r.wants.items w range wants)).1

-- no want of a key is there
filter-none : (test : Want → Bool) (ws : List Want) → list_any test ws ≡ false → filter test ws ≡ []
filter-none test [] h = refl
filter-none test (w ∷ ws) h =
    let p = or_parts (test w) (list_any test ws) h in
    let rest : filter test ws ≡ [] = filter-none test ws p.1 in
    rw (p.0, rest) refl

fits-alone : (w : Want) (o : Option PoolShare) → is_right_pool o ≡ true → fits_beside [] w o ≡ true
fits-alone w None right = refl
fits-alone w (Some share) right =
    let p = and_parts (nat_le 1 share.amount) _ right in
    let q = and_parts (nat_le share.amount share.size) _ p.1 in
    let low : share.amount ≤ share.size = leb-true share.amount share.size q.0 in
    le-leb (0 + share.amount) share.size (omega arith)

pub granted-alone : (earlier : List Request) (r : Request) → ((w : Want) → Has r.wants.items w → is_right_pool w.pool ≡ true)
    → ((w : Want) → Has r.wants.items w → names (all_wants earlier) w.key ≡ false) → granted_behind earlier r ≡ true
granted-alone earlier r right alone =
    list_all-each (fits earlier) r.wants.items (λ w wants.
    let none : wants_at earlier w.key ≡ [] = filter-none _ (all_wants earlier) (alone w wants) in
    ap (λ l. fits_beside l w w.pool) none ∙ fits-alone w w.pool (right w wants))

pub first_is_granted : (requests : List Request) → are_well_formed requests ≡ true → FirstIsGranted requests
first_is_granted requests well i r at alone =
    let has : Has requests r = slice_get-Has requests i r at in
    ap (is_granted (take i requests)) at
    ∙ granted-alone (take i requests) r (λ w wants. right-pool requests r w well has wants) (λ w wants. alone w (Has-Contains r.wants.items w wants))

-- a want for which there is room fits
fits-room : (earlier : List Request) (w : Want) → HasRoom earlier w → fits earlier w ≡ true
fits-room earlier w (inl h) =
    ap (fits_beside (wants_at earlier w.key) w) h.0
    ∙ list_all-each (λ v. agree v w) (wants_at earlier w.key) (λ v has. h.1 v (Has-Contains (wants_at earlier w.key) v has))
fits-room earlier w (inr h) =
    ap (fits_beside (wants_at earlier w.key) w) h.1 ∙ le-leb (sum_by amount_of (wants_at earlier w.key) + h.0.amount) h.0.size h.2

pub who_has_room_is_granted : (requests : List Request) → WhoHasRoomIsGranted requests
who_has_room_is_granted requests i r at room =
    ap (is_granted (take i requests)) at
    ∙ list_all-each (fits (take i requests)) r.wants.items (λ w wants. fits-room (take i requests) w (room w (Has-Contains r.wants.items w wants)))

-- a want that does not fit has one in its way
sum-from : (ws : List Want) (n : ℕ) → list_any is_pooled ws ≡ false → fold (λ a w. a + amount_of w) n ws ≡ n
sum-from [] n h = refl
sum-from (w ∷ ws) n h =
    let p = or_parts (is_pooled w) (list_any is_pooled ws) h in
    let e : n + amount_of w ≡ n = ap (λ (k : ℕ). n + k) (none-of w.pool p.0) ∙ omega arith in
    ap (λ (k : ℕ). fold (λ a w. a + amount_of w) k ws) e ∙ sum-from ws n p.1
  where
    none-of : (o : Option PoolShare) → is_some o ≡ false → amount_in o ≡ 0
    none-of None h = refl
    none-of (Some share) h = absurd (cc)

record InTheWay (ws : List Want) (w : Want) : Type 0 where
  want : Want
  has : Has ws want
  stands : is_in_the_way want w ≡ true

in-the-way : (ws : List Want) (w : Want) (o : Option PoolShare) → is_right_pool o ≡ true → fits_beside ws w o ≡ false → InTheWay ws w
in-the-way ws w None right late =
    let f = list_all-fails (λ v. agree v w) ws late in
    record { want = f.0; has = f.1; stands = or-behind (is_pooled f.0) (not (agree f.0 w)) (not_from_false _ f.2) }
in-the-way ws w (Some share) right late = go (list_any is_pooled ws) refl
  where
    go : (b : Bool) → list_any is_pooled ws ≡ b → InTheWay ws w
    go true is =
        let f = list_any-found is_pooled ws is in
        let p : is_pooled f.0 ≡ true = f.2 in
        record { want = f.0; has = f.1; stands = rw p refl }
    go false is =
        let sum : sum_by amount_of ws ≡ 0 = sum-from ws 0 is in
        let p = and_parts (nat_le 1 share.amount) _ right in
        let q = and_parts (nat_le share.amount share.size) _ p.1 in
        let low : share.amount ≤ share.size = leb-true share.amount share.size q.0 in
        let fit : nat_le (sum_by amount_of ws + share.amount) share.size ≡ true = le-leb (sum_by amount_of ws + share.amount) share.size (omega arith) in
        absurd (both_ways _ late fit)

-- whose it is: no job wants a key twice
other-than : {size : ℕ} (requests : List Request) (n : ℕ) (f : Waits requests n) (s : Request) (v w : Want)
    → SafeRequests size requests → Has f.before s
    → Has s.wants.items v
    → Has f.request.wants.items w → v.key ≡ w.key → s.job ≢ n
other-than requests n f s v w safe has one two same is =
    let all : Pairs AreApart (claims requests) = AllPairs-Pairs AreApart (claims requests) safe.apart in
    let parts : Pairs AreApart (claims f.before ++ claims (f.request ∷ f.after)) =
    subst (λ l. Pairs AreApart l) (ap claims f.is ∙ flat_map-append claims_of f.before (f.request ∷ f.after)) all in
    Pairs-across AreApart (claims f.before) (claims (f.request ∷ f.after)) parts (claim_of s.job v) (claim_of f.request.job w)
    (Has-flat_map claims_of f.before s (claim_of s.job v) has (Has-map (claim_of s.job) s.wants.items v one))
    (Has-left (claims_of f.request) (claims f.after) (claim_of f.request.job w) (Has-map (claim_of f.request.job) f.request.wants.items w two))
    (is ∙ sym f.by) same

pub waiters_wait_for_others : {size : ℕ} (requests : List Request) → are_well_formed requests ≡ true → SafeRequests size requests
    → WaitersWaitForOthers requests
waiters_wait_for_others requests well safe n waits =
    let f : Waits requests n = waits_found requests n waits in
    let r : Request = f.request in
    let here : Has requests r = subst (λ l. Has l r) (sym f.is) (Has-right f.before (r ∷ f.after) r (inl refl)) in
    let late = list_all-fails (fits f.before) r.wants.items f.late in
    let w : Want = late.0 in
    let v : InTheWay (wants_at f.before w.key) w = in-the-way (wants_at f.before w.key) w w.pool (right-pool requests r w well here late.1) late.2 in
    let k = filter-Has (λ u. same_key u.key w.key) (all_wants f.before) v.want v.has in
    let s = flat_map-Has (λ r. r.wants.items) f.before v.want k.1 in
    let other : ℕ = s.0.job in
    let mine : is_blocked n f.before r ≡ true = and_from _ _ (and_from _ _ (eq-eqb r.job n f.by) f.blocking) (not_from_false _ f.late) in
    let kept : list_any (λ u. is_in_the_way u w) (wants_at (requests_of f.before other) w.key) ≡ true =
    list_any-Has (λ u. is_in_the_way u w) (wants_at (requests_of f.before other) w.key) v.want v.stands
    (Has-filter (λ u. same_key u.key w.key) (all_wants (requests_of f.before other)) v.want k.0
    (Has-flat_map (λ r. r.wants.items) (requests_of f.before other) s.0 v.want
    (Has-filter (λ r. r.job == other) f.before s.0 (eq-eqb s.0.job other refl) s.1) s.2)) in
    let by : is_kept_by other f.before w ≡ true = and_from _ _ (not_from_false _ late.2) kept in
    let blocked : is_blocked_by n other f.before r ≡ true = and_from _ _ mine (list_any-Has (is_kept_by other f.before) r.wants.items w by late.1) in (
      other,
      other-than requests n f s.0 v.want w safe s.1 s.2 late.1 (same_key-eq v.want.key w.key k.0),
      subst (λ l. waits_for l n other ≡ true) (sym f.is) (some-split (is_blocked_by n other) [] f.before f.after r blocked),
    )

-- the wait of a job that waits for no grant any more does not hold
queue-free : (lines : List Rings) (requests : List Request) (n line : ℕ) (w : Wait) → is_queue w ≡ true → is_waiting_job requests n ≡ false
    → holds lines requests n line w ≡ false
queue-free lines requests n line (Queue limit ac) is free = free
queue-free lines requests n line Nothing is free = refl
queue-free lines requests n line (Sleep ticks) is free = absurd (cc)
queue-free lines requests n line Char is free = absurd (cc)
queue-free lines requests n line Line is free = absurd (cc)
queue-free lines requests n line (Room places) is free = absurd (cc)

-- who waited for a grant and has it is ready
pub granted_are_ready : (s : S) → GrantedAreReady s
granted_are_ready s n j at stop wait free =
    let requests = s.world.requests in
    ap (is_ready_job s.world.lines requests n) at
    ∙ ap (λ (o : Option Stop). is_none o && not (holds s.world.lines requests n j.line j.wait)) stop
    ∙ ap not (queue-free s.world.lines requests n j.line j.wait wait free)

-- the job of a wait that has ended is ready
same-job : (o : Option Job) (i j : Job) → o ≡ Some i → o ≡ Some j → i ≡ j
same-job o i j e f = let g : Some i ≡ Some j = sym e ∙ f in cc

ready-ended : (s : S) (n : ℕ) (before : Job) (limit ac ticks : ℕ)
    → IsGranted s.world n before limit ac ticks ⊎ IsTimedOut s.world n before limit ac ticks → IsReadyUnlessStopped n s
ready-ended s n before limit ac ticks (inl g) j at stop =
    let same : g.job ≡ j = same-job (job_at s.world.table.jobs n) g.job j g.there at in
    granted_are_ready s n j at stop (ap (λ (i : Job). is_queue i.wait) (sym same) ∙ ap is_queue g.wait) g.over
ready-ended s n before limit ac ticks (inr g) j at stop =
    let same : g.job ≡ j = same-job (job_at s.world.table.jobs n) g.job j g.there at in
    let wait : j.wait ≡ Nothing = ap (λ (i : Job). i.wait) (sym same) ∙ g.wait in
    ap (is_ready_job s.world.lines s.world.requests n) at
    ∙ ap (λ (o : Option Stop). is_none o && not (holds s.world.lines s.world.requests n j.line j.wait)) stop
    ∙ ap (λ (w : Wait). not (holds s.world.lines s.world.requests n j.line w)) wait

pub nobody_waits_past_a_limit : (s : S) (events : List Event) → Safe s → NobodyWaitsPastALimit s events
nobody_waits_past_a_limit s events safe n limit ac j w some spared enough =
    let o = limits_are_kept s events safe n limit ac j w some spared enough in
    (o.0, o.1, ready-ended (after (take o.0 events) s) n j limit ac (ticks_in (take o.0 events)) o.1)
