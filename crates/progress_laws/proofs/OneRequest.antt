-- A job that waits by one request is granted in time, where nobody waits for more than it holds.
use Rattle.std.proofs.Common.{◌≡◌, ◌≤◌, ◌∙◌, ◌⊎◌, sym, ap, subst, ℕ, suc, ◌+◌, ◌-◌, ◌*◌, ◌&&◌, ◌==◌, not, nat_le, Bool, true}
use Rattle.std.proofs.Common.{false, cond, List, [], ◌∷◌, length, is_some, refl, arith, inl, inr}
use Rattle.std.specs.List.{list_any}
use Rattle.std.proofs.lemmas.Bool.{both_ways, and_parts, eqb-true}
use Rattle.word36.specs.declared.sizes.TheConstants.{JOBS, LOCKS_A_CALL}
use Rattle.lock_queue.specs.declared.key.Key.{Key}
use Rattle.lock_queue.specs.declared.request.Request.{Request}
use Rattle.lock_queue.specs.declared.want.Want.{Want}
use Rattle.lock_queue.specs.Dequeues.{has_wants}
use Rattle.lock_queue.specs.Queue.{granted_behind, names}
use Rattle.lock_queue.specs.WellFormed.{is_job as is_job_number, are_right_wants, are_well_formed, is_well_formed}
use Rattle.lock_queue.proofs.Fitting.{names-Has}
use Rattle.lock_queue.proofs.Lists.{Has, list_all-Has}
use Rattle.lock_laws.specs.Owning.{owns}
use Rattle.job_sched.specs.Tables.{job_at}
use Rattle.machine.specs.declared.event.Event.{Event}
use Rattle.machine.specs.Alone.{is_ran}
use Rattle.machine.specs.Along.{Always, Along}
use Rattle.machine.specs.Machine.{S, happens}
use Rattle.machine.specs.Safe.{Safe}
use Rattle.monitor_laws.proofs.Housing.{is_job}
use Rattle.monitor_laws.proofs.Safety.{safe-happens}
use Rattle.progress_laws.specs.Arrivals.{front_of}
use Rattle.progress_laws.specs.Fronts.{IsSameButSharing, Remains, wants_key, in_front}
use Rattle.progress_laws.specs.OneRequest.{IsGrantedByOneRequest}
use Rattle.progress_laws.specs.Rounds.{rounds_from, rounds_in, MayRun, HasJobs, KeepsTime}
use Rattle.progress_laws.specs.Thinning.{Thinned}
use Rattle.progress_laws.specs.Together.{IsWithout, OwnersMayRun, steps_owning, GivenUpWithin}
use Rattle.progress_laws.specs.Wakes.{IsWellFormed}
use Rattle.progress_laws.proofs.Counting.{turn, begun_after, counted, rounds-cons, owes, owed-falls, owed-most, begun-most, quantum-kept}
use Rattle.progress_laws.proofs.Holders.{owns-by}
use Rattle.progress_laws.proofs.Places.{false-of, front_thins_over, names-remain}
use Rattle.progress_laws.proofs.Running.{owed, always-first, time_is_kept}
use Rattle.progress_laws.proofs.Thinning.{thin-first}
use Rattle.progress_laws.proofs.Together.{owner-has, fewer-ahead, one-step, no-step, steps-more, steps-few, whole}
use Rattle.progress_laws.proofs.Wakes.{granted-alone, right-pool}
use Rattle.progress_laws.proofs.WellFormed.{well_is_kept}

-- the first request of all, which stands in front of one by which job n wants a key and does not own it
record Leader (n : ℕ) (key : Key) (requests : List Request) : Type 0 where
  first : Request
  more : List Request
  front : in_front (wants_key n key) requests ≡ first ∷ more
  -- its job owns what it wants, and it wants something
  owner : (k : Key) → names first.wants.items k ≡ true → owns requests first.job k ≡ true
  some_key : Key
  named : names first.wants.items some_key ≡ true

first-want : (ws : List Want) → not (length ws == 0) ≡ true → (w : Want) × Has ws w
first-want [] some = absurd (both_ways false refl some)
first-want (w ∷ ws) some = (w, inl refl)

some-want : (r : Request) → is_well_formed r ≡ true → (w : Want) × Has r.wants.items w
some-want r well =
    let front = (and_parts _ (are_right_wants r.wants.items) well).0 in
    let number = (and_parts (is_job_number r.job) (has_wants r && nat_le (length r.wants.items) LOCKS_A_CALL) front).1 in
    first-want r.wants.items (and_parts (has_wants r) (nat_le (length r.wants.items) LOCKS_A_CALL) number).0

granted-first : (r : Request) (rs : List Request) → are_well_formed (r ∷ rs) ≡ true → granted_behind [] r ≡ true
granted-first r rs well =
    granted-alone [] r (λ w wants. right-pool (r ∷ rs) r w well (inl refl) wants) (λ w wants. refl)

leader-of : (n : ℕ) (key : Key) (requests : List Request) → are_well_formed requests ≡ true → list_any (wants_key n key) requests ≡ true
    → owns requests n key ≡ false → Leader n key requests
leader-of n key [] well any without = absurd (both_ways false refl any)
leader-of n key (r ∷ rs) well any without =
    let granted : granted_behind [] r ≡ true = granted-first r rs well in
    let w = some-want r (list_all-Has is_well_formed (r ∷ rs) r well (inl refl)) in
    let other : wants_key n key r ≡ false =
    false-of (wants_key n key r) (λ mine.
    let p = and_parts (r.job == n) (names r.wants.items key) mine in
    both_ways (owns (r ∷ rs) n key) without (owns-by (r ∷ rs) [] rs r n key refl (eqb-true r.job n p.0) p.1 granted)) in
    record {
      first = r;
      more = in_front (wants_key n key) rs;
      front = ap (λ b. cond b [] (r ∷ in_front (wants_key n key) rs)) other;
      owner = λ k names_it. owns-by (r ∷ rs) [] rs r r.job k refl refl names_it granted;
      some_key = w.0.key;
      named = names-Has r.wants.items w.0.key w.0 w.1 refl;
    }

module _ (n : ℕ) (key : Key) (test : ℕ → Bool) (q most : ℕ) (some : 1 ≤ most) where
  -- what is known at each moment of the run
  record Stage (s : S) : Type 0 where
    safe : Safe s
    time : KeepsTime s
    well : IsWellFormed s
    quantum : s.quantum ≡ q
    without : IsWithout n key s
    has : HasJobs test s
    leader : Leader n key s.world.requests

  -- what is premised of it
  record Course (s : S) (es : List Event) : Type 0 where
    without : Always (IsWithout n key) s es
    may : (k : Key) → Along (OwnersMayRun k) s es
    gives : (k : Key) → GivenUpWithin most k s es
    has : Always (HasJobs test) s es

  stage-of : (s : S) (es : List Event) → Safe s → KeepsTime s → IsWellFormed s → s.quantum ≡ q → Course s es → Stage s
  stage-of s es safe time well same c =
      let w : IsWithout n key s = always-first (IsWithout n key) s es c.without in
      record {
        safe = safe;
        time = time;
        well = well;
        quantum = same;
        without = w;
        has = always-first (HasJobs test) s es c.has;
        leader = leader-of n key s.world.requests well w.wanted w.without;
      }

  course-next : (s : S) (e : Event) (es : List Event) → Course s (e ∷ es) → Course (happens s e).state es
  course-next s e es c = record {
    without = λ k. c.without (suc k);
    may = λ k. (c.may k).1;
    gives = λ k. (c.gives k).1;
    has = λ k. c.has (suc k);
  }

  stage-next : (s : S) (e : Event) (es : List Event) → Stage s → Course s (e ∷ es) → Stage (happens s e).state
  stage-next s e es g c =
      stage-of (happens s e).state es (safe-happens s e g.safe) (time_is_kept s e g.time) (well_is_kept s e g.safe g.well)
      (quantum-kept s e ∙ g.quantum) (course-next s e es c)

  -- the job of the first request is there, and is owed a turn at most
  abbrev led_by : (s : S) → Stage s → ℕ
  led_by s g = g.leader.first.job

  led-there : (s : S) (g : Stage s) → is_some (job_at s.world.table.jobs (led_by s g)) ≡ true
  led-there s g =
      g.safe.queued.live (led_by s g)
      (owner-has g.leader.some_key s.world.requests (led_by s g) (g.leader.owner g.leader.some_key g.leader.named))

  led-owed : (s : S) (g : Stage s) → owed false test (led_by s g) s + 1 ≤ turn test q
  led-owed s g = owed-most test q s (led_by s g) g.safe g.time g.quantum g.has (led-there s g)

  led-begun : (s : S) (g : Stage s) → owed true test (led_by s g) s ≤ turn test q
  led-begun s g = begun-most test q s (led_by s g) g.safe g.time g.quantum g.has (led-there s g)

  abbrev in_line : S → ℕ
  in_line s = length (front_of n key s)

  some-in-line : (s : S) → Stage s → 1 ≤ in_line s
  some-in-line s g = omega (arith, ap length g.leader.front)

  -- over an event the first request stays, or fewer are left
  moves : (s : S) (e : Event) (g : Stage s) (h : Stage (happens s e).state)
      → (Remains IsSameButSharing g.leader.first h.leader.first × (in_line (happens s e).state ≤ in_line s)) ⊎ (in_line (happens s e).state + 1 ≤ in_line s)
  moves s e g h = go (thin-first (Remains IsSameButSharing) thin h.leader.first h.leader.more h.leader.front)
    where
      u : S
      u = (happens s e).state

      thin : Thinned (Remains IsSameButSharing) (g.leader.first ∷ g.leader.more) (front_of n key u)
      thin =
          subst (λ l. Thinned (Remains IsSameButSharing) l (front_of n key u)) g.leader.front
          (front_thins_over s e g.safe n key g.without.wanted h.without.wanted)

      go : (Remains IsSameButSharing g.leader.first h.leader.first × (length (front_of n key u) ≤ suc (length g.leader.more)))
          ⊎ (length (front_of n key u) ≤ length g.leader.more)
          → (Remains IsSameButSharing g.leader.first h.leader.first × (in_line u ≤ in_line s)) ⊎ (in_line u + 1 ≤ in_line s)
      go (inl t) = inl (t.0, omega (arith, t.1, ap length g.leader.front))
      go (inr t) = inr (omega (arith, t, ap length g.leader.front))

  -- The most rounds that can go by, where the job of the first request has so many steps with one of its locks before it.
  abbrev limit : Bool → (s : S) → Stage s → Key → List Event → ℕ
  limit b s g k es = owed b test (led_by s g) s + steps_owning (led_by s g) k s es * turn test q + (in_line s - 1) * (most * turn test q)

  -- so many can go by, counted by one of its locks
  abbrev Goes : Bool → (s : S) → Stage s → List Event → Type 0
  Goes b s g es = (k : Key) × (names g.leader.first.wants.items k ≡ true) × (rounds_from b es ≤ limit b s g k es)

  module _ (b : Bool) (s : S) (e : Event) (es : List Event) (g : Stage s) (c : Course s (e ∷ es)) (h : Stage (happens s e).state) where
    abbrev u : S
    u = (happens s e).state

    -- the first request is another
    leads : Goes (begun_after b e) u h es → in_line u + 1 ≤ in_line s → Goes b s g (e ∷ es)
    leads t fewer =
        let k : Key = g.leader.some_key in
        let owing : counted b e + owed (begun_after b e) test (led_by u h) u ≤ turn test q =
        owes (λ d. owed d test (led_by u h) u) (turn test q) b e (led-owed u h) (led-begun u h) in
        let few = steps-few most (led_by u h) t.0 u es some ((c.gives t.0).1) in
        let all : counted b e + rounds_from (begun_after b e) es ≤ (in_line s - 1) * (most * turn test q) =
        fewer-ahead (counted b e + rounds_from (begun_after b e) es) (counted b e + owed (begun_after b e) test (led_by u h) u)
        (steps_owning (led_by u h) t.0 u es) (in_line u) (in_line s) most (turn test q) owing few (some-in-line u h) fewer (omega (arith, t.2)) in
        (k, g.leader.named, omega (arith, rounds-cons b e es, all))

    -- it stays the first: the lock is one of those that it had before
    stays-first : (t : Goes (begun_after b e) u h es) → Remains IsSameButSharing g.leader.first h.leader.first → in_line u ≤ in_line s
        → (ran : Bool) → is_ran (led_by s g) (happens s e).answer ≡ ran → Goes b s g (e ∷ es)
    stays-first t r fewer ran is_so = (t.0, named, sum ran is_so)
      where
        named : names g.leader.first.wants.items t.0 ≡ true
        named = names-remain t.0 r.wants t.1

        here : owns s.world.requests (led_by s g) t.0 ≡ true
        here = g.leader.owner t.0 named

        later : owns u.world.requests (led_by s g) t.0 ≡ true
        later = subst (λ (j : ℕ). owns u.world.requests j t.0 ≡ true) r.job (h.leader.owner t.0 t.1)

        more : steps_owning (led_by s g) t.0 s (e ∷ es) ≡ cond (is_ran (led_by s g) (happens s e).answer) 1 0 + steps_owning (led_by u h) t.0 u es
        more =
            steps-more (led_by s g) t.0 s e es here later
            ∙ ap (λ (j : ℕ). cond (is_ran (led_by s g) (happens s e).answer) 1 0 + steps_owning j t.0 u es) (sym r.job)

        number : (1 ≤ led_by s g) × (led_by s g ≤ JOBS)
        number = is_job s.world.table.jobs s.world.cores (led_by s g) g.safe.housed (led-there s g)

        sum : (ran : Bool) → is_ran (led_by s g) (happens s e).answer ≡ ran → rounds_from b (e ∷ es) ≤ limit b s g t.0 (e ∷ es)
        sum true ran =
            let owing : counted b e + owed (begun_after b e) test (led_by u h) u ≤ turn test q =
            owes (λ d. owed d test (led_by u h) u) (turn test q) b e (led-owed u h) (led-begun u h) in
            let is : steps_owning (led_by s g) t.0 s (e ∷ es) ≡ 1 + steps_owning (led_by u h) t.0 u es =
            more ∙ ap (λ (a : Bool). cond a 1 0 + steps_owning (led_by u h) t.0 u es) ran in
            let all : counted b e + rounds_from (begun_after b e) es
            ≤ (1 + steps_owning (led_by u h) t.0 u es) * turn test q + (in_line s - 1) * (most * turn test q) =
            one-step (counted b e + rounds_from (begun_after b e) es) (counted b e + owed (begun_after b e) test (led_by u h) u)
            (steps_owning (led_by u h) t.0 u es)
            (in_line u) (in_line s) (most * turn test q) (turn test q) owing fewer (omega (arith, t.2)) in
            let with : counted b e + rounds_from (begun_after b e) es
            ≤ steps_owning (led_by s g) t.0 s (e ∷ es) * turn test q + (in_line s - 1) * (most * turn test q) =
            subst (λ (x : ℕ). counted b e + rounds_from (begun_after b e) es ≤ x * turn test q + (in_line s - 1) * (most * turn test q)) (sym is) all in
            omega (arith, rounds-cons b e es, with)
        sum false ran =
            let may : MayRun (led_by s g) s e = (c.may t.0).0 (led_by s g) here in
            let falls : counted b e + owed (begun_after b e) test (led_by s g) u ≤ owed b test (led_by s g) s =
            owed-falls b test s e (led_by s g) number.0 number.1 may g.has g.time.some_ticks ran in
            let less : counted b e + owed (begun_after b e) test (led_by u h) u ≤ owed b test (led_by s g) s =
            subst (λ (j : ℕ). counted b e + owed (begun_after b e) test j u ≤ owed b test (led_by s g) s) (sym r.job) falls in
            let is : steps_owning (led_by s g) t.0 s (e ∷ es) ≡ 0 + steps_owning (led_by u h) t.0 u es =
            more ∙ ap (λ (a : Bool). cond a 1 0 + steps_owning (led_by u h) t.0 u es) ran in
            let all =
            no-step (counted b e + rounds_from (begun_after b e) es)
            (counted b e + owed (begun_after b e) test (led_by u h) u) (owed b test (led_by s g) s)
            (steps_owning (led_by u h) t.0 u es) (steps_owning (led_by s g) t.0 s (e ∷ es)) (in_line u) (in_line s) (most * turn test q) (turn test q)
            less (omega (arith, is)) fewer (omega (arith, t.2)) in
            omega (arith, rounds-cons b e es, all)

    goes-back : Goes (begun_after b e) u h es
        → (Remains IsSameButSharing g.leader.first h.leader.first × (in_line u ≤ in_line s)) ⊎ (in_line u + 1 ≤ in_line s) → Goes b s g (e ∷ es)
    goes-back t (inl m) = stays-first t m.0 m.1 (is_ran (led_by s g) (happens s e).answer) refl
    goes-back t (inr m) = leads t m

  goes : (b : Bool) (s : S) (es : List Event) (g : Stage s) → Course s es → Goes b s g es
  goes b s [] g c = (g.leader.some_key, g.leader.named, omega arith)
  goes b s (e ∷ es) g c =
      let h : Stage (happens s e).state = stage-next s e es g c in
      goes-back b s e es g c h (goes (begun_after b e) (happens s e).state es h (course-next s e es c)) (moves s e g h)

pub is_granted_by_one_request : (s : S) (es : List Event) → Safe s → KeepsTime s → IsWellFormed s → IsGrantedByOneRequest s es
is_granted_by_one_request s es safe time well n key most test some without may gives has =
    let c : Course n key test s.quantum most some s es = record { without = without; may = may; gives = gives; has = has } in
    let g : Stage n key test s.quantum most some s = stage-of n key test s.quantum most some s es safe time well refl c in
    let j : ℕ = g.leader.first.job in
    let t = goes n key test s.quantum most some false s es g c in
    whole (rounds_in es) (owed false test j s) (steps_owning j t.0 s es) (length (front_of n key s)) most (turn test s.quantum)
    (led-owed n key test s.quantum most some s g) (steps-few most j t.0 s es some (gives t.0)) (some-in-line n key test s.quantum most some s g) t.2
