-- Jobs that ask for one lock at a time by rising levels are granted in time.
use Rattle.std.proofs.Common.{◌≡◌, ◌≤◌, ◌<◌, ◌∙◌, ◌⊎◌, sym, ap, subst, ℕ, zero, suc, ◌+◌, ◌-◌, ◌*◌, ◌==◌, nat_lt, ◌&&◌, Bool, true, false}
use Rattle.std.proofs.Common.{cond, List, [], ◌∷◌, length, filter, Option, Some, None, refl, arith, inl, inr}
use Rattle.std.proofs.lemmas.Bool.{and_parts, and_from, eqb-true, eq-eqb, lt-ltb, ltb-true, not-true, not_from_false}
use Rattle.lock_queue.specs.declared.key.Key.{Key}
use Rattle.lock_queue.specs.declared.request.Request.{Request}
use Rattle.lock_queue.specs.declared.want.Want.{Want}
use Rattle.lock_queue.specs.Jobs.{is_blocked, is_blocking, is_waiting_job}
use Rattle.lock_queue.specs.Queue.{chosen, granted_behind}
use Rattle.lock_queue.proofs.Fitting.{names-found}
use Rattle.lock_queue.proofs.Lists.{Has}
use Rattle.lock_laws.specs.Owning.{owns}
use Rattle.lock_laws.proofs.Granting.{Kin, kin}
use Rattle.lock_laws.proofs.Invariant.{kept-safe}
use Rattle.lock_laws.proofs.Positions.{Has-middle, chosen-Has, Has-chosen}
use Rattle.lock_laws.proofs.WaitSteps.{Waits, waits_found}
use Rattle.lock_laws.proofs.Words.{Contains-Has, Has-Contains}
use Rattle.machine.specs.declared.event.Event.{Event}
use Rattle.machine.specs.Alone.{is_ran}
use Rattle.machine.specs.Along.{Always, Along}
use Rattle.machine.specs.Machine.{S, happens}
use Rattle.machine.specs.Safe.{Safe}
use Rattle.monitor_laws.proofs.Safety.{safe-happens}
use Rattle.progress_laws.specs.Fronts.{wants_key, in_front}
use Rattle.progress_laws.specs.Levels.{IsPlain, HasLevels, HasFew, OwnersGoOn, turn_below, IsGrantedByLevels}
use Rattle.progress_laws.specs.Rounds.{rounds_from, MayRun, HasJobs, KeepsTime}
use Rattle.progress_laws.specs.Together.{is_for, ahead, IsWithout, IsWantedAlone, steps_owning, GivenUpWithin}
use Rattle.progress_laws.specs.Wakes.{IsWellFormed}
use Rattle.progress_laws.proofs.Blocked.{BlockedFor, IsPlainList, OneWant, one-want, SomeKey, waits-for-key, blocked-waits}
use Rattle.progress_laws.proofs.Blocked.{blocked-wanted, blocked-without, blocked-once, blocked-rises}
use Rattle.progress_laws.proofs.Circles.{times-less, times-one-less}
use Rattle.progress_laws.proofs.Counting.{turn, begun_after, counted, rounds-cons, owes, owed-falls, quantum-kept}
use Rattle.progress_laws.proofs.Holders.{holder, First, first-of, first-granted, head-some, Stays}
use Rattle.progress_laws.proofs.Running.{owed, always-first, time_is_kept}
use Rattle.progress_laws.proofs.Together.{Stage, stage-any, stage-owns, stage-head, stage-least, stage-most, stage-owed, stage-begun}
use Rattle.progress_laws.proofs.Together.{stage-moves, fewer-ahead, one-step, no-step, steps-more, steps-few, whole}
use Rattle.progress_laws.proofs.Waited.{still-blocked}
use Rattle.progress_laws.proofs.WellFormed.{well_is_kept}

-- the key for which a job waits
abbrev key_of_wants : List Want → Option Key
key_of_wants [] = None
key_of_wants (w ∷ ws) = Some w.key

abbrev key_of : List Request → Option Key
key_of [] = None
key_of (r ∷ rs) = key_of_wants r.wants.items

abbrev blocked_key : ℕ → List Request → Option Key
blocked_key j requests = key_of (chosen (is_blocked j) requests)

key-of-one : (r : Request) (w : Want) → r.wants.items ≡ w ∷ [] → key_of_wants r.wants.items ≡ Some w.key
key-of-one r w is = ap key_of_wants is

key-found : (j : ℕ) (key : Key) (requests : List Request) → IsPlainList requests → blocked_key j requests ≡ Some key → BlockedFor j key requests
key-found j key requests plain found = go (chosen (is_blocked j) requests) refl found
  where
    go : (l : List Request) → chosen (is_blocked j) requests ≡ l → key_of l ≡ Some key → BlockedFor j key requests
    go [] is e = absurd (cc)
    go (r ∷ rs) is e =
        let c = chosen-Has (is_blocked j) [] requests r (subst (λ l. Has l r) (sym is) (inl refl)) in
        let one : OneWant r = one-want requests r plain (subst (λ l. Has l r) (sym c.split.is) (Has-middle c.split.before c.split.after r)) in
        let same : Some one.want.key ≡ Some key = sym (key-of-one r one.want one.is) ∙ e in
        let p = and_parts (r.job == j && is_blocking r.kind) _ c.passes in
        let q = and_parts (r.job == j) (is_blocking r.kind) p.0 in
        record {
          before = c.split.before;
          request = r;
          later = c.split.after;
          want = one.want;
          is = c.split.is;
          by = eqb-true r.job j q.0;
          blocking = q.1;
          late = not-true (granted_behind c.split.before r) p.1;
          wants = one.is;
          key_is = cc;
        }

key-none : (j : ℕ) (requests : List Request) → IsPlainList requests → blocked_key j requests ≡ None → is_waiting_job requests j ≡ true → ⊥
key-none j requests plain none waits = go (chosen (is_blocked j) requests) refl none
  where
    w : Waits requests j
    w = waits_found requests j waits

    there : Has (chosen (is_blocked j) requests) w.request
    there =
        subst (λ l. Has (chosen (is_blocked j) l) w.request) (sym w.is)
        (Has-chosen (is_blocked j) [] w.before w.after w.request
        (and_from _ _ (and_from _ _ (eq-eqb w.request.job j w.by) w.blocking) (not_from_false _ w.late)))

    go : (l : List Request) → chosen (is_blocked j) requests ≡ l → key_of l ≡ None → ⊥
    go [] is e = subst (λ l. Has l w.request) is there
    go (r ∷ rs) is e =
        let c = chosen-Has (is_blocked j) [] requests r (subst (λ l. Has l r) (sym is) (inl refl)) in
        let one : OneWant r = one-want requests r plain (subst (λ l. Has l r) (sym c.split.is) (Has-middle c.split.before c.split.after r)) in
        let same : Some one.want.key ≡ None = sym (key-of-one r one.want one.is) ∙ e in
        cc

-- sums
sum-of : (a b c d : ℕ) → a + (b + c + d) ≤ (a + b) + c + d
sum-of a b c d = omega arith

over-of : (x a b c : ℕ) → x ≤ c → x ≤ a + b + c
over-of x a b c h = omega arith

last-of : (x a b : ℕ) → x ≤ b → x ≤ a + b
last-of x a b h = omega arith

both-of : (x a b c : ℕ) → x + a ≤ b → x + (a + c) ≤ b + c
both-of x a b c h = omega arith

along-of : (x a b c d : ℕ) → x ≡ a + b → b ≤ c → a + c ≤ d → x ≤ d
along-of x a b c d e h k = omega (arith, e)

with-of : (x a b c : ℕ) → x ≤ b + c → x ≤ a + b + c
with-of x a b c h = omega arith

abbrev clock_by : Option Key → ℕ → ℕ → (Key → ℕ) → ℕ
clock_by None once owing wait = owing
clock_by (Some key) once owing wait = wait key + once

-- how many of some levels are above one
abbrev above_in : List ℕ → ℕ → ℕ
above_in [] l = 0
above_in (m ∷ ms) l = cond (nat_lt l m) 1 0 + above_in ms l

one-above : (l m k : ℕ) → l ≤ m → cond (nat_lt m k) 1 0 ≤ cond (nat_lt l k) 1 0
one-above l m k less = go (nat_lt m k) refl
  where
    go : (b : Bool) → nat_lt m k ≡ b → cond b 1 0 ≤ cond (nat_lt l k) 1 0
    go false e = omega arith
    go true e =
        let high : m < k = ltb-true m k e in
        let up : nat_lt l k ≡ true = lt-ltb l k (omega arith) in
        subst (λ (b : Bool). 1 ≤ cond {A = ℕ} b 1 0) (sym up) (omega arith)

no-more-above : (ms : List ℕ) (l m : ℕ) → l ≤ m → above_in ms m ≤ above_in ms l
no-more-above [] l m less = omega arith
no-more-above (k ∷ ms) l m less = omega (arith, one-above l m k less, no-more-above ms l m less)

self-above : (m k : ℕ) → k ≡ m → ◌≡◌ {A = ℕ} (cond (nat_lt m k) 1 0) 0
self-above m k same = go (nat_lt m k) refl
  where
    go : (b : Bool) → nat_lt m k ≡ b → ◌≡◌ {A = ℕ} (cond b 1 0) 0
    go false e = refl
    go true e = absurd (let high : m < k = ltb-true m k e in omega (arith, same))

is-above : (l k : ℕ) → l < k → ◌≡◌ {A = ℕ} (cond (nat_lt l k) 1 0) 1
is-above l k less = ap (λ (b : Bool). cond {A = ℕ} b 1 0) (lt-ltb l k less)

-- fewer are above a level that is above another, and not all are above one of them
fewer-above : (ms : List ℕ) (l m : ℕ) → Has ms m → l < m → above_in ms m + 1 ≤ above_in ms l
fewer-above [] l m has less = absurd has
fewer-above (k ∷ ms) l m (inl same) less =
    let rest = no-more-above ms l m (omega arith) in
    let here = self-above m k same in
    let there = is-above l k (omega (arith, same)) in
    omega (arith, rest, here, there)
fewer-above (k ∷ ms) l m (inr has) less =
    let here = one-above l m k (omega arith) in
    let rest = fewer-above ms l m has less in
    omega (arith, here, rest)

at-most-one : (b : Bool) → cond b 1 0 ≤ 1
at-most-one true = omega arith
at-most-one false = omega arith

above-most : (ms : List ℕ) (l : ℕ) → above_in ms l ≤ length ms
above-most [] l = omega arith
above-most (k ∷ ms) l = omega (arith, at-most-one (nat_lt l k), above-most ms l)

above-length : (ms : List ℕ) (l : ℕ) → Has ms l → above_in ms l + 1 ≤ length ms
above-length [] l has = absurd has
above-length (k ∷ ms) l (inl same) = omega (arith, self-above l k same, above-most ms l)
above-length (k ∷ ms) l (inr has) = omega (arith, at-most-one (nat_lt l k), above-length ms l has)

module _ (test : ℕ → Bool) (q most few : ℕ) (levels : List ℕ) (some : 1 ≤ most) where
  -- what is known at each moment of the run
  record Ground (s : S) : Type 0 where
    safe : Safe s
    time : KeepsTime s
    well : IsWellFormed s
    quantum : s.quantum ≡ q
    plain : IsPlain s
    leveled : HasLevels levels s
    few_there : HasFew few s
    has : HasJobs test s

  alone-of : (s : S) → Ground s → (key : Key) → IsWantedAlone key s
  alone-of s g key r has named =
      let one : OneWant r = one-want s.world.requests r g.plain (Contains-Has s.world.requests r has) in
      omega (arith, ap length one.is)

  stage-of : (n : ℕ) (key : Key) (s : S) → Ground s → IsWithout n key s → Stage n key test q s
  stage-of n key s g w = record {
    safe = g.safe;
    time = g.time;
    well = g.well;
    quantum = g.quantum;
    alone = alone-of s g key;
    without = w;
    has = g.has;
  }

  without-of : (j : ℕ) (key : Key) (s : S) → Ground s → BlockedFor j key s.world.requests → IsWithout j key s
  without-of j key s g b = record {
    wanted = blocked-wanted j key s.world.requests b;
    without = blocked-without j key s.world.requests g.safe.queued.safe b;
  }

  abbrev held : Key → S → ℕ
  held key s = holder key s.world.requests

  abbrev once : ℕ
  once = turn test q

  abbrev cost : ℕ → ℕ
  cost d = turn_below once few most d

  -- all wants of a key have at most so many levels above them
  abbrev Above : ℕ → Key → S → Type 0
  Above d key s = (r : Request) (w : Want) → Has s.world.requests r → Has r.wants.items w → w.key ≡ key → above_in levels w.level ≤ d

  -- so many turns, and the clock of the holder
  abbrev pot_by : (Bool → ℕ → S → List Event → ℕ) → ℕ → Bool → ℕ → Key → S → List Event → ℕ
  pot_by C m b n key s es = C b (held key s) s es + steps_owning (held key s) key s es * m + (ahead n key s - 1) * (most * m)

  -- the rounds that can go by before an owner makes a step: until it runs, or until it is granted what it waits for, and then
  -- runs
  abbrev clock : ℕ → Bool → ℕ → S → List Event → ℕ
  clock zero b j s es = owed b test j s
  clock (suc d) b j s es =
      clock_by (blocked_key j s.world.requests) once (owed b test j s) (λ k. pot_by (clock d) (cost d) b j k s es)

  abbrev AllGiven : S → List Event → Type 0
  AllGiven s es = (k : Key) → GivenUpWithin most k s es

  -- what a clock is to do
  record Clocked (d : ℕ) : Type 0 where
    low : (s : S) (es : List Event) (n : ℕ) (key : Key) → Ground s → IsWithout n key s → Above d key s → AllGiven s es
        → clock d false (held key s) s es + 1 ≤ cost d
    high : (s : S) (es : List Event) (n : ℕ) (key : Key) → Ground s → IsWithout n key s → Above d key s → AllGiven s es
        → clock d true (held key s) s es ≤ cost d
    falls : (b : Bool) (s : S) (e : Event) (es : List Event) (n : ℕ) (key : Key) → Ground s → Ground (happens s e).state → IsWithout n key s
        → IsWithout n key (happens s e).state → Above d key s → Above d key (happens s e).state → OwnersGoOn s e → AllGiven (happens s e).state es
        → held key (happens s e).state ≡ held key s → is_ran (held key s) (happens s e).answer ≡ false
        → counted b e + clock d (begun_after b e) (held key s) (happens s e).state es ≤ clock d b (held key s) s (e ∷ es)

  -- the levels above the key that a holder waits for
  record Held (key : Key) (s : S) : Type 0 where
    first : First key s.world.requests
    want : Want
    has : Has first.request.wants.items want
    key_is : want.key ≡ key
    granted : granted_behind first.before first.request ≡ true

  held-by : (n : ℕ) (key : Key) (s : S) → Ground s → IsWithout n key s → Held key s
  held-by n key s g w =
      let f : First key s.world.requests = first-of key s.world.requests (stage-any n key test q s (stage-of n key s g w)) in
      let v = names-found f.request.wants.items key f.named in
      record {
        first = f;
        want = v.0;
        has = v.1;
        key_is = v.2;
        granted = first-granted key s.world.requests g.well (λ r has named. alone-of s g key r (Has-Contains s.world.requests r has) named) f;
      }

  held-rises : (n : ℕ) (key other : Key) (s : S) (g : Ground s) (w : IsWithout n key s)
      (b : BlockedFor (held key s) other s.world.requests)
      → (held-by n key s g w).want.level < b.want.level
  held-rises n key other s g w b =
      let h : Held key s = held-by n key s g w in
      blocked-rises (held key s) other s.world.requests h.first.before h.first.later h.first.request h.want g.safe.queued.safe
      g.safe.queued.latest g.plain b h.first.is (sym h.first.job) h.granted h.has

  held-in : (n : ℕ) (key : Key) (s : S) (g : Ground s) (w : IsWithout n key s) → Has s.world.requests (held-by n key s g w).first.request
  held-in n key s g w =
      let h : Held key s = held-by n key s g w in
      subst (λ l. Has l h.first.request) (sym h.first.is) (Has-middle h.first.before h.first.later h.first.request)

  level-in : (s : S) → Ground s → (r : Request) (w : Want) → Has s.world.requests r → Has r.wants.items w → Has levels w.level
  level-in s g r w has wants = Contains-Has levels w.level (g.leveled r w (Has-Contains s.world.requests r has) (Has-Contains r.wants.items w wants))

  -- at the highest level nobody waits who owns
  top-waits-not : (n : ℕ) (key other : Key) (s : S) → Ground s → IsWithout n key s → Above 0 key s → BlockedFor (held key s) other s.world.requests → ⊥
  top-waits-not n key other s g w above b =
      let h : Held key s = held-by n key s g w in
      let up = held-rises n key other s g w b in
      let most_level = above h.first.request h.want (held-in n key s g w) h.has h.key_is in
      let here : Has s.world.requests b.request = subst (λ l. Has l b.request) (sym b.is) (Has-middle b.before b.later b.request) in
      let mine : Has b.request.wants.items b.want = subst (λ l. Has l b.want) (sym b.wants) (inl refl) in
      let fewer = fewer-above levels h.want.level b.want.level (level-in s g b.request b.want here mine) up in
      omega (arith, fewer, most_level)

  above-next : (d n : ℕ) (key other : Key) (s : S) → Ground s → IsWithout n key s → Above (suc d) key s
      → BlockedFor (held key s) other s.world.requests
      → Above d other s
  above-next d n key other s g w above b r v has wants named =
      let h : Held key s = held-by n key s g w in
      let up = held-rises n key other s g w b in
      let most_level = above h.first.request h.want (held-in n key s g w) h.has h.key_is in
      let here : Has s.world.requests b.request = subst (λ l. Has l b.request) (sym b.is) (Has-middle b.before b.later b.request) in
      let mine : Has b.request.wants.items b.want = subst (λ l. Has l b.want) (sym b.wants) (inl refl) in
      let alike : Kin v b.want =
      kin s.world.requests (kept-safe s.world.size s.world.requests g.safe.queued.safe).ordered r b.request v b.want has here
      wants mine (named ∙ sym b.key_is) in
      let fewer = fewer-above levels h.want.level b.want.level (level-in s g b.request b.want here mine) up in
      let most_other : above_in levels b.want.level ≤ d = omega (arith, fewer, most_level) in
      subst (λ (l : ℕ). above_in levels l ≤ d) (sym alike.level) most_other

  -- at most as many stand in front as there are
  front-length : (job : ℕ) (key : Key) (requests : List Request) → length (filter (is_for key) (in_front (wants_key job key) requests)) ≤ length requests
  front-length job key [] = omega arith
  front-length job key (r ∷ rs) = go (wants_key job key r) (is_for key r) (front-length job key rs)
    where
      front : List Request
      front = in_front (wants_key job key) rs

      go : (b c : Bool) → length (filter (is_for key) front) ≤ length rs → length (filter (is_for key) (cond b [] (r ∷ front))) ≤ suc (length rs)
      go true c h = omega arith
      go false c h = by-for (is_for key r) h
        where
          by-for : (c : Bool) → length (filter (is_for key) front) ≤ length rs
              → length (cond c (r ∷ filter (is_for key) front) (filter (is_for key) front)) ≤ suc (length rs)
          by-for true h = omega (arith, h)
          by-for false h = omega (arith, h)

  ahead-few : (n : ℕ) (key : Key) (s : S) → Ground s → ahead n key s ≤ few
  ahead-few n key s g = omega (arith, front-length n key s.world.requests, g.few_there)

  -- all that can go by for one that is without a key
  module _ (d : ℕ) (k : Clocked d) where
    abbrev pot : Bool → ℕ → Key → S → List Event → ℕ
    pot b n key s es = pot_by (clock d) (cost d) b n key s es

    pot-low : (s : S) (es : List Event) (n : ℕ) (key : Key) → Ground s → IsWithout n key s → Above d key s → AllGiven s es
        → pot false n key s es + 1 ≤ ahead n key s * (most * cost d)
    pot-low s es n key g w above given =
        let low = k.low s es n key g w above given in
        let steps = steps-few most (held key s) key s es some (given key) in
        let one = head-some n key s.world.requests (stage-head n key test q s (stage-of n key s g w)) in
        let all : pot false n key s es < ahead n key s * (most * cost d) =
        whole (pot false n key s es) (clock d false (held key s) s es) (steps_owning (held key s) key s es) (ahead n key s) most
        (cost d) low steps one (omega arith) in
        omega (arith, all)

    pot-high : (s : S) (es : List Event) (n : ℕ) (key : Key) → Ground s → IsWithout n key s → Above d key s → AllGiven s es
        → pot true n key s es ≤ ahead n key s * (most * cost d)
    pot-high s es n key g w above given =
        let high = k.high s es n key g w above given in
        let steps = steps-few most (held key s) key s es some (given key) in
        let one = head-some n key s.world.requests (stage-head n key test q s (stage-of n key s g w)) in
        let p : steps_owning (held key s) key s es * cost d + cost d ≤ most * cost d =
        times-one-less (steps_owning (held key s) key s es) most (cost d) steps in
        let r : (ahead n key s - 1) * (most * cost d) + most * cost d ≤ ahead n key s * (most * cost d) =
        times-one-less (ahead n key s - 1) (ahead n key s) (most * cost d) (omega (arith, one)) in
        omega (arith, high, p, r)

    pot-falls : (b : Bool) (s : S) (e : Event) (es : List Event) (n : ℕ) (key : Key) → Ground s → Ground (happens s e).state → IsWithout n key s
        → IsWithout n key (happens s e).state → Above d key s → Above d key (happens s e).state → OwnersGoOn s e → AllGiven (happens s e).state es
        → counted b e + pot (begun_after b e) n key (happens s e).state es ≤ pot b n key s (e ∷ es)
    pot-falls b s e es n key g h w v above over goes given =
        let u : S = (happens s e).state in
        let owing : counted b e + clock d (begun_after b e) (held key u) u es ≤ cost d =
        owes (λ c. clock d c (held key u) u es) (cost d) b e (k.low u es n key h v over given) (k.high u es n key h v over given) in
        let steps = steps-few most (held key u) key u es some (given key) in
        let gs = stage-of n key s g w in
        let gu = stage-of n key u h v in
        go owing steps gs gu (stage-moves n key test q s e gs gu) (is_ran (held key s) (happens s e).answer) refl
      where
        more : Stays n key s.world.requests (happens s e).state.world.requests
            → steps_owning (held key s) key s (e ∷ es)
            ≡ cond (is_ran (held key s) (happens s e).answer) 1 0 + steps_owning (held key s) key (happens s e).state es
        more t =
            steps-more (held key s) key s e es (stage-owns n key test q s (stage-of n key s g w))
            (subst (λ (j : ℕ). owns (happens s e).state.world.requests j key ≡ true) t.same
            (stage-owns n key test q (happens s e).state (stage-of n key (happens s e).state h v)))

        go : counted b e + clock d (begun_after b e) (held key (happens s e).state) (happens s e).state es ≤ cost d
            → steps_owning (held key (happens s e).state) key (happens s e).state es + 1 ≤ most
            → Stage n key test q s → Stage n key test q (happens s e).state
            → Stays n key s.world.requests (happens s e).state.world.requests ⊎ (ahead n key (happens s e).state + 1 ≤ ahead n key s)
            → (c : Bool) → is_ran (held key s) (happens s e).answer ≡ c
            → counted b e + pot (begun_after b e) n key (happens s e).state es ≤ pot b n key s (e ∷ es)
        go owing steps gs gu (inr fewer) c ran =
            let u : S = (happens s e).state in
            let one : 1 ≤ ahead n key u = head-some n key u.world.requests (stage-head n key test q u gu) in
            let all : counted b e + pot (begun_after b e) n key u es ≤ (ahead n key s - 1) * (most * cost d) =
            fewer-ahead (counted b e + pot (begun_after b e) n key u es)
            (counted b e + clock d (begun_after b e) (held key u) u es) (steps_owning (held key u) key u es)
            (ahead n key u) (ahead n key s) most (cost d) owing steps one fewer
            (sum-of (counted b e) (clock d (begun_after b e) (held key u) u es) (steps_owning (held key u) key u es * cost d)
            ((ahead n key u - 1) * (most * cost d))) in
            over-of (counted b e + pot (begun_after b e) n key u es) (clock d b (held key s) s (e ∷ es))
            (steps_owning (held key s) key s (e ∷ es) * cost d) ((ahead n key s - 1) * (most * cost d)) all
        go owing steps gs gu (inl t) true ran =
            let u : S = (happens s e).state in
            let is : steps_owning (held key s) key s (e ∷ es) ≡ 1 + steps_owning (held key u) key u es =
            more t ∙ ap (λ (c : Bool). cond c 1 0 + steps_owning (held key s) key u es) ran ∙ ap (λ (j : ℕ). 1 + steps_owning j key u es) (sym t.same) in
            let all : counted b e + pot (begun_after b e) n key u es
            ≤ (1 + steps_owning (held key u) key u es) * cost d + (ahead n key s - 1) * (most * cost d) =
            one-step (counted b e + pot (begun_after b e) n key u es) (counted b e + clock d (begun_after b e) (held key u) u es)
            (steps_owning (held key u) key u es)
            (ahead n key u) (ahead n key s) (most * cost d) (cost d) owing t.fewer
            (sum-of (counted b e) (clock d (begun_after b e) (held key u) u es) (steps_owning (held key u) key u es * cost d)
            ((ahead n key u - 1) * (most * cost d))) in
            let with : counted b e + pot (begun_after b e) n key u es
            ≤ steps_owning (held key s) key s (e ∷ es) * cost d + (ahead n key s - 1) * (most * cost d) =
            subst (λ (x : ℕ). counted b e + pot (begun_after b e) n key u es ≤ x * cost d + (ahead n key s - 1) * (most * cost d)) (sym is) all in
            with-of (counted b e + pot (begun_after b e) n key u es) (clock d b (held key s) s (e ∷ es))
            (steps_owning (held key s) key s (e ∷ es) * cost d) ((ahead n key s - 1) * (most * cost d)) with
        go owing steps gs gu (inl t) false ran =
            let u : S = (happens s e).state in
            let less : counted b e + clock d (begun_after b e) (held key u) u es ≤ clock d b (held key s) s (e ∷ es) =
            subst (λ (j : ℕ). counted b e + clock d (begun_after b e) j u es ≤ clock d b (held key s) s (e ∷ es)) (sym t.same)
            (k.falls b s e es n key g h w v above over goes given t.same ran) in
            let is : steps_owning (held key s) key s (e ∷ es) ≡ 0 + steps_owning (held key u) key u es =
            more t ∙ ap (λ (c : Bool). cond c 1 0 + steps_owning (held key s) key u es) ran ∙ ap (λ (j : ℕ). 0 + steps_owning j key u es) (sym t.same) in
            no-step (counted b e + pot (begun_after b e) n key u es) (counted b e + clock d (begun_after b e) (held key u) u es)
            (clock d b (held key s) s (e ∷ es))
            (steps_owning (held key u) key u es) (steps_owning (held key s) key s (e ∷ es)) (ahead n key u) (ahead n key s) (most * cost d) (cost d)
            less (omega (arith, is)) t.fewer
            (sum-of (counted b e) (clock d (begun_after b e) (held key u) u es) (steps_owning (held key u) key u es * cost d)
            ((ahead n key u - 1) * (most * cost d)))

  -- a holder that cannot wait
  clocked-zero : Clocked 0
  clocked-zero = record {
    low = λ s es n key g w above given. stage-owed n key test q s (stage-of n key s g w);
    high = λ s es n key g w above given. stage-begun n key test q s (stage-of n key s g w);
    falls = λ b s e es n key g h w v above over goes given same other.
        owed-falls b test s e (held key s) (stage-least n key test q s (stage-of n key s g w)) (stage-most n key test q s (stage-of n key s g w))
        (may n key s e g w above goes) g.has g.time.some_ticks other;
  }
    where
      may : (n : ℕ) (key : Key) (s : S) (e : Event) → Ground s → IsWithout n key s → Above 0 key s → OwnersGoOn s e → MayRun (held key s) s e
      may n key s e g w above goes = elim (goes (held key s) key (stage-owns n key test q s (stage-of n key s g w))) [
        | inl waits ↦
            let o : SomeKey (held key s) s.world.requests = waits-for-key (held key s) s.world.requests g.plain waits in
            absurd (top-waits-not n key o.key s g w above o.blocked)
        | inr runs ↦ runs
      ]

  -- a holder that may wait for keys of higher levels
  module _ (d : ℕ) (k : Clocked d) where
    few-pot : (s : S) (j : ℕ) (key : Key) → Ground s → ahead j key s * (most * cost d) ≤ few * (most * cost d)
    few-pot s j key g = times-less (ahead j key s) few (most * cost d) (ahead-few j key s g)

    low-next : (s : S) (es : List Event) (n : ℕ) (key : Key) → Ground s → IsWithout n key s → Above (suc d) key s → AllGiven s es → (o : Option Key)
        → blocked_key (held key s) s.world.requests ≡ o
        → clock_by o once (owed false test (held key s) s) (λ other. pot_by (clock d) (cost d) false (held key s) other s es) + 1 ≤ cost (suc d)
    low-next s es n key g w above given None is =
        let low = stage-owed n key test q s (stage-of n key s g w) in
        omega (arith, low)
    low-next s es n key g w above given (Some other) is =
        let b : BlockedFor (held key s) other s.world.requests = key-found (held key s) other s.world.requests g.plain is in
        let low = pot-low d k s es (held key s) other g (without-of (held key s) other s g b) (above-next d n key other s g w above b) given in
        omega (arith, low, few-pot s (held key s) other g)

    high-next : (s : S) (es : List Event) (n : ℕ) (key : Key) → Ground s → IsWithout n key s → Above (suc d) key s → AllGiven s es → (o : Option Key)
        → blocked_key (held key s) s.world.requests ≡ o
        → clock_by o once (owed true test (held key s) s) (λ other. pot_by (clock d) (cost d) true (held key s) other s es) ≤ cost (suc d)
    high-next s es n key g w above given None is =
        let high = stage-begun n key test q s (stage-of n key s g w) in
        omega (arith, high)
    high-next s es n key g w above given (Some other) is =
        let b : BlockedFor (held key s) other s.world.requests = key-found (held key s) other s.world.requests g.plain is in
        let high = pot-high d k s es (held key s) other g (without-of (held key s) other s g b) (above-next d n key other s g w above b) given in
        omega (arith, high, few-pot s (held key s) other g)

    falls-next : (b : Bool) (s : S) (e : Event) (es : List Event) (n : ℕ) (key : Key) → Ground s → Ground (happens s e).state → IsWithout n key s
        → IsWithout n key (happens s e).state → Above (suc d) key s → Above (suc d) key (happens s e).state → OwnersGoOn s e → AllGiven (happens s e).state es
        → held key (happens s e).state ≡ held key s → is_ran (held key s) (happens s e).answer ≡ false → (o p : Option Key)
        → blocked_key (held key s) s.world.requests ≡ o → blocked_key (held key s) (happens s e).state.world.requests ≡ p
        → counted b e
        + clock_by p once (owed (begun_after b e) test (held key s) (happens s e).state)
        (λ other. pot_by (clock d) (cost d) (begun_after b e) (held key s) other (happens s e).state es)
        ≤ clock_by o once (owed b test (held key s) s) (λ other. pot_by (clock d) (cost d) b (held key s) other s (e ∷ es))
    falls-next b s e es n key g h w v above over goes given same other None None is at =
        owed-falls b test s e (held key s) (stage-least n key test q s (stage-of n key s g w))
        (stage-most n key test q s (stage-of n key s g w)) may g.has g.time.some_ticks other
      where
        may : MayRun (held key s) s e
        may = elim (goes (held key s) key (stage-owns n key test q s (stage-of n key s g w))) [
          | inl waits ↦ absurd (key-none (held key s) s.world.requests g.plain is waits)
          | inr runs ↦ runs
        ]
    falls-next b s e es n key g h w v above over goes given same other (Some one) None is at =
        let u : S = (happens s e).state in
        let gu = stage-of n key u h v in
        let owing : counted b e + owed (begun_after b e) test (held key u) u ≤ once =
        owes (λ c. owed c test (held key u) u) once b e (stage-owed n key test q u gu) (stage-begun n key test q u gu) in
        let here : counted b e + owed (begun_after b e) test (held key s) u ≤ once =
        subst (λ (j : ℕ). counted b e + owed (begun_after b e) test j u ≤ once) same owing in
        last-of (counted b e + owed (begun_after b e) test (held key s) u) (pot_by (clock d) (cost d) b (held key s) one s (e ∷ es)) once here
    falls-next b s e es n key g h w v above over goes given same other None (Some two) is at =
        let u : S = (happens s e).state in
        let later : BlockedFor (held key s) two u.world.requests = key-found (held key s) two u.world.requests h.plain at in
        let was : BlockedFor (held key s) two s.world.requests = still-blocked s e (held key s) two g.safe h.safe g.plain other later in
        absurd (key-none (held key s) s.world.requests g.plain is (blocked-waits (held key s) two s.world.requests was))
    falls-next b s e es n key g h w v above over goes given same other (Some one) (Some two) is at =
        let u : S = (happens s e).state in
        let j : ℕ = held key s in
        let later : BlockedFor j two u.world.requests = key-found j two u.world.requests h.plain at in
        let was : BlockedFor j two s.world.requests = still-blocked s e j two g.safe h.safe g.plain other later in
        let had : BlockedFor j one s.world.requests = key-found j one s.world.requests g.plain is in
        let it : two ≡ one = blocked-once j two one s.world.requests g.safe.queued.latest was had in
        let held_later : BlockedFor (held key u) two u.world.requests = subst (λ (i : ℕ). BlockedFor i two u.world.requests) (sym same) later in
        let less : counted b e + pot_by (clock d) (cost d) (begun_after b e) j two u es ≤ pot_by (clock d) (cost d) b j two s (e ∷ es) =
        pot-falls d k b s e es j two g h (without-of j two s g was) (without-of j two u h later)
        (above-next d n key two s g w above was) (above-next d n key two u h v over held_later) goes given in
        let whole_less : counted b e + pot_by (clock d) (cost d) (begun_after b e) j two u es ≤ pot_by (clock d) (cost d) b j one s (e ∷ es) =
        subst (λ (x : Key). counted b e + pot_by (clock d) (cost d) (begun_after b e) j two u es ≤ pot_by (clock d) (cost d) b j x s (e ∷ es)) it less in
        both-of (counted b e) (pot_by (clock d) (cost d) (begun_after b e) j two u es) (pot_by (clock d) (cost d) b j one s (e ∷ es)) once whole_less

    clocked-next : Clocked (suc d)
    clocked-next = record {
      low = λ s es n key g w above given. low-next s es n key g w above given (blocked_key (held key s) s.world.requests) refl;
      high = λ s es n key g w above given. high-next s es n key g w above given (blocked_key (held key s) s.world.requests) refl;
      falls = λ b s e es n key g h w v above over goes given same other.
          falls-next b s e es n key g h w v above over goes given same other (blocked_key (held key s) s.world.requests)
          (blocked_key (held key s) (happens s e).state.world.requests) refl refl;
    }

  clocked : (d : ℕ) → Clocked d
  clocked zero = clocked-zero
  clocked (suc d) = clocked-next d (clocked d)

  -- along the run
  record Course (n : ℕ) (key : Key) (s : S) (es : List Event) : Type 0 where
    without : Always (IsWithout n key) s es
    plain : Always IsPlain s es
    leveled : Always (HasLevels levels) s es
    few_there : Always (HasFew few) s es
    goes : Along OwnersGoOn s es
    given : AllGiven s es
    has : Always (HasJobs test) s es

  course-next : (n : ℕ) (key : Key) (s : S) (e : Event) (es : List Event) → Course n key s (e ∷ es) → Course n key (happens s e).state es
  course-next n key s e es c = record {
    without = λ k. c.without (suc k);
    plain = λ k. c.plain (suc k);
    leveled = λ k. c.leveled (suc k);
    few_there = λ k. c.few_there (suc k);
    goes = c.goes.1;
    given = λ k. (c.given k).1;
    has = λ k. c.has (suc k);
  }

  ground-of : (n : ℕ) (key : Key) (s : S) (es : List Event) → Safe s → KeepsTime s → IsWellFormed s → s.quantum ≡ q → Course n key s es → Ground s
  ground-of n key s es safe time well same c = record {
    safe = safe;
    time = time;
    well = well;
    quantum = same;
    plain = always-first IsPlain s es c.plain;
    leveled = always-first (HasLevels levels) s es c.leveled;
    few_there = always-first (HasFew few) s es c.few_there;
    has = always-first (HasJobs test) s es c.has;
  }

  ground-next : (n : ℕ) (key : Key) (s : S) (e : Event) (es : List Event) → Ground s → Course n key s (e ∷ es) → Ground (happens s e).state
  ground-next n key s e es g c =
      ground-of n key (happens s e).state es (safe-happens s e g.safe) (time_is_kept s e g.time) (well_is_kept s e g.safe g.well)
      (quantum-kept s e ∙ g.quantum) (course-next n key s e es c)

  above-all : (key : Key) (s : S) → Ground s → Above (length levels - 1) key s
  above-all key s g r w has wants named =
      let less = above-length levels w.level (level-in s g r w has wants) in
      omega (arith, less)

  goes-on : (d : ℕ) → d ≡ length levels - 1 → (b : Bool) (n : ℕ) (key : Key) (s : S) (es : List Event) → Ground s → Course n key s es
      → rounds_from b es ≤ pot_by (clock d) (cost d) b n key s es
  goes-on d is b n key s [] g c = omega arith
  goes-on d is b n key s (e ∷ es) g c =
      let u : S = (happens s e).state in
      let h : Ground u = ground-next n key s e es g c in
      let next : Course n key u es = course-next n key s e es c in
      let w : IsWithout n key s = always-first (IsWithout n key) s (e ∷ es) c.without in
      let v : IsWithout n key u = always-first (IsWithout n key) u es next.without in
      let above : (t : S) → Ground t → Above d key t = λ t gt. subst (λ (x : ℕ). Above x key t) (sym is) (above-all key t gt) in
      let less = pot-falls d (clocked d) b s e es n key g h w v (above s g) (above u h) c.goes.0 next.given in
      let rest = goes-on d is (begun_after b e) n key u es h next in
      along-of (rounds_from b (e ∷ es)) (counted b e) (rounds_from (begun_after b e) es)
      (pot_by (clock d) (cost d) (begun_after b e) n key u es) (pot_by (clock d) (cost d) b n key s (e ∷ es))
      (rounds-cons b e es) rest less

pub is_granted_by_levels : (s : S) (es : List Event) → Safe s → KeepsTime s → IsWellFormed s → IsGrantedByLevels s es
is_granted_by_levels s es safe time well n key most few levels test some without plain leveled few_there goes given has =
    let c : Course test s.quantum most few levels some n key s es = record {
      without = without;
      plain = plain;
      leveled = leveled;
      few_there = few_there;
      goes = goes;
      given = given;
      has = has;
    } in
    let g = ground-of test s.quantum most few levels some n key s es safe time well refl c in
    let d : ℕ = length levels - 1 in
    let w : IsWithout n key s = always-first (IsWithout n key) s es without in
    let low = pot-low test s.quantum most few levels some d (clocked test s.quantum most few levels some d) s es n key g w
    (above-all test s.quantum most few levels some key s g) given in
    let all = goes-on test s.quantum most few levels some d refl false n key s es g c in
    omega (arith, low, all)
