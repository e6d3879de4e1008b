-- Rounds of one job that are made at once: where all stops are at the addresses where they end, none holds between them.
use Rattle.std.specs.List.{list_all, prefix_len}
use Rattle.std.specs.Prelude.{is_none, position}
use Rattle.std.proofs.Common.{◌≡◌, ◌≢◌, ◌<◌, ◌≤◌, ◌∙◌, sym, ap, ℕ, zero, suc, ◌+◌, ◌-◌, ◌==◌, ◌&&◌, ◌||◌, ◌⊎◌, not, nat_lt, Bool, true}
use Rattle.std.proofs.Common.{false, cond, List, [], ◌∷◌, Option, Some, None, inl, inr, map, length, refl, arith}
use Rattle.std.proofs.lemmas.Bool.{and_parts, cases_lt, eq-eqb, eqb-true, false_from_ne_true, false≢true, ltb-true}
use Rattle.job_sched.specs.Tables.{job_at}
use Rattle.job_sched.specs.declared.job.Job.{Job}
use Rattle.machine.specs.Between.{Between, does_end, is_among, next_in, pc_in, pc_of, pc_on}
use Rattle.machine.specs.Machine.{S, after}
use Rattle.machine.specs.Rounds.{rounds}
use Rattle.machine.specs.Views.{job_view, view_of}
use Rattle.machine.specs.declared.view.JobView.{JobView}
use Rattle.ddt_timeline.specs.Stops.{fits, has_pc, is_at, is_at_one_of, is_job, is_met, is_met_at, is_within, noted, met_after, round, stands_at}
use Rattle.ddt_timeline.specs.declared.stops.WatchedStop.{WatchedStop}
use Rattle.ddt_timeline.specs.declared.stops.StopCondition.{StopCondition}
use Rattle.ddt_timeline.specs.declared.stops.StopCondition.TheVariants.{At, Turn, End, Word, Input}
use Rattle.ddt_timeline.proofs.RunLemmas.{rounds-one_more}

-- where a job stands

abbrev pc_is : Option ℕ → ℕ → Bool
pc_is (Some x) a = x == a
pc_is None a = false

pc-view : (s : S) (n a : ℕ) (o : Option Job) → has_pc (view_of s.world n o) a ≡ pc_is (pc_of o) a
pc-view s n a (Some j) = refl
pc-view s n a None = refl

pc-at : (s : S) (n a : ℕ) → has_pc (job_view s.world n) a ≡ pc_is (pc_in s n) a
pc-at s n a = pc-view s n a (job_at s.world.table.jobs n)

and-none : (b x : Bool) → x ≡ false → (b && x) ≡ false
and-none true x none = none
and-none false x none = refl

-- who stands at an address has its PC there
stands-pc : (v : Option JobView) (a : ℕ) → has_pc v a ≡ false → stands_at v a ≡ false
stands-pc (Some view) a elsewhere = and-none (is_none view.stop) (view.pc == a) elsewhere
stands-pc None a elsewhere = refl

-- two states in which all jobs but one stand where they stood
abbrev Near : S → S → Option ℕ → Type 0
Near s t job = (m : ℕ) → job ≢ Some m → pc_in t m ≡ pc_in s m

pc-near : (s t : S) (job : Option ℕ) (n a : ℕ) → Near s t job → job ≢ Some n → has_pc (job_view t.world n) a ≡ has_pc (job_view s.world n) a
pc-near s t job n a near other = pc-at t n a ∙ ap (λ (o : Option ℕ). pc_is o a) (near n other) ∙ sym (pc-at s n a)

-- which job it is

abbrev number_of : Option ℕ → ℕ
number_of (Some n) = n
number_of None = 0

other-job : (job : Option ℕ) (n : ℕ) → is_job job n ≡ false → job ≢ Some n
other-job (Some m) n differs e = false≢true (sym differs ∙ eq-eqb m n (ap (λ (o : Option ℕ). number_of o) e))
other-job None n differs e = cc

same-job : (job : Option ℕ) (n : ℕ) → is_job job n ≡ true → job ≡ Some n
same-job (Some m) n same = ap (λ (i : ℕ). Some i) (eqb-true m n same)
same-job None n same = absurd (false≢true same)

-- one stop

come-same : (b x y z : Bool) → (b ≡ false → y ≡ z) → (x && (b || not y)) ≡ (x && (b || not z))
come-same true x y z same = refl
come-same false x y z same = ap (λ (c : Bool). x && not c) (same refl)

-- it does not matter before which of two near states it is noted
stop-same : (addresses : List ℕ) (job : Option ℕ) (m u t : S) (stop : StopCondition) → is_at_one_of addresses stop ≡ true → Near m u job
    → is_met (is_at m stop) t job stop ≡ is_met (is_at u stop) t job stop
stop-same addresses job m u t (At n a c) within near =
    ap (λ (b : Bool). b && fits t n c) (come-same (is_job job n) (stands_at (job_view t.world n) a) (has_pc (job_view m.world n) a) (has_pc (job_view u.world n) a)
    (λ differs. sym (pc-near m u job n a near (other-job job n differs))))
stop-same addresses job m u t (Turn n) within near = absurd (false≢true within)
stop-same addresses job m u t (End n) within near = absurd (false≢true within)
stop-same addresses job m u t (Word n a w) within near = absurd (false≢true within)
stop-same addresses job m u t Input within near = absurd (false≢true within)

not-there : (addresses : List ℕ) (a : ℕ) (o : Option ℕ) → is_among addresses a ≡ true → does_end (is_among addresses) o ≡ false → pc_is o a ≡ false
not-there addresses a None within none = refl
not-there addresses a (Some x) within none =
    false_from_ne_true (x == a) (λ e. false≢true (sym none ∙ ap (λ (i : ℕ). is_among addresses i) (eqb-true x a e) ∙ within))

come-none : (b x y : Bool) → (b ≡ true → x ≡ false) → (b ≡ false → y ≡ false → x ≡ false) → (x && (b || not y)) ≡ false
come-none true x y gone kept = ap (λ (c : Bool). c && true) (gone refl)
come-none false x true gone kept = and-none x false refl
come-none false x false gone kept = ap (λ (c : Bool). c && true) (kept refl refl)

-- and it does not hold where the job that runs stands at none of the addresses, and nobody else has moved
stop-none : (addresses : List ℕ) (job : Option ℕ) (u t : S) (stop : StopCondition) → is_at_one_of addresses stop ≡ true → Near u t job
    → does_end (is_among addresses) (pc_on t job) ≡ false
    → is_met (is_at u stop) t job stop ≡ false
stop-none addresses job u t (At n a c) within near none =
    ap (λ (b : Bool). b && fits t n c) (come-none (is_job job n) (stands_at (job_view t.world n) a) (has_pc (job_view u.world n) a)
    (λ same.
    stands-pc (job_view t.world n) a
    (pc-at t n a
    ∙ not-there addresses a (pc_in t n) within
    (ap (λ (o : Option ℕ). does_end (is_among addresses) (pc_on t o)) (sym (same-job job n same)) ∙ none)))
    (λ differs before. stands-pc (job_view t.world n) a (pc-near u t job n a near (other-job job n differs) ∙ before)))
stop-none addresses job u t (Turn n) within near none = absurd (false≢true within)
stop-none addresses job u t (End n) within near none = absurd (false≢true within)
stop-none addresses job u t (Word n a w) within near none = absurd (false≢true within)
stop-none addresses job u t Input within near none = absurd (false≢true within)

-- all stops

abbrev misses : S → Option ℕ → WatchedStop → Bool
misses t job p = not (is_met_at t job p)

misses-same : (addresses : List ℕ) (job : Option ℕ) (m u t : S) (stops : List WatchedStop) → list_all (is_within addresses) stops ≡ true → Near m u job
    → prefix_len (misses t job) (map (noted m) stops) ≡ prefix_len (misses t job) (map (noted u) stops)
misses-same addresses job m u t [] within near = refl
misses-same addresses job m u t (p ∷ ps) within near =
    let both = and_parts (is_within addresses p) (list_all (is_within addresses) ps) within in
    ap (λ (b : Bool). cond (not b) (1 + prefix_len (misses t job) (map (noted m) ps)) 0) (stop-same addresses job m u t p.stop both.0 near)
    ∙ ap (λ (n : ℕ). cond (misses t job (noted u p)) (1 + n) 0) (misses-same addresses job m u t ps both.1 near)

length-noted : (m u : S) (stops : List WatchedStop) → length (map (noted m) stops) ≡ length (map (noted u) stops)
length-noted m u [] = refl
length-noted m u (p ∷ ps) = ap (λ (n : ℕ). suc n) (length-noted m u ps)

position-same : (addresses : List ℕ) (job : Option ℕ) (m u t : S) (stops : List WatchedStop) → list_all (is_within addresses) stops ≡ true → Near m u job
    → position (is_met_at t job) (map (noted m) stops) ≡ position (is_met_at t job) (map (noted u) stops)
position-same addresses job m u t stops within near =
    ap (λ (n : ℕ). cond (nat_lt n (length (map (noted m) stops))) (Some n) None) (misses-same addresses job m u t stops within near)
    ∙ ap (λ (l : ℕ). cond (nat_lt (prefix_len (misses t job) (map (noted u) stops)) l) (Some (prefix_len (misses t job) (map (noted u) stops))) None)
    (length-noted m u stops)

misses-all : (addresses : List ℕ) (job : Option ℕ) (u t : S) (stops : List WatchedStop) → list_all (is_within addresses) stops ≡ true → Near u t job
    → does_end (is_among addresses) (pc_on t job) ≡ false
    → prefix_len (misses t job) (map (noted u) stops) ≡ length (map (noted u) stops)
misses-all addresses job u t [] within near none = refl
misses-all addresses job u t (p ∷ ps) within near none =
    let both = and_parts (is_within addresses p) (list_all (is_within addresses) ps) within in
    ap (λ (b : Bool). cond (not b) (1 + prefix_len (misses t job) (map (noted u) ps)) 0) (stop-none addresses job u t p.stop both.0 near none)
    ∙ ap (λ (n : ℕ). 1 + n) (misses-all addresses job u t ps both.1 near none)
    ∙ one-more (length (map (noted u) ps))
  where
    one-more : (n : ℕ) → 1 + n ≡ suc n
    one-more n = omega arith

none-below : (n m : ℕ) → n ≡ m → cond (nat_lt n m) (Some n) None ≡ None
none-below n m same = ap (λ (b : Bool). cond b (Some n) None) (below-itself n m same)
  where
    below-itself : (n m : ℕ) → n ≡ m → nat_lt n m ≡ false
    below-itself n m same = false_from_ne_true (nat_lt n m) (λ e. let less = ltb-true n m e in absurd (omega (arith, less, same)))

position-none : (addresses : List ℕ) (job : Option ℕ) (u t : S) (stops : List WatchedStop) → list_all (is_within addresses) stops ≡ true → Near u t job
    → does_end (is_among addresses) (pc_on t job) ≡ false
    → position (is_met_at t job) (map (noted u) stops) ≡ None
position-none addresses job u t stops within near none =
    none-below (prefix_len (misses t job) (map (noted u) stops)) (length (map (noted u) stops)) (misses-all addresses job u t stops within near none)

-- rounds

-- the states between some rounds that begin in a state
abbrev pub AllBetween : S → Option ℕ → List ℕ → ℕ → Type 0
AllBetween m job addresses made = (k : ℕ) → 1 ≤ k → k < made → Between m (after (rounds k true) m) job (is_among addresses)

near-between : (m : S) (job : Option ℕ) (addresses : List ℕ) (made k : ℕ) → AllBetween m job addresses made → k < made → Near m (after (rounds k true) m) job
near-between m job addresses made zero all less = λ n other. refl
near-between m job addresses made (suc k) all less = (all (suc k) (omega arith) less).others

next-between : (m : S) (job : Option ℕ) (addresses : List ℕ) (made k : ℕ) → next_in m ≡ job → AllBetween m job addresses made → k < made
    → next_in (after (rounds k true) m) ≡ job
next-between m job addresses made zero next all less = next
next-between m job addresses made (suc k) next all less = (all (suc k) (omega arith) less).next

none-inside : (stops : List WatchedStop) (m : S) (job : Option ℕ) (addresses : List ℕ) (made k : ℕ) → list_all (is_within addresses) stops ≡ true → next_in m ≡ job
    → AllBetween m job addresses made → k + 1 < made
    → met_after stops (after (rounds k true) m) ≡ None
none-inside stops m job addresses made k within next all less =
    let u : S = after (rounds k true) m in
    let t : S = after (rounds (k + 1) true) m in
    let least : 1 ≤ k + 1 = omega arith in
    let fewer : k < made = omega (arith, less) in
    let there : Between m t job (is_among addresses) = all (k + 1) least less in
    let before : Near m u job = near-between m job addresses made k all fewer in
    let near : Near u t job = λ n other. there.others n other ∙ sym (before n other) in
    ap (λ (o : Option ℕ). position (is_met_at (round u) o) (map (noted u) stops)) (next-between m job addresses made k next all fewer)
    ∙ ap (λ (x : S). position (is_met_at x job) (map (noted u) stops)) (sym (rounds-one_more k m))
    ∙ position-none addresses job u t stops within near there.on

last-met : (stops : List WatchedStop) (m m' : S) (job stop : Option ℕ) (addresses : List ℕ) (k : ℕ) → (1 ≤ k → list_all (is_within addresses) stops ≡ true)
    → next_in m ≡ job
    → AllBetween m job addresses (k + 1) → m' ≡ after (rounds (k + 1) true) m → stop ≡ position (is_met_at m' job) (map (noted m) stops)
    → stop ≡ met_after stops (after (rounds k true) m)
last-met stops m m' job stop addresses k within next all made_so met =
    let u : S = after (rounds k true) m in
    let fewer : k < k + 1 = omega arith in
    met
    ∙ by_rounds k within (near-between m job addresses (k + 1) k all fewer)
    ∙ ap (λ (x : S). position (is_met_at x job) (map (noted u) stops)) (made_so ∙ rounds-one_more k m)
    ∙ ap (λ (o : Option ℕ). position (is_met_at (round u) o) (map (noted u) stops)) (sym (next-between m job addresses (k + 1) k next all fewer))
  where
    by_rounds : (i : ℕ) → (1 ≤ i → list_all (is_within addresses) stops ≡ true) → Near m (after (rounds i true) m) job
        → position (is_met_at m' job) (map (noted m) stops) ≡ position (is_met_at m' job) (map (noted (after (rounds i true) m)) stops)
    by_rounds zero within near = refl
    by_rounds (suc i) within near = position-same addresses job m (after (rounds (suc i) true) m) m' stops (within (omega arith)) near

pub rounds-behind : (i k : ℕ) (s : S) → after (rounds (i + k) true) s ≡ after (rounds k true) (after (rounds i true) s)
rounds-behind zero k s = let e : 0 + k ≡ k = omega arith in ap (λ (n : ℕ). after (rounds n true) s) e
rounds-behind (suc i) k s =
    let e : suc i + k ≡ suc (i + k) = omega arith in
    ap (λ (n : ℕ). after (rounds n true) s) e ∙ rounds-behind i k (after (rounds 1 true) s)

-- Some rounds behind others: the state behind them, that no stop holds between, and which one holds behind them.
pub record AtOnce (s : S) (stops : List WatchedStop) (before made : ℕ) (m m' : S) (stop : Option ℕ) : Type 0 where
  pub state : m' ≡ after (rounds (before + made) true) s
  pub none_over : ((k : ℕ) → k < before → met_after stops (after (rounds k true) s) ≡ None) → (k : ℕ) → k + 1 < before + made
      → met_after stops (after (rounds k true) s) ≡ None
  pub last : stop ≡ met_after stops (after (rounds (before + made - 1) true) s)

pub at_once : (s : S) (stops seen : List WatchedStop) (before made : ℕ) (m m' : S) (job stop : Option ℕ) (addresses : List ℕ) → m ≡ after (rounds before true) s
    → seen ≡ map (noted m) stops
    → m' ≡ after (rounds made true) m
    → next_in m ≡ job
    → 1 ≤ made
    → (2 ≤ made → list_all (is_within addresses) stops ≡ true)
    → AllBetween m job addresses made
    → stop ≡ position (is_met_at m' job) seen
    → AtOnce s stops before made m m' stop
at_once s stops seen before zero m m' job stop addresses there seen_so made_so next some within all met = absurd (omega (arith, some))
at_once s stops seen before (suc i) m m' job stop addresses there seen_so made_so next some within all met =
    let one : suc i ≡ i + 1 = omega arith in
    let last : before + suc i - 1 ≡ before + i = omega arith in
    let behind : (k : ℕ) → after (rounds (before + k) true) s ≡ after (rounds k true) m =
    λ k. rounds-behind before k s ∙ ap (λ (x : S). after (rounds k true) x) (sym there) in
    let between : AllBetween m job addresses (i + 1) = λ k least less. all k least (omega (arith, less)) in
    record {
      state = made_so ∙ sym (behind (suc i));
      none_over = λ h k less. by_order h k less (cases_lt k before);
      last =
          last-met stops m m' job stop addresses i (λ more. within (omega (arith, more))) next between
          (made_so ∙ ap (λ (n : ℕ). after (rounds n true) m) one) (met ∙ ap (λ (l : List WatchedStop). position (is_met_at m' job) l) seen_so)
          ∙ ap (λ (x : S). met_after stops x) (sym (behind i) ∙ ap (λ (n : ℕ). after (rounds n true) s) (sym last));
    }
  where
    by_order : ((k : ℕ) → k < before → met_after stops (after (rounds k true) s) ≡ None) → (k : ℕ) → k + 1 < before + suc i
        → (k < before) ⊎ (before ≤ k)
        → met_after stops (after (rounds k true) s) ≡ None
    by_order h k less (inl earlier) = h k earlier
    by_order h k less (inr later) =
        let at : before + (k - before) ≡ k = omega (arith, later) in
        let inside : k - before + 1 < suc i = omega (arith, later, less) in
        ap (λ (n : ℕ). met_after stops (after (rounds n true) s)) (sym at)
        ∙ ap (λ (x : S). met_after stops x) (rounds-behind before (k - before) s ∙ ap (λ (x : S). after (rounds (k - before) true) x) (sym there))
        ∙ none-inside stops m job addresses (suc i) (k - before) (within (omega (arith, inside))) next all inside

-- none holds behind them either
pub none_behind : (s : S) (stops : List WatchedStop) (before made : ℕ) (m m' : S) (stop : Option ℕ) → AtOnce s stops before made m m' stop → stop ≡ None
    → ((k : ℕ) → k < before → met_after stops (after (rounds k true) s) ≡ None)
    → (k : ℕ) → k < before + made → met_after stops (after (rounds k true) s) ≡ None
none_behind s stops before made m m' stop x none h k less = by_order (cases_lt (k + 1) (before + made))
  where
    by_order : (k + 1 < before + made) ⊎ (before + made ≤ k + 1) → met_after stops (after (rounds k true) s) ≡ None
    by_order (inl inside) = x.none_over h k inside
    by_order (inr end) =
        let at : before + made - 1 ≡ k = omega (arith, end, less) in
        ap (λ (n : ℕ). met_after stops (after (rounds n true) s)) (sym at) ∙ sym x.last ∙ none
