-- The findings in all states that a search keeps hold of every run of turns and ticks.
use Rattle.std.proofs.Common.{◌≡◌, ◌≢◌, ◌<◌, ◌≤◌, ◌+◌, ◌∙◌, ℕ, Bool, true, false, cond, nat_lt, List, [], ◌∷◌, map, length, Option, Some, None, refl, sym, ap, subst, arith, inl, inr}
use Rattle.std.proofs.lemmas.Bool.{cases_lt, false≢true, lt-ltb, ltb-true}
use Rattle.std.proofs.lemmas.List.Elements.{All-weaker}
use Rattle.std.specs.List.{Contains}
use Rattle.word36.specs.declared.sizes.TheConstants.{JOBS}
use Rattle.state_search.specs.Found.{HasMore}
use Rattle.state_search.specs.declared.kept.Origin.{Origin}
use Rattle.state_search.specs.Orders.{IsNotBehind, Leads, after}
use Rattle.state_search.specs.Searched.{IsWhole, Met, way}
use Rattle.state_search.proofs.Lists.{after-none}
use Rattle.job_order_laws.specs.Choices.{choice, requests_in}
use Rattle.job_order_laws.specs.Erased.{erased}
use Rattle.job_order_laws.specs.Orders.{IsEnd, IsRun}
use Rattle.job_order_laws.specs.Turned.{IsSound, V}
use Rattle.job_moves.specs.Laws.{IsCleared, Reaches, noticed_turns}
use Rattle.job_moves.specs.Moves.{HasJobs, is_clear, next, settled}
use Rattle.job_moves.proofs.Plain.{ends_are_found, lasts_are_ends, orders_are_runs, requests_are_found}
use Rattle.job_orders.specs.declared.ends.End.{End}
use Rattle.job_orders.specs.declared.looking.GivenUp.{GivenUp}
use Rattle.job_orders.specs.declared.looking.Looked.{Looked}
use Rattle.job_orders.specs.declared.looking.Looked.TheVariants.{All as Whole, GaveUp}
use Rattle.job_orders.specs.declared.looking.Reason.{Reason}
use Rattle.job_orders.specs.declared.looking.Reason.TheVariants.{States, Typed, Limit, Clock, Turns}
use Rattle.job_orders.specs.declared.looking.Report.{Report}
use Rattle.job_orders.specs.declared.looking.Waiting.{Waiting}
use Rattle.job_orders.specs.Endings.{circle_in, ending_in, ending_of, rests}
use Rattle.job_orders.specs.declared.kept.KeptState.{KeptState}
use Rattle.job_orders.specs.declared.tables.Tables.{Tables}
use Rattle.job_orders.specs.Finding.{AreClear, AreKept, HasObstacle, HasReport, IsCircleSoFar, IsFirstEnd, IsFound, circle_at, met_at}
use Rattle.job_orders.specs.Systems.{Begun}
use Rattle.job_orders.specs.Reports.{IsCircleFound, IsCount, IsEndFound, IsGivenUpFor, IsLooked, IsObstacle, IsOrder, IsReason, IsReport, circle_of, count_of}
use Rattle.job_orders.proofs.Ended.{ending-same, ends-rest, rests-at}
use Rattle.job_orders.proofs.Moving.{no_turn}
use Rattle.job_orders.proofs.Least.{circle-leads, circle-least, end-known, end-leads, end-least, least-to, no-circle, not-longer}

some-same : {X : Type 0} (x y : X) → Some x ≡ Some y → x ≡ y
some-same x y e = cc

-- ---- moves of the search are those of the laws

module _ (most count : ℕ) where
  pub leads-reaches : (ks : List ℕ) (s t : V) → Leads count (next most count) s ks t → Reaches most count s ks t
  leads-reaches [] s t h = some-same s t h
  leads-reaches (k ∷ ks) s t h = by_number (nat_lt k count) refl h (λ a. leads-reaches ks a t)
    where
      by_move : (o : Option V) → next most count s k ≡ o → k < count → after count (next most count) o ks ≡ Some t → ((a : V) → Leads count (next most count) a ks t → Reaches most count a ks t)
          → Reaches most count s (k ∷ ks) t
      by_move None e low h rest = (let none : None ≡ Some t = sym (after-none count (next most count) ks) ∙ h in cc)
      by_move (Some a) e low h rest = (a, low, e, rest a h)

      by_number : (b : Bool) → nat_lt k count ≡ b → after count (next most count) (cond b (next most count s k) None) ks ≡ Some t → ((a : V) → Leads count (next most count) a ks t → Reaches most count a ks t)
          → Reaches most count s (k ∷ ks) t
      by_number true low h rest = by_move (next most count s k) refl (ltb-true k count low) h rest
      by_number false low h rest = (let none : None ≡ Some t = sym (after-none count (next most count) ks) ∙ h in cc)

  pub reaches-leads : (ks : List ℕ) (s t : V) → Reaches most count s ks t → Leads count (next most count) s ks t
  reaches-leads [] s t h = ap Some h
  reaches-leads (k ∷ ks) s t (a, low, e, h) =
      ap (λ b. after count (next most count) (cond b (next most count s k) None) ks) (lt-ltb k count low)
      ∙ ap (λ o. after count (next most count) o ks) e ∙ reaches-leads ks a t h

-- ---- a whole search

module _ (most : ℕ) (v : V) (sound : IsSound v) (few : count_of v ≤ JOBS) (jobs : HasJobs (count_of v) v) (at : ℕ → Met V) (len : ℕ)
    (whole : IsWhole (count_of v) (next most (count_of v)) (settled most (count_of v) (erased v)) at len) where
  to-moves : (ks : List ℕ) (t : V) → IsOrder most v ks t → Reaches most (count_of v) (settled most (count_of v) (erased v)) ks t
  to-moves ks t h = leads-reaches most (count_of v) ks (settled most (count_of v) (erased v)) t h

  to-order : (ks : List ℕ) (t : V) → Reaches most (count_of v) (settled most (count_of v) (erased v)) ks t → IsOrder most v ks t
  to-order ks t h = reaches-leads most (count_of v) ks (settled most (count_of v) (erased v)) t h

  cleared : AreClear (count_of v) at len → IsCleared most (count_of v) v
  cleared h = record {
    sound = sound;
    jobs = jobs;
    clear = λ ks t r. (let x = whole.none_left_out ks t (to-order ks t r) in subst (λ u. is_clear (count_of v) u ≡ true) x.2 (h x.0 x.1));
  }

  counted : IsCount most v len
  counted = record {
    at = λ i. (at i).state;
    reached = λ i low. (way at i i, whole.ways_lead i low);
    complete = whole.none_left_out;
    distinct = whole.distinct;
  }

  module _ (clear : AreClear (count_of v) at len) where
    -- moves to a circle like that of a run
    abbrev Circled : List ℕ → V → Type 0
    Circled ns w = (ks : List ℕ) × (t : V) × IsOrder most v ks t × (length ks ≡ noticed_turns v ns) × (circle_of v t ≡ circle_of v w)

    circled : (ns : List ℕ) (w : V) → IsRun choice v ns w → Circled ns w
    circled ns w run =
        let x = requests_are_found most (count_of v) v w ns (cleared clear) run in
        (x.0, x.1, to-order x.0 x.1 x.2, x.3, ap (circle_in (count_of v)) x.4)

    circle-run : (ks : List ℕ) (t : V) → IsOrder most v ks t → (ns : List ℕ) × (w : V) × IsRun choice v ns w × (circle_of v w ≡ circle_of v t)
    circle-run ks t order =
        let x = orders_are_runs most (count_of v) v t ks (cleared clear) (to-moves ks t order) in
        (x.1.by, x.1.state, x.1.run, ap (λ (u : V). circle_in (count_of v) (requests_in u)) x.1.same_state)

    pub circle-is : (o : Option Waiting) → IsCircleSoFar (circle_at (count_of v)) at len o → IsCircleFound most v o
    circle-is None h = λ ns w run.
        let x = circled ns w run in
        sym x.4 ∙ no-circle (count_of v) (next most (count_of v)) (settled most (count_of v) (erased v)) at len whole (circle_at (count_of v)) h x.0 x.1 x.2
    circle-is (Some c) h =
        let order : IsOrder most v c.moves.items (at h.place).state =
        circle-leads (count_of v) (next most (count_of v)) (settled most (count_of v) (erased v)) at len whole (circle_at (count_of v)) c h in
        let least : (ks : List ℕ) (t : V) → IsOrder most v ks t → circle_of v t ≢ [] → IsNotBehind c.moves.items ks =
        circle-least (count_of v) (next most (count_of v)) (settled most (count_of v) (erased v)) at len whole (circle_at (count_of v)) c h in
        let r = circle-run c.moves.items (at h.place).state order in
        record {
          state = (at h.place).state;
          order = order;
          jobs = h.jobs;
          some = h.some;
          run = (r.0, r.1, r.2, r.3 ∙ sym h.jobs);
          least = least;
          fewest = λ ns w run some.
              let x = circled ns w run in
              let short : length c.moves.items ≤ length x.0 = not-longer c.moves.items x.0 (least x.0 x.1 x.2 (λ none. some (sym x.4 ∙ none))) in
              subst (λ n. length c.moves.items ≤ n) x.3 short;
        }

    -- an end of a run is one of moves
    abbrev Ended : List ℕ → V → Type 0
    Ended ns w = (ks : List ℕ) × IsOrder most v ks (erased w) × (length ks ≡ noticed_turns v ns)

    ended : (ns : List ℕ) (w : V) → IsRun choice v ns w → IsEnd choice w → Ended ns w
    ended ns w run end =
        let x = ends_are_found most (count_of v) v w ns (cleared clear) run end in
        (x.0, to-order x.0 (erased w) x.1, x.2)

    end-run : (ks : List ℕ) (t : V) → IsOrder most v ks t → is_clear (count_of v) t ≡ true → rests (count_of v) t ≡ true
        → (ns : List ℕ) × (w : V) × IsRun choice v ns w × IsEnd choice w × (ending_in (count_of v) w ≡ ending_in (count_of v) t)
    end-run ks t order here rest =
        let x = lasts_are_ends most (count_of v) v t ks (cleared clear) (to-moves ks t order)
        (λ k low. no_turn most (count_of v) k t here (rests-at (count_of v) (k + 1) t rest (omega arith) (omega (arith, low)))) in
        (x.1.by, x.1.state, x.1.run, x.2, sym (ending-same x.1.state (count_of v) few x.2) ∙ ap (ending_in (count_of v)) x.1.same_state)

    end-is : (e : End) → IsFirstEnd (rests (count_of v)) (ending_in (count_of v)) at len e → IsEndFound most v e
    end-is e h =
        let order : IsOrder most v e.moves.items (at h.place).state =
        end-leads (count_of v) (next most (count_of v)) (settled most (count_of v) (erased v)) at len whole (rests (count_of v)) (ending_in (count_of v)) e h in
        let r = end-run e.moves.items (at h.place).state order (clear h.place h.low) h.rest in
        record {
          state = (at h.place).state;
          order = order;
          leaves = h.leaves;
          run = (r.0, r.1, r.2, r.3, r.4 ∙ sym h.leaves);
          fewest = λ ns w run end same.
              let x = ended ns w run end in
              let short : length e.moves.items ≤ length x.0 =
              not-longer e.moves.items x.0
              (end-least (count_of v) (next most (count_of v)) (settled most (count_of v) (erased v)) at len whole (rests (count_of v)) (ending_in (count_of v))
              e h x.0 (erased w) x.1 (ends-rest v w ns (count_of v) sound run end) (ending-same w (count_of v) few end ∙ same)) in
              subst (λ n. length e.moves.items ≤ n) x.2 short;
        }

  pub report-is : (r : Report) → HasReport (count_of v) at len r → IsReport most v r
  report-is r h = record {
    states = subst (IsCount most v) (sym h.states) counted;
    circle = circle-is h.clear r.circle h.circle;
    each = All-weaker (IsFirstEnd (rests (count_of v)) (ending_in (count_of v)) at len) (IsEndFound most v) (end-is h.clear) r.ends.items h.ends.each;
    complete = λ ns w run end.
        let x = ended h.clear ns w run end in
        subst (Contains (map ending_of r.ends.items)) (ending-same w (count_of v) few end)
        (end-known (count_of v) (next most (count_of v)) (settled most (count_of v) (erased v)) at len whole (rests (count_of v)) (ending_in (count_of v))
        r.ends.items h.ends x.0 (erased w) x.1 (ends-rest v w ns (count_of v) sound run end));
    apart = h.ends.apart;
  }

  pub obstacle-is : (g : GivenUp) → HasObstacle (count_of v) at len g → IsObstacle most v g
  obstacle-is g h = record {
    state = (at h.place).state;
    order = subst (λ ms. IsOrder most v ms (at h.place).state) (sym h.moves) (whole.ways_lead h.place h.low);
    reason = h.reason;
    least = λ ks t order unclear.
        let x = whole.none_left_out ks t order in
        subst (λ ms. IsNotBehind ms ks) (sym h.moves) (elim (cases_lt x.0 h.place) [
          | inl before ↦ absurd (false≢true (sym unclear ∙ subst (λ u. is_clear (count_of v) u ≡ true) x.2 (h.clear x.0 before)))
          | inr low ↦
              least-to (count_of v) (next most (count_of v)) (settled most (count_of v) (erased v)) at len whole h.place x.0 ks t low x.1 x.2 order
        ]);
  }

  -- whatever was found
  pub looked-is : (limit : ℕ) (l : Looked) → len ≤ limit → IsFound (count_of v) at len l → IsLooked most limit v l
  looked-is limit (Whole r) low h = (report-is r h, subst (λ n. n ≤ limit) (sym h.states) low)
  looked-is limit (GaveUp g) low h = by_reason g.reason h.reason (obstacle-is g h)
    where
      by_reason : (r : Reason) → IsReason (at h.place).state r → IsObstacle most v g → IsGivenUpFor most limit v g r
      by_reason (States n) is o = absurd is
      by_reason (Typed line) is o = absurd is
      by_reason (Limit n) is o = o
      by_reason (Clock n) is o = o
      by_reason (Turns n) is o = o

-- ---- what a search from the start gives

module _ (most limit : ℕ) (v : V) (sound : IsSound v) (few : count_of v ≤ JOBS) (jobs : HasJobs (count_of v) v) where
  abbrev pub From : Begun
  From = record { state = settled most (count_of v) (erased v); count = count_of v; most = most }

  pub looked-from : (b : Begun) (o : Option V) (t : Tables) (xs : List KeptState) (os : List Origin) (l : Looked) → b ≡ From
      → AreKept b o t xs os → length xs ≤ limit → IsFound b.count (met_at b t xs os) (length xs) l → IsLooked most limit v l
  looked-from b o t xs os l is kept low found =
      subst (λ (d : Begun). AreKept d o t xs os → IsFound d.count (met_at d t xs os) (length xs) l → IsLooked most limit v l) (sym is)
      (λ k f. looked-is most v sound few jobs (met_at From t xs os) (length xs) k.whole limit l low f) kept found

  pub more-from : (b : Begun) → b ≡ From → HasMore b.count (next b.most b.count) b.state limit
      → HasMore (count_of v) (next most (count_of v)) (settled most (count_of v) (erased v)) limit
  more-from b is more = subst (λ (d : Begun). HasMore d.count (next d.most d.count) d.state limit) is more
