-- What a move makes of the tables.
use Rattle.std.proofs.Common.{◌≡◌, ◌<◌, ◌≤◌, ◌+◌, ◌++◌, ◌∷◌, [], ℕ, Bool, true, false, not, List, length, map, slice_get, Some, None, Vec, Global, get_or, set, refl, sym, ap, subst, ◌∙◌, arith, if◌then◌else◌, Option, option_map, is_some}
use Rattle.std.specs.List.{All, IsDistinct, list_all, list_any}
use Rattle.std.proofs.Common.{◌-◌, ◌/◌, ◌==◌, slice_index, slice_set, filter, replicate, eqb-true, append-nil}
use Rattle.std.proofs.Common.{take}
use Rattle.std.proofs.lemmas.List.{length-map, length-replicate, replicate-append-replicate}
use Rattle.std.proofs.lemmas.List.Elements.{filter_passes, All-append, All-replicate, All-set, All-take}
use Rattle.std.proofs.lemmas.Option.{slice_get-get_or, slice_get_within, get_or_from_slice_get}
use Rattle.word36.specs.declared.sizes.TheConstants.{MOST_REQUESTS}
use Rattle.lock_queue.specs.declared.request.Request.{Request}
use Rattle.lock_queue.specs.Jobs.{is_waiting_job}
use Rattle.lock_queue.specs.WellFormed.{are_well_formed}
use Rattle.lock_order_laws.specs.Normal.{normal}
use Rattle.state_search.specs.Parts.{AreGrown, AreNumbers}
use Rattle.lockcheck_orders.specs.declared.kept.KeptState.{KeptState}
use Rattle.lockcheck_orders.specs.declared.kept.KnownMove.{KnownMove}
use Rattle.lockcheck_orders.specs.declared.lines.Line.{Line}
use Rattle.lockcheck_orders.specs.declared.tables.Tables.{Tables}
use Rattle.lockcheck_orders.specs.Circles.{has_circle}
use Rattle.lockcheck_orders.specs.Learning.{known_stays, list_stays, listed_stays, form_stays}
use Rattle.lockcheck_orders.specs.Orders.{State, first_state, left_by, made_by, next_line}
use Rattle.lockcheck_orders.specs.NormalOrders.{next_normal, normal_state}
use Rattle.lockcheck_orders.specs.Origins.{IsKept}
use Rattle.lockcheck_orders.specs.Packing.{RequestForm, StateForm, came_from_some, packed_request, unpacked, unpacked_request}
use Rattle.lockcheck_orders.specs.Programs.{due, jobs_of, no_line}
use Rattle.lockcheck_orders.specs.Same.{same_request}
use Rattle.lockcheck_orders.specs.Tables.{Vectors, form_at, forms_at, numbers_at, list_at, form_of, IsListed, IsLeft, IsMade, IsKnown, same_vector, IsRight, IsSoundState, Learns, unknown}
use Rattle.lockcheck_orders.proofs.Moving.{move-is, kept-is, counted-more, all-normal}
use Rattle.lockcheck_orders.proofs.Forms.{requests-back}
use Rattle.lockcheck_orders.proofs.Positions.{few-passed}
use Rattle.lockcheck_orders.proofs.NormalSteps.{has_circle-same}

-- the tables have grown, and the known calls have not changed
pub learnt : (lines : List Line) (t u : Tables) → AreGrown t.requests u.requests → AreGrown t.vectors u.vectors
    → (IsDistinct same_request t.requests → IsDistinct same_request u.requests) → IsDistinct same_vector u.vectors → u.known.items ≡ t.known.items
    → Learns lines t lines u
learnt lines t u r v unique distinct e = record {
  same_lines = refl;
  requests = r;
  vectors = v;
  right = λ h.
      let P : List KnownMove → Type 0 = λ calls. All (IsKnown lines u) calls in
      record {
        requests = unique h.requests;
        vectors = distinct;
        known = subst P (sym e) (known_stays t u r v lines t.known.items h.known);
      };
}

-- the job of a line waits
pub made-waits : (lines : List Line) (t : Tables) (x : KeptState) (line : ℕ) (k : KnownMove) → IsSoundState lines t x
    → k.from ≡ x.requests → k.after ≡ x.requests → k.line ≡ line → k.waits ≡ true
    → is_waiting_job (unpacked lines (form_of t x)).requests (get_or lines line no_line).job ≡ true
    → IsMade lines t k
made-waits lines t x line k sound from after at waits w =
    let P : ℕ → Type 0 = λ n. IsListed t n in
    let turn : is_waiting_job (map (unpacked_request lines) (list_at t k.from)) (get_or lines k.line no_line).job
    ≡ is_waiting_job (map (unpacked_request lines) (list_at t x.requests)) (get_or lines line no_line).job =
    λ i. is_waiting_job (map (unpacked_request lines) (list_at t (from i))) (get_or lines (at i) no_line).job in
    record {
      from = subst P (sym from) sound.requests;
      after = subst P (sym after) sound.requests;
      waits = waits ∙ sym w ∙ sym turn;
      left = λ f. absurd (cc);
    }

-- what a line leaves is in the tables
pub made-left : (lines : List Line) (t u : Tables) (x : KeptState) (line : ℕ) (k : KnownMove) (ns : List ℕ) → AreGrown t.requests u.requests
    → AreGrown t.vectors u.vectors → IsSoundState lines t x → k.from ≡ x.requests → k.line ≡ line → k.waits ≡ false
    → is_waiting_job (unpacked lines (form_of t x)).requests (get_or lines line no_line).job ≡ false
    → k.after < length u.vectors → numbers_at u.vectors k.after ≡ ns → AreNumbers u.requests ns
    → IsLeft lines (unpacked lines (form_of t x)).requests line (forms_at u.requests ns) k.circle
    → IsMade lines u k
made-left lines t u x line k ns r v sound from at waits w there stored within left =
    let listed : IsListed t k.from = (let P : ℕ → Type 0 = λ n. IsListed t n in subst P (sym from) sound.requests) in
    let old : list_at u k.from ≡ list_at t x.requests = list_stays t u r v k.from listed ∙ ap (list_at t) from in
    let turn : is_waiting_job (map (unpacked_request lines) (list_at u k.from)) (get_or lines k.line no_line).job
    ≡ is_waiting_job (map (unpacked_request lines) (list_at t x.requests)) (get_or lines line no_line).job =
    λ i. is_waiting_job (map (unpacked_request lines) (old i)) (get_or lines (at i) no_line).job in
    let P : List ℕ → Type 0 = λ ms. AreNumbers u.requests ms in
    let A : List ℕ → Type 0 = λ ms. IsLeft lines (map (unpacked_request lines) (list_at t x.requests)) line (forms_at u.requests ms) k.circle in
    let B : ℕ → Type 0 = λ i. IsLeft lines (map (unpacked_request lines) (list_at t x.requests)) i (list_at u k.after) k.circle in
    let C : List RequestForm → Type 0 = λ fs. IsLeft lines (map (unpacked_request lines) fs) k.line (list_at u k.after) k.circle in
    record {
      from = listed_stays t u r v k.from listed;
      after = record { there = there; numbers = subst P (sym stored) within };
      waits = waits ∙ sym w ∙ sym turn;
      left = λ f. subst C (sym old) (subst B (sym at) (subst A (sym stored) left));
    }

-- ---- the line that is due

passes-at : {X : Type 0} (p : X → Bool) (xs : List X) (n : ℕ) (x : X) → slice_get (filter p xs) n ≡ Some x → p x ≡ true
passes-at p xs n x e =
    ap p (sym (get_or_from_slice_get (filter p xs) n x x e)) ∙ filter_passes p xs n x (slice_get_within (filter p xs) n x e)

-- a line that is due is its job's
pub due-job : (lines : List Line) (job made i : ℕ) → i < length lines → slice_get lines i ≡ due lines job made → (get_or lines i no_line).job ≡ job
due-job lines job made i l e =
    let x : Line = get_or lines i no_line in
    eqb-true x.job job (passes-at (λ (y : Line). y.job == job) lines made x (sym e ∙ slice_get-get_or lines i no_line l))

pub due-small : (lines : List Line) (job made i : ℕ) → i < length lines → slice_get lines i ≡ due lines job made → made < length lines
due-small lines job made i l e = few-passed (λ (y : Line). y.job == job) lines made i l e

-- what a job that waits, and one that does not, makes next
pub next-waits : (lines : List Line) (s : State) (by : ℕ) → is_waiting_job s.requests (slice_index (jobs_of lines) by) ≡ true → next_line lines s by ≡ None
next-waits lines s by w = ap (λ b. if b then None else due lines (slice_index (jobs_of lines) by) (slice_index s.made by)) w

pub next-due : (lines : List Line) (s : State) (by : ℕ) → is_waiting_job s.requests (slice_index (jobs_of lines) by) ≡ false
    → next_line lines s by ≡ due lines (slice_index (jobs_of lines) by) (slice_index s.made by)
next-due lines s by w = ap (λ b. if b then None else due lines (slice_index (jobs_of lines) by) (slice_index s.made by)) w

if-same : {X : Type 0} (b : Bool) (x : X) → (if b then x else x) ≡ x
if-same true x = refl
if-same false x = refl

pub next-none : (lines : List Line) (s : State) (by : ℕ) → due lines (slice_index (jobs_of lines) by) (slice_index s.made by) ≡ None → next_line lines s by ≡ None
next-none lines s by e =
    ap (λ o. if is_waiting_job s.requests (slice_index (jobs_of lines) by) then None else o) e
    ∙ if-same (is_waiting_job s.requests (slice_index (jobs_of lines) by)) None

-- a known call tells whether its job waits
pub known-waits : (lines : List Line) (t : Tables) (x : KeptState) (by i : ℕ) (k : KnownMove) → IsMade lines t k → k.from ≡ x.requests → k.line ≡ i
    → i < length lines → slice_get lines i ≡ due lines (slice_index (jobs_of lines) by) (slice_index (form_of t x).made by)
    → is_waiting_job (unpacked lines (form_of t x)).requests (slice_index (jobs_of lines) by) ≡ k.waits
known-waits lines t x by i k m from at l due-is =
    let job = due-job lines (slice_index (jobs_of lines) by) (slice_index (form_of t x).made by) i l due-is in
    let turn : is_waiting_job (map (unpacked_request lines) (list_at t k.from)) (get_or lines k.line no_line).job
    ≡ is_waiting_job (map (unpacked_request lines) (list_at t x.requests)) (get_or lines i no_line).job =
    λ n. is_waiting_job (map (unpacked_request lines) (list_at t (from n))) (get_or lines (at n) no_line).job in
    sym (m.waits ∙ turn ∙ ap (is_waiting_job (map (unpacked_request lines) (list_at t x.requests))) job)

pub same-grown : {X : Type 0} (old new : List X) → new ≡ old → AreGrown old new
same-grown old new e = ([], e ∙ sym (append-nil old))

-- a move that is made: the state behind it is kept, and shows what the move leads to
module _ (lines : List Line) (t u : Tables) (x y : KeptState) (by i : ℕ) (k : KnownMove) (right : IsRight lines u) (r : AreGrown t.requests u.requests)
    (v : AreGrown t.vectors u.vectors) (sound : IsSoundState lines t x) (m : IsMade lines t k) (from : k.from ≡ x.requests) (at : k.line ≡ i)
    (waits : k.waits ≡ false) (l : i < length lines)
    (due-is : slice_get lines i ≡ due lines (slice_index (jobs_of lines) by) (slice_index (form_of t x).made by))
    (after : y.requests ≡ k.after) (circle : y.circle ≡ k.circle) (front : y.front < length u.vectors) (back : y.back < length u.vectors)
    (half : length (numbers_at u.vectors y.front) ≡ length (numbers_at t.vectors x.front))
    (more : numbers_at u.vectors y.front ++ numbers_at u.vectors y.back
    ≡ slice_set (form_of t x).made by (slice_index (form_of t x).made by + 1)) where
  left : IsLeft lines (map (unpacked_request lines) (list_at t x.requests)) i (list_at t k.after) k.circle
  left =
      let P : ℕ → Type 0 = λ n. IsLeft lines (map (unpacked_request lines) (list_at t n)) k.line (list_at t k.after) k.circle in
      let Q : ℕ → Type 0 = λ n. IsLeft lines (map (unpacked_request lines) (list_at t x.requests)) n (list_at t k.after) k.circle in
      subst Q at (subst P from (m.left waits))

  list : list_at u y.requests ≡ map (packed_request lines) (normal (left_by lines (map (unpacked_request lines) (list_at t x.requests)) i))
  list = ap (list_at u) after ∙ list_stays t u r v k.after m.after ∙ left.forms

  line : slice_get lines i ≡ next_line lines (unpacked lines (form_of t x)) by
  line =
      due-is
      ∙ sym (next-due lines (unpacked lines (form_of t x)) by (known-waits lines t x by i k m from at l due-is ∙ waits))

  moved : Some (unpacked lines (form_of u y)) ≡ next_normal lines (unpacked lines (form_of t x)) by
  moved = move-is lines (unpacked lines (form_of t x)) by i (list_at u y.requests) (form_of u y).made l line list left.come more

  kept : IsKept lines (form_of u y)
  kept =
      kept-is lines (left_by lines (map (unpacked_request lines) (list_at t x.requests)) i) (list_at u y.requests) (form_of u y).made list left.come left.well
      left.few
      (counted-more lines (form_of t x).made (form_of u y).made by (slice_index (form_of t x).made by + 1) more sound.kept.met.counted)

  pub move-shown : Some (unpacked lines (form_of u y)) ≡ next_normal lines (unpacked lines (form_of u x)) by
  move-shown =
      moved ∙ ap (λ f. next_normal lines (unpacked lines f) by) (sym (form_stays t u r v x sound.requests sound.front sound.back))

  listed : IsListed u y.requests
  listed = let P : ℕ → Type 0 = λ n. IsListed u n in subst P (sym after) (listed_stays t u r v k.after m.after)

  in-circle : y.circle ≡ has_circle lines (unpacked lines (form_of u y))
  in-circle =
      let rs : List Request = left_by lines (map (unpacked_request lines) (list_at t x.requests)) i in
      let back : map (unpacked_request lines) (list_at u y.requests) ≡ normal rs =
      ap (map (unpacked_request lines)) list ∙ requests-back lines (normal rs) (all-normal (came_from_some lines) rs left.come) in
      circle ∙ left.circle ∙ sym (has_circle-same lines (record { requests = rs; made = [] }))
      ∙ sym (ap (λ w. has_circle lines (record { requests = w; made = (form_of u y).made })) back)

  pub move-sound : IsSoundState lines u y
  move-sound = record {
    right = right;
    requests = listed;
    front = front;
    back = back;
    half = half ∙ sound.half;
    kept = kept;
    circle = in-circle;
  }

-- ---- the first state

halves : (n : ℕ) → replicate {A = ℕ} (n / 2) 0 ++ replicate {A = ℕ} (n - n / 2) 0 ≡ replicate n 0
halves n =
    let e : n / 2 + (n - n / 2) ≡ n = omega arith in
    replicate-append-replicate (n / 2) (n - n / 2) 0 ∙ ap (λ m. replicate {A = ℕ} m 0) e

first-kept : (lines : List Line) → IsKept lines (record { requests = []; made = replicate (length (jobs_of lines)) 0 })
first-kept lines = record {
  met = record { well = refl; few = omega arith; come = refl; counted = length-replicate (length (jobs_of lines)) 0 };
  same = refl;
}

-- the first state
pub first-sound : (lines : List Line) (t : Tables) (x : KeptState) → IsRight lines t → x.requests < length t.vectors → x.front < length t.vectors
    → x.back < length t.vectors
    → numbers_at t.vectors x.requests ≡ [] → numbers_at t.vectors x.front ≡ replicate (length (jobs_of lines) / 2) 0
    → numbers_at t.vectors x.back ≡ replicate (length (jobs_of lines) - length (jobs_of lines) / 2) 0 → x.circle ≡ has_circle lines (first_state lines)
    → IsSoundState lines t x
first-sound lines t x right a f b none front back circle =
    let P : List ℕ → Type 0 = λ ns. AreNumbers t.requests ns in
    let nobody : list_at t x.requests ≡ [] = ap (forms_at t.requests) none in
    let turn : numbers_at t.vectors x.front ++ numbers_at t.vectors x.back
    ≡ replicate (length (jobs_of lines) / 2) 0 ++ replicate (length (jobs_of lines) - length (jobs_of lines) / 2) 0 = λ i. front i ++ back i in
    let made : numbers_at t.vectors x.front ++ numbers_at t.vectors x.back ≡ replicate (length (jobs_of lines)) 0 =
    turn ∙ halves (length (jobs_of lines)) in
    let form : form_of t x ≡ record { requests = []; made = replicate (length (jobs_of lines)) 0 } = λ i. record { requests = nobody i; made = made i } in
    let K : StateForm → Type 0 = λ s. IsKept lines s in
    record {
      right = right;
      requests = record { there = a; numbers = subst P (sym none) (λ k d l. absurd (omega arith)) };
      front = f;
      back = b;
      half = ap length front ∙ length-replicate (length (jobs_of lines) / 2) 0;
      kept = subst K (sym form) (first-kept lines);
      circle = circle ∙ sym (ap (λ s. has_circle lines (unpacked lines s)) form);
    }

pub first-shown : (lines : List Line) (t : Tables) (x : KeptState) → numbers_at t.vectors x.requests ≡ []
    → numbers_at t.vectors x.front ≡ replicate (length (jobs_of lines) / 2) 0
    → numbers_at t.vectors x.back ≡ replicate (length (jobs_of lines) - length (jobs_of lines) / 2) 0
    → unpacked lines (form_of t x) ≡ first_state lines
first-shown lines t x none front back =
    let nobody : list_at t x.requests ≡ [] = ap (forms_at t.requests) none in
    let turn : numbers_at t.vectors x.front ++ numbers_at t.vectors x.back
    ≡ replicate (length (jobs_of lines) / 2) 0 ++ replicate (length (jobs_of lines) - length (jobs_of lines) / 2) 0 = λ i. front i ++ back i in
    let made : numbers_at t.vectors x.front ++ numbers_at t.vectors x.back ≡ replicate (length (jobs_of lines)) 0 =
    turn ∙ halves (length (jobs_of lines)) in
    λ i. record { requests = map (unpacked_request lines) (nobody i); made = made i }

-- a call more is known
pub keeps : (lines : List Line) (t u : Tables) (n m place : ℕ) (k : KnownMove) → u.requests ≡ t.requests → u.vectors ≡ t.vectors
    → u.known.items ≡ set (take n t.known.items ++ replicate m unknown) place k → IsMade lines u k
    → Learns lines t lines u
keeps lines t u n m place k r v e made = record {
  same_lines = refl;
  requests = same-grown t.requests u.requests r;
  vectors = same-grown t.vectors u.vectors v;
  right = λ h.
      let P : KnownMove → Type 0 = IsKnown lines u in
      let Q : List KnownMove → Type 0 = λ calls. All (IsKnown lines u) calls in
      let D : List RequestForm → Type 0 = λ rs. IsDistinct same_request rs in
      let E : Vectors → Type 0 = λ vs. IsDistinct same_vector vs in
      let before : All (IsKnown lines u) t.known.items =
      known_stays t u (same-grown t.requests u.requests r) (same-grown t.vectors u.vectors v) lines t.known.items h.known in
      record {
        requests = subst D (sym r) h.requests;
        vectors = subst E (sym v) h.vectors;
        known =
            subst Q (sym e)
            (All-set P (take n t.known.items ++ replicate m unknown) place k (λ _. made)
            (All-append P (take n t.known.items) (replicate m unknown) (All-take P n t.known.items before)
            (All-replicate P m unknown (λ l. absurd (omega (arith, l))))));
      };
}

-- a move that may not be made
pub nowhere : (lines : List Line) (s : State) (by : ℕ) → next_line lines s by ≡ None → None ≡ next_normal lines s by
nowhere lines s by e = sym (ap (λ o. option_map normal_state (made_by s by o)) e)

-- how many requests a kept state has
pub few-numbers : (lines : List Line) (t : Tables) (x : KeptState) → IsKept lines (form_of t x) → length (numbers_at t.vectors x.requests) ≤ MOST_REQUESTS
few-numbers lines t x h =
    let ns = numbers_at t.vectors x.requests in
    omega (arith, h.met.few, length-map (forms_at t.requests ns) (unpacked_request lines), length-map ns (form_at t.requests))

-- whether a job can make a call, by whether it waits
pub call-is : (lines : List Line) (s : State) (by i : ℕ) (w : Bool) → is_waiting_job s.requests (slice_index (jobs_of lines) by) ≡ w → i < length lines
    → slice_get lines i ≡ due lines (slice_index (jobs_of lines) by) (slice_index s.made by)
    → not w ≡ is_some (next_line lines s by)
call-is lines s by i true e l d = sym (ap is_some (next-waits lines s by e))
call-is lines s by i false e l d = sym (ap is_some (next-due lines s by e ∙ sym d ∙ slice_get-get_or lines i no_line l))

-- what a line that was done on a desk leaves
pub left-is : (lines ls : List Line) (rs before after : List Request) (i : ℕ) (fs : List RequestForm) (b : Bool) → ls ≡ lines → before ≡ rs
    → after ≡ left_by ls before i → fs ≡ map (packed_request ls) (normal after) → list_all (came_from_some ls) after ≡ true
    → are_well_formed after ≡ true → length after ≤ MOST_REQUESTS → b ≡ has_circle lines (record { requests = after; made = [] })
    → IsLeft lines rs i fs b
left-is lines ls rs before after i fs b e d a forms come well few circle =
    let turn : left_by ls before i ≡ left_by lines rs i = λ n. left_by (e n) (d n) i in
    let is : after ≡ left_by lines rs i = a ∙ turn in
    let packed-as : map (packed_request ls) (normal after) ≡ map (packed_request lines) (normal (left_by lines rs i)) =
    λ n. map (packed_request (e n)) (normal (is n)) in
    let come-as : list_all (came_from_some ls) after ≡ list_all (came_from_some lines) (left_by lines rs i) =
    λ n. list_all (came_from_some (e n)) (is n) in
    let P : List Request → Type 0 = λ xs. length xs ≤ MOST_REQUESTS in
    record {
      forms = forms ∙ packed-as;
      come = sym come-as ∙ come;
      well = sym (ap are_well_formed is) ∙ well;
      few = subst P is few;
      circle = circle ∙ ap (λ xs. has_circle lines (record { requests = xs; made = [] })) is;
    }
