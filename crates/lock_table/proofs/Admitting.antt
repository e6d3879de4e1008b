-- A request is let come.
use Rattle.std.proofs.Common.{◌≡◌, ◌≢◌, ◌≤◌, ◌<◌, ◌∙◌, sym, ap, subst, ℕ, Bool, true, false, not, ◌==◌, List, [], ◌∷◌, ◌++◌, length, map, take, get_or, Option, None, inl, inr, refl, arith, nat_le, filter, Some, append-nil}
use Rattle.std.specs.List.{list_all}
use Rattle.std.proofs.lemmas.Bool.{both_ways, eq-eqb, not-false, or_parts, and_parts, eqb-true}
use Rattle.std.proofs.lemmas.List.{map-append}
use Rattle.std.proofs.lemmas.List.Folds.{list_all-append}
use Rattle.word36.specs.declared.sizes.TheConstants.{JOBS, LOCKS_A_CALL}
use Rattle.lock_queue.specs.declared.key.Key.{Key}
use Rattle.lock_queue.specs.declared.request.Request.{Request}
use Rattle.lock_queue.specs.declared.want.Want.{Want}
use Rattle.arrayvec.specs.ArrayVec.{ArrayVec}
use Rattle.lock_queue.specs.declared.call.Asking.{Asking}
use Rattle.lock_queue.specs.Enqueues.{are_alike, enqueue, enqueue_fault, enqueue_refusal, not_granted, request_of, same_pool_size, with_arrival}
use Rattle.lock_queue.specs.declared.call.LockReply.TheVariants.{Granted, Refused}
use Rattle.lock_queue.specs.declared.refusal.Refusal.TheVariants.{NotGranted}
use Rattle.lock_queue.specs.declared.request.EnqueueKind.TheVariants.{AtOnce}
use Rattle.lock_queue.specs.Jobs.{is_interrupt}
use Rattle.lock_queue.specs.Outcomes.{first_refusal, outcome}
use Rattle.lock_queue.specs.Pools.{PoolShare}
use Rattle.lock_queue.specs.Queue.{fits, granted, names, requests_of, wants_at, wants_of, all_wants}
use Rattle.lock_queue.specs.Unused.{unused_want}
use Rattle.lock_queue.specs.WellFormed.{are_apart, are_well_formed, is_in_range, is_job, is_well_formed, shares_rightly}
use Rattle.lock_queue.proofs.Granted.{granted_last}
use Rattle.lock_queue.proofs.Fitting.{names-Has, names-found, eq-same_key}
use Rattle.lock_queue.proofs.Lists.{Has, Has-filter, Has-flat_map, Has-map, list_all-Has}
use Rattle.lock_queue.proofs.Refusing.{or_else-None, refuse_if-None}
use Rattle.lock_queue.proofs.WellKept.{job_number, right_job, well-arrival}
use Rattle.key_queues.specs.declared.lock.Lock.{Lock}
use Rattle.key_queues.specs.Beginnings.{is_share_of}
use Rattle.key_queues.specs.Locks.{lock_at}
use Rattle.key_queues.specs.States.{IsUsed}
use Rattle.key_queues.specs.Tables.{is_there, slots_at}
use Rattle.key_queues.proofs.Finding.{in_use_parts}
use Rattle.key_queues.proofs.Moves.{map_same}
use Rattle.key_queues.proofs.Room.{room_for_one_more}
use Rattle.key_queues.proofs.Using.{as_many_queues, there_kept}
use Rattle.key_queues.specs.Stores.{Stored, entry_at}
use Rattle.lock_table.specs.TableStates.{state_of}
use Rattle.lock_table.specs.Whole.{AreRight, IsWhole, JobsAreApart, requests_in, LevelsAgree, level_at}
use Rattle.lock_table.specs.Reads.{request_at}
use Rattle.lock_table.specs.Arrivals.{Admits, AdmitsFrom, AreShort}
use Rattle.lock_table.proofs.Named.{passes_at}
use Rattle.lock_table.proofs.Wholes.{well_from_right}
use Rattle.lock_table.proofs.Altering.{there_Has, named_changed, own_changed}
use Rattle.lock_table.proofs.Entries.{there_before}
use Rattle.lock_queue.specs.Changes.{changed, changed_want}
use Rattle.lock_queue.specs.Keys.{same_key}
use Rattle.lock_queue.specs.StatusWords.{first_level}
use Rattle.lock_table.proofs.Levels.{level_of_want}
use Rattle.lock_table.specs.Changing.{IsChanged}

-- ---- a request that is not refused can come

-- a job's request with a want of a key is found among the job's wants
pub had_key : (s : Stored) (job : ℕ) (key : Key) (x : ℕ) → is_there x s.order ≡ true → (request_at s x).job ≡ job
    → names (request_at s x).wants.items key ≡ true → names (wants_of (requests_in s) job) key ≡ true
had_key s job key x present mine named =
    let of = names-found (request_at s x).wants.items key named in
    let own = Has-filter (λ (r : Request). r.job == job) (requests_in s) (request_at s x) (eq-eqb (request_at s x).job job mine)
    (Has-map (request_at s) s.order x (there_Has x s.order present)) in
    names-Has (wants_of (requests_in s) job) key of.0
    (Has-flat_map (λ (r : Request). r.wants.items) (requests_of (requests_in s) job) (request_at s x) of.0 own of.1) of.2

share_alike : (size : Option ℕ) (a b : Option PoolShare) → is_share_of size a ≡ true → same_pool_size a b ≡ true → is_share_of size b ≡ true
share_alike size a b h e = grind arith

-- a want that stands in a list that is not empty is of the pool's size, and so is one like it
first_alike : (size : Option ℕ) (w : Want) (ws : List Want) → (length ws == 0) ≡ false → list_all (λ v. is_share_of size v.pool) ws ≡ true
    → list_all (λ v. are_alike v w) ws ≡ true → is_share_of size w.pool ≡ true
first_alike size w [] some sizes alike = cc
first_alike size w (v ∷ ws) some sizes alike = grind (arith, share_alike size v.pool w.pool)

-- a want that is not refused
pub record Passed (s : Stored) (job : ℕ) (w : Want) : Type 0 where
  pub alike : list_all (λ v. are_alike v w) (wants_at (requests_in s) w.key) ≡ true
  pub new : names (wants_of (requests_in s) job) w.key ≡ false

passed_one : (s : Stored) (job : ℕ) (e : List Want) (w : Want) → enqueue_fault (requests_in s) job e w ≡ None → Passed s job w
passed_one s job e w h =
    let both = or_else-None _ _ h in
    let new = refuse_if-None _ _ both.1 in
    record { alike = not-false _ (refuse_if-None _ _ both.0); new = (or_parts (names e w.key) _ new).1 }

-- no want is refused
pub passed_of : (s : Stored) (job : ℕ) (e ws : List Want) (w : Want) → first_refusal (enqueue_fault (requests_in s) job) e ws ≡ None → Has ws w → Passed s job w
passed_of s job e [] w h has = absurd has
passed_of s job e (v ∷ ws) w h (inl same) = subst (Passed s job) same (passed_one s job e v (or_else-None _ _ h).0)
passed_of s job e (v ∷ ws) w h (inr has) = passed_of s job (e ++ v ∷ []) ws w (or_else-None _ _ h).1 has

module _ (size : ℕ) (s : Stored) (locks : List Lock) (job : ℕ) where
  admits_one : (w : Want) → IsWhole size s locks → is_job job ≡ true → Passed s job w → Admits locks w
  admits_one w whole mine passed = record {
    alike =
        λ n t.
        let parts = in_use_parts w.key (lock_at locks n) t in
        let u : IsUsed (state_of s locks) n = whole.table.used n parts.0 in
        let c = whole.table.kept.counts u.slot n u.stands in
        let some : (length (wants_at (requests_in s) (lock_at locks n).key) == 0) ≡ false =
        ap (λ m. m == 0) (sym c.counts.slots) ∙ not-true-of (length (lock_at locks n).queue.slots == 0) parts.0 in
        first_alike (lock_at locks n).size w (wants_at (requests_in s) (lock_at locks n).key) some c.counts.alike.each
        (subst (λ k. list_all (λ v. are_alike v w) (wants_at (requests_in s) k) ≡ true) (sym parts.1) passed.alike);
    room =
        λ n t.
        let parts = in_use_parts w.key (lock_at locks n) t in
        let u : IsUsed (state_of s locks) n = whole.table.used n parts.0 in
        let c = whole.table.kept.counts u.slot n u.stands in
        let key : Key = (lock_at locks n).key in
        let named : ℕ → Bool = λ x. names (request_at s x).wants.items key in
        let room : length (slots_at (request_at s) s.order key) < JOBS =
        room_for_one_more (request_at s) s.order key job whole.table.kept.once
        (λ x y hx hy e.
        let a = there_kept named x s.order hx in
        let b = there_kept named y s.order hy in
        whole.jobs x y key a.0 b.0 a.1 b.1 e)
        (λ x h. job_number (request_at s x) (whole.right x (there_kept named x s.order h).0))
        mine
        (λ x h e.
        let a = there_kept named x s.order h in
        both_ways (names (wants_of (requests_in s) job) w.key) passed.new
        (had_key s job w.key x a.0 e (subst (λ k. names (request_at s x).wants.items k ≡ true) parts.1 a.1))) in
        omega (arith, room, ap length c.slots);
  }
    where
      not-true-of : (b : Bool) → not b ≡ true → b ≡ false
      not-true-of true h = sym h
      not-true-of false h = refl

  pub admits_from : (wants : List Want) → IsWhole size s locks → is_job job ≡ true → first_refusal (enqueue_fault (requests_in s) job) [] wants ≡ None
      → AdmitsFrom 0 locks wants
  admits_from wants whole mine passed k le lt =
      admits_one (get_or wants k unused_want) whole mine
      (passed_one s job (take k wants) (get_or wants k unused_want) (passes_at (enqueue_fault (requests_in s) job) [] wants k passed lt))

  pub short_of : IsWhole size s locks → AreShort s
  short_of whole x h =
      let many =
      as_many_queues (λ w n. (state_of s locks).key n ≡ w.key) (request_at s x).wants.items (entry_at s x).queues.items
      (whole.table.kept.queues x h) in
      grind (arith, many, whole.right x h)

-- the requests after one has come
module _ (s t : Stored) (p job : ℕ) (r : Request) where
  pub requests_after : is_there p s.order ≡ false → t.order ≡ s.order ++ p ∷ [] → (entry_at t p).request ≡ r
      → ((x : ℕ) → (x ≡ p → ⊥) → (entry_at t x).request ≡ (entry_at s x).request) → requests_in t ≡ requests_in s ++ r ∷ []
  requests_after out order mine others =
      ap (map (request_at t)) order ∙ map-append (request_at t) s.order (p ∷ [])
      ∙ ap (λ l. l ++ request_at t p ∷ []) (map_same (request_at t) (request_at s) p s.order out others)
      ∙ ap (λ q. requests_in s ++ q ∷ []) mine

  pub jobs_after : JobsAreApart s → is_there p s.order ≡ false → t.order ≡ s.order ++ p ∷ [] → (entry_at t p).request ≡ r → r.job ≡ job
      → ((x : ℕ) → (x ≡ p → ⊥) → (entry_at t x).request ≡ (entry_at s x).request)
      → first_refusal (enqueue_fault (requests_in s) job) [] r.wants.items ≡ None → JobsAreApart t
  jobs_after apart out order mine job_is others passed x y key hx hy nx ny e =
      grind (arith, mine, job_is, others x, others y, was x, was y, other x, other y, apart x y key)
    where
      was : (x : ℕ) → x ≢ p → is_there x t.order ≡ true → is_there x s.order ≡ true
      was x ne h = there_before x p s.order (sym (ap (is_there x) order) ∙ h) ne

      other : (x : ℕ) → is_there x s.order ≡ true → x ≢ p → names (request_at t x).wants.items key ≡ true → (request_at t x).job ≡ job
          → names (request_at t p).wants.items key ≡ true → ⊥
      other x h ne nx ex np =
          let of = names-found r.wants.items key (subst (λ (q : Request). names q.wants.items key ≡ true) mine np) in
          let new : names (wants_of (requests_in s) job) key ≡ false =
          subst (λ k. names (wants_of (requests_in s) job) k ≡ false) of.2 (passed_of s job [] r.wants.items of.0 passed of.1).new in
          grind (arith, new, had_key s job key x h, others x ne)

-- the requests with one that comes are well-formed, and its keys are apart
module _ (s : Stored) (job : ℕ) (asking : Asking) (wants : ArrayVec Want) where
  pub well_after : AreRight s → (1 ≤ job) × (job ≤ JOBS) → nat_le 1 (length wants.items) ≡ true → list_all shares_rightly wants.items ≡ true
      → first_refusal (enqueue_fault (requests_in s) job) [] wants.items ≡ None → length wants.items ≤ LOCKS_A_CALL
      → list_all is_in_range wants.items ≡ true → are_well_formed (requests_in s ++ request_of job asking false wants ∷ []) ≡ true
  well_after right mine some unshared passed few range =
      well-arrival (requests_in s) job asking false wants (right_job job mine) some unshared passed few range (well_from_right s right)

  pub apart_after : are_well_formed (requests_in s ++ request_of job asking false wants ∷ []) ≡ true → are_apart wants.items ≡ true
  apart_after well =
      grind (arith, list_all-append is_well_formed (requests_in s) (request_of job asking false wants ∷ []))

-- what an arrival that is not refused leaves and answers
module _ (size : ℕ) (rs : List Request) (job : ℕ) (asking : Asking) (wants : ArrayVec Want)
    (passed : enqueue_refusal size rs job asking wants.items ≡ None) where
  pub arrives_granted : granted (with_arrival rs job asking false wants) (length rs) ≡ true
      → enqueue size rs job asking wants ≡ outcome (with_arrival rs job asking (is_interrupt asking.kind) wants) Granted
  arrives_granted h = grind (arith, passed)

  pub arrives_waiting : granted (with_arrival rs job asking false wants) (length rs) ≡ false
      → enqueue size rs job asking wants ≡ not_granted rs (with_arrival rs job asking false wants) asking.kind
  arrives_waiting h = grind (arith, passed)

  -- nothing comes of a request whose job would not wait for it, where not all of its wants fit
  pub turned_away : asking.kind ≡ AtOnce → list_all (fits rs) wants.items ≡ false → enqueue size rs job asking wants ≡ outcome rs (Refused NotGranted)
  turned_away once none =
      arrives_waiting (granted_last rs (request_of job asking false wants) ∙ none)
      ∙ ap (not_granted rs (with_arrival rs job asking false wants)) once

-- ---- a key is still wanted at one level where a request comes, and where wants are changed

-- a request that comes is of the levels of the present wants
module _ (s t : Stored) (p job : ℕ) (r : Request) (apart : (x : ℕ) → are_apart (request_at s x).wants.items ≡ true) where
  like_present : are_apart r.wants.items ≡ true → first_refusal (enqueue_fault (requests_in s) job) [] r.wants.items ≡ None
      → (y : ℕ) (key : Key) → is_there y s.order ≡ true → names r.wants.items key ≡ true → names (request_at s y).wants.items key ≡ true
      → level_at r key ≡ level_at (request_at s y) key
  like_present own passed y key here nr ny =
      let v = names-found r.wants.items key nr in
      let u = names-found (request_at s y).wants.items key ny in
      let among : Has (all_wants (requests_in s)) u.0 =
      Has-flat_map (λ (q : Request). q.wants.items) (requests_in s) (request_at s y) u.0 (Has-map (request_at s) s.order y (there_Has y s.order here)) u.1 in
      let at_key : Has (wants_at (requests_in s) v.0.key) u.0 =
      Has-filter (λ w. same_key w.key v.0.key) (all_wants (requests_in s)) u.0 (eq-same_key u.0.key v.0.key (u.2 ∙ sym v.2)) among in
      let alike : are_alike u.0 v.0 ≡ true =
      list_all-Has (λ w. are_alike w v.0) (wants_at (requests_in s) v.0.key) u.0 (passed_of s job [] r.wants.items v.0 passed v.1).alike at_key in
      let same : u.0.level ≡ v.0.level = eqb-true u.0.level v.0.level (and_parts (u.0.level == v.0.level) (same_pool_size u.0.pool v.0.pool) alike).0 in
      level_of_want r key v.0 own v.1 v.2 ∙ sym same ∙ sym (level_of_want (request_at s y) key u.0 (apart y) u.1 u.2)

  pub levels_after : LevelsAgree s → t.order ≡ s.order ++ p ∷ [] → (entry_at t p).request ≡ r
      → ((x : ℕ) → (x ≡ p → ⊥) → (entry_at t x).request ≡ (entry_at s x).request) → are_apart r.wants.items ≡ true
      → first_refusal (enqueue_fault (requests_in s) job) [] r.wants.items ≡ None → LevelsAgree t
  levels_after agree order mine others own passed x y key hx hy nx ny =
      grind (arith, mine, others x, others y, was x, was y, like_present own passed y key, like_present own passed x key, agree x y key)
    where
      was : (z : ℕ) → z ≢ p → is_there z t.order ≡ true → is_there z s.order ≡ true
      was z ne h = there_before z p s.order (sym (ap (is_there z) order) ∙ h) ne

-- a change keeps the level
changed_level : (cs : List Want) (w : Want) → (changed_want cs w).level ≡ w.level
changed_level [] w = refl
changed_level (c ∷ cs) w = grind (arith, changed_level cs w)

level_changed : (job : ℕ) (cs : List Want) (r : Request) (key : Key) → level_at (changed job cs r) key ≡ level_at r key
level_changed job cs r key = grind (arith, append-nil, own_changed cs r.wants.items key, first (filter (λ v. same_key v.key key) r.wants.items))
  where
    first : (ws : List Want) → first_level (map (changed_want cs) ws) ≡ first_level ws
    first [] = refl
    first (w ∷ ws) = ap (λ (l : ℕ). Some l) (changed_level cs w)

pub levels_changed : (s t : Stored) (job : ℕ) (changes : List Want) → LevelsAgree s → IsChanged s t job changes → LevelsAgree t
levels_changed s t job changes agree is x y key hx hy nx ny =
    let at_x = level_changed job changes (request_at s x) key in
    let at_y = level_changed job changes (request_at s y) key in
    let named_x = named_changed job changes (request_at s x) key in
    let named_y = named_changed job changes (request_at s y) key in
    grind (arith, is.order, is.at x, is.at y, at_x, at_y, named_x, named_y, agree x y key)
