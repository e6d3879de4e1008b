-- What marks of grants tell of the requests.
use Rattle.std.proofs.Common.{◌≡◌, ◌<◌, ◌+◌, ◌∙◌, sym, ap, subst, ℕ, suc, Bool, true, false, ◌&&◌, ◌||◌, ◌==◌, not, cond, List, [], ◌∷◌, ◌++◌, length, take, drop, get_or, map, filter, Some, option_map, unwrap_or, refl, arith}
use Rattle.std.specs.List.{find, list_any, position_or_len}
use Rattle.std.proofs.lemmas.Bool.{false_from_ne_true, eq-eqb, or_parts}
use Rattle.std.proofs.lemmas.List.{take-map}
use Rattle.std.proofs.lemmas.Option.{get_or_from_slice_get, slice_get-map}
use Rattle.word36.specs.declared.sizes.TheConstants.{JOBS}
use Rattle.lock_queue.specs.declared.key.Key.{Key}
use Rattle.lock_queue.specs.declared.request.Request.{Request}
use Rattle.lock_queue.specs.declared.want.Want.{Want}
use Rattle.lock_queue.specs.Jobs.{first_id, is_blocked_by, is_pending, is_waiting_job, pending, waits_for, is_blocked as is_blocked_behind}
use Rattle.lock_queue.specs.Keys.{same_key}
use Rattle.lock_queue.specs.Queue.{all_wants, chosen, granted, granted_behind, is_granted, is_owner, is_waiter, names, owners, some_behind, waiters}
use Rattle.lock_queue.specs.StatusWords.{first_level, level_of, status_from, status_of}
use Rattle.lock_queue.specs.WellFormed.{is_job}
use Rattle.lock_queue.proofs.Lists.{list_any-found}
use Rattle.lock_queue.proofs.WellKept.{job_number}
use Rattle.key_queues.specs.declared.lock.Lock.{Lock}
use Rattle.key_queues.specs.States.{IsTable}
use Rattle.key_queues.specs.Tables.{AreDistinct, is_there, slots_at}
use Rattle.key_queues.proofs.Counted.{none_kept}
use Rattle.key_queues.proofs.Keeping.{Has-there, flags_tell_grants, found_there, split_there}
use Rattle.key_queues.proofs.Orders.{there_split}
use Rattle.key_queues.proofs.Marks.{marks_choose}
use Rattle.key_queues.proofs.Lists.{found_within, split_at}
use Rattle.key_queues.proofs.Using.{there_kept}
use Rattle.key_queues.specs.Stores.{Stored, entry_at, is_blocked, slots_of}
use Rattle.lock_table.specs.TableStates.{state_of}
use Rattle.lock_table.specs.Reads.{MarksGrants, before_of, id_at, is_blocked_from, is_pending_entry, owners_among, request_at, requests_at, status_among, waiters_among}
use Rattle.lock_table.specs.Whole.{AreRight, requests_in}
use Rattle.lock_table.proofs.Reading.{wants_at_slots}

-- ---- before a slot

pub front_at : (before after : List ℕ) (p : ℕ) → is_there p before ≡ false → before_of (before ++ p ∷ after) p ≡ before
front_at [] after p f = rw (eq-eqb p p refl) refl
front_at (x ∷ before) after p f =
    let parts = or_parts (x == p) (is_there p before) f in
    let one : 1 + position_or_len (λ x. x == p) (before ++ p ∷ after) ≡ suc (position_or_len (λ x. x == p) (before ++ p ∷ after)) = omega arith in
    ap (λ b. take (cond (not b) (1 + position_or_len (λ x. x == p) (before ++ p ∷ after)) 0) (x ∷ before ++ p ∷ after)) parts.0
    ∙ ap (λ n. take n (x ∷ before ++ p ∷ after)) one
    ∙ ap (λ l. x ∷ l) (front_at before after p parts.1)

pub before_is : (order before after : List ℕ) (p : ℕ) → AreDistinct order → order ≡ before ++ p ∷ after → before_of order p ≡ before
before_is order before after p once is = ap (λ l. before_of l p) is ∙ front_at before after p (once before after p is).0

-- a table marks grants
pub marks_grants : (s : Stored) (locks : List Lock) → IsTable (state_of s locks) → MarksGrants s
marks_grants s locks t = record {
  once = t.kept.once;
  marks =
      λ p present.
      let split = split_there p s.order present in
      flags_tell_grants (state_of s locks) t.kept t.full t.flags split.0 split.1 p split.2
      ∙ ap (λ l. granted_behind (requests_at s l) (request_at s p)) (sym (before_is s.order split.0 split.1 p t.kept.once split.2));
}

-- ---- what a test chooses

module _ (s : Stored) (test : List Request → Request → Bool) (mark : ℕ → Bool) (m : MarksGrants s)
    (right : (p : ℕ) → is_there p s.order ≡ true → test (requests_at s (before_of s.order p)) (request_at s p) ≡ mark p) where
  told : (chosen test (requests_in s) ≡ requests_at s (filter mark s.order)) × (some_behind test [] (requests_in s) ≡ list_any mark s.order)
  told =
      marks_choose test (request_at s) mark s.order (λ before after p is.
      ap (λ l. test (requests_at s l) (request_at s p)) (sym (before_is s.order before after p m.once is))
      ∙ right p (subst (λ l. is_there p l ≡ true) (sym is) (there_split p before after)))

-- ---- lists

-- a test of those that another keeps
pub any_among : (a t : ℕ → Bool) (xs : List ℕ) → list_any (λ p. a p && t p) xs ≡ list_any t (filter a xs)
any_among a t [] = refl
any_among a t (x ∷ xs) = grind (arith, any_among a t xs)

filter_among : (a t : ℕ → Bool) (xs : List ℕ) → filter (λ p. a p && t p) xs ≡ filter t (filter a xs)
filter_among a t [] = refl
filter_among a t (x ∷ xs) = grind (arith, filter_among a t xs)

-- a test finds one where not none are kept
pub any_some : (t : ℕ → Bool) (xs : List ℕ) → list_any t xs ≡ not (length (filter t xs) == 0)
any_some t [] = refl
any_some t (x ∷ xs) = grind (arith, any_some t xs)

pub any_mapped : {X : Type 0} → (t : X → Bool) (f : ℕ → X) (xs : List ℕ) → list_any t (map f xs) ≡ list_any (λ x. t (f x)) xs
any_mapped t f [] = refl
any_mapped t f (x ∷ xs) = ap (λ b. t (f x) || b) (any_mapped t f xs)

first_found : (s : Stored) (t : ℕ → Bool) (xs : List ℕ) → first_id (requests_at s (filter t xs)) ≡ id_at s (find t xs)
first_found s t [] = refl
first_found s t (x ∷ xs) = grind (arith, first_found s t xs)

-- what is found was there
pub find_there : (t : ℕ → Bool) (xs : List ℕ) (p : ℕ) → find t xs ≡ Some p → is_there p xs ≡ true
find_there t [] p e = cc
find_there t (x ∷ xs) p e = grind (arith, find_there t xs p)

-- a request that is found so is present
pub pending_there : (s : Stored) (job p : ℕ) → Some p ≡ find (λ q. is_pending_entry (entry_at s q)) (slots_of s job) → is_there p s.order ≡ true
pending_there s job p is =
    (there_kept (λ q. (entry_at s q).request.job == job) p s.order (find_there (λ q. is_pending_entry (entry_at s q)) (slots_of s job) p (sym is))).0

-- ---- jobs

-- a job's requests are present
pub no_job : (s : Stored) (job : ℕ) → AreRight s → JOBS < job → slots_of s job ≡ []
no_job s job right above = none_kept own s.order (false_from_ne_true (list_any own s.order) (λ e.
    let found = list_any-found own s.order e in
    let of : is_job (request_at s found.0).job ≡ true = job_number (request_at s found.0) (right found.0 (Has-there s.order found.0 found.1)) in
    grind (arith, of, found.2)))
  where
    own : ℕ → Bool
    own p = (request_at s p).job == job

module _ (s : Stored) (job : ℕ) (m : MarksGrants s) where
  abbrev own : ℕ → Bool
  own p = (request_at s p).job == job

  pub waiting_is : is_waiting_job (requests_in s) job ≡ list_any (λ p. is_blocked (entry_at s p)) (slots_of s job)
  waiting_is =
      (told s (is_blocked_behind job) (λ p. own p && is_blocked (entry_at s p)) m (λ p present. grind (arith, m.marks p present))).1
      ∙ any_among own (λ p. is_blocked (entry_at s p)) s.order

  pub pending_is : pending (requests_in s) job ≡ id_at s (find (λ p. is_pending_entry (entry_at s p)) (slots_of s job))
  pending_is =
      ap first_id ((told s (is_pending job) (λ p. own p && is_pending_entry (entry_at s p)) m (λ p present. grind (arith, m.marks p present))).0
      ∙ ap (requests_at s) (filter_among own (λ p. is_pending_entry (entry_at s p)) s.order))
      ∙ first_found s (λ p. is_pending_entry (entry_at s p)) (slots_of s job)

  pub waits_is : (other : ℕ) → waits_for (requests_in s) job other ≡ list_any (is_blocked_from s other) (slots_of s job)
  waits_is other =
      (told s (is_blocked_by job other) (λ p. own p && is_blocked_from s other p) m (λ p present. grind (arith, m.marks p present))).1
      ∙ any_among own (is_blocked_from s other) s.order

-- ---- one request

pub granted_is : (s : Stored) (i : ℕ) → MarksGrants s → i < length s.order → (entry_at s (get_or s.order i 0)).granted ≡ granted (requests_in s) i
granted_is s i m lt =
    let found = found_within s.order i lt in
    let x : ℕ = found.0 in
    let there : is_there x s.order ≡ true = found_there x i s.order found.1 in
    ap (λ p. (entry_at s p).granted) (get_or_from_slice_get s.order i x 0 found.1)
    ∙ m.marks x there
    ∙ ap (λ l. granted_behind (requests_at s l) (request_at s x))
    (before_is s.order (take i s.order) (drop (suc i) s.order) x m.once (split_at s.order i x found.1))
    ∙ ap (λ l. granted_behind l (request_at s x)) (sym (take-map (request_at s) i s.order))
    ∙ ap (is_granted (take i (requests_in s))) (sym (slice_get-map (request_at s) s.order i ∙ ap (option_map (request_at s)) found.1))

-- ---- a key

module _ (s : Stored) (key : Key) (m : MarksGrants s) where
  abbrev wanted : ℕ → Bool
  wanted p = names (request_at s p).wants.items key

  owners_are : owners (requests_in s) key ≡ requests_at s (owners_among s (slots_at (request_at s) s.order key))
  owners_are =
      (told s (is_owner key) (λ p. wanted p && (entry_at s p).granted) m (λ p present. ap (λ b. wanted p && b) (sym (m.marks p present)))).0
      ∙ ap (requests_at s) (filter_among wanted (λ p. (entry_at s p).granted) s.order)

  waiters_are : waiters (requests_in s) key ≡ requests_at s (waiters_among s (slots_at (request_at s) s.order key))
  waiters_are =
      (told s (is_waiter key) (λ p. wanted p && not (entry_at s p).granted) m (λ p present. ap (λ b. wanted p && not b) (sym (m.marks p present)))).0
      ∙ ap (requests_at s) (filter_among wanted (λ p. not (entry_at s p).granted) s.order)

  pub status_is : (asker : ℕ) → status_of (requests_in s) key asker
      ≡ status_among s (slots_at (request_at s) s.order key) key asker (level_of (requests_in s) key)
  status_is asker =
      ap (λ l. status_from key asker (level_of (requests_in s) key) l (waiters (requests_in s) key)) owners_are
      ∙ ap (status_from key asker (level_of (requests_in s) key) (requests_at s (owners_among s (slots_at (request_at s) s.order key)))) waiters_are

-- the level at which a key is wanted is that of the first request that wants it
first_wanted : (t : Want → Bool) (xs ys : List Want) → list_any t xs ≡ true → first_level (filter t (xs ++ ys)) ≡ first_level (filter t xs)
first_wanted t [] ys some = cc
first_wanted t (x ∷ xs) ys some = grind (arith, first_wanted t xs ys)

pub level_first : (at : ℕ → Request) (order : List ℕ) (key : Key) (slots : List ℕ) → slots ≡ slots_at at order key → 0 < length slots
    → level_of (map at order) key ≡ unwrap_or (first_level (filter (λ w. same_key w.key key) (at (get_or slots 0 0)).wants.items)) 0
level_first at order key [] is some = absurd (omega arith)
level_first at order key (p ∷ rest) is some =
    let there : is_there p (slots_at at order key) ≡ true = subst (λ l. is_there p l ≡ true) is (grind arith) in
    ap (λ (l : List Want). unwrap_or (first_level l) 0) (sym (wants_at_slots at order key (p ∷ rest) is))
    ∙ ap (λ o. unwrap_or o 0)
    (first_wanted (λ w. same_key w.key key) (at p).wants.items (all_wants (map at rest)) (there_kept (λ x. names (at x).wants.items key) p order there).1)

pub level_none : (at : ℕ → Request) (order : List ℕ) (key : Key) (slots : List ℕ) → slots ≡ slots_at at order key → length slots ≡ 0
    → level_of (map at order) key ≡ 0
level_none at order key [] is none =
    ap (λ (l : List Want). unwrap_or (first_level l) 0) (sym (wants_at_slots at order key [] is))
level_none at order key (p ∷ rest) is none = absurd (omega (arith, none))
