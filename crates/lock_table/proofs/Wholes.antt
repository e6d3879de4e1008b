-- What holds between two calls, and what is seen of it.
use Rattle.std.proofs.Common.{◌≡◌, ◌≤◌, ◌∙◌, sym, ap, subst, ℕ, Bool, true, false, not, List, [], None, ◌∷◌, length, map, filter, Option, Some, refl, arith, ◌&&◌, ◌==◌, cond, ◌++◌, IsTrue, ◌<◌, append_assoc}
use Rattle.lock_queue.specs.declared.request.Request.{Request}
use Rattle.lock_queue.specs.declared.key.Key.{Key}
use Rattle.lock_queue.specs.Queue.{names, all_wants, wants_at}
use Rattle.lock_queue.specs.WellFormed.{are_well_formed, is_well_formed, are_apart}
use Rattle.key_queues.specs.declared.lock.Lock.{Lock}
use Rattle.key_queues.specs.States.{IsTable, State, IsUsed, IsQueued}
use Rattle.key_queues.specs.Tables.{is_there, AreDistinct, QueuesOf, slots_at}
use Rattle.key_queues.proofs.Using.{kept_there, there_kept}
use Rattle.key_queues.specs.Stores.{Stored, entry_at, slots_of, with_entry}
use Rattle.key_queues.proofs.Orders.{filter_same, filter_short, there_split}
use Rattle.lock_table.specs.TableStates.{state_of}
use Rattle.lock_table.specs.Whole.{AreRight, IsWhole, JobsAreApart, LevelsAgree, level_at, requests_in}
use Rattle.lock_queue.specs.declared.want.Want.{Want}
use Rattle.lock_queue.specs.Dequeues.{dequeue_where, has_wants, without_keys_of, without_named, dequeue_fault, dequeue_named, has_id, is_of_job}
use Rattle.arrayvec.specs.ArrayVec.{ArrayVec}
use Rattle.lock_queue.specs.declared.call.LockCall.TheVariants.{Modify, DequeueNamed, Enqueue, DequeueAll, DequeueId}
use Rattle.lock_queue.specs.Grants.{left_of, staying_if, grant_of, is_notified_of, woken, unless_refused_grants, woken_by, woken_by_release, woken_by_withdrawal}
use Rattle.lock_table.specs.Changing.{IsChanged}
use Rattle.lock_table.proofs.Reading.{filter_mapped}
use Rattle.lock_table.specs.Departures.{IsLeft, LeavesBy, LeavesWhere, left_named, stays_beside, is_blocking_at, is_of}
use Rattle.lock_queue.proofs.Lists.{Has-map, list_all-Has, list_all-each, map-Has}
use Rattle.key_queues.proofs.Keeping.{Has-there, flags_tell_grants}
use Rattle.lock_table.proofs.Altering.{filter_each, map_each, map_twice, there_Has}
use Rattle.lock_table.proofs.Named.{fewer_named, job_named, level_named, some_wants}
use Rattle.lock_queue.specs.declared.call.LockReply.TheVariants.{Done, Refused}
use Rattle.lock_queue.specs.Outcomes.{Outcome, first_refusal, outcome, unless_refused}
use Rattle.lock_queue.proofs.WellKept.{well-named}
use Rattle.std.specs.Bool.{beq}
use Rattle.std.proofs.lemmas.Bool.{eq-eqb, or_left, or_parts, or_right, ne_eqb}
use Rattle.lock_queue.specs.declared.call.LockCall.{LockCall}
use Rattle.lock_queue.proofs.GrantLaws.{left-labels, woken-enqueue}
use Rattle.key_queues.specs.Waking.{rises}
use Rattle.key_queues.proofs.Waking.{flags_tell_who_rises, flags_tell_who_rises_without}
use Rattle.lock_table.specs.Reads.{request_at, requests_at, MarksGrants, is_pending_entry}
use Rattle.lock_table.specs.Raised.{grants_marked, is_raised}
use Rattle.lock_table.specs.Flips.{Flipped, mark_at, flipped_if}
use Rattle.std.specs.List.{list_any, find}
use Rattle.std.proofs.Math.Bool.{and_assoc}
use Rattle.std.proofs.lemmas.List.{length-map, map-append}
use Rattle.lock_queue.specs.declared.grant.Grant.{Grant}
use Rattle.lock_queue.specs.declared.refusal.Refusal.{Refusal}
use Rattle.lock_queue.specs.declared.refusal.Refusal.TheVariants.{NotPresent}
use Rattle.lock_queue.specs.Calls.{outcome_of}
use Rattle.lock_queue.specs.Jobs.{is_among, is_blocking, is_not_blocked_where, released, withdrawn_where, as_notified, is_interrupt, is_pending, notified_behind, job_notified}
use Rattle.word36.specs.declared.sizes.TheConstants.{MOST_REQUESTS}
use Rattle.key_queues.proofs.Marks.{marks_choose}
use Rattle.lock_table.proofs.Telling.{any_mapped, before_is}
use Rattle.lock_queue.specs.Keys.{same_key}
use Rattle.key_queues.specs.Beginnings.{fitting}
use Rattle.key_queues.specs.Kept.{Counts}
use Rattle.key_queues.specs.Locks.{lock_at}
use Rattle.key_queues.proofs.Finding.{find_passes}
use Rattle.key_queues.proofs.Moves.{map_same}
use Rattle.key_queues.specs.declared.entry.Entry.{Entry}
use Rattle.key_queues.specs.Entries.{with_notified}
use Rattle.lock_table.proofs.Entries.{entry_like}

-- ---- what holds between two calls still holds after a departure

-- right requests are well-formed
pub well_from_right : (s : Stored) → AreRight s → are_well_formed (requests_in s) ≡ true
well_from_right s right =
    list_all-each is_well_formed (requests_in s) (λ r h.
    let from = map-Has (request_at s) s.order r h in
    subst (λ q. is_well_formed q ≡ true) from.2 (right from.0 (Has-there s.order from.0 from.1)))

pub right_from_well : (s : Stored) → are_well_formed (requests_in s) ≡ true → AreRight s
right_from_well s well x present =
    list_all-Has is_well_formed (requests_in s) (request_at s x) well (Has-map (request_at s) s.order x (there_Has x s.order present))

-- no job has two requests of a key where they have fewer wants
pub jobs_left : (s t : Stored) (then : ℕ → Request) (stays : ℕ → Bool) → JobsAreApart s → IsLeft s t then stays
    → ((x : ℕ) (key : Key) → names (then x).wants.items key ≡ true → names (request_at s x).wants.items key ≡ true)
    → ((x : ℕ) → (then x).job ≡ (request_at s x).job) → JobsAreApart t
jobs_left s t then stays apart left fewer same x y key hx hy nx ny job =
    grind (arith, left.order, left.left, there_kept stays x s.order, there_kept stays y s.order, fewer, same, apart x y key)

-- and a key is still wanted at one level where the requests have fewer wants
pub levels_left : (s t : Stored) (then : ℕ → Request) (stays : ℕ → Bool) → LevelsAgree s → IsLeft s t then stays
    → ((x : ℕ) (key : Key) → names (then x).wants.items key ≡ true → names (request_at s x).wants.items key ≡ true)
    → ((x : ℕ) (key : Key) → names (then x).wants.items key ≡ true → level_at (then x) key ≡ level_at (request_at s x) key) → LevelsAgree t
levels_left s t then stays agree left fewer same x y key hx hy nx ny =
    grind (arith, left.order, left.left, there_kept stays x s.order, there_kept stays y s.order, fewer x key, fewer y key, same x key, same y key, agree x y key)

pub whole_left : (size : ℕ) (s t : Stored) (locks more : List Lock) (stays : ℕ → Bool) → IsWhole size s locks → IsTable (state_of t more)
    → IsLeft s t (request_at s) stays → IsWhole size t more
whole_left size s t locks more stays w table left = record {
  table = table;
  right =
      λ x h.
      let was = there_kept stays x s.order (subst (λ l. is_there x l ≡ true) left.order h) in
      subst (λ (r : Request). is_well_formed r ≡ true) (sym (left.left x h)) (w.right x was.0);
  jobs = jobs_left s t (request_at s) stays w.jobs left (λ x key h. h) (λ x. refl);
  levels = levels_left s t (request_at s) stays w.levels left (λ x key h. h) (λ x key h. refl);
  few = omega (arith, ap length left.order, filter_short stays s.order, w.few);
}

-- who stays beside those that a test chooses
pub beside_chosen : (test : ℕ → Bool) (xs slots : List ℕ) (x : ℕ) → slots ≡ filter test xs → is_there x xs ≡ true → stays_beside slots x ≡ not (test x)
beside_chosen test xs slots x is h = grind (arith, is, kept_there test x xs h, there_kept test x xs)

pub leaves_where : (s t : Stored) (test : ℕ → Bool) (slots : List ℕ) → IsLeft s t (request_at s) (stays_beside slots) → slots ≡ filter test s.order
    → LeavesWhere s t test
leaves_where s t test slots left is = record {
  order = left.order ∙ filter_same (stays_beside slots) (λ x. not (test x)) s.order (λ x h. beside_chosen test s.order slots x is h);
  left = left.left;
}

-- where each leaves, none stays
pub none_stay : (xs : List ℕ) → filter (λ x. false) xs ≡ []
none_stay [] = refl
none_stay (x ∷ xs) = none_stay xs

-- ---- what is left

pub left_requests : (s t : Stored) (then : ℕ → Request) (stays : ℕ → Bool) → IsLeft s t then stays → requests_in t ≡ map then (filter stays s.order)
left_requests s t then stays left = map_each (request_at t) then t.order (λ x h. left.left x (Has-there t.order x h)) ∙ ap (map then) left.order

pub left_where : (s t : Stored) (test : Request → Bool) → IsLeft s t (request_at s) (λ x. not (test (request_at s x)))
    → requests_in t ≡ filter (λ r. not (test r)) (requests_in s)
left_where s t test left =
    left_requests s t (request_at s) (λ x. not (test (request_at s x))) left ∙ sym (filter_mapped (λ r. not (test r)) (request_at s) s.order)

-- where none leaves, all stay
all_stay : (t : ℕ → Bool) (xs : List ℕ) → list_any t xs ≡ false → filter (λ x. not (t x)) xs ≡ xs
all_stay t [] none = refl
all_stay t (x ∷ xs) none = grind (arith, none, all_stay t xs)

-- what is left, and the answer, where the requests for which a test holds are given up
pub left_dequeued : (s t : Stored) (test : Request → Bool) (some : Bool) → IsLeft s t (request_at s) (λ x. not (test (request_at s x)))
    → some ≡ list_any (λ x. test (request_at s x)) s.order → (requests_in t ≡ (dequeue_where (requests_in s) test).requests)
    × (cond some Done (Refused NotPresent) ≡ (dequeue_where (requests_in s) test).reply)
left_dequeued s t test true left is =
    let any : list_any test (requests_in s) ≡ true = any_mapped test (request_at s) s.order ∙ sym is in
    (grind (arith, left_where s t test left, any), grind (arith, any))
left_dequeued s t test false left is =
    let none : list_any test (requests_in s) ≡ false = any_mapped test (request_at s) s.order ∙ sym is in
    let same : requests_in t ≡ requests_in s =
    left_requests s t (request_at s) (λ x. not (test (request_at s x))) left
    ∙ ap (map (request_at s)) (all_stay (λ x. test (request_at s x)) s.order (sym is)) in
    (grind (arith, same, none), grind (arith, none))

pub leaves_by : (left : Request → Option Request) (s t : Stored) (then : ℕ → Request) (stays : ℕ → Bool) → IsLeft s t then stays
    → ((x : ℕ) → left (request_at s x) ≡ staying_if (stays x) (then x)) → LeavesBy left s t
leaves_by left s t then stays is each = record {
  stays = stays;
  order = is.order;
  left_is = λ x h. grind (arith, each x, is.order, is.left x, kept_there stays x s.order h);
}

named_requests : (s t : Stored) (job : ℕ) (named : List Want) → IsLeft s t (left_named s job named) (λ x. has_wants (left_named s job named x))
    → requests_in t ≡ without_named (requests_in s) job named
named_requests s t job named left =
    left_requests s t (left_named s job named) (λ x. has_wants (left_named s job named x)) left
    ∙ sym (filter_mapped has_wants (left_named s job named) s.order)
    ∙ ap (filter has_wants) (sym (map_twice (without_keys_of job named) (request_at s) s.order))

-- and the table stays whole
pub named_gone : (size : ℕ) (s t : Stored) (locks more : List Lock) (job : ℕ) (named : ArrayVec Want) → IsWhole size s locks → IsTable (state_of t more)
    → IsLeft s t (left_named s job named.items) (λ x. has_wants (left_named s job named.items x))
    → first_refusal (dequeue_fault (requests_in s) job) [] named.items ≡ None
    → IsWhole size t more × (requests_in t ≡ (dequeue_named (requests_in s) job named.items).requests)
    × (Done ≡ (dequeue_named (requests_in s) job named.items).reply) × LeavesBy (left_of job (DequeueNamed named)) s t
named_gone size s t locks more job named w table left passed = (
  record {
    table = table;
    right = right_from_well t (subst (λ l. are_well_formed l ≡ true) (sym after) (well-named size (requests_in s) job (well_from_right s w.right) named));
    jobs = jobs_left s t then stays w.jobs left (fewer_named s job named.items) (job_named s job named.items);
    levels = levels_left s t then stays w.levels left (fewer_named s job named.items) (level_named s job named.items);
    few = omega (arith, ap length left.order, filter_short stays s.order, w.few);
  },
  after,
  sym (ap (λ (o : Outcome). o.reply) done),
  leaves_by (left_of job (DequeueNamed named)) s t then stays left (λ x. refl),
)
  where
    then : ℕ → Request
    then = left_named s job named.items

    stays : ℕ → Bool
    stays x = has_wants (left_named s job named.items x)

    done : dequeue_named (requests_in s) job named.items ≡ outcome (without_named (requests_in s) job named.items) Done
    done = ap (λ o. unless_refused (requests_in s) o (outcome (without_named (requests_in s) job named.items) Done)) passed

    after : requests_in t ≡ (dequeue_named (requests_in s) job named.items).requests
    after = named_requests s t job named.items left ∙ sym (ap (λ (o : Outcome). o.requests) done)

-- a change leaves each request, changed
pub changed_leaves : (s t : Stored) (job : ℕ) (changes : ArrayVec Want) → IsChanged s t job changes.items → LeavesBy (left_of job (Modify changes)) s t
changed_leaves s t job changes is = record {
  stays = λ x. true;
  order = is.order ∙ sym (filter_each (λ x. true) s.order (λ x h. refl));
  left_is = λ x h. ap (λ (r : Request). Some r) (sym (is.at x h));
}

-- ---- what is left keeps its kind

pub left_kind : (job : ℕ) (call : LockCall) (r s : Request) → left_of job call r ≡ Some s → s.kind ≡ r.kind
left_kind job (Enqueue asking wants) r s e = grind arith
left_kind job (Modify changes) r s e = grind arith
left_kind job (DequeueNamed named) r s e = grind arith
left_kind job DequeueAll r s e = grind arith
left_kind job (DequeueId id) r s e = grind arith

-- ---- who rises

same_test : (was is notified : Bool) → ((flipped_if (not (beq was is)) false && is) && notified) ≡ ((notified && not was) && (true && is))
same_test was is notified = grind arith

-- each request of a table that is right has wants
flipped_all : (s t : Stored) (before after : List Bool) → AreRight t → Flipped s t before after → (x : ℕ) → is_there x t.order ≡ true
    → mark_at after x ≡ flipped_if (not (beq (entry_at s x).granted (entry_at t x).granted)) (mark_at before x)
flipped_all s t before after right flipped x there = flipped x (grind (arith, there, some_wants (request_at t x) (right x there)))

-- where some slots stay in order, each with the job, the id and the kind of its request, the grants are those of the slots whose flags rise
module _ (s t : Stored) (locks more : List Lock) (stays : ℕ → Bool) (before after : List Bool) (order : t.order ≡ filter stays s.order)
    (label : (x : ℕ) → is_there x s.order ≡ true → stays x ≡ true → grant_of (request_at t x) ≡ grant_of (request_at s x))
    (kind : (x : ℕ) → is_there x s.order ≡ true → stays x ≡ true → (request_at t x).kind ≡ (request_at s x).kind)
    (none : (x : ℕ) → mark_at before x ≡ false)
    (flipped : (x : ℕ) → is_there x t.order ≡ true
    → mark_at after x ≡ flipped_if (not (beq (entry_at s x).granted (entry_at t x).granted)) (mark_at before x)) where
  raised_is : (x : ℕ) → is_there x s.order ≡ true → stays x ≡ true → is_raised t after x ≡ rises (state_of s locks) (state_of t more) stays x
  raised_is x present stay =
      let there : is_there x t.order ≡ true = ap (is_there x) order ∙ kept_there stays x s.order present stay in
      let same = same_test (entry_at s x).granted (entry_at t x).granted (is_notified_of (request_at s x).kind) in
      rw (flipped x there, none x, kind x present stay, stay) same

  raised_all : (xs : List ℕ) → ((x : ℕ) → is_there x xs ≡ true → is_there x s.order ≡ true)
      → map grant_of (requests_at t (filter (is_raised t after) (filter stays xs)))
      ≡ map grant_of (requests_at s (filter (rises (state_of s locks) (state_of t more) stays) xs))
  raised_all [] sub = refl
  raised_all (x ∷ xs) sub =
      let present : is_there x s.order ≡ true = sub x (or_left (x == x) (is_there x xs) (eq-eqb x x refl)) in
      let rest = raised_all xs (λ y h. sub y (or_right (x == y) (is_there y xs) h)) in
      grind (arith, rest, raised_is x present, label x present)

  pub risen_marked : grants_marked t after ≡ map grant_of (requests_at s (filter (rises (state_of s locks) (state_of t more) stays) s.order))
  risen_marked = ap (λ l. map grant_of (requests_at t (filter (is_raised t after) l))) order ∙ raised_all s.order (λ x h. h)

module _ (s t : Stored) (locks more : List Lock) (before after : List Bool) (was : IsTable (state_of s locks)) (is : IsTable (state_of t more))
    (none : (x : ℕ) → mark_at before x ≡ false) (flipped : Flipped s t before after) (right : AreRight t) where
  -- the grants that are made where the requests leave by which some jobs wait
  pub woken_withdrawn : (jobs : ℕ) → LeavesWhere s t (is_blocking_at s (is_among jobs)) → grants_marked t after ≡ woken_by_withdrawal (requests_in s) jobs
  woken_withdrawn jobs left =
      risen_marked s t locks more stays before after left.order (λ x h stay. ap grant_of (same x h stay))
      (λ x h stay. ap (λ (r : Request). r.kind) (same x h stay)) none (flipped_all s t before after right flipped)
      ∙ ap (map grant_of)
      (sym (flags_tell_who_rises_without (state_of s locks) (state_of t more) (is_among jobs) stays was is (λ x h. stays_is x) left.left left.order))
    where
      stays : ℕ → Bool
      stays x = not (is_blocking_at s (is_among jobs) x)

      stays_is : (x : ℕ) → stays x ≡ not ((is_among jobs (request_at s x).job && is_blocking (request_at s x).kind) && not (entry_at s x).granted)
      stays_is x =
          ap not (sym (and_assoc (is_among jobs (request_at s x).job) (is_blocking (request_at s x).kind) (not (entry_at s x).granted)))

      same : (x : ℕ) → is_there x s.order ≡ true → stays x ≡ true → request_at t x ≡ request_at s x
      same x h stay = left.left x (ap (is_there x) left.order ∙ kept_there stays x s.order h stay)

module _ (s t : Stored) (locks more : List Lock) (job : ℕ) (before after : List Bool) (was : IsTable (state_of s locks)) (is : IsTable (state_of t more))
    (none : (x : ℕ) → mark_at before x ≡ false) (flipped : Flipped s t before after) (right : AreRight t) where
  -- the grants that a call makes by what it leaves
  woken_by_call : (call : LockCall) → LeavesBy (left_of job call) s t → grants_marked t after ≡ woken (left_of job call) (requests_in s)
  woken_by_call call leaves =
      risen_marked s t locks more leaves.stays before after leaves.order
      (λ x h stay. left-labels job call (request_at s x) (request_at t x) (left_is x h stay))
      (λ x h stay. left_kind job call (request_at s x) (request_at t x) (left_is x h stay)) none (flipped_all s t before after right flipped)
      ∙ sym (flags_tell_who_rises (state_of s locks) (state_of t more) (left_of job call) leaves.stays was is leaves.left_is leaves.order)
    where
      left_is : (x : ℕ) → is_there x s.order ≡ true → leaves.stays x ≡ true → left_of job call (request_at s x) ≡ Some (request_at t x)
      left_is x h stay = leaves.left_is x h ∙ ap (λ b. staying_if b (request_at t x)) stay

  -- where it is done
  pub woken_done : (size : ℕ) (call : LockCall) → LeavesBy (left_of job call) s t → (outcome_of size (requests_in s) job call).reply ≡ Done
      → grants_marked t after ≡ woken_by size (requests_in s) job call
  woken_done size call leaves done =
      woken_by_call call leaves ∙ sym (ap (λ reply. unless_refused_grants reply (woken (left_of job call) (requests_in s))) done)

  pub woken_released : LeavesWhere s t (is_of s job) → grants_marked t after ≡ woken_by_release (requests_in s) job
  woken_released left =
      woken_by_call DequeueAll (leaves_by (left_of job DequeueAll) s t (request_at s) (λ x. not (is_of s job x)) left (λ x. refl))

-- ---- where one slot at most is marked

-- a test that only one slot passes keeps that slot, where it is there
only_kept : (t : ℕ → Bool) (p : ℕ) (xs : List ℕ) → ((x : ℕ) → (x ≡ p → ⊥) → t x ≡ false) → AreDistinct xs → filter t xs ≡ cond (is_there p xs && t p) (p ∷ []) []
only_kept t p [] only once = refl
only_kept t p (x ∷ xs) only once =
    let rest =
    only_kept t p xs only
    (λ before after q is. let parts = once (x ∷ before) after q (ap (λ l. x ∷ l) is) in
    ((or_parts (x == q) (is_there q before) parts.0).1, parts.1)) in
    grind (arith, only x, rest, (once [] xs x refl).1)

unmarked : (s : Stored) (marks : List Bool) (x : ℕ) → mark_at marks x ≡ false → is_raised s marks x ≡ false
unmarked s marks x e = grind arith

pub none_raised : (s : Stored) (marks : List Bool) (xs : List ℕ) → ((x : ℕ) → mark_at marks x ≡ false) → filter (is_raised s marks) xs ≡ []
none_raised s marks xs none = ap (λ (t : ℕ → Bool). filter t xs) (λ i x. unmarked s marks x (none x) i) ∙ none_stay xs

pub only_raised : (s : Stored) (marks : List Bool) (p : ℕ) → ((x : ℕ) → (x ≡ p → ⊥) → mark_at marks x ≡ false) → AreDistinct s.order
    → filter (is_raised s marks) s.order ≡ cond (is_there p s.order && is_raised s marks p) (p ∷ []) []
only_raised s marks p only once = only_kept (is_raised s marks) p s.order (λ x ne. unmarked s marks x (only x ne)) once

-- the grants, where it is known whether the slot is there and is raised
pub only_grants : (s : Stored) (marks : List Bool) (p : ℕ) (there raised : Bool) → ((x : ℕ) → (x ≡ p → ⊥) → mark_at marks x ≡ false)
    → AreDistinct s.order → is_there p s.order ≡ there → is_raised s marks p ≡ raised
    → grants_marked s marks ≡ cond (there && raised) (grant_of (request_at s p) ∷ []) []
only_grants s marks p there raised only once a b = grind (arith, only_raised s marks p only once)

-- ---- what is seen of the parts of a table

-- what a caller may rely on
pub seen_whole : (size : ℕ) (s : Stored) (locks : List Lock) → (1 ≤ size) × (size ≤ MOST_REQUESTS) → IsWhole size s locks → ((1 ≤ size) × (size ≤ MOST_REQUESTS))
    × ((length (requests_in s) ≤ size) × (IsTrue (are_well_formed (requests_in s)) × Unit {0}))
seen_whole size s locks sized whole =
    (sized, (omega (arith, whole.few, length-map s.order (request_at s)), (well_from_right s whole.right, tt)))

-- all requests of a job leave
pub released_is : (s t : Stored) (job : ℕ) → LeavesWhere s t (is_of s job) → requests_in t ≡ released (requests_in s) job
released_is s t job left = left_where s t (is_of_job job) left

-- the requests by which some jobs wait leave
pub withdrawn_is : (s t : Stored) (waiters : ℕ → Bool) → MarksGrants s → LeavesWhere s t (is_blocking_at s waiters)
    → requests_in t ≡ withdrawn_where (requests_in s) waiters
withdrawn_is s t waiters m left =
    left_requests s t (request_at s) (λ x. not (is_blocking_at s waiters x)) left
    ∙ sym (marks_choose (is_not_blocked_where waiters) (request_at s) (λ x. not (is_blocking_at s waiters x)) s.order right).0
  where
    right : (before after : List ℕ) (p : ℕ) → s.order ≡ before ++ p ∷ after
        → is_not_blocked_where waiters (map (request_at s) before) (request_at s p) ≡ not (is_blocking_at s waiters p)
    right before after p is =
        let present : is_there p s.order ≡ true = subst (λ l. is_there p l ≡ true) (sym is) (there_split p before after) in
        ap (λ l. is_not_blocked_where waiters (map (request_at s) l) (request_at s p)) (sym (before_is s.order before after p m.once is))
        ∙ ap (λ b. not ((waiters (request_at s p).job && is_blocking (request_at s p).kind) && not b)) (sym (m.marks p present))
        ∙ ap not (and_assoc (waiters (request_at s p).job) (is_blocking (request_at s p).kind) (not (entry_at s p).granted))

refused : (requests l : List Request) (o : Option Refusal) (grants : List Grant) → ((unless_refused requests o (outcome l Done)).reply ≡ Done → ⊥)
    → [] ≡ unless_refused_grants (unless_refused requests o (outcome l Done)).reply grants
refused requests l None grants ne = absurd (ne refl)
refused requests l (Some refusal) grants ne = refl

none_found : (requests l : List Request) (b : Bool) (grants : List Grant) → ((cond b (outcome l Done) (outcome requests (Refused NotPresent))).reply ≡ Done → ⊥)
    → [] ≡ unless_refused_grants (cond b (outcome l Done) (outcome requests (Refused NotPresent))).reply grants
none_found requests l true grants ne = absurd (ne refl)
none_found requests l false grants ne = refl

-- who is refused is not done
pub refused_done : (refusal : Refusal) → Refused refusal ≡ Done → ⊥
refused_done refusal e = cc

-- another makes no grants of which jobs are notified
pub quiet : (size : ℕ) (requests : List Request) (job : ℕ) (call : LockCall) → ((outcome_of size requests job call).reply ≡ Done → ⊥)
    → [] ≡ woken_by size requests job call
quiet size requests job (Enqueue asking wants) ne = sym (woken-enqueue size requests job asking wants)
quiet size requests job (Modify wants) ne = refused requests _ _ (woken (left_of job (Modify wants)) requests) ne
quiet size requests job (DequeueNamed wants) ne = refused requests _ _ (woken (left_of job (DequeueNamed wants)) requests) ne
quiet size requests job DequeueAll ne = none_found requests _ (list_any (is_of_job job) requests) (woken (left_of job DequeueAll) requests) ne
quiet size requests job (DequeueId id) ne = none_found requests _ (list_any (has_id job id) requests) (woken (left_of job (DequeueId id)) requests) ne

-- ---- a request of which its job is notified

-- a table sees of the requests their wants alone
module _ (s : State) (at : ℕ → Request) (wants : (x : ℕ) → (at x).wants.items ≡ (s.at x).wants.items) where
  all_same : (xs : List ℕ) → all_wants (map at xs) ≡ all_wants (map s.at xs)
  all_same [] = refl
  all_same (x ∷ xs) = ap (λ l. l ++ all_wants (map at xs)) (wants x) ∙ ap (λ l. (s.at x).wants.items ++ l) (all_same xs)

  wants_same : (key : Key) → wants_at (map at s.order) key ≡ wants_at (map s.at s.order) key
  wants_same key = ap (filter (λ w. same_key w.key key)) (all_same s.order)

  slots_same : (key : Key) → slots_at at s.order key ≡ slots_at s.at s.order key
  slots_same key = ap (λ (t : ℕ → Bool). filter t s.order) (λ i x. names (wants x i) key)

  pub table_same : IsTable s → IsTable (record s { at = at })
  table_same table = record {
    kept = record {
      once = table.kept.once;
      apart = λ x. ap are_apart (wants x) ∙ table.kept.apart x;
      queues = λ x h. subst (λ l. QueuesOf (λ w n. s.key n ≡ w.key) l (s.own x)) (sym (wants x)) (table.kept.queues x h);
      one = λ x n y m st su e. table.kept.one x n y m (was x n st) (was y m su) e;
      counts =
          λ x n st.
          let c = table.kept.counts x n (was x n st) in
          record {
            slots = c.slots ∙ sym (slots_same (s.key n));
            counts = subst (λ l. Counts (s.size n) l (s.queue n)) (sym (wants_same (s.key n))) c.counts;
          };
    };
    flags = table.flags;
    full = λ x n st. table.full x n (was x n st) ∙ ap fitting (sym (wants_same (s.key n)));
    used =
        λ n some.
        let u : IsUsed s n = table.used n some in
        record { slot = u.slot; stands = record { present = u.stands.present; there = u.stands.there } };
  }
    where
      was : (x n : ℕ) → IsQueued (record s { at = at }) x n → IsQueued s x n
      was x n st = record { present = st.present; there = st.there }

module _ (s t : Stored) (p : ℕ) (lt : p < length s.entries) (is : t ≡ with_entry s p (with_notified (entry_at s p))) where
  abbrev f : Entry
  f = with_notified (entry_at s p)

  like : {Y : Type 0} → (g : Entry → Y) → g f ≡ g (entry_at s p) → (x : ℕ) → g (entry_at t x) ≡ g (entry_at s x)
  like = entry_like s t p f lt (ap (λ (v : Stored). v.entries) is)

  pub notified_order : t.order ≡ s.order
  notified_order = ap (λ (v : Stored). v.order) is

  pub notified_whole : (size : ℕ) (locks : List Lock) → IsWhole size s locks → IsWhole size t locks
  notified_whole size locks w = record {
    table = subst IsTable (sym same_state) (table_same (state_of s locks) (request_at t) wants_like w.table);
    right = λ x h. like (λ (g : Entry). is_well_formed g.request) refl x ∙ w.right x (subst (λ l. is_there x l ≡ true) notified_order h);
    jobs = λ x y key hx hy nx ny e. grind (arith, notified_order, wants_like x, wants_like y, job_like x, job_like y, w.jobs x y key);
    levels =
        λ x y key hx hy nx ny.
        grind (arith, notified_order, wants_like x, wants_like y, level_like key x, level_like key y, w.levels x y key);
    few = subst (λ l. length l ≤ size) (sym notified_order) w.few;
  }
    where
      wants_like : (x : ℕ) → (request_at t x).wants.items ≡ (request_at s x).wants.items
      wants_like = like (λ (g : Entry). g.request.wants.items) refl

      job_like : (x : ℕ) → (request_at t x).job ≡ (request_at s x).job
      job_like = like (λ (g : Entry). g.request.job) refl

      level_like : (key : Key) (x : ℕ) → level_at (request_at t x) key ≡ level_at (request_at s x) key
      level_like key = like (λ (g : Entry). level_at g.request key) refl

      same_state : state_of t locks ≡ record (state_of s locks) { at = request_at t }
      same_state = λ i. record {
        order = notified_order i;
        at = request_at t;
        own = λ x. like (λ (g : Entry). g.queues.items) refl x i;
        flag = λ x. like (λ (g : Entry). g.granted) refl x i;
        key = λ n. (lock_at locks n).key;
        size = λ n. (lock_at locks n).size;
        queue = λ n. (lock_at locks n).queue;
      }

-- ---- the first for which a test holds is notified

find_among : (a t : ℕ → Bool) (xs : List ℕ) → find t (filter a xs) ≡ find (λ x. a x && t x) xs
find_among a t [] = refl
find_among a t (x ∷ xs) = grind (arith, find_among a t xs)

module _ (test : List Request → Request → Bool) (at : ℕ → Request) (mark : ℕ → Bool) (order : List ℕ)
    (right : (before after : List ℕ) (p : ℕ) → order ≡ before ++ p ∷ after → test (map at before) (at p) ≡ mark p) where
  pub notified_first : (before xs : List ℕ) (p : ℕ) → AreDistinct order → order ≡ before ++ xs → find mark xs ≡ Some p
      → notified_behind test (map at before) (map at xs) ≡ map (λ x. cond (x == p) (as_notified (at x)) (at x)) xs
  notified_first before [] p once is e = cc
  notified_first before (x ∷ xs) p once is e =
      let here : test (map at before) (at x) ≡ mark x = right before xs x is in
      let later = notified_first (before ++ x ∷ []) xs p once (is ∙ sym (append_assoc before (x ∷ []) xs)) in
      let rest = map_same at (λ y. cond (y == p) (as_notified (at y)) (at y)) p xs in
      grind (arith, here, later, rest, map-append at before (x ∷ []), once before xs x is, find_passes mark xs p, ne_eqb)

  pub notified_none : (before xs : List ℕ) → order ≡ before ++ xs → find mark xs ≡ None → notified_behind test (map at before) (map at xs) ≡ map at xs
  notified_none before [] is e = refl
  notified_none before (x ∷ xs) is e = grind (arith, right before xs x is, map-append at before (x ∷ []), notified_none (before ++ x ∷ []) xs (is ∙ sym (append_assoc before (x ∷ []) xs)))

-- which request of a job is pending
module _ (s : Stored) (locks : List Lock) (job : ℕ) (table : IsTable (state_of s locks)) where
  marks : ℕ → Bool
  marks x = is_of s job x && is_pending_entry (entry_at s x)

  assoc : (a b c d : Bool) → (((a && b) && c) && d) ≡ (a && ((b && c) && d))
  assoc a b c d = grind arith

  marks_right : (before after : List ℕ) (p : ℕ) → s.order ≡ before ++ p ∷ after → is_pending job (map (request_at s) before) (request_at s p) ≡ marks p
  unfolding marks
  marks_right before after p is =
      ap (λ b. (((request_at s p).job == job && is_interrupt (request_at s p).kind) && not (request_at s p).notified) && b)
      (sym (flags_tell_grants (state_of s locks) table.kept table.full table.flags before after p is))
      ∙ assoc ((request_at s p).job == job) (is_interrupt (request_at s p).kind) (not (request_at s p).notified) (entry_at s p).granted

  pub notified_is : (t : Stored) (p : ℕ) → find (λ x. is_pending_entry (entry_at s x)) (slots_of s job) ≡ Some p → t.order ≡ s.order
      → (entry_at t p).request ≡ as_notified (entry_at s p).request → ((x : ℕ) → (x ≡ p → ⊥) → (entry_at t x).request ≡ (entry_at s x).request)
      → requests_in t ≡ job_notified (requests_in s) job
  unfolding marks
  notified_is t p found order mine others =
      let each : (x : ℕ) → request_at t x ≡ cond (x == p) (as_notified (request_at s x)) (request_at s x) = λ x. grind (arith, mine, others x) in
      ap (map (request_at t)) order
      ∙ ap (λ (g : ℕ → Request). map g s.order) (λ i x. each x i)
      ∙ sym
      (notified_first (is_pending job) (request_at s) marks s.order marks_right [] s.order p table.kept.once refl
      (sym (find_among (is_of s job) (λ x. is_pending_entry (entry_at s x)) s.order) ∙ found))

  pub none_notified : find (λ x. is_pending_entry (entry_at s x)) (slots_of s job) ≡ None → requests_in s ≡ job_notified (requests_in s) job
  unfolding marks
  none_notified found =
      sym
      (notified_none (is_pending job) (request_at s) marks s.order marks_right [] s.order refl
      (sym (find_among (is_of s job) (λ x. is_pending_entry (entry_at s x)) s.order) ∙ found))
