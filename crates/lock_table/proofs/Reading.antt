-- Requests with wants of a key stand in its queue, and those of a job in its list.
use Rattle.std.proofs.Common.{◌≡◌, ◌<◌, ◌∙◌, sym, ap, subst, ℕ, Bool, true, false, ◌&&◌, ◌==◌, List, [], ◌∷◌, length, get_or, map, filter, refl, arith}
use Rattle.std.specs.List.{All, list_any}
use Rattle.std.proofs.lemmas.Bool.{both_ways, false_from_ne_true}
use Rattle.std.proofs.lemmas.List.{get_or_read, length-map}
use Rattle.std.proofs.lemmas.List.Elements.{filter-append}
use Rattle.lock_queue.specs.declared.key.Key.{Key}
use Rattle.lock_queue.specs.declared.request.Request.{Request}
use Rattle.lock_queue.specs.Keys.{same_key}
use Rattle.lock_queue.specs.Queue.{all_wants, names, requests_of, wants_at, wants_of}
use Rattle.lock_queue.proofs.Fitting.{eq-same_key, names-found}
use Rattle.lock_queue.proofs.Lists.{list_any-found}
use Rattle.key_queues.specs.declared.lock.Lock.{Lock}
use Rattle.key_queues.specs.Locks.{lock_at, unused_lock}
use Rattle.key_queues.specs.States.{State, IsTable, in_use}
use Rattle.key_queues.specs.Tables.{is_there, slots_at, IsAt}
use Rattle.key_queues.proofs.Counted.{none_kept}
use Rattle.key_queues.proofs.Keeping.{Has-there}
use Rattle.key_queues.proofs.LockUseLaws.{used_in_use}
use Rattle.key_queues.proofs.Using.{queue_of_want, there_kept, there_at}
use Rattle.key_queues.specs.Stores.{Stored, entry_at, slots_of}

-- a lock that is read of some that are seen
pub lock_read : (seen locks : List Lock) (n : ℕ) (l : Lock) → seen ≡ locks → n < length locks → l ≡ get_or seen n l → l ≡ lock_at locks n
lock_read seen locks n l same lt is = get_or_read locks n l lt (is ∙ ap (λ s. get_or s n l) same) unused_lock

-- a queue in use is that of its key
pub in_use_at : (s : State) (n : ℕ) → IsTable s → in_use (s.queue n) ≡ true → IsAt s.at s.order (s.key n) (s.size n) (s.queue n)
in_use_at s n t in_use_is =
    let u = t.used n in_use_is in
    let c = t.kept.counts u.slot n u.stands in
    record { slots = c.slots; queue = record { counts = c.counts; all = t.full u.slot n u.stands } }

-- where no queue in use is of a key, no request has a want of it
pub unused_at : (s : State) (key : Key) → IsTable s → ((n : ℕ) → (in_use (s.queue n) && same_key (s.key n) key) ≡ false) → slots_at s.at s.order key ≡ []
unused_at s key t unused = none_kept wanted s.order (false_from_ne_true (list_any wanted s.order) (λ e.
    let found = list_any-found wanted s.order e in
    let x : ℕ = found.0 in
    let of = names-found (s.at x).wants.items key found.2 in
    let present : is_there x s.order ≡ true = Has-there s.order x found.1 in
    let m = queue_of_want s.key (s.at x).wants.items (s.own x) of.0 (t.kept.queues x present) of.1 in
    let in_use_is : in_use (s.queue m.0) ≡ true = used_in_use s x m.0 t.kept (record { present = present; there = m.1 }) in
    both_ways (in_use (s.queue m.0) && same_key (s.key m.0) key) (unused m.0)
    (ap (λ b. b && same_key (s.key m.0) key) in_use_is ∙ eq-same_key (s.key m.0) key (m.2 ∙ of.2))))
  where
    wanted : ℕ → Bool
    wanted x = names (s.at x).wants.items key

-- what a filter keeps was there
pub kept_present : (t : ℕ → Bool) (order : List ℕ) → All (λ p. is_there p order ≡ true) (filter t order)
kept_present t order k d lt =
    (there_kept t _ order (there_at (filter t order) k d lt)).0

pub present_at : (t : ℕ → Bool) (order slots : List ℕ) → slots ≡ filter t order → All (λ p. is_there p order ≡ true) slots
present_at t order slots is = subst (All (λ p. is_there p order ≡ true)) (sym is) (kept_present t order)

-- and stands at each of its indices
pub slot_kept : (t : ℕ → Bool) (order slots : List ℕ) (i : ℕ) → slots ≡ filter t order → i < length slots → is_there (get_or slots i 0) order ≡ true
slot_kept t order slots i is lt = present_at t order slots is i 0 lt

-- so do a job's requests
pub own_there : (s : Stored) (job : ℕ) (slots : List ℕ) (i : ℕ) → slots ≡ slots_of s job → i < length slots → is_there (get_or slots i 0) s.order ≡ true
own_there s job = slot_kept (λ p. (entry_at s p).request.job == job) s.order

-- a filter of elements that are mapped
pub filter_mapped : {X : Type 0} → (t : X → Bool) (f : ℕ → X) (xs : List ℕ) → filter t (map f xs) ≡ map f (filter (λ x. t (f x)) xs)
filter_mapped t f [] = refl
filter_mapped t f (x ∷ xs) = grind (arith, filter_mapped t f xs)

-- what passes is found where nothing else is kept
pub any_kept : {X : Type 0} → (t : X → Bool) (xs : List X) → list_any t xs ≡ list_any (λ x. true) (filter t xs)
any_kept t [] = refl
any_kept t (x ∷ xs) = grind (arith, any_kept t xs)

-- the wants of a key are those of its slots
placed_wants : (at : ℕ → Request) (order : List ℕ) (key : Key) → wants_at (map at (slots_at at order key)) key ≡ wants_at (map at order) key
placed_wants at [] key = refl
placed_wants at (p ∷ order) key =
    grind (arith, placed_wants at order key, filter-append, none_kept (λ w. same_key w.key key) (at p).wants.items)

pub wants_at_slots : (at : ℕ → Request) (order : List ℕ) (key : Key) (slots : List ℕ) → slots ≡ slots_at at order key
    → wants_at (map at slots) key ≡ wants_at (map at order) key
wants_at_slots at order key slots is = ap (λ l. wants_at (map at l) key) is ∙ placed_wants at order key

-- so are those of a job
pub wants_at_slots_of : (at : ℕ → Request) (order : List ℕ) (key : Key) (job : ℕ)
    → wants_at (requests_of (map at (slots_at at order key)) job) key ≡ wants_at (requests_of (map at order) job) key
wants_at_slots_of at [] key job = refl
wants_at_slots_of at (p ∷ order) key job =
    grind (arith, wants_at_slots_of at order key job, filter-append, none_kept (λ w. same_key w.key key) (at p).wants.items)

-- the requests of a job are those of its slots
pub requests_of_slots : (at : ℕ → Request) (order : List ℕ) (job : ℕ) → requests_of (map at order) job ≡ map at (filter (λ p. (at p).job == job) order)
requests_of_slots at order job = filter_mapped (λ r. r.job == job) at order

-- there are as many
pub count_is : (s : Stored) (job : ℕ) (own : List ℕ) → own ≡ slots_of s job → length own ≡ length (requests_of (map (λ p. (entry_at s p).request) s.order) job)
count_is s job own is =
    let at : ℕ → Request = λ p. (entry_at s p).request in
    ap length is ∙ sym (ap length (requests_of_slots at s.order job) ∙ length-map (slots_of s job) at)

-- and have all its wants
pub wants_of_own : (s : Stored) (job : ℕ) (own : List ℕ) → own ≡ slots_of s job
    → all_wants (map (λ p. (entry_at s p).request) own) ≡ wants_of (map (λ p. (entry_at s p).request) s.order) job
wants_of_own s job own is =
    let at : ℕ → Request = λ p. (entry_at s p).request in
    ap (λ l. all_wants (map at l)) is ∙ ap (λ (l : List Request). all_wants l) (sym (requests_of_slots at s.order job))
