-- A reason is there exactly where the queue refuses, and is of that refusal.
use Rattle.std.proofs.Common.{◌≡◌, ◌∙◌, ap, sym, refl, ℕ, Bool, true, false, not, ◌&&◌, ◌||◌, List, [], ◌∷◌, ◌++◌, cond}
use Rattle.std.proofs.Common.{Option, Some, None, option_map, is_some, length, filter, nat_le}
use Rattle.std.specs.List.{find, list_all, list_any}
use Rattle.arrayvec.specs.ArrayVec.{ArrayVec}
use Rattle.lock_queue.specs.declared.call.Asking.{Asking}
use Rattle.lock_queue.specs.declared.call.LockCall.TheVariants.{Enqueue, Modify, DequeueNamed}
use Rattle.lock_queue.specs.declared.call.LockReply.TheVariants as reply
use Rattle.lock_queue.specs.declared.refusal.Refusal.{Refusal}
use Rattle.lock_queue.specs.declared.refusal.Refusal.TheVariants as refusal
use Rattle.lock_queue.specs.declared.request.EnqueueKind.{EnqueueKind}
use Rattle.lock_queue.specs.declared.request.EnqueueKind.TheVariants.{Blocking, AtOnce, Interrupt}
use Rattle.lock_queue.specs.declared.request.Request.{Request}
use Rattle.lock_queue.specs.declared.want.Want.{Want}
use Rattle.lock_queue.specs.Calls.{outcome_of}
use Rattle.lock_queue.specs.Changes.{modify_fault, some_lost_behind, with_changes}
use Rattle.lock_queue.specs.Dequeues.{dequeue_fault, dequeue_where}
use Rattle.lock_queue.specs.Enqueues.{are_alike, arrival, enqueue_fault, enqueue_refusal, is_too_low, not_granted, some_too_low, with_arrival}
use Rattle.lock_queue.specs.Jobs.{is_blocking, is_interrupt}
use Rattle.lock_queue.specs.Keys.{same_key}
use Rattle.lock_queue.specs.Outcomes.{Outcome, outcome, unless_refused, refuse_if, or_else, first_refusal}
use Rattle.lock_queue.specs.Queue.{all_wants, fits, granted_behind, is_pooled, names, requests_of, wants_at, wants_of}
use Rattle.lock_queue.proofs.Granted.{arrival_granted, arrival_waiting}
use Rattle.lock_reasons.specs.declared.meetings.Present.{Present}
use Rattle.lock_reasons.specs.declared.meetings.Rule.{Rule}
use Rattle.lock_reasons.specs.declared.meetings.Rule.TheVariants.{Differs, Names, Reaches, Pools}
use Rattle.lock_reasons.specs.declared.reasons.Met.TheVariants.{Earlier, InQueue}
use Rattle.lock_reasons.specs.declared.reasons.Reason.{Reason}
use Rattle.lock_reasons.specs.declared.reasons.Reason.TheVariants.{Meets, NotPresent}
use Rattle.lock_reasons.specs.declared.reasons.Reason.TheVariants.{NoVector, OverQuota, QueueFull, NotGranted, WouldLose}
use Rattle.lock_reasons.specs.declared.faults.Check.TheVariants as check
use Rattle.lock_reasons.specs.Meetings.{first_present, meets, or_later}
use Rattle.lock_reasons.specs.Reasons.{by_earlier, by_present, change_fault, enqueue_reason, fault, first_fault, first_unfit, level_fault}
use Rattle.lock_reasons.specs.Reasons.{lost_behind, modify_reason, or_reason, reason_if, refusal_by, refusal_in, refusal_of}
use Rattle.lock_reasons.specs.Reasons.{release_fault, request_fault}

-- ---- tests

any-append : {X : Type 0} (test : X → Bool) (a b : List X) → list_any test (a ++ b) ≡ (list_any test a || list_any test b)
any-append test [] b = refl
any-append test (x ∷ a) b = go (test x) (any-append test a b)
  where
    go : (c : Bool) → list_any test (a ++ b) ≡ (list_any test a || list_any test b)
        → (c || list_any test (a ++ b)) ≡ ((c || list_any test a) || list_any test b)
    go true h = refl
    go false h = h

-- an element that passes both tests is one of those that pass the first, and passes the second
any-both : {X : Type 0} (p q : X → Bool) (xs : List X) → list_any (λ x. p x && q x) xs ≡ list_any q (filter p xs)
any-both p q [] = refl
any-both p q (x ∷ xs) = go (p x) (any-both p q xs)
  where
    go : (c : Bool) → list_any (λ x. p x && q x) xs ≡ list_any q (filter p xs)
        → ((c && q x) || list_any (λ x. p x && q x) xs) ≡ list_any q (cond c (x ∷ filter p xs) (filter p xs))
    go true h = ap (λ b. q x || b) h
    go false h = h

any-not : {X : Type 0} (q : X → Bool) (xs : List X) → list_any (λ x. not (q x)) xs ≡ not (list_all q xs)
any-not q [] = refl
any-not q (x ∷ xs) = go (q x) (any-not q xs)
  where
    go : (c : Bool) → list_any (λ x. not (q x)) xs ≡ not (list_all q xs)
        → (not c || list_any (λ x. not (q x)) xs) ≡ not (c && list_all q xs)
    go true h = h
    go false h = refl

found : {X : Type 0} (test : X → Bool) (xs : List X) → is_some (find test xs) ≡ list_any test xs
found test [] = refl
found test (x ∷ xs) = go (test x) (found test xs)
  where
    go : (c : Bool) → is_some (find test xs) ≡ list_any test xs
        → is_some (cond c (Some x) (find test xs)) ≡ (c || list_any test xs)
    go true h = refl
    go false h = h

-- ---- what a want meets

later-found : (r : Request) (o : Option Want) (p : Option Present) → is_some (or_later r o p) ≡ (is_some o || is_some p)
later-found r (Some v) p = refl
later-found r None p = refl

present-found : (rule : Rule) (w : Want) (rs : List Request) → is_some (first_present rule w rs) ≡ list_any (meets rule w) (all_wants rs)
present-found rule w [] = refl
present-found rule w (r ∷ rs) =
    later-found r (find (meets rule w) r.wants.items) (first_present rule w rs)
    ∙ ap (λ b. b || is_some (first_present rule w rs)) (found (meets rule w) r.wants.items)
    ∙ ap (λ b. list_any (meets rule w) r.wants.items || b) (present-found rule w rs)
    ∙ sym (any-append (meets rule w) r.wants.items (all_wants rs))

-- the refusal of a reason that may be there
of_found : {X : Type 0} (rule : Rule) (make : X → Reason) (o : Option X) → ((x : X) → refusal_in (make x) ≡ refusal_by rule)
    → option_map refusal_in (option_map make o) ≡ refuse_if (is_some o) (refusal_by rule)
of_found rule make None h = refl
of_found rule make (Some x) h = ap Some (h x)

of_earlier : (rule : Rule) (w : Want) (ws : List Want)
    → option_map refusal_in (by_earlier rule w ws) ≡ refuse_if (list_any (meets rule w) ws) (refusal_by rule)
of_earlier rule w ws =
    of_found rule (λ v. Meets rule w (Earlier v)) (find (meets rule w) ws) (λ v. refl)
    ∙ ap (λ b. refuse_if b (refusal_by rule)) (found (meets rule w) ws)

of_present : (rule : Rule) (w : Want) (rs : List Request)
    → option_map refusal_in (by_present rule w rs) ≡ refuse_if (list_any (meets rule w) (all_wants rs)) (refusal_by rule)
of_present rule w rs =
    of_found rule (λ p. Meets rule w (InQueue p)) (first_present rule w rs) (λ p. refl)
    ∙ ap (λ b. refuse_if b (refusal_by rule)) (present-found rule w rs)

of_or : (a b : Option Reason) → option_map refusal_in (or_reason a b) ≡ or_else (option_map refusal_in a) (option_map refusal_in b)
of_or (Some reason) b = refl
of_or None b = refl

of_if : (cause : Bool) (reason : Reason) → option_map refusal_in (reason_if cause reason) ≡ refuse_if cause (refusal_in reason)
of_if true reason = refl
of_if false reason = refl

both : (a b : Option Reason) (x y : Option Refusal) → option_map refusal_in a ≡ x → option_map refusal_in b ≡ y
    → option_map refusal_in (or_reason a b) ≡ or_else x y
both a b x y h k = of_or a b ∙ ap (λ o. or_else o (option_map refusal_in b)) h ∙ ap (or_else x) k

if-either : (a b : Bool) (f : Refusal) → or_else (refuse_if a f) (refuse_if b f) ≡ refuse_if (a || b) f
if-either true b f = refl
if-either false b f = refl

-- ---- wants at fault

of_request : (rs : List Request) (job : ℕ) (earlier : List Want) (w : Want)
    → option_map refusal_in (request_fault rs job earlier w) ≡ enqueue_fault rs job earlier w
of_request rs job earlier w =
    let differs : option_map refusal_in (by_present Differs w rs)
    ≡ refuse_if (not (list_all (λ v. are_alike v w) (wants_at rs w.key))) refusal.Differs =
    of_present Differs w rs
    ∙ ap (λ b. refuse_if b refusal.Differs)
    (any-both (λ v. same_key v.key w.key) (λ v. not (are_alike v w)) (all_wants rs) ∙ any-not (λ v. are_alike v w) (wants_at rs w.key)) in
    let named : option_map refusal_in (or_reason (by_earlier Names w earlier) (by_present Names w (requests_of rs job)))
    ≡ refuse_if (names earlier w.key || names (wants_of rs job) w.key) refusal.NamedAlready =
    both (by_earlier Names w earlier) (by_present Names w (requests_of rs job)) _ _ (of_earlier Names w earlier)
    (of_present Names w (requests_of rs job))
    ∙ if-either (names earlier w.key) (names (wants_of rs job) w.key) refusal.NamedAlready in
    both (by_present Differs w rs) _ _ _ differs named

of_release : (rs : List Request) (job : ℕ) (earlier : List Want) (w : Want)
    → option_map refusal_in (release_fault rs job earlier w) ≡ dequeue_fault rs job earlier w
of_release rs job earlier w =
    both (by_earlier Names w earlier) (reason_if (not (names (wants_of rs job) w.key)) (NotPresent w)) _ _
    (of_earlier Names w earlier) (of_if (not (names (wants_of rs job) w.key)) (NotPresent w))

shared-pool : (b : Bool) (o : Option Reason) (c : Bool) → option_map refusal_in o ≡ refuse_if c refusal.BadPool
    → option_map refusal_in (cond b o None) ≡ refuse_if (b && c) refusal.BadPool
shared-pool true o c h = h
shared-pool false o c h = refl

or-joined : (a b c : Option Refusal) → or_else (or_else a b) c ≡ or_else a (or_else b c)
or-joined (Some f) b c = refl
or-joined None b c = refl

of_change : (rs : List Request) (job : ℕ) (earlier : List Want) (w : Want)
    → option_map refusal_in (change_fault rs job earlier w) ≡ modify_fault rs job earlier w
of_change rs job earlier w =
    let pools : option_map refusal_in (by_present Pools w (requests_of rs job))
    ≡ refuse_if (list_any is_pooled (wants_at (requests_of rs job) w.key)) refusal.BadPool =
    of_present Pools w (requests_of rs job)
    ∙ ap (λ b. refuse_if b refusal.BadPool) (any-both (λ v. same_key v.key w.key) is_pooled (all_wants (requests_of rs job))) in
    both (release_fault rs job earlier w) _ _ _ (of_release rs job earlier w)
    (shared-pool w.shared (by_present Pools w (requests_of rs job)) _ pools)
    ∙ or-joined (refuse_if (names earlier w.key) refusal.NamedAlready)
    (refuse_if (not (names (wants_of rs job) w.key)) refusal.NotPresent)
    (refuse_if (w.shared && list_any is_pooled (wants_at (requests_of rs job) w.key)) refusal.BadPool)

of_first : (test : List Want → Want → Option Reason) (refuse : List Want → Want → Option Refusal)
    → ((earlier : List Want) (w : Want) → option_map refusal_in (test earlier w) ≡ refuse earlier w)
    → (earlier ws : List Want) → option_map refusal_in (first_fault test earlier ws) ≡ first_refusal refuse earlier ws
of_first test refuse h earlier [] = refl
of_first test refuse h earlier (w ∷ ws) =
    both (test earlier w) (first_fault test (earlier ++ w ∷ []) ws) _ _ (h earlier w) (of_first test refuse h (earlier ++ w ∷ []) ws)

-- ---- levels

low : (b c d : Bool) (a e : Option Reason) → option_map refusal_in a ≡ refuse_if c refusal.LevelOrder
    → option_map refusal_in e ≡ refuse_if d refusal.LevelOrder
    → option_map refusal_in (cond b None (or_reason a e)) ≡ refuse_if (not b && (c || d)) refusal.LevelOrder
low true c d a e h k = refl
low false c d a e h k = both a e _ _ h k ∙ if-either c d refusal.LevelOrder

of_level : (rs : List Request) (job : ℕ) (earlier : List Want) (w : Want)
    → option_map refusal_in (level_fault rs job earlier w) ≡ refuse_if (is_too_low (wants_of rs job ++ earlier) w) refusal.LevelOrder
of_level rs job earlier w =
    low w.bypass _ _ (by_present Reaches w (requests_of rs job)) (by_earlier Reaches w earlier)
    (of_present Reaches w (requests_of rs job)) (of_earlier Reaches w earlier)
    ∙ ap (λ b. refuse_if (not w.bypass && b) refusal.LevelOrder) (sym (any-append (λ v. nat_le w.level v.level) (wants_of rs job) earlier))

append-joined : {X : Type 0} (a b c : List X) → (a ++ b) ++ c ≡ a ++ (b ++ c)
append-joined [] b c = refl
append-joined (x ∷ a) b c = ap (λ l. x ∷ l) (append-joined a b c)

append-none : {X : Type 0} (a : List X) → a ++ [] ≡ a
append-none [] = refl
append-none (x ∷ a) = ap (λ l. x ∷ l) (append-none a)

of_levels-from : (rs : List Request) (job : ℕ) (earlier ws : List Want)
    → option_map refusal_in (first_fault (fault check.Levels rs job) earlier ws)
    ≡ refuse_if (some_too_low (wants_of rs job ++ earlier) ws) refusal.LevelOrder
of_levels-from rs job earlier [] = refl
of_levels-from rs job earlier (w ∷ ws) =
    let before : List Want = wants_of rs job ++ earlier in
    both (level_fault rs job earlier w) (first_fault (fault check.Levels rs job) (earlier ++ w ∷ []) ws) _ _
    (of_level rs job earlier w) (of_levels-from rs job (earlier ++ w ∷ []) ws)
    ∙ if-either (is_too_low before w) (some_too_low (wants_of rs job ++ (earlier ++ w ∷ [])) ws) refusal.LevelOrder
    ∙ ap (λ l. refuse_if (is_too_low before w || some_too_low l ws) refusal.LevelOrder)
    (sym (append-joined (wants_of rs job) earlier (w ∷ [])))

of_levels : (rs : List Request) (job : ℕ) (ws : List Want)
    → option_map refusal_in (first_fault (fault check.Levels rs job) [] ws)
    ≡ refuse_if (some_too_low (wants_of rs job) ws) refusal.LevelOrder
of_levels rs job ws =
    of_levels-from rs job [] ws
    ∙ ap (λ l. refuse_if (some_too_low l ws) refusal.LevelOrder) (append-none (wants_of rs job))

-- ---- requests

-- what an answer tells that another one goes before
answered : (rs : List Request) (o : Option Refusal) (e : Outcome) → refusal_of (unless_refused rs o e).reply ≡ or_else o (refusal_of e.reply)
answered rs (Some f) e = refl
answered rs None e = refl

-- a request that does not fit is refused where it does not wait
stays : (rs l : List Request) (kind : EnqueueKind) (o : Option Want) → is_some o ≡ true
    → refusal_of (not_granted rs l kind).reply ≡ option_map refusal_in (cond (is_blocking kind) None (option_map NotGranted o))
stays rs l Blocking o h = refl
stays rs l AtOnce (Some w) h = refl
stays rs l AtOnce None h = absurd (cc)
stays rs l Interrupt (Some w) h = refl
stays rs l Interrupt None h = absurd (cc)

fits-all : (rs : List Request) (kind : EnqueueKind) (o : Option Want) → is_some o ≡ false
    → None ≡ option_map refusal_in (cond (is_blocking kind) None (option_map NotGranted o))
fits-all rs Blocking o h = refl
fits-all rs AtOnce None h = refl
fits-all rs AtOnce (Some w) h = absurd (cc)
fits-all rs Interrupt None h = refl
fits-all rs Interrupt (Some w) h = absurd (cc)

not-twice : (b : Bool) → not (not b) ≡ b
not-twice true = refl
not-twice false = refl

-- a want does not fit exactly where not all fit
pub unfit-found : (rs : List Request) (ws : List Want) → is_some (first_unfit rs ws) ≡ not (list_all (fits rs) ws)
unfit-found rs ws = found (λ w. not (fits rs w)) ws ∙ any-not (fits rs) ws

of_arrival : (rs : List Request) (job : ℕ) (asking : Asking) (wants : ArrayVec Want)
    → option_map refusal_in (cond (is_blocking asking.kind) None (option_map NotGranted (first_unfit rs wants.items)))
    ≡ refusal_of (arrival rs job asking wants).reply
of_arrival rs job asking wants = go (list_all (fits rs) wants.items) refl
  where
    go : (b : Bool) → list_all (fits rs) wants.items ≡ b
        → option_map refusal_in (cond (is_blocking asking.kind) None (option_map NotGranted (first_unfit rs wants.items)))
        ≡ refusal_of (arrival rs job asking wants).reply
    go true h =
        sym (ap (λ o. refusal_of (Outcome.reply o)) (arrival_granted rs job asking wants h)
        ∙ fits-all rs asking.kind (first_unfit rs wants.items) (unfit-found rs wants.items ∙ ap not h))
    go false h =
        sym (ap (λ o. refusal_of (Outcome.reply o)) (arrival_waiting rs job asking wants h)
        ∙ stays rs (with_arrival rs job asking false wants) asking.kind (first_unfit rs wants.items) (unfit-found rs wants.items ∙ ap not h))

or-five : (a b c d e f : Option Refusal) → or_else (or_else a (or_else b (or_else c (or_else d e)))) f
    ≡ or_else a (or_else b (or_else c (or_else d (or_else e f))))
or-five (Some x) b c d e f = refl
or-five None (Some x) c d e f = refl
or-five None None (Some x) d e f = refl
or-five None None None (Some x) e f = refl
or-five None None None None e f = refl

pub enqueue-law : (size : ℕ) (rs : List Request) (job : ℕ) (asking : Asking) (wants : ArrayVec Want)
    → option_map refusal_in (enqueue_reason size rs job asking wants.items)
    ≡ refusal_of (outcome_of size rs job (Enqueue asking wants)).reply
enqueue-law size rs job asking wants =
    both _ _ _ _ (of_first (request_fault rs job) (enqueue_fault rs job) (of_request rs job) [] wants.items)
    (both _ _ _ _ (of_levels rs job wants.items)
    (both _ _ _ _ (of_if (is_interrupt asking.kind && not asking.armed) NoVector)
    (both _ _ _ _ (of_if (nat_le asking.quota (length (requests_of rs job))) (OverQuota asking.quota))
    (both _ _ _ _ (of_if (nat_le size (length rs)) (QueueFull size)) (of_arrival rs job asking wants)))))
    ∙ sym (answered rs (enqueue_refusal size rs job asking wants.items) (arrival rs job asking wants)
    ∙ or-five (first_refusal (enqueue_fault rs job) [] wants.items)
    (refuse_if (some_too_low (wants_of rs job) wants.items) refusal.LevelOrder)
    (refuse_if (is_interrupt asking.kind && not asking.armed) refusal.NoVector)
    (refuse_if (nat_le asking.quota (length (requests_of rs job))) refusal.OverQuota)
    (refuse_if (nat_le size (length rs)) refusal.QueueFull)
    (refusal_of (arrival rs job asking wants).reply))

-- ---- changes and releases

or-none : (a : Option Refusal) → or_else a None ≡ a
or-none (Some f) = refl
or-none None = refl

lost : (before after rs later : List Request)
    → option_map refusal_in (lost_behind before after rs later) ≡ refuse_if (some_lost_behind before after rs later) refusal.WouldLose
lost before after [] later = refl
lost before after (r ∷ rs) [] = refl
lost before after (r ∷ rs) (s ∷ later) =
    go (granted_behind before r && not (granted_behind after s)) (lost (before ++ r ∷ []) (after ++ s ∷ []) rs later)
  where
    go : (b : Bool)
        → option_map refusal_in (lost_behind (before ++ r ∷ []) (after ++ s ∷ []) rs later)
        ≡ refuse_if (some_lost_behind (before ++ r ∷ []) (after ++ s ∷ []) rs later) refusal.WouldLose
        → option_map refusal_in (cond b (Some (WouldLose r.job r.id)) (lost_behind (before ++ r ∷ []) (after ++ s ∷ []) rs later))
        ≡ refuse_if (b || some_lost_behind (before ++ r ∷ []) (after ++ s ∷ []) rs later) refusal.WouldLose
    go true h = refl
    go false h = h

pub modify-law : (size : ℕ) (rs : List Request) (job : ℕ) (changes : ArrayVec Want)
    → option_map refusal_in (modify_reason rs job changes.items) ≡ refusal_of (outcome_of size rs job (Modify changes)).reply
modify-law size rs job changes =
    both _ _ _ _ (of_first (change_fault rs job) (modify_fault rs job) (of_change rs job) [] changes.items)
    (lost [] [] rs (with_changes rs job changes.items))
    ∙ sym (answered rs _ (outcome (with_changes rs job changes.items) reply.Done) ∙ or-none _)

pub release-law : (size : ℕ) (rs : List Request) (job : ℕ) (named : ArrayVec Want)
    → option_map refusal_in (first_fault (fault check.Release rs job) [] named.items)
    ≡ refusal_of (outcome_of size rs job (DequeueNamed named)).reply
release-law size rs job named =
    of_first (release_fault rs job) (dequeue_fault rs job) (of_release rs job) [] named.items
    ∙ sym (answered rs (first_refusal (dequeue_fault rs job) [] named.items) _ ∙ or-none _)

pub where-law : (rs : List Request) (test : Request → Bool) (reason : Reason) → refusal_in reason ≡ refusal.NotPresent
    → option_map refusal_in (reason_if (not (list_any test rs)) reason) ≡ refusal_of (dequeue_where rs test).reply
where-law rs test reason h = go (list_any test rs)
  where
    go : (b : Bool) → option_map refusal_in (reason_if (not b) reason)
        ≡ refusal_of (Outcome.reply (cond b (outcome (filter (λ r. not (test r)) rs) reply.Done) (outcome rs (reply.Refused refusal.NotPresent))))
    go true = refl
    go false = ap Some h
