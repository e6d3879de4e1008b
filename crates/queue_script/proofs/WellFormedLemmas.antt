-- Each call that a line asks for can be made.
use Rattle.std.proofs.Common.{◌≡◌, ◌&&◌, ◌||◌, ◌==◌, ◌∙◌, ap, sym, subst, refl, cond, ℕ, suc, Bool, true, false, not, List, [], ◌∷◌}
use Rattle.std.proofs.Common.{length, Option, Some, None, Result, Ok, Err, is_some, nat_le, nat_lt, arith}
use Rattle.std.specs.Prelude.{option_map, option_and_then, bytes_eq, codes}
use Rattle.std.specs.List.{list_all}
use Rattle.std.proofs.lemmas.Bool.Decides.{nat_tests}
use Rattle.arrayvec.specs.ArrayVec.{ArrayVec}
use Rattle.word36.specs.declared.sizes.TheConstants.{JOBS, LOCKS_A_CALL, NAME_LENGTH}
use Rattle.lock_queue.specs.Pools.{PoolShare, share_of, is_right_share}
use Rattle.lock_queue.specs.Uses.{pool_on, requested_want, want_on}
use Rattle.lock_queue.specs.WellFormed.{is_job, names_locks, shares_rightly, all_share_rightly}
use Rattle.lock_queue.specs.declared.call.LockCall.{LockCall}
use Rattle.lock_queue.specs.declared.call.LockCall.TheVariants.{Enqueue, Modify, DequeueNamed, DequeueAll, DequeueId}
use Rattle.lock_queue.specs.declared.key.Key.{Key}
use Rattle.lock_queue.specs.declared.name.Name.TheVariants.{Text, Code}
use Rattle.lock_queue.specs.declared.refusal.Refusal.{Refusal}
use Rattle.lock_queue.specs.declared.refusal.Refusal.TheVariants.{BadCount, BadName, BadPool}
use Rattle.lock_queue.specs.declared.request.EnqueueKind.{EnqueueKind}
use Rattle.lock_queue.specs.declared.request.EnqueueKind.TheVariants.{Blocking, AtOnce, Interrupt}
use Rattle.lock_queue.specs.declared.terms.BlockUse.{BlockUse}
use Rattle.lock_queue.specs.declared.terms.BlockUse.TheVariants.{Full, Named}
use Rattle.lock_queue.specs.declared.terms.Terms.{Terms}
use Rattle.lock_queue.specs.declared.want.Want.{Want}
use Rattle.queue_script.specs.WellFormed.{is_well_formed}
use Rattle.queue_script.specs.Commands.{OwnedCommand, show, waits, quit, free, not_zero, job_of, call_by, status_by, call_with, request_call, change_call}
use Rattle.queue_script.specs.Commands.{release_call, unknown_call, enqueue_call, enqueue_of, release_all_call, release_id_call, dequeue_call, dequeue_of}
use Rattle.queue_script.specs.Commands.{status_of_items, free_of, bare, named_command, command_of_items, command_of}
use Rattle.script_io.specs.Lines.{is_allowed, is_silent}
use Rattle.queue_script.specs.Locks.{key_of, terms_of, locks_of, want_of, want_of_name, onto_wants, wants_of, stored, call_wants}
use Rattle.script_io.specs.Numbers.{number, is_digit, value_onto, parts}
use Rattle.queue_script.specs.Options.{half_of}
use Rattle.queue_script.specs.declared.call_room.TheConstants.{QUOTA}
use Rattle.queue_script.specs.declared.locks.Lock.{Lock}
use Rattle.queue_script.specs.declared.locks.LockName.{LockName}
use Rattle.queue_script.specs.declared.locks.LockName.TheVariants.{Spelled, Coded}

both : (a b : Bool) → a ≡ true → b ≡ true → (a && b) ≡ true
both a b p q = ap (λ x. x && b) p ∙ q

-- ---- a job's number

tested : (a b c : Bool) (v n : ℕ) → cond (a && (b && c)) (Some v) None ≡ Some n → (c ≡ true) × (v ≡ n)
tested true true true v n h = (refl, cc)
tested true true false v n h = absurd (cc)
tested true false c v n h = absurd (cc)
tested false b c v n h = absurd (cc)

number-most : (base most n : ℕ) (text : List ℕ) → number base most text ≡ Some n → nat_le n most ≡ true
unfolding number
number-most base most n text h =
    let p = tested (nat_lt 0 (length text)) (list_all (is_digit base) text) (nat_le (value_onto base 0 text) most) (value_onto base 0 text) n h in
    subst (λ v. nat_le v most ≡ true) p.1 p.0

from_one : (z : Bool) (n j : ℕ) → z ≡ (n == 0) → nat_le n JOBS ≡ true → cond z None (Some n) ≡ Some j → is_job j ≡ true
from_one true n j is most h = absurd (cc)
from_one false n j is most h =
    let same : n ≡ j = cc in
    let some : nat_le 1 n ≡ true = grind (arith, nat_tests) in
    subst (λ k. is_job k ≡ true) same (both (nat_le 1 n) (nat_le n JOBS) some most)

some_job : (o : Option ℕ) (j : ℕ) → ((n : ℕ) → o ≡ Some n → nat_le n JOBS ≡ true) → not_zero o ≡ Some j → is_job j ≡ true
some_job None j most h = absurd (cc)
some_job (Some n) j most h = from_one (n == 0) n j refl (most n refl) h

job_of-right : (text : List ℕ) (j : ℕ) → job_of text ≡ Some j → is_job j ≡ true
job_of-right text j h = some_job (number 10 JOBS text) j (λ n e. number-most 10 JOBS n text e) h

-- ---- the wants of a call

onto-ok : (w : Result Want Refusal) (ws : Result (List Want) Refusal) (all : List Want) → onto_wants w ws ≡ Ok all
    → (v : Want) × (vs : List Want) × (w ≡ Ok v) × (ws ≡ Ok vs) × (all ≡ v ∷ vs)
onto-ok (Ok v) (Ok vs) all h = (v, vs, refl, refl, cc)
onto-ok (Ok v) (Err r) all h = absurd (cc)
onto-ok (Err r) ws all h = absurd (cc)

wants-length : (job : ℕ) (use_ : BlockUse) (locks : List Lock) (all : List Want) → wants_of job use_ locks ≡ Ok all → length all ≡ length locks
wants-length job use_ [] all h = let e : all ≡ [] = cc in ap length e
wants-length job use_ (l ∷ ls) all h =
    let p = onto-ok (want_of job use_ l) (wants_of job use_ ls) all h in
    ap length p.4 ∙ ap suc (wants-length job use_ ls p.1 p.3)

pool-rightly : (shared ungrouped a b : Bool) (share : PoolShare) (pool : Option PoolShare)
    → cond (not shared && not ungrouped) (Err BadPool) (cond a (Ok None) (cond (not shared && b) (Ok (Some share)) (Err BadPool))) ≡ Ok pool
    → (not (shared && is_some pool) && (shared || ungrouped)) ≡ true
pool-rightly true ungrouped true b share pool h = let e : None ≡ pool = cc in ap (λ p. not (is_some p) && true) (sym e)
pool-rightly true ungrouped false b share pool h = absurd (cc)
pool-rightly false false a b share pool h = absurd (cc)
pool-rightly false true a b share pool h = refl

requested-pool : (key : Key) (terms : Terms) (p : Result (Option PoolShare) Refusal) (v : Want) → requested_want key terms p ≡ Ok v
    → (pool : Option PoolShare) × (p ≡ Ok pool) × (shares_rightly v ≡ (not (terms.shared && is_some pool) && (terms.shared || terms.group == 0)))
requested-pool key terms (Ok pool) v h =
    let e : v ≡ record { key = key; shared = terms.shared; group = terms.group; bypass = terms.bypass; level = terms.level; pool = pool } = cc in
    (pool, refl, ap shares_rightly e)
requested-pool key terms (Err r) v h = absurd (cc)

requested-unshared : (key : Key) (terms : Terms) (v : Want) → want_on Full key terms ≡ Ok v → shares_rightly v ≡ true
requested-unshared key terms v h =
    let p = requested-pool key terms (pool_on terms.shared terms.group terms.pool_size terms.pool_amount) v h in
    p.2
    ∙ pool-rightly terms.shared (terms.group == 0) (terms.pool_size == 0 && terms.pool_amount == 0)
    (is_right_share (share_of terms.pool_size terms.pool_amount)) (share_of terms.pool_size terms.pool_amount) p.0 p.1

fitting-unshared : (fits : Bool) (key : Key) (terms : Terms) (v : Want) → cond fits (want_on Full key terms) (Err BadName) ≡ Ok v → shares_rightly v ≡ true
fitting-unshared true key terms v h = requested-unshared key terms v h
fitting-unshared false key terms v h = absurd (cc)

want-unshared : (job : ℕ) (name : LockName) (lock : Lock) (v : Want) → want_of_name job Full name lock.options ≡ Ok v → shares_rightly v ≡ true
want-unshared job (Coded code) lock v h = requested-unshared (key_of job (Code code) lock.options.own) (terms_of lock.options) v h
want-unshared job (Spelled text) lock v h =
    fitting-unshared (nat_le (length text) NAME_LENGTH) (key_of job (Text text) lock.options.own) (terms_of lock.options) v h

wants-unshared : (job : ℕ) (locks : List Lock) (all : List Want) → wants_of job Full locks ≡ Ok all → list_all shares_rightly all ≡ true
wants-unshared job [] all h = let e : all ≡ [] = cc in ap (list_all shares_rightly) e
wants-unshared job (l ∷ ls) all h =
    let p = onto-ok (want_of job Full l) (wants_of job Full ls) all h in
    ap (list_all shares_rightly) p.4
    ∙ both (shares_rightly p.0) (list_all shares_rightly p.1) (want-unshared job l.name l p.0 p.2) (wants-unshared job ls p.1 p.3)

counted : (a b : Bool) (r : Result (List Want) Refusal) (w : ArrayVec Want) → cond (a && b) (stored r) (Err BadCount) ≡ Ok w → (a ≡ true) × (r ≡ Ok w.items)
counted true true (Ok ws) w h = let e : record { items = ws } ≡ w = cc in (refl, ap (λ (x : ArrayVec Want). Ok x.items) e)
counted true true (Err r) w h = absurd (cc)
counted true false r w h = absurd (cc)
counted false b r w h = absurd (cc)

-- what is known of the wants of a call
pub record Wanted (job : ℕ) (use_ : BlockUse) (w : ArrayVec Want) : Type 0 where
  pub locks : List Lock
  pub some : nat_le 1 (length w.items) ≡ true
  pub read : wants_of job use_ locks ≡ Ok w.items

wanted : (job : ℕ) (use_ : BlockUse) (locks : List Lock) (w : ArrayVec Want) → call_wants job use_ locks ≡ Ok w → Wanted job use_ w
wanted job use_ locks w h =
    let p = counted (nat_le 1 (length locks)) (nat_le (length locks) LOCKS_A_CALL) (wants_of job use_ locks) w h in
    record { locks = locks; some = ap (nat_le 1) (wants-length job use_ locks w.items p.1) ∙ p.0; read = p.1 }

-- ---- calls

abbrev IsRight : Option (Result LockCall Refusal) → Type 0
IsRight o = (c : LockCall) → o ≡ Some (Ok c) → (names_locks c && all_share_rightly c) ≡ true

made : (make : ArrayVec Want → LockCall) (job : ℕ) (use_ : BlockUse) (r : Result (ArrayVec Want) Refusal) (c : LockCall)
    → ((w : ArrayVec Want) → r ≡ Ok w → (names_locks (make w) && all_share_rightly (make w)) ≡ true)
    → call_with make r ≡ Ok c → (names_locks c && all_share_rightly c) ≡ true
made make job use_ (Ok w) c right h = let e : make w ≡ c = cc in subst (λ x. (names_locks x && all_share_rightly x) ≡ true) e (right w refl)
made make job use_ (Err r) c right h = absurd (cc)

for_locks : (make : ArrayVec Want → LockCall) (job : ℕ) (use_ : BlockUse) (o : Option (List Lock))
    → ((w : ArrayVec Want) → Wanted job use_ w → (names_locks (make w) && all_share_rightly (make w)) ≡ true)
    → IsRight (option_map (λ locks. call_with make (call_wants job use_ locks)) o)
for_locks make job use_ None right c h = absurd (cc)
for_locks make job use_ (Some locks) right c h =
    let e : call_with make (call_wants job use_ locks) ≡ Ok c = cc in
    made make job use_ (call_wants job use_ locks) c (λ w is. right w (wanted job use_ locks w is)) e

request-right : (kind : EnqueueKind) (id job : ℕ) (items : List (List ℕ)) → IsRight (request_call kind id job items)
request-right kind id job items =
    for_locks (Enqueue (record { kind = kind; id = id; armed = true; quota = QUOTA })) job Full (locks_of items)
    (λ w k. both (nat_le 1 (length w.items)) (list_all shares_rightly w.items) k.some (wants-unshared job k.locks w.items k.read))

change-right : (job : ℕ) (items : List (List ℕ)) → IsRight (change_call job items)
change-right job items = for_locks Modify job Named (locks_of items) (λ w k. both (nat_le 1 (length w.items)) true k.some refl)

release-right : (job : ℕ) (items : List (List ℕ)) → IsRight (release_call job items)
release-right job items = for_locks DequeueNamed job Named (locks_of items) (λ w k. both (nat_le 1 (length w.items)) true k.some refl)

unknown-right-at : (o : Option (List Lock)) (r : Refusal) → IsRight (option_map (λ locks. Err r) o)
unknown-right-at None r c h = absurd (cc)
unknown-right-at (Some locks) r c h = absurd (cc)

unknown-right : (items : List (List ℕ)) → IsRight (unknown_call items)
unknown-right items = unknown-right-at (locks_of items) _

release_all-right : (items : List (List ℕ)) → IsRight (release_all_call items)
release_all-right [] c h = let e : DequeueAll ≡ c = cc in ap (λ x. names_locks x && all_share_rightly x) (sym e)
release_all-right (i ∷ is) c h = absurd (cc)

id-right : (o : Option ℕ) → IsRight (option_map (λ i. Ok (DequeueId i)) o)
id-right None c h = absurd (cc)
id-right (Some i) c h = let e : DequeueId i ≡ c = cc in ap (λ x. names_locks x && all_share_rightly x) (sym e)

release_id-right : (items : List (List ℕ)) → IsRight (release_id_call items)
release_id-right [] c h = absurd (cc)
release_id-right (i ∷ []) c h = id-right (half_of i) c h
release_id-right (i ∷ j ∷ more) c h = absurd (cc)

right-if : (b : Bool) (x y : Option (Result LockCall Refusal)) → IsRight x → IsRight y → IsRight (cond b x y)
right-if true x y p q = p
right-if false x y p q = q

enqueue-right : (function id job : ℕ) (items : List (List ℕ)) → IsRight (enqueue_call function id job items)
enqueue-right function id job items =
    right-if (function == 0) _ _ (request-right Blocking id job items)
    (right-if (function == 1) _ _ (request-right AtOnce id job items)
    (right-if (function == 2) _ _ (request-right Interrupt id job items)
    (right-if (function == 3) _ _ (change-right job items) (unknown-right items))))

dequeue-right : (function job : ℕ) (items : List (List ℕ)) → IsRight (dequeue_call function job items)
dequeue-right function job items =
    right-if (function == 0) _ _ (release-right job items)
    (right-if (function == 1) _ _ (release_all-right items)
    (right-if (function == 2) _ _ (release_id-right items) (unknown-right items)))

-- ---- lines

asked-right : (job : ℕ) (o : Option (Result LockCall Refusal)) → is_job job ≡ true → IsRight o → is_well_formed (call_by job o) ≡ true
asked-right job None is right = refl
asked-right job (Some (Ok c)) is right = both (is_job job) (names_locks c && all_share_rightly c) is (right c refl)
asked-right job (Some (Err r)) is right = refl

then-right : (o : Option ℕ) (f : ℕ → Option OwnedCommand) → ((n : ℕ) → o ≡ Some n → is_well_formed (f n) ≡ true) → is_well_formed (option_and_then f o) ≡ true
then-right None f right = refl
then-right (Some n) f right = right n refl

enqueue_of-right : (items : List (List ℕ)) → is_well_formed (enqueue_of items) ≡ true
enqueue_of-right [] = refl
enqueue_of-right (job ∷ []) = refl
enqueue_of-right (job ∷ function ∷ []) = refl
enqueue_of-right (job ∷ function ∷ id ∷ locks) =
    then-right (job_of job) _ (λ j is. then-right (half_of function) _ (λ f hf. then-right (half_of id) _ (λ i hi.
    asked-right j (enqueue_call f i j locks) (job_of-right job j is) (enqueue-right f i j locks))))

dequeue_of-right : (items : List (List ℕ)) → is_well_formed (dequeue_of items) ≡ true
dequeue_of-right [] = refl
dequeue_of-right (job ∷ []) = refl
dequeue_of-right (job ∷ function ∷ rest) =
    then-right (job_of job) _ (λ j is. then-right (half_of function) _ (λ f hf.
    asked-right j (dequeue_call f j rest) (job_of-right job j is) (dequeue-right f j rest)))

status-right : (job : ℕ) (o : Option (Result (ArrayVec Want) Refusal)) → is_well_formed (status_by job o) ≡ true
status-right job None = refl
status-right job (Some wants) = refl

status_of-right : (items : List (List ℕ)) → is_well_formed (status_of_items items) ≡ true
status_of-right [] = refl
status_of-right (job ∷ locks) = then-right (job_of job) _ (λ j is. status-right j (option_map (call_wants j Named) (locks_of locks)))

free-right : (o : Option ℕ) → is_well_formed (option_map free o) ≡ true
free-right None = refl
free-right (Some job) = refl

free_of-right : (items : List (List ℕ)) → is_well_formed (free_of items) ≡ true
free_of-right [] = refl
free_of-right (job ∷ []) = free-right (job_of job)
free_of-right (job ∷ item ∷ more) = refl

bare-right : (a : OwnedCommand) (items : List (List ℕ)) → is_well_formed (Some a) ≡ true → is_well_formed (bare a items) ≡ true
bare-right a [] right = right
bare-right a (item ∷ more) right = refl

asks-if : (b : Bool) (x y : Option OwnedCommand) → is_well_formed x ≡ true → is_well_formed y ≡ true → is_well_formed (cond b x y) ≡ true
asks-if true x y p q = p
asks-if false x y p q = q

named-right : (name : List ℕ) (rest : List (List ℕ)) → is_well_formed (named_command name rest) ≡ true
named-right name rest =
    asks-if (bytes_eq name (codes "ENQ")) _ _ (enqueue_of-right rest)
    (asks-if (bytes_eq name (codes "DEQ")) _ _ (dequeue_of-right rest)
    (asks-if (bytes_eq name (codes "STAT")) _ _ (status_of-right rest)
    (asks-if (bytes_eq name (codes "FREE")) _ _ (free_of-right rest)
    (asks-if (bytes_eq name (codes "SHOW")) _ _ (bare-right show rest refl)
    (asks-if (bytes_eq name (codes "WAITS")) _ _ (bare-right waits rest refl)
    (asks-if (bytes_eq name (codes "QUIT")) _ _ (bare-right quit rest refl) refl))))))

items-right : (items : List (List ℕ)) → is_well_formed (command_of_items items) ≡ true
items-right [] = refl
items-right (name ∷ rest) = named-right name rest

-- each call that a line asks for can be made
pub line-right : (line : List ℕ) → is_well_formed (command_of line) ≡ true
unfolding command_of
line-right line =
    asks-if (is_allowed line) _ _ (asks-if (is_silent line) _ _ refl (items-right (parts 32 line))) refl
