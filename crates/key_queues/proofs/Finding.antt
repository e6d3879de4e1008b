-- What is found by a key's hash, and how that is kept.
use Rattle.std.proofs.Common.{◌≡◌, ◌<◌, ◌*◌, ◌++◌, ◌∙◌, ℕ, Bool, true, false, not, ◌==◌, List, [], ◌∷◌, length, get_or, set, take, drop, suc, Some, None, IfSome, sym, ap, subst, refl, arith}
use Rattle.std.proofs.lemmas.Bool.{ne_eqb}
use Rattle.std.specs.List.{All, find, list_any, position_or_len, remove}
use Rattle.std.proofs.lemmas.Grind.{common_steps, get_or-set_at}
use Rattle.std.proofs.lemmas.List.{get_or_default, get_or_past, get_or-set_same, get_or-set_other, length-set, length_push, set-set}
use Rattle.std.proofs.lemmas.List.Elements.{All-append, All-take, All-drop}
use Rattle.word36.specs.declared.sizes.TheConstants.{LOCKS_A_CALL}
use Rattle.lock_queue.specs.declared.key.Key.{Key}
use Rattle.lock_queue.specs.declared.want.Want.{Want}
use Rattle.lock_queue.proofs.Fitting.{same_key-eq}
use Rattle.key_queues.specs.declared.found.Found.{Found}
use Rattle.key_queues.specs.declared.lock.Lock.{Lock}
use Rattle.key_queues.specs.Kept.{KeptQueue, appended, no_queue}
use Rattle.key_queues.specs.Locks.{lock_at, unused_lock}
use Rattle.key_queues.specs.States.{in_use}
use Rattle.key_queues.specs.Tables.{is_there}
use Rattle.key_queues.specs.declared.hash.TheConstants.{HASHES}
use Rattle.key_queues.specs.declared.buckets.Bucket.{Bucket}
use Rattle.key_queues.specs.Found.{bucket_at, no_bucket, numbered, without_number, Holds, IsEntered, IsFound, IsIndex, IsKeyed, IsSpare}
use Rattle.key_queues.specs.Hashes.{hash_of}
use Rattle.key_queues.specs.LockUse.{fresh_lock, is_free, in_use_for}
use Rattle.key_queues.proofs.Orders.{without_other}

-- what is found passes
pub find_passes : (t : ℕ → Bool) (xs : List ℕ) (n : ℕ) → find t xs ≡ Some n → t n ≡ true
find_passes t [] n e = cc
find_passes t (x ∷ xs) n e = grind (arith, find_passes t xs n)

-- and where nothing is found, nothing does
pub find_misses : (t : ℕ → Bool) (xs : List ℕ) (n : ℕ) → find t xs ≡ None → is_there n xs ≡ true → t n ≡ false
find_misses t [] n e h = cc
find_misses t (x ∷ xs) n e h = grind (arith, find_misses t xs n)

-- the first lock that is free
pub free_found : (locks : List Lock) → list_any is_free locks ≡ true
    → (position_or_len is_free locks < length locks) × (is_free (lock_at locks (position_or_len is_free locks)) ≡ true)
free_found [] h = cc
free_found (l ∷ locks) h = grind (arith, free_found locks)

-- a lock in use is there
pub in_use_within : (locks : List Lock) (n : ℕ) → in_use (lock_at locks n).queue ≡ true → n < length locks
in_use_within locks n some = grind (arith, get_or_past locks n unused_lock)

-- the parts of a lock in use of a key
pub in_use_parts : (key : Key) (l : Lock) → in_use_for key l ≡ true → (in_use l.queue ≡ true) × (l.key ≡ key)
in_use_parts key l t = grind (arith, same_key-eq)

-- the lock of a number that was found
pub found_in_use : (locks : List Lock) (key : Key) (seen : Found) (n : ℕ) → IsFound locks key seen → seen.number ≡ Some n
    → in_use_for key (lock_at locks n) ≡ true
found_in_use locks key seen n found is = subst (λ o. IfSome o (λ m. in_use_for key (lock_at locks m) ≡ true)) is found.found

-- a hash is below their number
pub hash_below : (h : ℕ) (key : Key) → h ≡ hash_of key → h < HASHES
hash_below h key is = omega (arith, is)

-- what is read at a hash is the bucket there
pub bucket_read : (buckets : List Bucket) (h : ℕ) (b : Bucket) → length buckets ≡ HASHES → h < HASHES → b ≡ get_or buckets h b
    → b ≡ bucket_at buckets h
bucket_read buckets h b long below read = read ∙ get_or_default buckets h b no_bucket (omega arith)

-- what is read of the locks is the lock there
pub lock_read : (locks now : List Lock) (n : ℕ) (l : Lock) → locks ≡ now → n < length now → l ≡ get_or locks n l → l ≡ lock_at now n
lock_read locks now n l view lt read =
    read ∙ ap (λ ls. get_or ls n l) view ∙ get_or_default now n l unused_lock lt

-- the numbers there are those of locks
pub number_within : (buckets : List Bucket) (locks : List Lock) (h i : ℕ) (b : Bucket) → IsIndex buckets locks → h < HASHES
    → b ≡ get_or buckets h b → i < length b.numbers.items → get_or b.numbers.items i 0 < length locks
number_within buckets locks h i b index below read lt = grind (arith, bucket_read, index.within h i 0)

-- where a bucket that is not crowded has no number of the key, none has
pub none_found : (buckets : List Bucket) (locks : List Lock) (key : Key) → IsIndex buckets locks
    → find (λ n. in_use_for key (lock_at locks n)) (bucket_at buckets (hash_of key)).numbers.items ≡ None
    → (bucket_at buckets (hash_of key)).crowded ≡ false → (n : ℕ) → in_use_for key (lock_at locks n) ≡ false
none_found buckets locks key index missed plain n = grind (arith, find_misses, in_use_parts, index.hashes n, index.holds n)

-- a queue that has slots is in use
pub in_use_below : (q : KeptQueue) (k : ℕ) → k < length q.slots → in_use q ≡ true
in_use_below q k lt = ap not (ne_eqb (length q.slots) 0 (λ e. absurd (omega (arith, lt, e))))

-- a lock in use whose queue is changed
pub keyed_queue : (size : ℕ) (locks : List Lock) (most : ℕ) (buckets : List Bucket) (n : ℕ) (l : Lock) (q : KeptQueue) → IsKeyed size locks most buckets
    → in_use (lock_at locks n).queue ≡ true → l ≡ get_or locks n l
    → IsKeyed size (set locks n (record l { queue = q })) most buckets
keyed_queue size locks most buckets n l q k some read = grind (arith, common_steps, in_use_within locks n some)

-- one lock more that is free
same_more : (locks : List Lock) (n : ℕ) → lock_at (locks ++ unused_lock ∷ []) n ≡ lock_at locks n
same_more locks n = grind (arith, common_steps)

pub keyed_more : (size : ℕ) (locks : List Lock) (most : ℕ) (buckets : List Bucket) → IsKeyed size locks most buckets
    → length locks < LOCKS_A_CALL * size → IsKeyed size (locks ++ unused_lock ∷ []) most buckets
keyed_more size locks most buckets k room = grind (arith, length_push locks unused_lock, same_more locks, k.index.hashes, k.index.holds)

-- a lock that becomes that of another key, whose number is put at the hash of that
pub keyed_lock : (size : ℕ) (locks : List Lock) (most : ℕ) (buckets : List Bucket) (n h : ℕ) (l : Lock) (b then : Bucket) → IsKeyed size locks most buckets
    → n < length locks → l.hash ≡ hash_of l.key → h ≡ l.hash → b ≡ get_or buckets h b → then ≡ numbered b n
    → IsKeyed size (set locks n l) most (set buckets h then)
keyed_lock size locks most buckets n h l b then k lt hash is read put = grind (arith, common_steps)

-- a bucket that is changed, and has no fewer numbers of locks in use
index_set : (buckets : List Bucket) (locks : List Lock) (h : ℕ) (b : Bucket) → IsIndex buckets locks → h < HASHES
    → All (λ m. m < length locks) b.numbers.items
    → ((m : ℕ) → in_use (lock_at locks m).queue ≡ true → Holds (bucket_at buckets h) m → Holds b m)
    → IsIndex (set buckets h b) locks
index_set buckets locks h b index below within keeps = grind (arith, get_or-set_at, get_or-set_other, length-set)

all_less : (P : ℕ → Type 0) (xs : List ℕ) (i : ℕ) → All P xs → All P (remove xs i)
all_less P xs i all = All-append P (take i xs) (drop (suc i) xs) (All-take P i xs all) (All-drop P (suc i) xs all)

-- a number that is taken out, of a lock that is free
pub keyed_free : (size : ℕ) (locks : List Lock) (most : ℕ) (buckets : List Bucket) (n : ℕ) (l : Lock) (b then : Bucket) → IsKeyed size locks most buckets
    → n < length locks → l ≡ get_or locks n l → is_free l ≡ true → b ≡ get_or buckets l.hash b → then ≡ without_number b n
    → IsKeyed size locks most (set buckets l.hash then)
keyed_free size locks most buckets n l b then k lt is unused read gone =
    let at : l ≡ lock_at locks n = lock_read locks locks n l refl lt is in
    let below = hash_below l.hash l.key (subst (λ (m : Lock). m.hash ≡ hash_of m.key) (sym at) (k.index.hashes n)) in
    let same : b ≡ bucket_at buckets l.hash = bucket_read buckets l.hash b k.index.long below read in
    let less = all_less (λ m. m < length locks) b.numbers.items (position_or_len (λ m. m == n) b.numbers.items) in
    let within : All (λ m. m < length locks) (without_number b n).numbers.items =
    less (subst (λ (x : Bucket). All (λ m. m < length locks) x.numbers.items) (sym same) (k.index.within l.hash)) in
    let keeps : (m : ℕ) → in_use (lock_at locks m).queue ≡ true → Holds (bucket_at buckets l.hash) m → Holds (without_number b n) m =
    λ m some held plain. grind (arith, without_other n b.numbers.items m) in
    subst (λ x. IsKeyed size locks most (set buckets l.hash x)) (sym gone)
    record { small = k.small; reserved = k.reserved; index = index_set buckets locks l.hash (without_number b n) k.index below within keeps }

-- a lock that is made
pub spare_made : (locks old more : List Lock) (n : ℕ) (l : Lock) → old ≡ locks → more ≡ old ++ l ∷ [] → l ≡ unused_lock → n ≡ length old
    → IsSpare locks more n
spare_made locks old more n l view pushed unused at =
    let is : more ≡ locks ++ unused_lock ∷ [] = pushed ∙ (λ i. view i ++ unused i ∷ []) in
    grind (arith, length_push locks unused_lock, same_more locks, get_or_past locks n unused_lock)

-- a want that comes last in the queue of a lock in use
pub entered_in_use : (locks old : List Lock) (p : ℕ) (w : Want) (n : ℕ) (l : Lock) (q : KeptQueue) → in_use_for w.key (lock_at locks n) ≡ true
    → old ≡ locks → l ≡ get_or old n l → q ≡ appended l.queue p w → IsEntered locks (set old n (record l { queue = q })) p w n
entered_in_use locks old p w n l q some view read is =
    let within = in_use_within locks n (in_use_parts w.key (lock_at locks n) some).0 in
    let at = lock_read old locks n l view within read in
    record { middle = locks; ready = grind arith; after = grind arith }

-- a want that comes last in the queue of a lock that is begun for its key
pub entered_begun : (locks mid : List Lock) (p : ℕ) (w : Want) (n : ℕ) → IsSpare locks mid n
    → ((m : ℕ) → in_use_for w.key (lock_at locks m) ≡ false)
    → IsEntered locks (set mid n (record (fresh_lock w) { queue = appended no_queue p w })) p w n
entered_begun locks mid p w n spare none = record {
  middle = set mid n (fresh_lock w);
  ready = grind (arith, get_or-set_at, get_or-set_other, length-set);
  after = rw (get_or-set_same mid n (fresh_lock w) unused_lock spare.within) (sym (set-set mid n (fresh_lock w) _));
}
