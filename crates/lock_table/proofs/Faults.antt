-- A call's wants are judged one by one, and their keys looked up.
use Rattle.std.proofs.Common.{◌≡◌, ◌∙◌, ◌<◌, ◌+◌, ◌++◌, ◌∷◌, ◌||◌, sym, ap, subst, ℕ, suc, Bool, true, false, not, List, [], Option, add-one, length, get_or, take, drop, arith, below_more, is_some, append_assoc, nat_le, ◌&&◌}
use Rattle.std.specs.List.{list_any}
use Rattle.std.proofs.lemmas.List.{get_or_append_left, get_or_push, get_or-take, length-take, take_more}
use Rattle.std.proofs.lemmas.List.Folds.{list_any-append}
use Rattle.std.proofs.Math.Seq.{drop-cons}
use Rattle.lock_queue.specs.declared.refusal.Refusal.{Refusal}
use Rattle.lock_queue.specs.declared.refusal.Refusal.TheVariants.{NamedAlready, NotPresent}
use Rattle.lock_queue.specs.declared.request.Request.{Request}
use Rattle.lock_queue.specs.declared.want.Want.{Want}
use Rattle.lock_queue.specs.Dequeues.{dequeue_fault}
use Rattle.lock_queue.specs.Enqueues.{enqueue_fault, some_too_low}
use Rattle.lock_queue.specs.Outcomes.{first_refusal, or_else, refuse_if}
use Rattle.lock_queue.specs.Queue.{names, wants_of}
use Rattle.lock_queue.specs.Unused.{unused_want}
use Rattle.key_queues.specs.declared.found.Found.{Found}
use Rattle.key_queues.specs.declared.lock.Lock.{Lock}
use Rattle.key_queues.specs.Found.{IsFound}
use Rattle.key_queues.specs.Hashes.{hash_of}
use Rattle.lock_table.specs.Arrivals.{no_found}

-- the rest of a list from one of its elements on
pub rest_is : (xs : List Want) (i : ℕ) (x : Want) → i < length xs → x ≡ get_or xs i x → drop i xs ≡ x ∷ drop (i + 1) xs
rest_is xs i x lt is = drop-cons xs i x lt ∙ ap (λ y. y ∷ drop (suc i) xs) (sym is) ∙ ap (λ j. x ∷ drop j xs) (sym (add-one i))

-- what is judged from one of the wants on
pub judged_at : (fault : List Want → Want → Option Refusal) (ws : List Want) (i : ℕ) (w : Want) → i < length ws → w ≡ get_or ws i w
    → first_refusal fault (take i ws) (drop i ws)
    ≡ or_else (fault (take i ws) w) (first_refusal fault (take (i + 1) ws) (drop (i + 1) ws))
judged_at fault ws i w lt is =
    ap (first_refusal fault (take i ws)) (rest_is ws i w lt is)
    ∙ ap (λ l. or_else (fault (take i ws) w) (first_refusal fault l (drop (i + 1) ws)))
    (sym (take_more ws i w lt ∙ ap (λ v. take i ws ++ v ∷ []) (sym is)))

-- ---- one want, where it is known whether it is refused beside the present ones

module _ (rs : List Request) (job : ℕ) (ws : List Want) (i : ℕ) (w : Want) (lt : i < length ws) (at : w ≡ get_or ws i w) where
  -- what becomes of a call that asks for keys
  module _ (was : first_refusal (enqueue_fault rs job) (take i ws) (drop i ws) ≡ first_refusal (enqueue_fault rs job) [] ws) where
    pub fault_here : is_some (enqueue_fault rs job [] w) ≡ true → enqueue_fault rs job [] w ≡ first_refusal (enqueue_fault rs job) [] ws
    fault_here some = grind (arith, judged_at (enqueue_fault rs job) ws i w lt at, was, some)

    pub none_here : (before : Bool) → is_some (enqueue_fault rs job [] w) ≡ false → names (take i ws) w.key ≡ before
        → or_else (refuse_if before NamedAlready) (first_refusal (enqueue_fault rs job) (take (i + 1) ws) (drop (i + 1) ws))
        ≡ first_refusal (enqueue_fault rs job) [] ws
    none_here before none named = grind (arith, judged_at (enqueue_fault rs job) ws i w lt at, was, none, named)

  -- and of one that gives keys up
  pub given_here : (before has : Bool) → names (take i ws) w.key ≡ before → names (wants_of rs job) w.key ≡ has
      → first_refusal (dequeue_fault rs job) (take i ws) (drop i ws) ≡ first_refusal (dequeue_fault rs job) [] ws
      → or_else (or_else (refuse_if before NamedAlready) (refuse_if (not has) NotPresent))
      (first_refusal (dequeue_fault rs job) (take (i + 1) ws) (drop (i + 1) ws))
      ≡ first_refusal (dequeue_fault rs job) [] ws
  given_here before has named wanted was = grind (arith, judged_at (dequeue_fault rs job) ws i w lt at, named, wanted, was)

-- whether a want is too low behind a job's own wants and those of the call before it
pub too_low_at : (own ws : List Want) (i : ℕ) (w : Want) → i < length ws → w ≡ get_or ws i w → some_too_low (own ++ take i ws) (drop i ws)
    ≡ ((not w.bypass && (list_any (λ v. nat_le w.level v.level) own || list_any (λ v. nat_le w.level v.level) (take i ws)))
    || some_too_low (own ++ take (i + 1) ws) (drop (i + 1) ws))
too_low_at own ws i w lt at =
    grind (arith, rest_is ws i w lt at, list_any-append (λ v. nat_le w.level v.level) own (take i ws), append_assoc own (take i ws) (w ∷ []), take_more ws i w lt, at)

-- ---- what was looked up

module _ (locks : List Lock) (ws : List Want) (found : List Found) (i : ℕ)
    (was : (j : ℕ) → j < i → IsFound locks (get_or ws j unused_want).key (get_or found j no_found)) where
  -- the hashes of the keys before one
  pub hashes_of : (seen : List Found) → seen ≡ found → (j : ℕ) → j < length (take i ws)
      → (get_or seen j no_found).hash ≡ hash_of (get_or (take i ws) j unused_want).key
  hashes_of seen is j lt =
      let below : j < i = omega (arith, length-take i ws, lt) in
      ap (λ l. (get_or l j no_found).hash) is ∙ (was j below).hash
      ∙ ap (λ (v : Want). hash_of v.key) (sym (get_or-take i ws j unused_want below))

  -- one more
  pub found_more : (more : List Found) (w : Want) (x : Found) → length found ≡ i → more ≡ found ++ x ∷ [] → w ≡ get_or ws i unused_want
      → IsFound locks w.key x → (j : ℕ) → j < i + 1 → IsFound locks (get_or ws j unused_want).key (get_or more j no_found)
  found_more more w x long is at here =
      below_more (λ j. IsFound locks (get_or ws j unused_want).key (get_or more j no_found)) i
      (λ j lt.
      subst (IsFound locks (get_or ws j unused_want).key)
      (sym (ap (λ l. get_or l j no_found) is ∙ get_or_append_left found (x ∷ []) no_found j (omega (arith, lt, long)))) (was j lt))
      (subst (IsFound locks (get_or ws i unused_want).key) (sym (ap (λ l. get_or l i no_found) is ∙ get_or_push found x no_found i long))
      (subst (λ (v : Want). IsFound locks v.key x) at here))
