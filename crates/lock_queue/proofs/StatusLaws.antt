-- A status with one more owner, or one more waiter, in front.
use Rattle.std.proofs.Common.{◌≡◌, ◌∙◌, ap, ℕ, zero, suc, ◌+◌, ◌<◌, Bool, true, false, ◌||◌, List, [], ◌∷◌, ◌++◌, length}
use Rattle.std.proofs.Common.{get_or, drop, filter, Option, Some, None, refl, arith, add-one}
use Rattle.std.specs.List.{list_any}
use Rattle.std.proofs.lemmas.List.Elements.{filter-append}
use Rattle.std.proofs.lemmas.List.Sums.{sum_by-append}
use Rattle.lock_queue.specs.declared.key.Key.{Key}
use Rattle.lock_queue.specs.declared.request.Request.{Request}
use Rattle.lock_queue.specs.declared.want.Want.{Want}
use Rattle.lock_queue.specs.Keys.{same_key}
use Rattle.lock_queue.specs.Queue.{all_wants, wants_at, amount_of}
use Rattle.lock_queue.specs.StatusSteps.{with_owner, with_waiter}
use Rattle.lock_queue.specs.StatusWords.{first_level, is_exclusive, status_from}

list_any-append : {X : Type 0} (p : X → Bool) (xs ys : List X) → list_any p (xs ++ ys) ≡ (list_any p xs || list_any p ys)
list_any-append p [] ys = refl
list_any-append p (x ∷ xs) ys =
    elim (p x) as (λ b. (b || list_any p (xs ++ ys)) ≡ ((b || list_any p xs) || list_any p ys)) [
      | true ↦ refl
      | false ↦ list_any-append p xs ys
    ]

wants_at_cons : (r : Request) (rs : List Request) (key : Key)
    → wants_at (r ∷ rs) key ≡ filter (λ w. same_key w.key key) r.wants.items ++ wants_at rs key
wants_at_cons r rs key = filter-append (λ w. same_key w.key key) r.wants.items (all_wants rs)

pub status_with_owner : (key : Key) (asker level : ℕ) (r : Request) (owning waiting : List Request)
    → status_from key asker level (r ∷ owning) waiting ≡ with_owner key asker r (status_from key asker level owning waiting)
status_with_owner key asker level r owning waiting =
    rw (
      wants_at_cons r owning key,
      list_any-append is_exclusive (filter (λ w. same_key w.key key) r.wants.items) (wants_at owning key),
      sum_by-append amount_of (filter (λ w. same_key w.key key) r.wants.items) (wants_at owning key),
      add-one,
    ) refl

pub status_with_waiter : (key : Key) (asker level : ℕ) (r : Request) (owning waiting : List Request)
    → status_from key asker level owning (r ∷ waiting) ≡ with_waiter asker r (status_from key asker level owning waiting)
status_with_waiter key asker level r owning waiting = rw (add-one (length waiting)) refl

-- the first of two levels, if any
abbrev pub first_of : Option ℕ → Option ℕ → Option ℕ
first_of (Some level) later = Some level
first_of None later = later

first_level-append : (xs ys : List Want) → first_level (xs ++ ys) ≡ first_of (first_level xs) (first_level ys)
first_level-append [] ys = refl
first_level-append (x ∷ xs) ys = refl

-- the first level from the request at i on
pub first_level_drop : (key : Key) (rs : List Request) (i : ℕ) (r : Request) → i < length rs → r ≡ get_or rs i r
    → first_level (wants_at (drop i rs) key)
    ≡ first_of (first_level (filter (λ w. same_key w.key key) r.wants.items)) (first_level (wants_at (drop (i + 1) rs) key))
first_level_drop key [] i r lt is = absurd (omega arith)
first_level_drop key (x ∷ rs) zero r lt is =
    rw is
    (ap first_level (wants_at_cons x rs key)
    ∙ first_level-append (filter (λ w. same_key w.key key) x.wants.items) (wants_at rs key))
first_level_drop key (x ∷ rs) (suc i) r lt is =
    rw (add-one (suc i)) (first_level_drop key rs i r (omega arith) is ∙ rw (add-one i) refl)
