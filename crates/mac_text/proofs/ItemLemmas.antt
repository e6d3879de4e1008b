-- Items one after another: the steps of a loop that reads them.
use Rattle.std.proofs.Common.{◌≡◌, ℕ, suc, ◌+◌, ◌-◌, ◌<◌, ◌≤◌, List, [], ◌∷◌, ◌++◌, Option, Some, None, refl, sym, ap, ◌∙◌, append_assoc, append-nil, arith}
use Rattle.mac_text.specs.Scan.{Scan, with_front, items_at, Fails}
use Rattle.mac_text.specs.declared.fault.Fault.{Fault}
use Rattle.mac_text.specs.declared.fault.Fault.TheVariants as faults

-- the first item and those behind it
pub one_more : {X : Type 0} (next : Scan → Option (Option X × Scan)) (n : ℕ) (s t u : Scan) (x : X) (xs : List X)
    → next s ≡ Some (Some x, t) → items_at next n t ≡ Some (xs, u)
    → items_at next (suc n) s ≡ Some (x ∷ xs, u)
unfolding items_at
one_more next n s t u x xs a b = rw (a, b) refl

-- no item comes
pub no_more : {X : Type 0} (next : Scan → Option (Option X × Scan)) (n : ℕ) (s t : Scan) → next s ≡ Some (None, t) → items_at next (suc n) s ≡ Some ([], t)
unfolding items_at
no_more next n s t a = rw a refl

regroup : {X : Type 0} (front : List X) (x : X) (read : Option (List X × Scan))
    → with_front front (with_front (x ∷ []) read) ≡ with_front (front ++ x ∷ []) read
regroup front x None = refl
regroup front x (Some r) = ap (λ l. Some (l, r.1)) (sym (append_assoc front (x ∷ []) r.0))

-- one more item was read
pub items_go_on : {X : Type 0} (next : Scan → Option (Option X × Scan)) (front : List X) (n i : ℕ) (s t : Scan) (x : X) (total : Option (List X × Scan)) → i < n
    → next s ≡ Some (Some x, t) → with_front front (items_at next (n - i) s) ≡ total → with_front (front ++ x ∷ []) (items_at next (n - (i + 1)) t) ≡ total
unfolding items_at
items_go_on next front n i s t x total lt h so_far =
    let k : n - i ≡ suc (n - (i + 1)) = omega arith in
    let one : with_front front (items_at next (n - i) s) ≡ with_front (front ++ x ∷ []) (items_at next (n - (i + 1)) t) =
    rw (k, h) (regroup front x (items_at next (n - (i + 1)) t)) in
    sym one ∙ so_far

-- no more item came
pub items_end : {X : Type 0} (next : Scan → Option (Option X × Scan)) (front : List X) (n i : ℕ) (s t : Scan) (total : Option (List X × Scan)) → i < n
    → next s ≡ Some (None, t) → with_front front (items_at next (n - i) s) ≡ total → total ≡ Some (front, t)
unfolding items_at
items_end next front n i s t total lt h so_far =
    let k : n - i ≡ suc (n - (i + 1)) = omega arith in
    let one : with_front front (items_at next (n - i) s) ≡ Some (front, t) = rw (k, h) (ap (λ l. Some (l, t)) (append-nil front)) in
    sym so_far ∙ one

-- an item could not be read
pub items_fail : {X : Type 0} (next : Scan → Option (Option X × Scan)) (e : Fault) (front : List X) (n i : ℕ) (s : Scan)
    (total : Option (List X × Scan))
    → i < n
    → Fails e (next s) → with_front front (items_at next (n - i) s) ≡ total → Fails e total
unfolding items_at
items_fail next faults.Memory front n i s total lt h so_far = tt
items_fail next (faults.Syntax wanted) front n i s total lt h so_far =
    let k : n - i ≡ suc (n - (i + 1)) = omega arith in
    let one : with_front front (items_at next (n - i) s) ≡ None = rw (k, h) refl in
    sym so_far ∙ one

-- there can be no more
pub items_done : {X : Type 0} (next : Scan → Option (Option X × Scan)) (front : List X) (n i : ℕ) (s : Scan) (total : Option (List X × Scan)) → n ≤ i
    → with_front front (items_at next (n - i) s) ≡ total → total ≡ Some (front, s)
unfolding items_at
items_done next front n i s total le so_far =
    let k : n - i ≡ 0 = omega arith in
    let one : with_front front (items_at next (n - i) s) ≡ Some (front, s) = rw k (ap (λ l. Some (l, s)) (append-nil front)) in
    sym so_far ∙ one
