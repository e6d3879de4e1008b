-- Moves that can all be made.
use Rattle.std.proofs.Common.{◌≡◌, ◌<◌, ◌+◌, ◌∙◌, sym, ap, subst, refl, ℕ, Bool, true, false, cond, List, [], ◌∷◌, length, drop, Option, Some, None, IsSome, nat_lt, get_or, rules}
use Rattle.std.proofs.lemmas.Bool.{lt-ltb, ltb-true}
use Rattle.std.proofs.lemmas.List.{drop_more}
use Rattle.state_search.specs.Orders.{after}
use Rattle.job_order_laws.specs.Erased.{erased}
use Rattle.job_order_laws.specs.Turned.{V}
use Rattle.job_moves.specs.Moves.{next, settled}
use Rattle.job_orders.specs.Reports.{count_of}

after-none : {X : Type 0} (count : ℕ) (next : X → ℕ → Option X) (ks : List ℕ) (y : X) → after count next None ks ≡ Some y → ⊥
after-none count next [] y e = cc
after-none count next (k ∷ ks) y e = after-none count next ks y e

-- a move can be made that others can follow
pub record CanBeMade {X : Type 0} (count : ℕ) (next : X → ℕ → Option X) (x : X) (k : ℕ) : Type 0 where
  pub low : k < count
  pub some : IsSome (next x k)

low-by : (k count : ℕ) (b : Bool) → nat_lt k count ≡ b → b ≡ true → k < count
low-by k count b e t = ltb-true k count (e ∙ t)

can-by : {X : Type 0} (count : ℕ) (next : X → ℕ → Option X) (x y : X) (k : ℕ) (ks : List ℕ) (b : Bool) (o : Option X) → nat_lt k count ≡ b
    → next x k ≡ o → after count next (cond b o None) ks ≡ Some y → CanBeMade count next x k
can-by count next x y k ks true None low is e = absurd (after-none count next ks y e)
can-by count next x y k ks true (Some z) low is e = record { low = low-by k count true low refl; some = subst IsSome (sym is) search rules }
can-by count next x y k ks false o low is e = absurd (after-none count next ks y e)

pub can-be-made : {X : Type 0} (count : ℕ) (next : X → ℕ → Option X) (x y : X) (k : ℕ) (ks : List ℕ)
    → after count next (Some x) (k ∷ ks) ≡ Some y → CanBeMade count next x k
can-be-made count next x y k ks e = can-by count next x y k ks (nat_lt k count) (next x k) refl refl e

-- where moves lead from a state
abbrev pub led : ℕ → V → V → List ℕ → Option V
led most v x ks = after (count_of v) (next most (count_of v)) (Some x) ks

-- the state that all jobs settle in first
abbrev pub first_of : ℕ → V → V
first_of most v = settled most (count_of v) (erased v)

-- so the next of those that are left can
pub next-can-be-made : (most : ℕ) (v x t : V) (ks : List ℕ) (i : ℕ) (r : Option V) → i < length ks → led most v x (drop i ks) ≡ r
    → r ≡ Some t → CanBeMade (count_of v) (next most (count_of v)) x (get_or ks i 0)
next-can-be-made most v x t ks i r low rest is =
    can-be-made (count_of v) (next most (count_of v)) x t (get_or ks i 0) (drop (i + 1) ks)
    (sym (ap (led most v x) (drop_more ks i 0 low)) ∙ rest ∙ is)

made-on : {X : Type 0} (count : ℕ) (next : X → ℕ → Option X) (x y : X) (k : ℕ) (ks : List ℕ) → k < count → next x k ≡ Some y
    → after count next (Some x) (k ∷ ks) ≡ after count next (Some y) ks
made-on count next x y k ks low e =
    ap (λ o. after count next o ks) (ap (λ b. cond b (next x k) None) (lt-ltb k count low) ∙ e)

-- and the others lead on from there
pub move-led : (most : ℕ) (v x y : V) (ks : List ℕ) (i : ℕ) (r : Option V) → i < length ks → get_or ks i 0 < count_of v
    → next most (count_of v) x (get_or ks i 0) ≡ Some y → led most v x (drop i ks) ≡ r → led most v y (drop (i + 1) ks) ≡ r
move-led most v x y ks i r within low e before =
    sym (made-on (count_of v) (next most (count_of v)) x y (get_or ks i 0) (drop (i + 1) ks) low e)
    ∙ sym (ap (led most v x) (drop_more ks i 0 within)) ∙ before
