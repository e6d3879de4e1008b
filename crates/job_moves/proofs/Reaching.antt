-- Moves of the search are those of the laws, where each state that they lead to is clear.
use Rattle.std.proofs.Common.{◌≡◌, ◌<◌, ◌+◌, ◌-◌, ◌∙◌, sym, ap, subst, ℕ, suc, ◌||◌, true, cond, List, [], ◌∷◌, length, Some, None, refl, arith}
use Rattle.std.specs.Option.{option_map}
use Rattle.job_order_laws.specs.Erased.{turned_at_once}
use Rattle.job_order_laws.specs.Orders.{AllSettle, IsMoved, Settles}
use Rattle.job_order_laws.specs.Turned.{V}
use Rattle.job_moves.specs.Laws.{AllClear, EndsAreReached, IsKept, Reaches, RequestsAreReached, RunsReach}
use Rattle.job_moves.specs.Moves.{is_clear, is_loud_turn, next, reads_clock, settled}
use Rattle.job_moves.proofs.Alone.{GoesOn, all-go-on, at-once, could-run, jobs-stay, moves_are_noticed, moves_keep, number-of, settled_is_settled, stays-awake}
use Rattle.job_moves.proofs.LoudTurns.{loud_moves_stand}

-- what is known where a search stands
pub record Stands (most count : ℕ) (s : V) : Type 0 where
  pub kept : IsKept count s
  pub clear : AllClear most count s

pub here-clear : (most count : ℕ) (s : V) → Stands most count s → is_clear count s ≡ true
here-clear most count s h = h.clear [] s refl

-- a move of the search, by the turn that it begins with
next-is : (most count : ℕ) (s a : V) (k : ℕ) → is_clear count s ≡ true → turned_at_once s (k + 1) ≡ Some a → next most count s k ≡ Some (settled most count a)
next-is most count s a k clear e =
    ap (λ b. cond b (option_map (settled most count) (turned_at_once s (k + 1))) None) clear ∙ ap (option_map (settled most count)) e

stands-on : (most count : ℕ) (s t : V) (k : ℕ) → Stands most count s → k < count → next most count s k ≡ Some t → Stands most count t
stands-on most count s t k h low e = record {
  kept = moves_keep most count s t k h.kept low e;
  clear = λ ks u r. h.clear (k ∷ ks) u (t, low, e, r);
}

pub stands-at : (most count : ℕ) (s t : V) (ks : List ℕ) → Stands most count s → Reaches most count s ks t → Stands most count t
stands-at most count s t [] h r = subst (Stands most count) r h
stands-at most count s t (k ∷ ks) h (a, low, e, r) = stands-at most count a t ks (stands-on most count s a k h low e) r

-- what a turn settles in
pub record Behind (most count : ℕ) (s a : V) (k : ℕ) : Type 0 where
  pub low : k < count
  pub move : next most count s k ≡ Some (settled most count a)
  pub settles : Settles turned_at_once is_loud_turn a (settled most count a)

pub behind : (most count n : ℕ) (s a : V) → Stands most count s → turned_at_once s n ≡ Some a → (k : ℕ) × (k + 1 ≡ n) × Behind most count s a k
behind most count n s a h e =
    let number = number-of count n s h.kept.awake h.kept.jobs (could-run s a n e) in
    let k : ℕ = n - 1 in
    let is : k + 1 ≡ n = omega (arith, number.0) in
    let low : k < count = omega (arith, is, number.1) in
    let step : turned_at_once s (k + 1) ≡ Some a = subst (λ m. turned_at_once s m ≡ Some a) (sym is) e in
    let move : next most count s k ≡ Some (settled most count a) = next-is most count s a k (here-clear most count s h) step in
    let on : Stands most count (settled most count a) = stands-on most count s (settled most count a) k h low move in (
      k,
      is,
      record {
        low = low;
        move = move;
        settles =
            settled_is_settled most count a (stays-awake s a n h.kept.awake e) (jobs-stay count s a n h.kept.awake h.kept.jobs number.1 e)
            (here-clear most count (settled most count a) on);
      },
    )

-- moves of the laws
pub reaches : (most count : ℕ) (s t : V) (ns : List ℕ) → Stands most count s → IsMoved turned_at_once is_loud_turn s ns t
    → (ks : List ℕ) × Reaches most count s ks t × (length ks ≡ length ns)
reaches most count s t [] h is = ([], is, refl)
reaches most count s t (n ∷ ns) h (a, b, step, loud, settles, rest) =
    let x = behind most count n s a h step in
    let u : V = settled most count a in
    let one : b ≡ u = loud_moves_stand.one a b u (at-once a (stays-awake s a n h.kept.awake step)) settles x.2.settles in
    let on : Stands most count u = stands-on most count s u x.0 h x.2.low x.2.move in
    let more = reaches most count u t ns on (subst (λ v. IsMoved turned_at_once is_loud_turn v ns t) one rest) in
    (x.0 ∷ more.0, (u, x.2.low, x.2.move, more.1), ap suc more.2)

pub all-settle : (most count : ℕ) (s : V) → Stands most count s → AllSettle turned_at_once is_loud_turn s
all-settle most count s h ns t a n run step =
    let r = reaches most count s t ns h run in
    let x = behind most count n t a (stands-at most count s t r.0 h r.1) step in
    (settled most count a, x.2.settles)

-- where a search begins
pub begins : (most count : ℕ) (v : V) → IsKept count v → AllClear most count (settled most count v) → Stands most count (settled most count v)
begins most count v h clear =
    let x : GoesOn count v (settled most count v) = all-go-on most count count v h.awake h.jobs (omega arith) in
    record { kept = record { awake = x.awake; jobs = x.jobs }; clear = clear }

pub begins-settled : (most count : ℕ) (v : V) → IsKept count v → AllClear most count (settled most count v)
    → Settles turned_at_once is_loud_turn v (settled most count v)
begins-settled most count v h clear = settled_is_settled most count v h.awake h.jobs (clear [] (settled most count v) refl)

pub requests_are_reached : RequestsAreReached
requests_are_reached most count v w ns h clear run =
    let s : V = settled most count v in
    let on : Stands most count s = begins most count v h clear in
    let found = loud_moves_stand.requests v s w ns (at-once v h.awake) (begins-settled most count v h clear) (all-settle most count s on) run in
    let r = reaches most count s found.1 found.0 on found.2 in
    (r.0, found.1, r.1, r.2 ∙ found.3, found.4)

pub ends_are_reached : EndsAreReached
ends_are_reached most count v w ns h clear run end =
    let s : V = settled most count v in
    let on : Stands most count s = begins most count v h clear in
    let found = loud_moves_stand.ends v s w ns (at-once v h.awake) (begins-settled most count v h clear) (all-settle most count s on) run end in
    let r = reaches most count s w found.0 on found.1 in
    (r.0, r.1, r.2 ∙ found.2)

-- and back
moved-by : (most count : ℕ) (s t : V) (ks : List ℕ) → Stands most count s → Reaches most count s ks t
    → (ns : List ℕ) × IsMoved turned_at_once is_loud_turn s ns t
moved-by most count s t [] h is = ([], is)
moved-by most count s t (k ∷ ks) h (a, low, e, r) =
    let on : Stands most count a = stands-on most count s a k h low e in
    let more = moved-by most count a t ks on r in
    let m = moves_are_noticed most count s a k h.kept.awake h.kept.jobs low e (here-clear most count a on) in
    ((k + 1) ∷ more.0, (m.state, a, m.turn, ap (λ b. b || reads_clock s.machine.world (k + 1)) m.noticed, m.settles, more.1))

pub runs_reach : RunsReach
runs_reach most count v t ks h clear r =
    let s : V = settled most count v in
    let m = moved-by most count s t ks (begins most count v h clear) r in
    loud_moves_stand.runs v s t m.0 (begins-settled most count v h clear) m.1
