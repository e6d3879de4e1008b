-- Jobs that go on, counted from the first turn.
use Rattle.std.proofs.Common.{◌≡◌, ◌<◌, ◌+◌, ◌-◌, ◌∙◌, sym, ap, ℕ, suc, Bool, true, false, not, ◌&&◌, cond, Some, None, arith, refl}
use Rattle.std.specs.Option.{option_map}
use Rattle.std.proofs.lemmas.Bool.{and_parts}
use Rattle.job_order_laws.specs.Erased.{erased, turned_at_once}
use Rattle.job_order_laws.specs.Turned.{V, can_run, stepped_on}
use Rattle.job_moves.specs.Moves.{alone, is_clear, is_clear_of, is_loud_turn, is_quiet, next, settled}
use Rattle.job_moves.proofs.Alone.{alone-more, alone-none, alone-stopped, settled-more, settled-none}

pub quiet-runs : (v : V) (n : ℕ) → is_quiet v n ≡ true → can_run v.machine.world n ≡ true
quiet-runs v n h = (and_parts (can_run v.machine.world n) (not (is_loud_turn v n)) h).0

-- one turn more
pub one-more : (most i n : ℕ) (v a first : V) → i < most → is_quiet v n ≡ true → turned_at_once v n ≡ Some a
    → alone (most - i) n v ≡ alone most n first → alone (most - (i + 1)) n a ≡ alone most n first
one-more most i n v a first low quiet e before =
    let is : most - i ≡ suc (most - (i + 1)) = omega (arith, low) in
    sym (alone-more (most - (i + 1)) n v a quiet e) ∙ sym (ap (λ m. alone m n v) is) ∙ before

-- none more
pub no-more : (most i n : ℕ) (v first : V) → is_quiet v n ≡ false → alone (most - i) n v ≡ alone most n first → v ≡ alone most n first
no-more most i n v first loud before = sym (alone-stopped (most - i) n v loud) ∙ before

pub all-made : (most i n : ℕ) (v first : V) → most ≡ i → alone (most - i) n v ≡ alone most n first → v ≡ alone most n first
all-made most i n v first end before =
    let none : most - i ≡ 0 = omega (arith, end) in
    sym (ap (λ m. alone m n v) none ∙ alone-none n v) ∙ before

pub next-settled : (most k : ℕ) (v u w : V) → u ≡ settled most k v → w ≡ alone most (k + 1) u → w ≡ settled most (k + 1) v
next-settled most k v u w before e =
    let is : k + 1 ≡ suc k = omega arith in
    e ∙ ap (alone most (k + 1)) before ∙ ap (λ m. alone most m (settled most k v)) is ∙ sym (settled-more most k v)
    ∙ sym (ap (λ m. settled most m v) is)

pub none-settled : (most : ℕ) (v : V) → v ≡ settled most 0 v
none-settled most v = sym (settled-none most v)

pub next-clear : (k : ℕ) (v : V) (b c : Bool) → b ≡ is_clear k v → c ≡ (b && is_clear_of v (k + 1)) → c ≡ is_clear (k + 1) v
unfolding is_clear
next-clear k v b c before e =
    let is : k + 1 ≡ suc k = omega arith in
    e ∙ ap (λ x. x && is_clear_of v (k + 1)) before ∙ ap (λ m. is_clear k v && is_clear_of v m) is ∙ sym (ap (λ m. is_clear m v) is)

pub none-clear : (v : V) → true ≡ is_clear 0 v
unfolding is_clear
none-clear v = refl

-- moves
pub not-clear : (most count k : ℕ) (v : V) → is_clear count v ≡ false → next most count v k ≡ None
not-clear most count k v e = ap (λ b. cond b (option_map (settled most count) (turned_at_once v (k + 1))) None) e

pub no-turn : (most count k : ℕ) (v : V) → is_clear count v ≡ true → can_run v.machine.world (k + 1) ≡ false → next most count v k ≡ None
no-turn most count k v clear run =
    ap (λ b. cond b (option_map (settled most count) (turned_at_once v (k + 1))) None) clear
    ∙ ap (λ b. option_map (settled most count) (option_map erased (cond b (Some (stepped_on v (k + 1))) None))) run

pub move-made : (most count k : ℕ) (v a t : V) → is_clear count v ≡ true → turned_at_once v (k + 1) ≡ Some a → t ≡ settled most count a
    → next most count v k ≡ Some t
move-made most count k v a t clear turn e =
    ap (λ b. cond b (option_map (settled most count) (turned_at_once v (k + 1))) None) clear
    ∙ ap (option_map (settled most count)) turn ∙ ap Some (sym e)
