-- Whether a move can be made, and to which state it leads.
use Rattle.std.proofs.Common.{◌≡◌, ◌+◌, ◌∙◌, sym, ap, ℕ, true, false, cond, Some, None}
use Rattle.std.specs.Option.{option_map}
use Rattle.job_order_laws.specs.Erased.{erased, turned_at_once}
use Rattle.job_order_laws.specs.Turned.{V, can_run, stepped_on}
use Rattle.job_moves.specs.Moves.{is_clear, next, settled}

pub not_clear : (most count k : ℕ) (v : V) → is_clear count v ≡ false → next most count v k ≡ None
not_clear most count k v e = ap (λ b. cond b (option_map (settled most count) (turned_at_once v (k + 1))) None) e

pub no_turn : (most count k : ℕ) (v : V) → is_clear count v ≡ true → can_run v.machine.world (k + 1) ≡ false → next most count v k ≡ None
no_turn most count k v clear run =
    ap (λ b. cond b (option_map (settled most count) (turned_at_once v (k + 1))) None) clear
    ∙ ap (λ b. option_map (settled most count) (option_map erased (cond b (Some (stepped_on v (k + 1))) None))) run

pub move_made : (most count k : ℕ) (v a t : V) → is_clear count v ≡ true → turned_at_once v (k + 1) ≡ Some a → t ≡ settled most count a
    → next most count v k ≡ Some t
move_made most count k v a t clear turn e =
    ap (λ b. cond b (option_map (settled most count) (turned_at_once v (k + 1))) None) clear
    ∙ ap (option_map (settled most count)) turn ∙ ap Some (sym e)
