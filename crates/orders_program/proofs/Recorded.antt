-- The order that is recorded is one.
use Rattle.std.proofs.Common.{◌≡◌, ◌==◌, ◌<◌, ◌-◌, sym, subst, refl, ℕ, zero, suc, Bool, true, false, cond, List, [], ◌∷◌, length, Vec, Option, Some, None, option_map, slice_get, get_or, arith, All}
use Rattle.job_order_laws.specs.Turned.{V}
use Rattle.job_orders.specs.Reports.{IsCircleFound, IsEndFound, IsGivenUpFor, IsLooked, IsOrder}
use Rattle.job_orders.specs.declared.ends.End.{End}
use Rattle.job_orders.specs.declared.looking.GivenUp.{GivenUp}
use Rattle.job_orders.specs.declared.looking.Looked.{Looked}
use Rattle.job_orders.specs.declared.looking.Looked.TheVariants.{All as Whole, GaveUp}
use Rattle.job_orders.specs.declared.looking.Reason.{Reason}
use Rattle.job_orders.specs.declared.looking.Reason.TheVariants.{States, Typed, Limit, Clock, Turns}
use Rattle.job_orders.specs.declared.looking.Waiting.{Waiting}
use Rattle.program_files.specs.declared.files.ProgramFile.{ProgramFile}
use Rattle.orders_program.specs.Answers.{IsScriptBy}
use Rattle.orders_program.specs.Begun.{start_of}
use Rattle.orders_program.specs.Followed.{HasOrder}
use Rattle.orders_program.specs.Scripts.{moves_given_up, moves_of_all, moves_recorded, script_text}
use Rattle.orders_program.specs.declared.following.Following.{Following}
use Rattle.orders_program.specs.declared.loading.Work.{Work}

-- an element at a place of a list
pub record Found {X : Type 0} (xs : List X) (i : ℕ) (e : X) : Type 0 where
  pub low : i < length xs
  pub is : get_or xs i e ≡ e

some-is : {X : Type 0} (x y : X) → Some x ≡ Some y → x ≡ y
some-is x y e = cc

found : {X : Type 0} (xs : List X) (i : ℕ) (e : X) → slice_get xs i ≡ Some e → Found xs i e
found [] i e h = absurd (cc)
found (x ∷ xs) zero e h = record { low = omega arith; is = some-is x e h }
found (x ∷ xs) (suc i) e h = let r = found xs i e h in record { low = (let l = r.low in omega (arith, l)); is = r.is }

by-end : (turns : ℕ) (v : V) (es : List End) (i : ℕ) (o : Option End) (ms : List ℕ) → All (IsEndFound turns v) es → slice_get es i ≡ o
    → option_map (λ e. e.moves.items) o ≡ Some ms → HasOrder turns v ms
by-end turns v es i None ms each at is = absurd (cc)
by-end turns v es i (Some e) ms each at is =
    let r = found es i e at in
    let one = subst (IsEndFound turns v) r.is (each i e r.low) in
    subst (HasOrder turns v) (some-is e.moves.items ms is) (one.state, one.order)

end-order : (turns : ℕ) (v : V) (es : List End) (n : ℕ) (b : Bool) (ms : List ℕ) → All (IsEndFound turns v) es
    → cond b None (option_map (λ e. e.moves.items) (slice_get es (n - 1))) ≡ Some ms → HasOrder turns v ms
end-order turns v es n true ms each is = absurd (cc)
end-order turns v es n false ms each is = by-end turns v es (n - 1) (slice_get es (n - 1)) ms each refl is

all-order : (turns : ℕ) (v : V) (circle : Option Waiting) (es : List End) (end : Option ℕ) (ms : List ℕ) → IsCircleFound turns v circle
    → All (IsEndFound turns v) es → moves_of_all circle es end ≡ Some ms → HasOrder turns v ms
all-order turns v circle es (Some n) ms c each is = end-order turns v es n (n == 0) ms each is
all-order turns v (Some w) es None ms c each is = subst (HasOrder turns v) (some-is w.moves.items ms is) (c.state, c.order)
all-order turns v None es None ms c each is = end-order turns v es 1 false ms each is

given-up-order : (turns states : ℕ) (v : V) (g : GivenUp) (why : Reason) (end : Option ℕ) (ms : List ℕ) → IsGivenUpFor turns states v g why
    → moves_given_up why g.moves.items end ≡ Some ms → HasOrder turns v ms
given-up-order turns states v g why (Some n) ms h is = absurd (cc)
given-up-order turns states v g (States n) None ms h is = absurd (cc)
given-up-order turns states v g (Typed line) None ms h is = absurd (cc)
given-up-order turns states v g (Limit n) None ms h is = subst (HasOrder turns v) (some-is g.moves.items ms is) (h.state, h.order)
given-up-order turns states v g (Clock n) None ms h is = subst (HasOrder turns v) (some-is g.moves.items ms is) (h.state, h.order)
given-up-order turns states v g (Turns n) None ms h is = subst (HasOrder turns v) (some-is g.moves.items ms is) (h.state, h.order)

pub recorded-order : (turns states : ℕ) (v : V) (l : Looked) (end : Option ℕ) (ms : List ℕ) → IsLooked turns states v l
    → moves_recorded l end ≡ Some ms → HasOrder turns v ms
recorded-order turns states v (Whole r) end ms h is = all-order turns v r.circle r.ends.items end ms h.0.circle h.0.each is
recorded-order turns states v (GaveUp g) end ms h is = given-up-order turns states v g g.reason end ms h is

-- and the script is for it
pub script-for : {A : Type 0} (turns : ℕ) (w : Work) (files : List ProgramFile) (moves : List ℕ) (o : Option (List ℕ)) (f : Following) (script : Vec ℕ A)
    → o ≡ Some moves → IsOrder turns (start_of w) moves f.machine → script.items ≡ script_text w files f → IsScriptBy turns w files o (Some script)
script-for turns w files moves o f script is order text =
    subst (λ m. IsScriptBy turns w files m (Some script)) (sym is) (record { followed = f; order = order; text = text })
