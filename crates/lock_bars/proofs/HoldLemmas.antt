-- Lemmas on what a table tells.
use Rattle.std.proofs.Common.{◌≡◌, ◌+◌, ◌++◌, ℕ, List, ◌∷◌, drop, map, Some, slice_get, unwrap_or, sym, ap, ◌∙◌, append_assoc}
use Rattle.std.proofs.lemmas.List.{drop_more}
use Rattle.std.proofs.lemmas.Option.{slice_get_within, unwrap_or-slice_get}
use Rattle.lock_queue.specs.Queue.{granted}
use Rattle.lock_queue.specs.declared.request.Request.{Request}
use Rattle.lock_bars.specs.Holds.{hold_of, holds_from}
use Rattle.lock_bars.specs.declared.holds.Hold.{Hold}

-- the rest from a place on begins with what is there
drop-at : {X : Type 0} (xs : List X) (i : ℕ) (x : X) → slice_get xs i ≡ Some x → drop i xs ≡ x ∷ drop (i + 1) xs
drop-at xs i x h =
    drop_more xs i x (slice_get_within xs i x h)
    ∙ ap (λ y. y ∷ drop (i + 1) xs) (sym (unwrap_or-slice_get xs i x) ∙ ap (λ o. unwrap_or o x) h)

pub hold-step : (requests : List Request) (i : ℕ) (r : Request) (sofar new all : List Hold) → slice_get requests i ≡ Some r
    → new ≡ sofar ++ map (hold_of r.job (granted requests i)) r.wants.items
    → sofar ++ holds_from requests i (drop i requests) ≡ all → new ++ holds_from requests (i + 1) (drop (i + 1) requests) ≡ all
hold-step requests i r sofar new all here pushed before =
    ap (λ l. l ++ holds_from requests (i + 1) (drop (i + 1) requests)) pushed
    ∙ append_assoc sofar (map (hold_of r.job (granted requests i)) r.wants.items) (holds_from requests (i + 1) (drop (i + 1) requests))
    ∙ ap (λ l. sofar ++ holds_from requests i l) (sym (drop-at requests i r here))
    ∙ before
