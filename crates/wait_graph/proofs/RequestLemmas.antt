-- Lemmas on requests in order.
use Rattle.std.proofs.Common.{◌≡◌, ◌+◌, ◌++◌, ℕ, List, [], ◌∷◌, take, Some, slice_get, unwrap_or, sym, ap, ◌∙◌}
use Rattle.std.proofs.lemmas.List.{take_more}
use Rattle.std.proofs.lemmas.Option.{slice_get_within, unwrap_or-slice_get}
use Rattle.lock_queue.specs.declared.request.Request.{Request}

-- a beginning of the requests and the one that stands behind it
pub take-step : (requests : List Request) (i : ℕ) (r : Request) (sofar new : List Request) → slice_get requests i ≡ Some r
    → new ≡ sofar ++ r ∷ [] → sofar ≡ take i requests → new ≡ take (i + 1) requests
take-step requests i r sofar new here pushed before =
    pushed ∙ ap (λ l. l ++ r ∷ []) before
    ∙ sym (take_more requests i r (slice_get_within requests i r here)
    ∙ ap (λ y. take i requests ++ y ∷ []) (sym (unwrap_or-slice_get requests i r) ∙ ap (λ o. unwrap_or o r) here))
