-- Lemmas on the lines of requests.
use Rattle.std.proofs.Common.{◌≡◌, ◌+◌, ◌++◌, ℕ, List, ◌∷◌, drop, Some, slice_get, unwrap_or, sym, ap, ◌∙◌, append_assoc}
use Rattle.std.proofs.lemmas.List.{drop_more}
use Rattle.std.proofs.lemmas.Option.{slice_get_within, unwrap_or-slice_get}
use Rattle.lock_queue.specs.Queue.{granted}
use Rattle.lock_queue.specs.declared.request.Request.{Request}
use Rattle.queue_script.specs.Printing.{request_line}
use Rattle.queue_script.specs.QueueScripts.{shown_from}

-- the rest from a place on begins with what is there
drop-at : {X : Type 0} (xs : List X) (i : ℕ) (x : X) → slice_get xs i ≡ Some x → drop i xs ≡ x ∷ drop (i + 1) xs
drop-at xs i x h =
    drop_more xs i x (slice_get_within xs i x h)
    ∙ ap (λ y. y ∷ drop (i + 1) xs) (sym (unwrap_or-slice_get xs i x) ∙ ap (λ o. unwrap_or o x) h)

pub shown-step : (requests : List Request) (i : ℕ) (r : Request) (sofar new all : List ℕ) → slice_get requests i ≡ Some r
    → new ≡ sofar ++ request_line (granted requests i) r
    → sofar ++ shown_from requests i (drop i requests) ≡ all → new ++ shown_from requests (i + 1) (drop (i + 1) requests) ≡ all
shown-step requests i r sofar new all here pushed before =
    ap (λ l. l ++ shown_from requests (i + 1) (drop (i + 1) requests)) pushed
    ∙ append_assoc sofar (request_line (granted requests i) r) (shown_from requests (i + 1) (drop (i + 1) requests))
    ∙ ap (λ l. sofar ++ shown_from requests i l) (sym (drop-at requests i r here))
    ∙ before
