-- Facts that are made request by request.
use Rattle.std.proofs.Common.{◌≡◌, ◌||◌, ◌<◌, ◌+◌, ◌++◌, ◌∙◌, ℕ, Bool, true, false, cond, List, [], ◌∷◌, length, take, drop, map, get_or, slice_get, Some, unwrap_or, refl, sym, ap, append_assoc}
use Rattle.std.proofs.lemmas.List.{drop_more, take_more}
use Rattle.std.proofs.lemmas.Option.{slice_get_within, unwrap_or-slice_get}
use Rattle.std.specs.List.{list_any}
use Rattle.lock_queue.specs.Queue.{chosen_behind}
use Rattle.lock_queue.specs.declared.request.Request.{Request}
use Rattle.run_events.specs.declared.facts.Fact.{Fact}

one_first : (g : Request → Fact) (b : Bool) (r : Request) (later : List Request)
    → map g (cond b (r ∷ later) later) ≡ cond b (g r ∷ []) [] ++ map g later
one_first g true r later = refl
one_first g false r later = refl

-- the facts on some requests and those on the others behind them, where the fact on one more was added
pub facts_further : (f : List Request → Request → Bool) (g : Request → Fact) (requests : List Request) (i : ℕ) (r : Request)
    (sofar new all : List Fact) → slice_get requests i ≡ Some r → new ≡ sofar ++ cond (f (take i requests) r) (g r ∷ []) []
    → sofar ++ map g (chosen_behind f (take i requests) (drop i requests)) ≡ all
    → new ++ map g (chosen_behind f (take (i + 1) requests) (drop (i + 1) requests)) ≡ all
facts_further f g requests i r sofar new all here added before =
    let within : i < length requests = slice_get_within requests i r here in
    let is : r ≡ get_or requests i r = sym (ap (λ o. unwrap_or o r) here) ∙ unwrap_or-slice_get requests i r in
    let later : List Request = chosen_behind f (take i requests ++ r ∷ []) (drop (i + 1) requests) in
    let b : Bool = f (take i requests) r in
    let behind : chosen_behind f (take (i + 1) requests) (drop (i + 1) requests) ≡ later =
    ap (λ l. chosen_behind f l (drop (i + 1) requests)) (take_more requests i r within ∙ ap (λ y. take i requests ++ y ∷ []) (sym is)) in
    let one : chosen_behind f (take i requests) (drop i requests) ≡ cond b (r ∷ later) later =
    ap (λ l. chosen_behind f (take i requests) l) (drop_more requests i r within ∙ ap (λ y. y ∷ drop (i + 1) requests) (sym is)) in
    ap (λ l. new ++ map g l) behind
    ∙ ap (λ l. l ++ map g later) added
    ∙ append_assoc sofar (cond b (g r ∷ []) []) (map g later)
    ∙ ap (λ l. sofar ++ l) (sym (one_first g b r later))
    ∙ ap (λ l. sofar ++ map g l) (sym one)
    ∙ before

-- the requests from one on, and whether some of them passes a test
drop-at : (requests : List Request) (i : ℕ) (r : Request) → slice_get requests i ≡ Some r → drop i requests ≡ r ∷ drop (i + 1) requests
drop-at requests i r here =
    let is : get_or requests i r ≡ r = sym (unwrap_or-slice_get requests i r) ∙ ap (λ o. unwrap_or o r) here in
    drop_more requests i r (slice_get_within requests i r here) ∙ ap (λ y. y ∷ drop (i + 1) requests) is

pub any-step : (f : Request → Bool) (requests : List Request) (i : ℕ) (r : Request) (b all : Bool) → slice_get requests i ≡ Some r
    → f r ≡ b → list_any f (drop i requests) ≡ all → (b || list_any f (drop (i + 1) requests)) ≡ all
any-step f requests i r b all here is before =
    ap (λ (x : Bool). x || list_any f (drop (i + 1) requests)) (sym is)
    ∙ sym (ap (λ (l : List Request). list_any f l) (drop-at requests i r here))
    ∙ before
