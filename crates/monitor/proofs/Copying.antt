-- Requests that are chosen one by one.
use Rattle.std.proofs.Common.{◌≡◌, ◌+◌, ◌++◌, ◌∙◌, ℕ, Bool, true, false, cond, List, [], ◌∷◌, take, drop, slice_get, Some, unwrap_or, get_or, refl, sym, ap, append_assoc}
use Rattle.std.proofs.lemmas.List.{drop_more, take_more}
use Rattle.std.proofs.lemmas.Option.{slice_get_within, unwrap_or-slice_get}
use Rattle.lock_queue.specs.Queue.{chosen_behind}
use Rattle.lock_queue.specs.declared.request.Request.{Request}

one-first : (b : Bool) (r : Request) (later : List Request) → cond b (r ∷ later) later ≡ cond b (r ∷ []) [] ++ later
one-first true r later = refl
one-first false r later = refl

-- the chosen of some requests and those behind them, where one more was looked at
pub chosen-further : (f : List Request → Request → Bool) (requests : List Request) (i : ℕ) (r : Request) (sofar new all : List Request)
    → slice_get requests i ≡ Some r → new ≡ sofar ++ cond (f (take i requests) r) (r ∷ []) []
    → sofar ++ chosen_behind f (take i requests) (drop i requests) ≡ all
    → new ++ chosen_behind f (take (i + 1) requests) (drop (i + 1) requests) ≡ all
chosen-further f requests i r sofar new all here added before =
    let within = slice_get_within requests i r here in
    let is : get_or requests i r ≡ r = sym (unwrap_or-slice_get requests i r) ∙ ap (λ o. unwrap_or o r) here in
    let later : List Request = chosen_behind f (take i requests ++ r ∷ []) (drop (i + 1) requests) in
    let b : Bool = f (take i requests) r in
    let behind : chosen_behind f (take (i + 1) requests) (drop (i + 1) requests) ≡ later =
    ap (λ l. chosen_behind f l (drop (i + 1) requests)) (take_more requests i r within ∙ ap (λ y. take i requests ++ y ∷ []) is) in
    let one : chosen_behind f (take i requests) (drop i requests) ≡ cond b (r ∷ later) later =
    ap (λ l. chosen_behind f (take i requests) l) (drop_more requests i r within ∙ ap (λ y. y ∷ drop (i + 1) requests) is) in
    ap (λ l. new ++ l) behind
    ∙ ap (λ l. l ++ later) added
    ∙ append_assoc sofar (cond b (r ∷ []) []) later
    ∙ ap (λ l. sofar ++ l) (sym (one-first b r later))
    ∙ ap (λ l. sofar ++ l) (sym one)
    ∙ before
