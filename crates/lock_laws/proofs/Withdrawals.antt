-- Where the chosen requests stand.
use Rattle.std.proofs.Common.{◌≡◌, ◌∙◌, sym, ap, subst, Bool, true, false, not, cond, List, [], ◌∷◌, ◌++◌, refl}
use Rattle.std.proofs.lemmas.Bool.{and_from, both_ways, false_from_ne_true}
use Rattle.lock_queue.specs.declared.request.Request.{Request}
use Rattle.lock_queue.specs.Jobs.{is_blocked_where, is_not_blocked_where, withdrawn_where}
use Rattle.lock_queue.specs.Queue.{granted_behind, chosen_behind}
use Rattle.lock_queue.proofs.Fitting.{granted_behind-fewer}
use Rattle.lock_queue.proofs.Lists.{Sub, nil, skip, keep, Sub-refl, Sub-flat_map}
use Rattle.lock_laws.proofs.Positions.{Test, nil-append, push-append}
use Rattle.lock_laws.proofs.WaitSteps.{Waits, waits_found}
use Rattle.lock_laws.specs.Waiting.{WithdrawingEndsWaits}

record ChosenAt (test : Test) (e rs a : List Request) (r : Request) : Type 0 where
  before : List Request
  passes : test (e ++ before) r ≡ true
  fewer : Sub a before

behind : (test : Test) (e rs a : List Request) (x r : Request) → ChosenAt test (e ++ x ∷ []) rs a r → (front : List Request)
    → ((l : List Request) → Sub a l → Sub front (x ∷ l)) → ChosenAt test e (x ∷ rs) front r
behind test e rs a x r o front fewer = record {
  before = x ∷ o.before;
  passes = subst (λ l. test l r ≡ true) (push-append e x o.before) o.passes;
  fewer = fewer o.before o.fewer;
}

chosen-at : (test : Test) (e rs a b : List Request) (r : Request) → chosen_behind test e rs ≡ a ++ r ∷ b → ChosenAt test e rs a r
chosen-at test e [] [] b r is = absurd (cc)
chosen-at test e [] (y ∷ a) b r is = absurd (cc)
chosen-at test e (x ∷ rs) a b r is = go (λ a b r. chosen-at test (e ++ x ∷ []) rs a b r) (test e x) refl a is
  where
    go : ((a b : List Request) (r : Request) → chosen_behind test (e ++ x ∷ []) rs ≡ a ++ r ∷ b → ChosenAt test (e ++ x ∷ []) rs a r)
        → (t : Bool) → test e x ≡ t → (a : List Request)
        → cond t (x ∷ chosen_behind test (e ++ x ∷ []) rs) (chosen_behind test (e ++ x ∷ []) rs) ≡ a ++ r ∷ b
        → ChosenAt test e (x ∷ rs) a r
    go rest true t [] is =
        let same : x ≡ r = cc in
        record { before = []; passes = subst (λ l. test l r ≡ true) (sym (nil-append e)) (subst (λ u. test e u ≡ true) same t); fewer = nil }
    go rest true t (y ∷ a) is =
        let same : x ≡ y = cc in
        let more : chosen_behind test (e ++ x ∷ []) rs ≡ a ++ r ∷ b = cc in
        behind test e rs a x r (rest a b r more) (y ∷ a) (λ l s. subst (λ u. Sub (u ∷ a) (x ∷ l)) same (keep x s))
    go rest false t a is = behind test e rs a x r (rest a b r is) a (λ l s. skip x s)

pub withdrawing_ends_waits : WithdrawingEndsWaits
withdrawing_ends_waits requests waiters n mine =
    false_from_ne_true _ (λ h.
    let w : Waits (withdrawn_where requests waiters) n = waits_found (withdrawn_where requests waiters) n h in
    let o = chosen-at (is_not_blocked_where waiters) [] requests w.before w.after w.request w.is in
    let late : granted_behind o.before w.request ≡ false =
    false_from_ne_true _ (λ t. both_ways (granted_behind w.before w.request) w.late
    (granted_behind-fewer w.before o.before w.request w.request (Sub-flat_map (λ (q : Request). q.wants.items) o.fewer) (Sub-refl w.request.wants.items) t)) in
    let blocked : is_blocked_where waiters o.before w.request ≡ true =
    and_from _ _ (and_from _ _ (ap waiters w.by ∙ mine) w.blocking) (ap not late) in
    both_ways (is_not_blocked_where waiters o.before w.request) (ap not blocked) o.passes)
