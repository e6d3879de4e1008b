-- Grants, by the positions of wants in the queues of their keys.
use Rattle.std.proofs.Common.{◌≡◌, ◌∙◌, sym, ap, subst, Bool, true, false, not, cond, List, [], ◌∷◌, ◌++◌, filter, length, nat_lt, inl, inr, refl, arith}
use Rattle.std.specs.List.{list_all}
use Rattle.std.proofs.lemmas.Bool.{and_parts, both_ways, false_from_ne_true, not-true}
use Rattle.std.proofs.lemmas.List.Elements.{filter-append}
use Rattle.lock_queue.specs.declared.request.Request.{Request}
use Rattle.lock_queue.specs.declared.want.Want.{Want}
use Rattle.lock_queue.specs.Keys.{same_key}
use Rattle.lock_queue.specs.Queue.{wants_at, fits}
use Rattle.lock_queue.specs.WellFormed.{are_apart}
use Rattle.lock_queue.proofs.Fitting.{same_key-refl, same_key-swap, wants_at-append}
use Rattle.lock_queue.proofs.Lists.{Has, list_all-Has}
use Rattle.key_queues.specs.Beginnings.{Alike, fitting, stands_within}
use Rattle.key_queues.specs.Laws.{GrantIsToStandWithin}
use Rattle.key_queues.proofs.Beginnings.{count_tells_what_fits, fits_from_the_front, fits_split}

-- where no want is of a key
none_of_key : (w : Want) (ws : List Want) → list_all (λ v. not (same_key w.key v.key)) ws ≡ true
    → filter (λ v. same_key v.key w.key) ws ≡ []
none_of_key w [] a = refl
none_of_key w (v ∷ ws) a =
    let both = and_parts _ _ a in
    let other : same_key v.key w.key ≡ false =
    false_from_ne_true _ (λ t. both_ways (same_key w.key v.key) (not-true _ both.0) (same_key-swap v.key w.key t)) in
    ap (λ b. cond b (v ∷ filter (λ u. same_key u.key w.key) ws) (filter (λ u. same_key u.key w.key) ws)) other ∙ none_of_key w ws both.1

-- a request has one want of a key, at most
pub one_of_key : (ws : List Want) (w : Want) → are_apart ws ≡ true → Has ws w
    → filter (λ v. same_key v.key w.key) ws ≡ w ∷ []
one_of_key [] w a h = absurd h
one_of_key (v ∷ ws) w a (inl e) = grind (arith, none_of_key, same_key-refl)
one_of_key (v ∷ ws) w a (inr h) =
    let both = and_parts _ _ a in
    let other = not-true _ (list_all-Has (λ u. not (same_key v.key u.key)) ws w both.0 h) in
    let rest : List Want = filter (λ u. same_key u.key w.key) ws in
    ap (λ b. cond b (v ∷ rest) rest) other ∙ one_of_key ws w both.1 h

-- the queue of a key, around the want of a request
pub queue_around : (earlier later : List Request) (r : Request) (w : Want) → are_apart r.wants.items ≡ true
    → Has r.wants.items w
    → wants_at (earlier ++ r ∷ later) w.key ≡ wants_at earlier w.key ++ w ∷ wants_at later w.key
queue_around earlier later r w apart h = grind (arith, filter-append, one_of_key, wants_at-append)

-- tests that answer the same of each element
pub list_all_same : (f g : Want → Bool) (ws : List Want) → ((w : Want) → Has ws w → f w ≡ g w)
    → list_all f ws ≡ list_all g ws
list_all_same f g [] same = refl
list_all_same f g (w ∷ ws) same = grind (arith, same w (inl refl), list_all_same f g ws (λ v h. same v (inr h)))

pub grant_is_to_stand_within : GrantIsToStandWithin
grant_is_to_stand_within earlier later r alike apart =
    list_all_same (fits earlier) (stands_within (earlier ++ r ∷ later) earlier) r.wants.items (λ w h.
    let around = queue_around earlier later r w apart h in
    let of = alike w.key in
    fits_split of.0 [] (wants_at earlier w.key) (wants_at later w.key) w (subst (λ l. Alike of.0 l) around of.1)
    ∙ ap (λ l. nat_lt (length (wants_at earlier w.key)) (fitting l)) (sym around))

pub ruleset front_laws = (fits_from_the_front, count_tells_what_fits, grant_is_to_stand_within)
