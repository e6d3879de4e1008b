-- One state more is looked at.
use Rattle.std.proofs.Common.{◌≡◌, ◌≢◌, ◌<◌, ◌==◌, ◌+◌, ◌++◌, ◌∷◌, ◌∙◌, ℕ, zero, Bool, true, false, List, [], map, length, Option, Some, None, is_some, refl, sym, ap, subst, arith, inl, inr, get_or}
use Rattle.std.proofs.lemmas.Bool.{cases_lt, eqb-true, false≢true}
use Rattle.std.proofs.lemmas.List.{get_or-map, length-map, map-append}
use Rattle.std.proofs.lemmas.List.Elements.{All-push, All-weaker, Contains-append_left, Contains-append_right}
use Rattle.std.proofs.lemmas.List.Quantifiers.{all_pairs_push}
use Rattle.std.specs.List.{Contains}
use Rattle.state_search.specs.Searched.{Met, way}
use Rattle.job_orders.specs.declared.ends.End.{End}
use Rattle.job_orders.specs.declared.looking.Waiting.{Waiting}
use Rattle.job_orders.specs.Endings.{Ending, ending_of}
use Rattle.job_order_laws.specs.Turned.{V}
use Rattle.job_moves.specs.Moves.{is_clear}
use Rattle.job_orders.specs.Finding.{AreClear, AreEndsSoFar, IsCircleSoFar, IsFirstEnd}

-- what held below holds with one more
one-more : (P : ℕ → Type 0) (n : ℕ) → ((i : ℕ) → i < n → P i) → P n → (i : ℕ) → i < n + 1 → P i
one-more P n below here i low = elim (cases_lt i n) [
  | inl less ↦ below i less
  | inr above ↦ (let is : n ≡ i = omega (arith, low, above) in subst P is here)
]

-- a list is empty by the test of its length
pub empty-by : (xs : List ℕ) (b : Bool) → b ≡ (length xs == 0) → b ≡ true → xs ≡ []
empty-by [] b e t = refl
empty-by (x ∷ xs) b e t =
    let none : length (x ∷ xs) ≡ 0 = eqb-true (length (x ∷ xs)) 0 (sym e ∙ t) in
    absurd (omega (arith, none))

pub some-by : (xs : List ℕ) (b : Bool) → b ≡ (length xs == 0) → b ≡ false → xs ≢ []
some-by xs b e f = λ none. false≢true (sym f ∙ e ∙ ap (λ (l : List ℕ). length l == 0) none)

-- before the first state
pub first-circle : {X : Type 0} (circle : X → List ℕ) (at : ℕ → Met X) → IsCircleSoFar circle at 0 None
first-circle circle at i low = absurd (omega (arith, low))

pub first-ends : {X : Type 0} (rests : X → Bool) (ending : X → Ending) (at : ℕ → Met X) (ends : List End) → ends ≡ []
    → AreEndsSoFar rests ending at 0 ends
first-ends rests ending at ends is = subst (AreEndsSoFar rests ending at 0) (sym is) (record {
  each = λ k d low. absurd (omega (arith, low));
  complete = λ i low ends_too. absurd (omega (arith, low));
  apart = λ i j d low within. absurd (omega (arith, within));
})

pub clear-more : (count : ℕ) (at : ℕ → Met V) (position : ℕ) (x : V) → x ≡ (at position).state → is_clear count x ≡ true
    → AreClear count at position → AreClear count at (position + 1)
clear-more count at position x here clear h =
    one-more (λ i. is_clear count (at i).state ≡ true) position h (ap (is_clear count) (sym here) ∙ clear)

module _ {X : Type 0} (at : ℕ → Met X) (position : ℕ) (x : X) (here : x ≡ (at position).state) where
  module _ (circle : X → List ℕ) where
    -- the circle was found before
    pub circle-stays : (c : Waiting) → IsCircleSoFar circle at position (Some c) → IsCircleSoFar circle at (position + 1) (Some c)
    circle-stays c h = record {
      place = h.place;
      low = (let low : h.place < position = h.low in omega (arith, low));
      moves = h.moves;
      jobs = h.jobs;
      some = h.some;
      none_before = h.none_before;
    }

    -- there is none here either
    pub circle-none : IsCircleSoFar circle at position None → circle x ≡ [] → IsCircleSoFar circle at (position + 1) None
    circle-none h none = one-more (λ i. circle (at i).state ≡ []) position h (ap circle (sym here) ∙ none)

    -- it is here
    pub circle-here : (c : Waiting) → IsCircleSoFar circle at position None → c.moves.items ≡ way at position position
        → c.jobs.items ≡ circle x → c.jobs.items ≢ [] → IsCircleSoFar circle at (position + 1) (Some c)
    circle-here c h moves jobs some = record {
      place = position;
      low = omega arith;
      moves = moves;
      jobs = jobs ∙ ap circle here;
      some = some;
      none_before = h;
    }

    -- by whether there was one
    pub circle-kept : (o : Option Waiting) → is_some o ≡ true → IsCircleSoFar circle at position o → IsCircleSoFar circle at (position + 1) o
    circle-kept None some h = absurd (false≢true some)
    circle-kept (Some c) some h = circle-stays c h

    pub circle-without : (o : Option Waiting) → is_some o ≡ false → circle x ≡ [] → IsCircleSoFar circle at position o
        → IsCircleSoFar circle at (position + 1) o
    circle-without None none empty h = circle-none h empty
    circle-without (Some c) none empty h = absurd (false≢true (sym none))

    pub circle-with : (o : Option Waiting) → is_some o ≡ false → IsCircleSoFar circle at position o → (c : Waiting)
        → c.moves.items ≡ way at position position → c.jobs.items ≡ circle x → c.jobs.items ≢ []
        → IsCircleSoFar circle at (position + 1) (Some c)
    circle-with None none h c moves jobs some = circle-here c h moves jobs some
    circle-with (Some d) none h c moves jobs some = absurd (false≢true (sym none))

  module _ (rests : X → Bool) (ending : X → Ending) where
    end-later : (e : End) → IsFirstEnd rests ending at position e → IsFirstEnd rests ending at (position + 1) e
    end-later e h = record {
      place = h.place;
      low = (let low : h.place < position = h.low in omega (arith, low));
      moves = h.moves;
      rest = h.rest;
      leaves = h.leaves;
      none_before = h.none_before;
    }

    -- it is no end, or a known one
    pub ends-stay : (ends : List End) → AreEndsSoFar rests ending at position ends
        → (rests x ≡ true → Contains (map ending_of ends) (ending x)) → AreEndsSoFar rests ending at (position + 1) ends
    ends-stay ends h known = record {
      each = All-weaker (IsFirstEnd rests ending at position) (IsFirstEnd rests ending at (position + 1)) end-later ends h.each;
      complete = one-more (λ i. rests (at i).state ≡ true → Contains (map ending_of ends) (ending (at i).state)) position h.complete
          (subst (λ y. rests y ≡ true → Contains (map ending_of ends) (ending y)) here known);
      apart = h.apart;
    }

    -- it is a new one
    pub end-here : (ends more : List End) (e : End) → AreEndsSoFar rests ending at position ends → more ≡ ends ++ e ∷ []
        → rests x ≡ true → (Contains (map ending_of ends) (ending x) → ⊥) → e.moves.items ≡ way at position position → ending_of e ≡ ending x
        → AreEndsSoFar rests ending at (position + 1) more
    end-here ends more e h is rest new moves leaves = subst (AreEndsSoFar rests ending at (position + 1)) (sym is) (record {
      each =
          All-push (IsFirstEnd rests ending at (position + 1)) ends e
          (All-weaker (IsFirstEnd rests ending at position) (IsFirstEnd rests ending at (position + 1)) end-later ends h.each) (record {
            place = position;
            low = omega arith;
            moves = moves;
            rest = ap rests (sym here) ∙ rest;
            leaves = leaves ∙ ap ending here;
            none_before = λ i low ends_too same.
                new (subst (Contains (map ending_of ends)) (same ∙ leaves) (h.complete i low ends_too));
          });
      complete = λ i low ends_too.
          subst (λ l. Contains l (ending (at i).state)) (sym (map-append ending_of ends (e ∷ []))) (elim (cases_lt i position) [
            | inl less ↦ Contains-append_left (map ending_of ends) (ending_of e ∷ []) (ending (at i).state) (h.complete i less ends_too)
            | inr above ↦
                let at_end : position ≡ i = omega (arith, low, above) in
                Contains-append_right (map ending_of ends) (ending_of e ∷ []) (ending (at i).state)
                (zero, omega arith, leaves ∙ ap ending here ∙ ap (λ k. ending (at k).state) at_end)
          ]);
      apart = all_pairs_push (λ d f. ending_of d ≢ ending_of f) ends e h.apart (λ k d low same.
          new (subst (Contains (map ending_of ends)) (same ∙ leaves) (contains-at ends k d low)));
    })
      where
        contains-at : (ends : List End) (k : ℕ) (d : End) → k < length ends → Contains (map ending_of ends) (ending_of (get_or ends k d))
        contains-at ends k d low =
            let long : length (map ending_of ends) ≡ length ends = length-map ends ending_of in
            (k, omega (arith, low, long), get_or-map ending_of ends k d (ending_of (get_or ends k d)) low)
