-- The findings in all states that a search keeps hold of all moves.
use Rattle.std.proofs.Common.{◌≡◌, ◌≢◌, ◌<◌, ◌≤◌, ◌∙◌, ℕ, Bool, true, List, [], map, length, Option, None, sym, ap, subst, arith, inl, inr}
use Rattle.std.proofs.lemmas.Bool.{cases_eq, cases_lt}
use Rattle.std.specs.List.{Contains}
use Rattle.state_search.specs.Orders.{IsNotBehind, Leads}
use Rattle.state_search.specs.Searched.{IsWhole, Met, way}
use Rattle.state_search.proofs.Lists.{not_behind-trans}
use Rattle.job_orders.specs.declared.ends.End.{End}
use Rattle.job_orders.specs.declared.looking.Waiting.{Waiting}
use Rattle.job_orders.specs.Endings.{Ending, ending_of}
use Rattle.job_orders.specs.Finding.{AreEndsSoFar, IsCircleSoFar, IsFirstCircle, IsFirstEnd}

pub not-longer : (xs ys : List ℕ) → IsNotBehind xs ys → length xs ≤ length ys
not-longer xs ys h = elim h [
  | inl same ↦ (let long : length xs ≡ length ys = ap length same in omega (arith, long))
  | inr before ↦ elim before [ inl less ↦ omega (arith, less) | inr equal ↦ (let long : length xs ≡ length ys = equal.0 in omega (arith, long)) ]
]

module _ {X : Type 0} (count : ℕ) (next : X → ℕ → Option X) (first : X) (at : ℕ → Met X) (len : ℕ) (whole : IsWhole count next first at len) where
  -- the moves to an earlier state
  nearer : (i j : ℕ) → i ≤ j → j < len → IsNotBehind (way at i i) (way at j j)
  nearer i j low there = elim (cases_eq i j) [
    | inl same ↦ inl (ap (λ k. way at k k) same)
    | inr other ↦ inr (whole.nearest_first i j (omega (arith, low, other)) there)
  ]

  pub least-to : (i j : ℕ) (ks : List ℕ) (y : X) → i ≤ j → j < len → (at j).state ≡ y → Leads count next first ks y → IsNotBehind (way at i i) ks
  least-to i j ks y low there is leads =
      not_behind-trans (way at i i) (way at j j) ks (nearer i j low there)
      (whole.least j ks there (subst (Leads count next first ks) (sym is) leads))

  -- ---- circles

  pub no-circle : (circle : X → List ℕ) → IsCircleSoFar circle at len None → (ks : List ℕ) (y : X) → Leads count next first ks y → circle y ≡ []
  no-circle circle h ks y leads = (let x = whole.none_left_out ks y leads in ap circle (sym x.2) ∙ h x.0 x.1)

  module _ (circle : X → List ℕ) (c : Waiting) (h : IsFirstCircle circle at len c) where
    pub circle-leads : Leads count next first c.moves.items (at h.place).state
    circle-leads = subst (λ ms. Leads count next first ms (at h.place).state) (sym h.moves) (whole.ways_lead h.place h.low)

    pub circle-least : (ks : List ℕ) (y : X) → Leads count next first ks y → circle y ≢ [] → IsNotBehind c.moves.items ks
    circle-least ks y leads some =
        let x = whole.none_left_out ks y leads in
        subst (λ ms. IsNotBehind ms ks) (sym h.moves) (elim (cases_lt x.0 h.place) [
          | inl before ↦ absurd (some (ap circle (sym x.2) ∙ h.none_before x.0 before))
          | inr low ↦ least-to h.place x.0 ks y low x.1 x.2 leads
        ])

  -- ---- ends

  module _ (rests : X → Bool) (ending : X → Ending) where
    pub end-known : (ends : List End) → AreEndsSoFar rests ending at len ends → (ks : List ℕ) (y : X) → Leads count next first ks y
        → rests y ≡ true → Contains (map ending_of ends) (ending y)
    end-known ends h ks y leads rest =
        let x = whole.none_left_out ks y leads in
        subst (λ z. Contains (map ending_of ends) (ending z)) x.2 (h.complete x.0 x.1 (ap rests x.2 ∙ rest))

    module _ (e : End) (h : IsFirstEnd rests ending at len e) where
      pub end-leads : Leads count next first e.moves.items (at h.place).state
      end-leads = subst (λ ms. Leads count next first ms (at h.place).state) (sym h.moves) (whole.ways_lead h.place h.low)

      pub end-least : (ks : List ℕ) (y : X) → Leads count next first ks y → rests y ≡ true → ending y ≡ ending_of e → IsNotBehind e.moves.items ks
      end-least ks y leads rest same =
          let x = whole.none_left_out ks y leads in
          subst (λ ms. IsNotBehind ms ks) (sym h.moves) (elim (cases_lt x.0 h.place) [
            | inl before ↦ absurd (h.none_before x.0 before (ap rests x.2 ∙ rest) (ap ending x.2 ∙ same))
            | inr low ↦ least-to h.place x.0 ks y low x.1 x.2 leads
          ])
