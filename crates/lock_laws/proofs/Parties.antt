-- The owners of a key without a pool.
use Rattle.std.proofs.Common.{◌≡◌, ◌∙◌, sym, ap, subst, Bool, true, false, not, ◌==◌, ◌&&◌, List, [], ◌∷◌, length, take}
use Rattle.std.proofs.Common.{Some, None, is_some, slice_get, Contains, ◌⊎◌, inl, inr, refl}
use Rattle.std.proofs.lemmas.Bool.{and_parts, and_from, cases_order, eqb-true}
use Rattle.lock_queue.specs.declared.request.Request.{Request}
use Rattle.lock_queue.specs.declared.want.Want.{Want}
use Rattle.lock_queue.specs.Queue.{agree, granted, granted_behind, is_granted, owners}
use Rattle.lock_queue.proofs.Lists.{Has, Pairs, Pairs-both, Pairs-weaker}
use Rattle.lock_laws.specs.Claims.{Claim, claim_of, claims}
use Rattle.lock_laws.specs.Safe.{IsOneParty, OneParty}
use Rattle.lock_laws.proofs.Granting.{Owner, owner, owners_agree, alone, kin, kin-no_pool, Has-claims}
use Rattle.lock_laws.proofs.Invariant.{kept-safe}
use Rattle.lock_laws.proofs.Positions.{Split, slice_get-split, take-split, Has-middle}
use Rattle.lock_laws.proofs.Steps.{Ordered}
use Rattle.lock_laws.proofs.Words.{Contains-Has}

-- a request that stands somewhere is found there, and granted there
at-split : (rs : List Request) (r : Request) (o : Split rs r) → slice_get rs (length o.before) ≡ Some r
at-split rs r o =
    subst (λ l. slice_get l (length o.before) ≡ Some r) (sym o.is) (slice_get-split o.before o.after r)

granted-split : (rs : List Request) (r : Request) (o : Split rs r) → granted_behind o.before r ≡ true
    → granted rs (length o.before) ≡ true
granted-split rs r o g =
    let front : take (length o.before) rs ≡ o.before =
    subst (λ l. take (length o.before) l ≡ o.before) (sym o.is) (take-split o.before (r ∷ o.after)) in
    ap (λ l. is_granted l (slice_get rs (length o.before))) front ∙ ap (is_granted o.before) (at-split rs r o) ∙ g

in-split : (rs : List Request) (r : Request) (o : Split rs r) → Has rs r
in-split rs r o = subst (λ l. Has l r) (sym o.is) (Has-middle o.before o.after r)

-- two claims of one job and key are one
abbrev OneIf : Claim → Claim → Type 0
OneIf c d = c.job ≡ d.job → c.want.key ≡ d.want.key → c ≡ d

one-claim : (rs : List Request) → Pairs Ordered (claims rs) → (r : Request) (v w : Want) → Has rs r → Has r.wants.items v
    → Has r.wants.items w → v.key ≡ w.key → v ≡ w
one-claim rs p r v w h hv hw e =
    let same : claim_of r.job v ≡ claim_of r.job w =
    Pairs-both OneIf (λ c a b. refl) (λ c d k a b. sym (k (sym a) (sym b))) (claims rs)
    (Pairs-weaker Ordered OneIf (λ c d o a b. absurd (o.apart a b)) (claims rs) p) (claim_of r.job v) (claim_of r.job w)
    (Has-claims rs r v h hv) (Has-claims rs r w h hw) refl e in
    ap (λ (c : Claim). c.want) same

-- wants that agree are shared, and of one group
of-group : (v w : Want) → agree v w ≡ true → ((v.shared ≡ true) × (w.shared ≡ true)) × (v.group ≡ w.group)
of-group v w h =
    let parts = and_parts (v.shared && w.shared) (v.group == w.group) h in
    (and_parts v.shared w.shared parts.0, eqb-true v.group w.group parts.1)

one_party : (rs : List Request) → Pairs Ordered (claims rs) → IsOneParty rs
one_party rs p key r w has_r has_w e none = go w.shared refl
  where
    o : Owner key rs r
    o = owner key rs r (Contains-Has (owners rs key) r has_r)

    go : (b : Bool) → w.shared ≡ b
        → (owners rs key ≡ r ∷ [])
        ⊎ ((w.shared ≡ true)
        × ((s : Request) (v : Want) → Contains (owners rs key) s → Contains s.wants.items v → v.key ≡ key
        → (v.shared ≡ true) × (v.group ≡ w.group)))
    go false is = inl (alone rs p key r w has_r has_w e (and_from _ _ (ap not is) (ap (λ u. not (is_some u)) none)))
    go true is = inr (
      is,
      λ s v has_s has_v f.
          let q = owner key rs s (Contains-Has (owners rs key) s has_s) in
          let hv : Has s.wants.items v = Contains-Has s.wants.items v has_v in
          let hw : Has r.wants.items w = Contains-Has r.wants.items w has_w in
          elim (cases_order (length o.split.before) (length q.split.before)) [
            | inl same ↦
                let one : r ≡ s =
                some-one r s (sym (at-split rs r o.split) ∙ ap (slice_get rs) same ∙ at-split rs s q.split) in
                let v_is : v ≡ w =
                one-claim rs p r v w (in-split rs r o.split) (subst (λ u. Has u.wants.items v) (sym one) hv) hw (f ∙ sym e) in
                (ap (λ (u : Want). u.shared) v_is ∙ is, ap (λ (u : Want). u.group) v_is)
            | inr other ↦ elim other [
              | inl before ↦
                  let bare : v.pool ≡ None =
                  kin-no_pool w.pool v.pool (kin rs p r s w v (in-split rs r o.split) (in-split rs s q.split) hw hv (e ∙ sym f)).sizes none in
                  let a =
                  of-group w v
                  (owners_agree rs (length o.split.before) (length q.split.before) r s w v before (at-split rs r o.split)
                  (at-split rs s q.split) (granted-split rs s q.split q.granted) has_w has_v (e ∙ sym f) bare) in
                  (a.0.1, sym a.1)
              | inr behind ↦
                  let a =
                  of-group v w
                  (owners_agree rs (length q.split.before) (length o.split.before) s r v w behind (at-split rs s q.split)
                  (at-split rs r o.split) (granted-split rs r o.split o.granted) has_v has_w (f ∙ sym e) none) in
                  (a.0.0, a.1)
            ]
          ],
    )
      where
        some-one : (a b : Request) → Some a ≡ Some b → a ≡ b
        some-one a b h = cc

pub owners_are_one_party : OneParty
owners_are_one_party size requests s = one_party requests (kept-safe size requests s).ordered
