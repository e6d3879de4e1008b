-- Kept states stay when the system learns, and those that show the same are the same.
use Rattle.std.specs.Prelude.{◌≡◌, true, length, Option}
use Rattle.std.proofs.Common.{refl, sym, ap, subst, ◌∙◌}
use Rattle.std.proofs.lemmas.List.{length-map}
use Rattle.job_order_laws.specs.Turned.{V}
use Rattle.job_orders.specs.declared.kept.KeptState.{KeptState}
use Rattle.job_orders.specs.declared.tables.Tables.{Tables}
use Rattle.job_orders.specs.Framing.{views-apart}
use Rattle.job_orders.specs.Learning.{form_stays, forms_apart, learns_itself, learns_on, list_stays, numbered_stays}
use Rattle.job_orders.specs.States.{same_state, same_state-Decides}
use Rattle.job_orders.specs.Systems.{Begun, Extended, IsSoundState, shown_by}
use Rattle.job_orders.specs.Tables.{form_of, job_of, numbers_at}
use Rattle.job_orders.specs.Views.{IsFramed, view_of}

pub extended_itself : (b : Begun) (o : Option V) (t : Tables) → Extended b o t b o t
extended_itself b o t = record { begun = refl; learns = learns_itself t; ready = λ h. h }

pub extended_on : (b : Begun) (o : Option V) (t : Tables) (c : Begun) (p : Option V) (u : Tables) (d : Begun) (q : Option V) (v : Tables)
    → Extended b o t c p u → Extended c p u d q v → Extended b o t d q v
extended_on b o t c p u d q v e f = record {
  begun = f.begun ∙ e.begun;
  learns = learns_on t u v e.learns f.learns;
  ready = λ h. f.ready (e.ready h);
}

pub shown_stays : (b : Begun) (o : Option V) (t : Tables) (c : Begun) (p : Option V) (u : Tables) (x : KeptState)
    → Extended b o t c p u → IsSoundState b o t x → shown_by c u x ≡ shown_by b t x
shown_stays b o t c p u x e h =
    ap (λ d. shown_by d u x) e.begun
    ∙ ap (λ f. view_of b.state.machine.quantum b.state.machine.blocks f) (form_stays t u e.learns x h.numbered)

pub sound_stays : (b : Begun) (o : Option V) (t : Tables) (c : Begun) (p : Option V) (u : Tables) (x : KeptState)
    → Extended b o t c p u → IsSoundState b o t x → IsSoundState c p u x
sound_stays b o t c p u x e h =
    let shown : shown_by b u x ≡ shown_by b t x =
    ap (λ f. view_of b.state.machine.quantum b.state.machine.blocks f) (form_stays t u e.learns x h.numbered) in
    record {
      right = e.learns.right h.right;
      numbered = numbered_stays t u e.learns x h.numbered;
      many = ap length (list_stays t u e.learns x.jobs h.numbered.jobs) ∙ h.many ∙ ap (λ (d : Begun). d.count) (sym e.begun);
      framed = subst (λ (d : Begun). IsFramed d.state.machine.quantum d.state.machine.blocks d.count (shown_by d u x)) (sym e.begun)
          (subst (IsFramed b.state.machine.quantum b.state.machine.blocks b.count) (sym shown) h.framed);
      ready = e.ready h.ready;
    }

pub equal_are_same : (b : Begun) (t : Tables) (x y : KeptState) → same_state x y ≡ true → shown_by b t x ≡ shown_by b t y
equal_are_same b t x y e = ap (shown_by b t) ((same_state-Decides x y).0 e)

pub same_are_equal : (b : Begun) (o : Option V) (t : Tables) (x y : KeptState) → IsSoundState b o t x → IsSoundState b o t y
    → shown_by b t x ≡ shown_by b t y → same_state x y ≡ true
same_are_equal b o t x y h k e =
    let many : (z : KeptState) → IsSoundState b o t z → length (form_of t z).jobs ≡ b.count =
    λ z s. length-map (numbers_at t.lists z.jobs) (job_of t) ∙ s.many in
    (same_state-Decides x y).1 (forms_apart t h.right x y h.numbered k.numbered
    (views-apart b.state.machine.quantum b.state.machine.blocks b.count (form_of t x) (form_of t y) (many x h) (many y k) e))
