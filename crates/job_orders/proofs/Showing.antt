-- The states that a search keeps, set out one after the other.
use Rattle.std.proofs.Common.{◌≡◌, ◌≤◌, ◌<◌, ◌∙◌, ℕ, List, length, Option, Some, slice_get, get_or, sym, subst}
use Rattle.std.proofs.lemmas.Option.{slice_get-get_or}
use Rattle.word36.specs.declared.sizes.TheConstants.{JOBS}
use Rattle.state_search.specs.declared.kept.Origin.{Origin}
use Rattle.state_search.proofs.Keeping.{state_is}
use Rattle.job_order_laws.specs.Turned.{V}
use Rattle.job_orders.specs.declared.kept.KeptState.{KeptState}
use Rattle.job_orders.specs.declared.tables.Tables.{Tables}
use Rattle.job_orders.specs.Finding.{AreKept, met_at}
use Rattle.job_orders.specs.Systems.{Begun, IsReady, IsSoundState, shown_by}
use Rattle.job_orders.specs.Tables.{IsNumbered, form_of, numbers_at}
use Rattle.job_orders.specs.Views.{IsFramed, view_of}
use Rattle.job_orders.proofs.Made.{framed-as, framed-ready, ready-as, set-as}
use Rattle.job_orders.proofs.Numbers.{some-is}

module _ (b : Begun) (o : Option V) (t : Tables) (xs : List KeptState) (os : List Origin) (kept : AreKept b o t xs os) (few : b.count ≤ JOBS)
    (i : ℕ) (x : KeptState) (within : i < length xs) (got : slice_get xs i ≡ Some x) where
  sound : IsSoundState b o t x
  sound =
      let is : get_or xs i x ≡ x = some-is (get_or xs i x) x (sym (slice_get-get_or xs i x within) ∙ got) in
      subst (IsSoundState b o t) is (kept.sound i x within)

  pub kept-numbered : IsNumbered t x
  kept-numbered = sound.numbered

  pub kept-few : length (numbers_at t.lists x.jobs) ≤ JOBS
  kept-few = subst (λ n. n ≤ JOBS) (sym sound.many) few

  module _ (old : V) (ready : IsReady b.state.machine.quantum b.state.machine.blocks old) where
    pub kept-framed : IsFramed old.machine.quantum old.machine.blocks (length (numbers_at t.lists x.jobs))
        (view_of old.machine.quantum old.machine.blocks (form_of t x))
    kept-framed =
        framed-as b.state.machine.quantum b.state.machine.blocks b.count (length (numbers_at t.lists x.jobs)) old (form_of t x) ready sound.many
        sound.framed

    pub kept-ready : IsReady old.machine.quantum old.machine.blocks old
    kept-ready = ready-as b.state.machine.quantum b.state.machine.blocks old ready

    module _ (new : V) (is : new ≡ view_of old.machine.quantum old.machine.blocks (form_of t x)) where
      set-out : new ≡ shown_by b t x
      set-out = set-as b.state.machine.quantum b.state.machine.blocks old new (form_of t x) ready is

      pub kept-shown : new ≡ (met_at b t xs os i).state
      kept-shown = set-out ∙ state_is (shown_by b t) b.state xs os i x got

      pub kept-ready-on : IsReady b.state.machine.quantum b.state.machine.blocks new
      kept-ready-on =
          subst (IsReady b.state.machine.quantum b.state.machine.blocks) (sym set-out)
          (framed-ready b.state.machine.quantum b.state.machine.blocks b.count (shown_by b t x) sound.framed)
