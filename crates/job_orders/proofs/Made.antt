-- A move that is made on the machine is one of the system.
use Rattle.std.proofs.Common.{◌≡◌, ◌<◌, ◌*◌, ◌∙◌, ℕ, Option, Some, None, length, refl, sym, ap, subst}
use Rattle.std.proofs.lemmas.List.{length-map}
use Rattle.word36.specs.declared.sizes.TheConstants.{BLOCK_WORDS}
use Rattle.job_order_laws.specs.Turned.{V}
use Rattle.job_moves.specs.Moves.{next}
use Rattle.job_orders.specs.declared.kept.KeptState.{KeptState}
use Rattle.job_orders.specs.declared.tables.Tables.{Tables}
use Rattle.job_orders.specs.Forms.{StateForm}
use Rattle.job_orders.specs.Framing.{form-shows, jobs-length}
use Rattle.job_orders.specs.Learning.{form_stays}
use Rattle.job_orders.specs.Systems.{Begun, IsBegun, IsReady, IsSoundState, shown_by}
use Rattle.job_orders.specs.Tables.{IsNumbered, Learns, form_of, job_of, numbers_at}
use Rattle.job_orders.specs.Views.{IsFramed, form_in, view_of}
use Rattle.job_orders.proofs.Framed.{framed-next}

pub framed-ready : (quantum blocks count : ℕ) (v : V) → IsFramed quantum blocks count v → IsReady quantum blocks v
framed-ready quantum blocks count v h = record {
  quantum_is = h.quantum_is;
  blocks_are = h.blocks_are;
  none_0 = h.awake.sound.housed.bare 0 h.awake.sound.housed.none_0;
  words = h.awake.sound.total ∙ ap (λ n. n * BLOCK_WORDS) h.blocks_are;
}

-- a state that is set out on a machine that is ready
pub set-as : (quantum blocks : ℕ) (m v : V) (f : StateForm) → IsReady quantum blocks m → v ≡ view_of m.machine.quantum m.machine.blocks f
    → v ≡ view_of quantum blocks f
set-as quantum blocks m v f h e =
    e ∙ ap (λ q. view_of q m.machine.blocks f) h.quantum_is ∙ ap (λ b. view_of quantum b f) h.blocks_are

pub ready-as : (quantum blocks : ℕ) (m : V) → IsReady quantum blocks m → IsReady m.machine.quantum m.machine.blocks m
ready-as quantum blocks m h = record {
  quantum_is = refl;
  blocks_are = refl;
  none_0 = h.none_0;
  words = h.words ∙ ap (λ n. n * BLOCK_WORDS) (sym h.blocks_are);
}

pub framed-as : (quantum blocks count n : ℕ) (m : V) (f : StateForm) → IsReady quantum blocks m → n ≡ count
    → IsFramed quantum blocks count (view_of quantum blocks f)
    → IsFramed m.machine.quantum m.machine.blocks n (view_of m.machine.quantum m.machine.blocks f)
framed-as quantum blocks count n m f h is framed =
    subst (λ c. IsFramed m.machine.quantum m.machine.blocks c (view_of m.machine.quantum m.machine.blocks f)) (sym is)
    (subst (λ q. IsFramed q m.machine.blocks count (view_of q m.machine.blocks f)) (sym h.quantum_is)
    (subst (λ b. IsFramed quantum b count (view_of quantum b f)) (sym h.blocks_are) framed))

-- a state that is packed
module _ (b : Begun) (begun : IsBegun b) (u : Tables) (y : KeptState) (v : V)
    (framed : IsFramed b.state.machine.quantum b.state.machine.blocks b.count v) (form : form_of u y ≡ form_in b.count v) where
  pub packed-shows : shown_by b u y ≡ v
  packed-shows =
      ap (view_of b.state.machine.quantum b.state.machine.blocks) form
      ∙ form-shows b.state.machine.quantum b.state.machine.blocks b.count v begun.few framed

  pub packed-many : length (numbers_at u.lists y.jobs) ≡ b.count
  packed-many =
      sym (length-map (numbers_at u.lists y.jobs) (job_of u)) ∙ ap (λ (f : StateForm). length f.jobs) form ∙ jobs-length v b.count

  pub packed-framed : IsFramed b.state.machine.quantum b.state.machine.blocks b.count (shown_by b u y)
  packed-framed = subst (IsFramed b.state.machine.quantum b.state.machine.blocks b.count) (sym packed-shows) framed

-- a move
module _ (b : Begun) (begun : IsBegun b) (o : Option V) (t : Tables) (x : KeptState) (k : ℕ) (low : k < b.count) (sound : IsSoundState b o t x) where
  pub none-made : (old new : V) → old ≡ shown_by b t x → next b.most b.count old k ≡ None → None ≡ next b.most b.count (shown_by b t x) k
  none-made old new is made = sym (ap (λ v. next b.most b.count v k) (sym is) ∙ made)

  module _ (old v : V) (is : old ≡ shown_by b t x) (made : next b.most b.count old k ≡ Some v) where
    from-shown : next b.most b.count (shown_by b t x) k ≡ Some v
    from-shown = ap (λ s. next b.most b.count s k) (sym is) ∙ made

    pub made-framed : IsFramed b.state.machine.quantum b.state.machine.blocks b.count v
    made-framed =
        framed-next b.state.machine.quantum b.state.machine.blocks b.count b.most k (shown_by b t x) v low sound.framed from-shown

    module _ (u : Tables) (y : KeptState) (learns : Learns t u) (numbered : IsNumbered u y) (form : form_of u y ≡ form_in b.count v) where
      pub some-made : Some (shown_by b u y) ≡ next b.most b.count (shown_by b u x) k
      some-made =
          ap Some (packed-shows b begun u y v made-framed form)
          ∙ sym (ap (λ f. next b.most b.count (view_of b.state.machine.quantum b.state.machine.blocks f) k)
          (form_stays t u learns x sound.numbered) ∙ from-shown)

      pub made-sound : IsSoundState b (Some v) u y
      made-sound = record {
        right = learns.right sound.right;
        numbered = numbered;
        many = packed-many b begun u y v made-framed form;
        framed = packed-framed b begun u y v made-framed form;
        ready = framed-ready b.state.machine.quantum b.state.machine.blocks b.count v made-framed;
      }
