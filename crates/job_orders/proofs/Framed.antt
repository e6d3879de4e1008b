-- A turn, and all that settles after it, leaves a state that is known by its form.
use Rattle.std.proofs.Common.{◌≡◌, ◌≢◌, ◌≤◌, ◌<◌, ◌∙◌, sym, ap, subst, ℕ, zero, suc, ◌+◌, not, Bool, true, false, [], length, Option, Some, None, inl, inr, refl, arith}
use Rattle.std.proofs.lemmas.Bool.{and_parts}
use Rattle.std.proofs.lemmas.List.{get_or-set_other, length-set}
use Rattle.std.specs.Option.{option_map}
use Rattle.std.specs.Prelude.{if◌then◌else◌, slice_index_or}
use Rattle.lock_queue.specs.WellFormed.{are_well_formed}
use Rattle.uuo_calls.specs.Performed.{World}
use Rattle.job_order_laws.specs.Erased.{erased, turned_at_once}
use Rattle.job_order_laws.specs.Places.{turn}
use Rattle.job_order_laws.specs.Turned.{V, can_run, stepped_on, taken_off}
use Rattle.job_order_laws.proofs.AtOnce.{Made, made}
use Rattle.job_order_laws.proofs.Choosing.{Ran, ran}
use Rattle.job_order_laws.proofs.Commuting.{has-place}
use Rattle.job_moves.specs.Moves.{alone, is_loud_turn, is_quiet, next, settled}
use Rattle.job_moves.proofs.Alone.{Moved, alone-more, alone-none, alone-stopped, jobs-stay, moved, settled-more, settled-none, stays-awake}
use Rattle.job_orders.specs.Views.{IsFramed, IsOutside}
use Rattle.job_orders.proofs.Keeping.{Clear, KeepsWorld, all-taken, clear-all, turn-keeps}
use Rattle.job_orders.proofs.WellTurns.{well-turn}

pub framed-turn : (quantum blocks count n : ℕ) (v a : V) → 1 ≤ n → n ≤ count → IsFramed quantum blocks count v → turned_at_once v n ≡ Some a
    → IsFramed quantum blocks count a
framed-turn quantum blocks count n v a some low h e =
    let m : Made v a n = made v a n e in
    let r : Ran v m.state n = ran v m.state n m.turn in
    let w : World = v.machine.world in
    let x : World = turn w v.machine.time n in
    let is : a ≡ erased (taken_off n r.job.line x r.job.regs.pc v) = sym m.is ∙ ap erased r.is in
    let there : n < length w.table.jobs = (has-place v.machine n r.job h.awake.sound r.at).slot in
    let k : KeepsWorld r.job.line w x = turn-keeps w v.machine.time n r.job r.at there in
    let other : (i : ℕ) → IsOutside count i → i ≢ n =
    λ i out same. elim out [ inl is_none ↦ absurd (omega (arith, is_none, same, some)) | inr above ↦ absurd (omega (arith, above, same, low)) ] in
    record {
      awake = stays-awake v a n h.awake e;
      jobs = jobs-stay count v a n h.awake h.jobs low e;
      size = ap (λ (u : V). u.machine.world.size) is ∙ k.size ∙ h.size;
      quantum_is = ap (λ (u : V). u.machine.quantum) is ∙ h.quantum_is;
      blocks_are = ap (λ (u : V). u.machine.blocks) is ∙ h.blocks_are;
      lines = ap (λ (u : V). u.machine.world.lines) is
          ∙ all-taken r.job.line x.lines (k.clear (subst (Clear r.job.line) (sym h.lines) (clear-all r.job.line)));
      well = ap (λ (u : V). are_well_formed u.machine.world.requests) is ∙ well-turn v.machine n h.awake.sound r.runs h.well;
      shared = ap (λ (u : V). length u.machine.world.shared) is ∙ k.shared ∙ h.shared;
      texts = ap (λ (u : V). length u.texts) is ∙ length-set v.texts n _ ∙ h.texts;
      no_text = λ i out. ap (λ (u : V). slice_index_or u.texts i []) is ∙ get_or-set_other v.texts n i _ [] (other i out) ∙ h.no_text i out;
      last = ap (λ (u : V). length u.last) is ∙ length-set v.last n r.job.regs.pc ∙ h.last;
      no_last = λ i out. ap (λ (u : V). slice_index_or u.last i 0) is ∙ get_or-set_other v.last n i r.job.regs.pc 0 (other i out) ∙ h.no_last i out;
    }

-- what a job that can run and is not loud comes to
pub quiet-turn : (v : V) (n : ℕ) → can_run v.machine.world n ≡ true → (a : V) × (turned_at_once v n ≡ Some a)
quiet-turn v n runs = by_turn (turned_at_once v n) refl
  where
    is : turned_at_once v n ≡ Some (erased (stepped_on v n))
    is = ap (λ b. option_map erased (if b then Some (stepped_on v n) else None)) runs

    by_turn : (o : Option V) → turned_at_once v n ≡ o → (a : V) × (turned_at_once v n ≡ Some a)
    by_turn None e = (erased (stepped_on v n), is)
    by_turn (Some a) e = (a, e)

framed-alone : (quantum blocks count n most : ℕ) (v : V) → 1 ≤ n → n ≤ count → IsFramed quantum blocks count v
    → IsFramed quantum blocks count (alone most n v)
framed-alone quantum blocks count n zero v some low h = subst (IsFramed quantum blocks count) (sym (alone-none n v)) h
framed-alone quantum blocks count n (suc most) v some low h =
    by_quiet (is_quiet v n) refl (λ a there. framed-alone quantum blocks count n most a some low there)
  where
    by_quiet : (b : Bool) → is_quiet v n ≡ b
        → ((a : V) → IsFramed quantum blocks count a → IsFramed quantum blocks count (alone most n a))
        → IsFramed quantum blocks count (alone (suc most) n v)
    by_quiet false is rest = subst (IsFramed quantum blocks count) (sym (alone-stopped (suc most) n v is)) h
    by_quiet true is rest =
        let t = quiet-turn v n (and_parts (can_run v.machine.world n) (not (is_loud_turn v n)) is).0 in
        subst (IsFramed quantum blocks count) (sym (alone-more most n v t.0 is t.1))
        (rest t.0 (framed-turn quantum blocks count n v t.0 some low h t.1))

pub framed-settled : (quantum blocks count most some : ℕ) (v : V) → some ≤ count → IsFramed quantum blocks count v
    → IsFramed quantum blocks count (settled most some v)
framed-settled quantum blocks count most zero v low h = subst (IsFramed quantum blocks count) (sym (settled-none most v)) h
framed-settled quantum blocks count most (suc some) v low h =
    subst (IsFramed quantum blocks count) (sym (settled-more most some v))
    (framed-alone quantum blocks count (suc some) most (settled most some v) (omega arith) low
    (framed-settled quantum blocks count most some v (omega (arith, low)) h))

pub framed-next : (quantum blocks count most k : ℕ) (v t : V) → k < count → IsFramed quantum blocks count v → next most count v k ≡ Some t
    → IsFramed quantum blocks count t
framed-next quantum blocks count most k v t low h e =
    let m : Moved most count v t k = moved most count v t k e in
    subst (IsFramed quantum blocks count) m.is (framed-settled quantum blocks count most count m.state (omega arith)
    (framed-turn quantum blocks count (k + 1) v m.state (omega arith) (omega (arith, low)) h m.turn))
