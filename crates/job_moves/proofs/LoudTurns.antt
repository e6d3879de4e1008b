-- Turns at once, of which those that read the time of day stand out too, are a system of which the moves stand for all runs.
use Rattle.std.proofs.Common.{◌≡◌, ◌≢◌, ◌∙◌, sym, ap, ℕ, ◌||◌, Option, Some, None, refl}
use Rattle.std.specs.Option.{option_map}
use Rattle.ka_cpu.specs.Exec.{exec}
use Rattle.job_sched.specs.Tables.{job_at}
use Rattle.job_sched.specs.declared.job.Job.{Job}
use Rattle.job_sched.proofs.Sleepers.{left-none, right-none}
use Rattle.uuo_calls.specs.Performed.{World}
use Rattle.machine.specs.Machine.{S}
use Rattle.monitor_laws.proofs.Housing.{at-mapped}
use Rattle.job_order_laws.specs.Choices.{is_noticed_turn, requests_in}
use Rattle.job_order_laws.specs.Erased.{IsAtOnce, erased_world, rested, turned_at_once}
use Rattle.job_order_laws.specs.Orders.{MovesStandForRuns}
use Rattle.job_order_laws.specs.Places.{HasSame, turn}
use Rattle.job_order_laws.specs.Turned.{IsSound, V}
use Rattle.job_order_laws.proofs.AtOnce.{Made, at-once-system, made}
use Rattle.job_order_laws.proofs.Choosing.{Ran, ran}
use Rattle.job_order_laws.proofs.Commuting.{place-after, same-after}
use Rattle.job_order_laws.proofs.Following.{IsSystem, moves-stand}
use Rattle.job_moves.specs.Moves.{is_clock_outcome, is_loud_turn, reads_clock, reads_clock_of}
use Rattle.job_moves.proofs.Alone.{other-slot}

reads-same : (w y : World) (n line : ℕ) → HasSame n line w y → reads_clock y n ≡ reads_clock w n
reads-same w y n line same = ap (reads_clock_of y n) same.jobs ∙ by_job (job_at w.table.jobs n)
  where
    by_job : (o : Option Job) → reads_clock_of y n o ≡ reads_clock_of w n o
    by_job None = refl
    by_job (Some j) = ap (λ c. is_clock_outcome (exec j.regs c).outcome) same.core

pub reads-erased : (w : World) (n : ℕ) → reads_clock (erased_world w) n ≡ reads_clock w n
reads-erased w n = ap (reads_clock_of (erased_world w) n) (at-mapped (option_map rested) w.table.jobs n refl) ∙ by_slot (job_at w.table.jobs n)
  where
    by_slot : (o : Option Job) → reads_clock_of (erased_world w) n (option_map rested o) ≡ reads_clock_of w n o
    by_slot None = refl
    by_slot (Some j) = refl

-- the next instruction of a job stays what it is while another takes its turn
pub reads-stay : (v b : V) (n k : ℕ) → IsSound v → n ≢ k → turned_at_once v k ≡ Some b → reads_clock b.machine.world n ≡ reads_clock v.machine.world n
reads-stay v b n k h ne e = by_job (job_at v.machine.world.table.jobs n) refl
  where
    by_job : (o : Option Job) → job_at v.machine.world.table.jobs n ≡ o → reads_clock b.machine.world n ≡ reads_clock v.machine.world n
    by_job None is =
        ap (reads_clock_of b.machine.world n) (other-slot v b k n h ne e ∙ ap (option_map rested) is) ∙ sym (ap (reads_clock_of v.machine.world n) is)
    by_job (Some i) is =
        let m : Made v b k = made v b k e in
        let r : Ran v m.state k = ran v m.state k m.turn in
        let s : S = v.machine in
        let y : World = turn s.world s.time k in
        let same : HasSame n i.line s.world y = same-after s n k i r.job h (λ e. ne (sym e)) is r.at (place-after s n k i r.job h (λ e. ne (sym e)) is r.at r.runs) in
        ap (λ (u : V). reads_clock u.machine.world n) (sym m.is)
        ∙ reads-erased m.state.machine.world n
        ∙ ap (λ (u : V). reads_clock u.machine.world n) r.is
        ∙ reads-same s.world y n i.line same

pub loud-system : IsSystem IsAtOnce requests_in turned_at_once is_loud_turn
loud-system = record {
  commute = λ v a b n k h ne quiet by_n by_k. at-once-system.commute v a b n k h ne (left-none (is_noticed_turn v n) _ quiet) by_n by_k;
  stay = λ v a b n k h ne quiet by_n by_k.
      ap (λ x. x || reads_clock b.machine.world n) (at-once-system.stay v a b n k h ne (left-none (is_noticed_turn v n) _ quiet) by_n by_k)
      ∙ reads-stay v b n k h.0 ne by_k
      ∙ right-none (is_noticed_turn v n) _ quiet;
  same = λ v a n k h ne quiet by_n.
      ap (λ x. x || reads_clock a.machine.world k) (at-once-system.same v a n k h ne (left-none (is_noticed_turn v n) _ quiet) by_n)
      ∙ ap (λ x. is_noticed_turn v k || x) (reads-stay v a k n h.0 (λ e. ne (sym e)) by_n);
  keeps = λ v a n h by_n. at-once-system.keeps v a n h by_n;
  requests = λ v a n h quiet by_n. at-once-system.requests v a n h (left-none (is_noticed_turn v n) _ quiet) by_n;
}

pub loud_moves_stand : MovesStandForRuns IsAtOnce requests_in turned_at_once is_loud_turn
loud_moves_stand = moves-stand turned_at_once is_loud_turn loud-system
