use Rattle.std.proofs.Common.{◌≡◌, ◌∙◌, sym, ap, Some, arith}
use Rattle.job_sched.specs.Ready.{next_job}
use Rattle.machine.specs.Machine.{S}
use Rattle.machine.specs.Safe.{Safe}
use Rattle.machine.specs.Stretches.{ticked_if}
use Rattle.monitor_laws.proofs.Safety.{Runs, runs-next}
use Rattle.monitor_laws.proofs.Between.{between-made, undisturbed-made}
use Rattle.monitor_laws.proofs.Stretching.{rounds-made}
use Rattle.monitor.proofs.parts.Parts.run_next.Goals as goal

pub span-span-requires-clause-number : goal.span-span-requires-clause-number
span-span-requires-clause-number g c =
    let e : next_job c.args.self.now.world.table c.args.self.now.world.lines c.args.self.now.world.requests ≡ Some c.in-Some.n =
    rw (← c.self.view_is, ← c.world.view_is) (sym c.next.ensures ∙ c.in-Some.is) in
    (runs-next c.args.self.now c.in-Some.n c.requires.safe e).number.1

pub run_job-made-requires : goal.run_job-made-requires
run_job-made-requires g c =
    let e : next_job c.args.self.now.world.table c.args.self.now.world.lines c.args.self.now.world.requests ≡ Some c.in-Some.n =
    rw (← c.self.view_is, ← c.world.view_is) (sym c.next.ensures ∙ c.in-Some.is) in
    let r : Runs c.args.self.now c.in-Some.n = runs-next c.args.self.now c.in-Some.n c.requires.safe e in
    record {
      number = r.number;
      some = c.span-span.ensures.least;
      there = let there = rw (← c.self.view_is, ← c.world.view_is) at r.chosen in rw c.choose.ensures there;
      core = rw (← c.self.view_is, ← c.world.view_is) at r.core;
    }

pub returns : goal.returns
returns g c =
    let made = c.run_job-made.result in
    let ticking = c.args.ticking in
    let s : S =
    record {
      world = record {
        size = g.L.LockTable.REQS;
        table = c.world.inside.table;
        lines = c.world.inside.lines;
        requests = g.L.LockTable.requests c.world.inside.locks;
        cores = g.C.CoreStore.meaning c.world.inside.cores;
        shared = c.world.inside.shared;
      };
      time = c.self.inside.time;
      quantum = c.self.inside.quantum;
      blocks = c.self.inside.blocks;
    } in
    let safe : Safe s = rw (← c.self.view_is, ← c.world.view_is) at c.requires.safe in
    let next = sym c.next.ensures ∙ c.in-Some.is in
    let alone = rw (c.choose.ensures, c.is_alone-alone.ensures) at c.span-span.ensures.undisturbed in
    let fewer = undisturbed-made s c.in-Some.n c.span-span.result made ticking c.run_job-made.ensures.most alone in
    let is = rw c.choose.ensures at c.run_job-made.ensures.runs in
    let none = rw c.choose.ensures at c.run_job-made.ensures.none_over in
    let x =
    rounds-made s c.in-Some.n made ticking _ _ made safe next c.run_job-made.ensures.least fewer is in
    record {
      state = rw (← c.self.view_is, ← c.world.view_is) (ap (λ (t : S). ticked_if ticking t) c.run_job-made.ensures.others ∙ x.state);
      job = rw (← c.self.view_is, ← c.world.view_is) (sym c.in-Some.is ∙ c.next.ensures);
      count = rw (← c.self.view_is, ← c.world.view_is) (omega (arith, x.count));
      least = x.least;
      most = omega (arith, c.run_job-made.ensures.most, c.span-span.ensures.most);
      between =
          λ k some less. rw (← c.self.view_is, ← c.world.view_is)
          (between-made s c.in-Some.n made k ticking _ _ _ safe next fewer is none some less);
    }
