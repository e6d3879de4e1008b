use Rattle.std.proofs.Common.{◌≡◌, ◌∙◌, sym, ap, ℕ, Some, false, arith}
use Rattle.std.proofs.lemmas.Result.{IfOk-weaker}
use Rattle.job_sched.specs.Ready.{next_job}
use Rattle.machine.specs.Machine.{S, after}
use Rattle.machine.specs.Rounds.{rounds}
use Rattle.machine.specs.Safe.{Safe}
use Rattle.monitor_laws.proofs.Safety.{Runs, runs-next}
use Rattle.monitor_laws.proofs.Stretching.{rounds-made}
use Rattle.monitor.proofs.Telling.{before-first, read-first, told-first}
use Rattle.monitor.proofs.parts.Parts.step_told.Goals as goal

pub tell_job-ran-requires : goal.tell_job-ran-requires
tell_job-ran-requires g c =
    let e : next_job c.args.self.now.world.table c.args.self.now.world.lines c.args.self.now.world.requests ≡ Some c.in-Some.n =
    rw (← c.self.view_is, ← c.world.view_is) (sym c.next.ensures ∙ c.in-Some.is) in
    let r : Runs c.args.self.now c.in-Some.n = runs-next c.args.self.now c.in-Some.n c.requires e in
    record {
      number = r.number;
      some = omega arith;
      there = let there = rw (← c.self.view_is, ← c.world.view_is) at r.chosen in rw c.choose.ensures there;
      core = rw (← c.self.view_is, ← c.world.view_is) at r.core;
    }

pub returns : goal.returns
returns g c =
    let made = c.tell_job-ran.result.0 in
    let s : S =
    record {
      world = record {
        size = g.L.LockTable.REQS;
        table = c.world.inside.table;
        lines = c.world.inside.lines;
        requests = g.L.LockTable.requests c.world.inside.locks;
        cores = g.C.CoreStore.meaning c.world.inside.cores;
        shared = c.world.inside.shared;
      };
      time = c.self.inside.time;
      quantum = c.self.inside.quantum;
      blocks = c.self.inside.blocks;
    } in
    let safe : Safe s = rw (← c.self.view_is, ← c.world.view_is) at c.requires in
    let next = sym c.next.ensures ∙ c.in-Some.is in
    let one : made ≡ 1 = omega (arith, c.tell_job-ran.ensures.least, c.tell_job-ran.ensures.most) in
    let is = rw c.choose.ensures at c.tell_job-ran.ensures.runs in
    let told = rw c.choose.ensures at c.tell_job-ran.ensures.told in
    let before = rw c.choose.ensures at c.tell_job-ran.ensures.before in
    let read = rw c.choose.ensures at c.tell_job-ran.ensures.read in
    let x = rounds-made s c.in-Some.n made false _ _ made safe next c.tell_job-ran.ensures.least (λ two. absurd (omega (arith, two, one))) is in
    record {
      state =
          rw (← c.self.view_is, ← c.world.view_is)
          (c.tell_job-ran.ensures.others ∙ x.state ∙ ap (λ (k : ℕ). after (rounds k false) s) one);
      told = rw (← c.self.view_is, ← c.world.view_is) (told-first s c.in-Some.n made _ next one told);
      before =
          rw (← c.self.view_is, ← c.world.view_is)
          (IfOk-weaker c.tell_job-ran.result.2 _ _ (λ v found. before-first s c.in-Some.n made _ next one found) before);
      read = rw (← c.self.view_is, ← c.world.view_is) (read-first s c.in-Some.n made _ next one read);
    }
