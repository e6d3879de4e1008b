use Rattle.std.proofs.Common.{◌≡◌, ◌∙◌, sym, suc, ◌-◌, Some, arith}
use Rattle.job_sched.specs.Ready.{next_job}
use Rattle.machine.specs.Machine.{S}
use Rattle.machine.specs.Safe.{Safe}
use Rattle.monitor_laws.proofs.Between.{undisturbed-made}
use Rattle.monitor_laws.proofs.Quieting.{last-of, quiet-made}
use Rattle.monitor_laws.proofs.Safety.{Runs, runs-next}
use Rattle.monitor.proofs.Telling.{kept-so}
use Rattle.monitor.proofs.parts.Parts.rounds_told.Goals as goal

pub span-span-requires-clause-number : goal.span-span-requires-clause-number
span-span-requires-clause-number g c =
    let e : next_job c.args.self.now.world.table c.args.self.now.world.lines c.args.self.now.world.requests ≡ Some c.in-Some.n =
    rw (← c.self.view_is, ← c.world.view_is) (sym c.next.ensures ∙ c.in-Some.is) in
    (runs-next c.args.self.now c.in-Some.n c.requires.safe e).number.1

pub tell_job-ran-requires : goal.tell_job-ran-requires
tell_job-ran-requires g c =
    let e : next_job c.args.self.now.world.table c.args.self.now.world.lines c.args.self.now.world.requests ≡ Some c.in-Some.n =
    rw (← c.self.view_is, ← c.world.view_is) (sym c.next.ensures ∙ c.in-Some.is) in
    let r : Runs c.args.self.now c.in-Some.n = runs-next c.args.self.now c.in-Some.n c.requires.safe e in
    record {
      number = r.number;
      some = c.span-span.ensures.least;
      there = let there = rw (← c.self.view_is, ← c.world.view_is) at r.chosen in rw c.choose.ensures there;
      core = rw (← c.self.view_is, ← c.world.view_is) at r.core;
    }

pub returns : goal.returns
returns g c =
    let made = c.tell_job-ran.result.0 in
    let s : S =
    record {
      world = record {
        size = g.L.LockTable.REQS;
        table = c.world.inside.table;
        lines = c.world.inside.lines;
        requests = g.L.LockTable.requests c.world.inside.locks;
        cores = g.C.CoreStore.meaning c.world.inside.cores;
        shared = c.world.inside.shared;
      };
      time = c.self.inside.time;
      quantum = c.self.inside.quantum;
      blocks = c.self.inside.blocks;
    } in
    let safe : Safe s = rw (← c.self.view_is, ← c.world.view_is) at c.requires.safe in
    let next = sym c.next.ensures ∙ c.in-Some.is in
    let alone = rw (c.choose.ensures, c.is_alone-alone.ensures) at c.span-span.ensures.undisturbed in
    let fewer = undisturbed-made s c.in-Some.n c.span-span.result made _ c.tell_job-ran.ensures.most alone in
    let is = rw c.choose.ensures at c.tell_job-ran.ensures.runs in
    let told = rw c.choose.ensures at c.tell_job-ran.ensures.told in
    let before = rw c.choose.ensures at c.tell_job-ran.ensures.before in
    let read = rw c.choose.ensures at c.tell_job-ran.ensures.read in
    let one : made ≡ suc (made - 1) = omega (arith, c.tell_job-ran.ensures.least) in
    let x = last-of s c.in-Some.n made (made - 1) _ _ one safe next fewer is in
    record {
      least = c.tell_job-ran.ensures.least;
      most = omega (arith, c.tell_job-ran.ensures.most, c.span-span.ensures.most);
      quiet = λ k less. rw (← c.self.view_is, ← c.world.view_is) (quiet-made s c.in-Some.n made k _ _ safe next fewer is less);
      state = rw (← c.self.view_is, ← c.world.view_is) (c.tell_job-ran.ensures.others ∙ x.state);
      told = rw (← c.self.view_is, ← c.world.view_is) (told ∙ x.told);
      before =
          rw (← c.self.view_is, ← c.world.view_is) (kept-so c.tell_job-ran.result.2 (λ v. v.items) _ _ x.before before);
      read = rw (← c.self.view_is, ← c.world.view_is) (read ∙ x.read);
    }
