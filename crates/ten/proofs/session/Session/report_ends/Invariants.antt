use Rattle.std.proofs.Common.{◌≡◌, map, take}
use Rattle.std.specs.Prelude.{IsTrue}
use Rattle.ten.specs.Jobs.{standing_in}
use Rattle.ten.proofs.session.Session.report_ends.Given as goal

-- the jobs stay, and the standings so far are theirs
abbrev pub invariant-loop-i : goal.invariant-loop-i
invariant-loop-i l = record {
  jobs : l.self.jobs ≡ l.fn.self.jobs;
  standings : IsTrue l.self.errors.is_whole → l.standings.items ≡ map (standing_in l.machine) (take l.i l.fn.self.jobs.items);
}
