use Rattle.std.proofs.Common.{◌≡◌, ℕ, ◌+◌, ◌<◌}
use Rattle.std.specs.Io.KnownBytes.{Keeps}
use Rattle.script_io.specs.Hosts.{Leads, ReadIsInterrupted}
use Rattle.script_io.proofs.host_ports.read_retrying.Given as goal

abbrev pub invariant-tries : goal.invariant-tries
invariant-tries g l = record {
  kept : Keeps (g.H.ReadOnce.to_come l.initial.host) (g.H.ReadOnce.to_come l.host);
  some : 0 < l.tries;
  made : (count : ℕ) × (Leads (ReadIsInterrupted g.H.ReadOnce.answers) count l.initial.host l.host × (l.initial.tries ≡ l.tries + count));
}

abbrev pub decreases-tries : goal.decreases-tries
decreases-tries g l = l.tries
