use Rattle.std.proofs.Common.{◌≡◌, ℕ, ◌+◌, ◌<◌}
use Rattle.std.specs.Io.KnownBytes.{Keeps}
use Rattle.script_io.specs.Hosts.{Leads, WriteIsInterrupted}
use Rattle.script_io.proofs.host_ports.write_retrying.Given as goal

abbrev pub invariant-tries : goal.invariant-tries
invariant-tries g l = record {
  kept : Keeps (g.H.WriteOnce.written l.initial.host) (g.H.WriteOnce.written l.host);
  some : 0 < l.tries;
  made : (count : ℕ) × (Leads (WriteIsInterrupted g.H.WriteOnce.answers l.piece) count l.initial.host l.host × (l.most ≡ l.tries + count));
}

abbrev pub decreases-tries : goal.decreases-tries
decreases-tries g l = l.tries
