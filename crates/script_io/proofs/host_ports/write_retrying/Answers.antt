use Rattle.std.proofs.Common.{◌≡◌, ℕ, Result, suc, Err, refl, arith, subst}
use Rattle.std.proofs.KnownBytes.{Keeps-trans}
use Rattle.std.specs.Io.KnownBytes.{Keeps, WriteAppends}
use Rattle.script_io.specs.declared.host_fault.HostFault.{HostFault}
use Rattle.script_io.specs.declared.host_fault.HostFault.TheVariants.{Interrupted}
use Rattle.script_io.proofs.host_ports.write_retrying.Goals as goal

-- a host that was interrupted once more took nothing, and one more interruption leads to it
pub tries-preserved : goal.tries-preserved
tries-preserved g c =
    let said : c.write_once-answer.result ≡ Err Interrupted = c.if-not-is_interrupted.ensures.0 refl in
    let Stays : Result ℕ HostFault → Type 0 =
    λ r. WriteAppends (g.H.WriteOnce.written c.tries.host) (g.H.WriteOnce.written c.write_once-answer.new.self) r c.args.piece.now in
    let stays : Keeps (g.H.WriteOnce.written c.tries.host) (g.H.WriteOnce.written c.write_once-answer.new.self) =
    subst Stays said c.write_once-answer.ensures.bytes in
    let Answers : Result ℕ HostFault → Type 0 = λ r. g.H.WriteOnce.answers c.tries.host c.args.piece.now r c.write_once-answer.new.self in
    record {
      kept = Keeps-trans _ _ _ c.tries.invariant.kept stays;
      some = omega arith;
      made = (
        suc c.tries.invariant.made.0,
        (
          (c.tries.host, c.tries.invariant.made.1.0, subst Answers said c.write_once-answer.ensures.answers),
          omega (arith, c.tries.invariant.made.1.1),
        ),
      );
    }
