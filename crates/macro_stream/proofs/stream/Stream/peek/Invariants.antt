use Rattle.std.proofs.Common.{◌≡◌, ◌+◌, length}
use Rattle.macro_stream.specs.Standing.{standing, settled, rounds_begun, next_of}
use Rattle.macro_stream.proofs.stream.Stream.peek.Given as goal

abbrev pub invariant-steps : goal.invariant-steps
invariant-steps l = record {
  told : next_of l.initial.self.calls (standing l.initial.self) ≡ next_of l.self.calls (standing l.self);
  left : settled (standing l.initial.self) ≡ settled (standing l.self);
  counted : l.initial.self.calls + rounds_begun (standing l.initial.self) ≡ l.self.calls + rounds_begun (standing l.self);
}

abbrev pub decreases-steps : goal.decreases-steps
decreases-steps l = length (standing l.self)
