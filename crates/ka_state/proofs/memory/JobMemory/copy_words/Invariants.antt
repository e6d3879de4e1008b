use Rattle.std.proofs.Common.{◌≡◌, ◌+◌, ◌-◌, length}
use Rattle.ka_state.specs.Copies.{copied}
use Rattle.ka_state.proofs.memory.JobMemory.copy_words.Given as goal

abbrev pub invariant-loop-i : goal.invariant-loop-i
invariant-loop-i g l = record {
  copied : copied (l.count - l.i) (g.Self.ReadMemory.words l.self) (l.from + l.i) (l.to + l.i) ≡ copied l.count (g.Self.ReadMemory.words l.fn.self) l.from l.to;
  size : length (g.Self.ReadMemory.words l.self) ≡ length (g.Self.ReadMemory.words l.fn.self);
  place : g.Self.JobMemory.place l.self ≡ g.Self.JobMemory.place l.fn.self;
}
