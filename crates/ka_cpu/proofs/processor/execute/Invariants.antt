use Rattle.std.proofs.Common.{◌≡◌, if◌then◌else◌}
use Rattle.ka_cpu.specs.declared.limits.TheConstants.{MOST_EXECUTES}
use Rattle.ka_cpu.specs.Exec.{is_xct, word_behind}
use Rattle.ka_cpu.proofs.processor.execute.Given as goal

abbrev pub invariant-words : goal.invariant-words
invariant-words g l = record {
  regs : l.regs ≡ l.fn.regs;
  core : g.M.ReadMemory.words l.memory ≡ g.M.ReadMemory.words l.fn.memory;
  place : g.M.JobMemory.place l.memory ≡ g.M.JobMemory.place l.fn.memory;
  behind : word_behind MOST_EXECUTES l.fn.regs.ac (g.M.ReadMemory.words l.fn.memory) l.word
      ≡ word_behind MOST_EXECUTES l.fn.regs.ac (g.M.ReadMemory.words l.fn.memory) l.fn.word;
}

-- the word behind an XCT is none
abbrev pub decreases-words : goal.decreases-words
decreases-words g l = if is_xct l.word then 1 else 0
