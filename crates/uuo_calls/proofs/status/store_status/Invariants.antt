use Rattle.std.proofs.Common.{◌≡◌, ◌+◌, ◌*◌, drop}
use Rattle.uuo_calls.specs.StatusRow.{stored, status_words}
use Rattle.uuo_calls.proofs.status.store_status.Given as goal

abbrev pub invariant-loop-want : goal.invariant-loop-want
invariant-loop-want g l = record {
  rest : stored (record { regs = l.regs; core = g.M.ReadMemory.words l.memory }) l.address
      (status_words (g.L.LockTable.requests l.locks) l.number (drop l.want-index l.wants))
      ≡ stored (record { regs = l.fn.regs; core = g.M.ReadMemory.words l.fn.memory }) l.to
      (status_words (g.L.LockTable.requests l.locks) l.number l.wants);
  at : l.address ≡ l.to + 3 * l.want-index;
  lent : g.M.JobMemory.place l.memory ≡ g.M.JobMemory.place l.fn.memory;
}
