use Rattle.std.proofs.Common.{refl}
use Rattle.ddt.proofs.obey.obey_line.Goals as goal

pub returns-in-Ok : goal.returns-in-Ok
returns-in-Ok c = record {
  scope = c.scope.result;
  is_scope = c.scope.ensures;
  read = c.read_line-read.result;
  says = c.read_line-read.ensures;
  keeps = λ looks. c.obey.ensures (rw c.in-Ok.is at looks);
}

pub returns-in-Err : goal.returns-in-Err
returns-in-Err c = record {
  scope = c.scope.result;
  is_scope = c.scope.ensures;
  read = c.read_line-read.result;
  says = c.read_line-read.ensures;
  keeps = λ looks. refl;
}
