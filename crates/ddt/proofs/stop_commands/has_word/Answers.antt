use Rattle.ddt.proofs.stop_commands.has_word.Goals as goal

pub returns-in-Some : goal.returns-in-Some
returns-in-Some c = rw c.in-Some.is c.is_there.ensures
