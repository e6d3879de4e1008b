use Rattle.command_line.proofs.ArgumentLemmas.{due}
use Rattle.command_line.proofs.arguments.choice.Goals as goal

pub returns-in-Err-try_get_matches_from_mut-clause-due : goal.returns-in-Err-try_get_matches_from_mut-clause-due
returns-in-Err-try_get_matches_from_mut-clause-due g c =
    due _ _ _ _ c.refusal_of.ensures c.in-Err-try_get_matches_from_mut.ensures.passes c.in-Ok.ensures
