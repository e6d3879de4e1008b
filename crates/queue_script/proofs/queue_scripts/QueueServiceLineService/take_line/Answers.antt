use Rattle.std.proofs.Common.{◌≡◌, true, sym, subst}
use Rattle.queue_script.specs.WellFormed.{is_well_formed}
use Rattle.queue_script.proofs.WellFormedLemmas.{line-right}
use Rattle.queue_script.proofs.queue_scripts.QueueServiceLineService.take_line.Goals as goal

pub perform-requires : goal.perform-requires
perform-requires g c = subst (λ a. is_well_formed a ≡ true) (sym c.read_command-command.ensures) (line-right c.args.line.now)
