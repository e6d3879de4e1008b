use Rattle.std.proofs.Common.{◌∙◌, sym, ap, refl, is_some, arith}
use Rattle.std.proofs.lemmas.Grind.{common_steps}
use Rattle.key_queues.proofs.Finding.{in_use_parts}
use Rattle.lock_table.proofs.Queued.{unwanted_by, all_present, pooled_is, wanted_at_slots}
use Rattle.lock_table.proofs.refusals.lock_wanted.Goals as goal

pub returns-in_err-n-clause-wanted : goal.returns-in_err-n-clause-wanted
returns-in_err-n-clause-wanted g c =
    ap is_some c.from_residual.ensures
    ∙ sym (unwanted_by c.args.store.now c.args.keys.now c.args.key.now c.requires (c.in_err-n.ensures.none refl) c.args.job)

pub is_job_queued-requires : goal.is_job_queued-requires
is_job_queued-requires g c = grind (arith, in_use_parts, all_present, wanted_at_slots, pooled_is)

pub returns-else-is_job_queued-clause-wanted : goal.returns-else-is_job_queued-clause-wanted
returns-else-is_job_queued-clause-wanted g c = grind (arith, in_use_parts, all_present, wanted_at_slots, pooled_is)

pub returns-then-is_job_queued : goal.returns-then-is_job_queued
returns-then-is_job_queued g c = record { wanted = grind (arith, common_steps, in_use_parts, all_present, wanted_at_slots, pooled_is); pooled = grind (arith, in_use_parts, all_present, wanted_at_slots, pooled_is) }
