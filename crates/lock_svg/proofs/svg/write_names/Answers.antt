use Rattle.std.proofs.Common.{append_assoc}
use Rattle.std.proofs.Output.{has_written_of_eq}
use Rattle.lock_svg.specs.Pictures.{names_at}
use Rattle.lock_svg.proofs.ShapeLemmas.{same_names}
use Rattle.lock_svg.proofs.svg.write_names.Goals as goal

pub returns : goal.returns
returns g c = λ plain ok.
    let text = names_at c.ground_of_lane-ground.result c.args.lane.now.job c.args.is_first c.saturating_add-y.result c.saturating_sub.result
    c.as_str.result.now in
    has_written_of_eq _ _ text _ _
    (same_names _ _ c.args.lane.now.job c.args.is_first _ _ _ _ _ _ c.ground_of_lane-ground.ensures c.saturating_add-y.ensures
    c.saturating_sub.ensures c.as_str.ensures.value)
    (has_written_of_eq _ _ _ text _ (simp append_assoc) (c.write.ensures.writes plain ok))
