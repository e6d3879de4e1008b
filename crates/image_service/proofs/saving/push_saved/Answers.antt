use Rattle.mac_source.specs.Marks.{assembled}
use Rattle.mac_source.proofs.AssembledImages.{assembled_is_image}
use Rattle.image_service.proofs.saving.push_saved.Goals as goal

pub write_save-requires : goal.write_save-requires
write_save-requires c = assembled_is_image c.args.source.now (assembled c.in-Ok.image) c.in-Ok.ensures
