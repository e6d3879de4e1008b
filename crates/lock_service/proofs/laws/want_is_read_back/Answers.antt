use Rattle.lock_service.proofs.ReadBack.{want_again}
use Rattle.lock_service.proofs.laws.want_is_read_back.Goals as goal

pub returns : goal.returns
returns c =
    want_again c.args.want.now c.args.job c.copied-copy.ensures.range c.copied-group.ensures.below c.name_is_read_back.ensures c.requires.right c.requires.spelled
