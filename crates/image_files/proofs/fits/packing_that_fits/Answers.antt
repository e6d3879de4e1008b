use Rattle.image_files.proofs.FitLemmas.{fitting}
use Rattle.image_files.proofs.fits.packing_that_fits.Goals as goal

pub returns : goal.returns
returns c =
    fitting c.args.wanted c.args.bytes.now c.in_ok-core.core c.in_ok-dense.dense c.in_ok-ascii.ascii c.in_ok-simh.simh c.in_ok-octal.octal
    c.only_one.result c.in_ok-core.ensures c.in_ok-dense.ensures c.in_ok-ascii.ensures c.in_ok-simh.ensures c.in_ok-octal.ensures c.only_one.ensures
