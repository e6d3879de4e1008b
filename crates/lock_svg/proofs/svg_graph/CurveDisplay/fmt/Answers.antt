use Rattle.std.proofs.Common.{append_assoc}
use Rattle.std.proofs.Output.{has_written_of_eq}
use Rattle.lock_svg.specs.Graphs.{curve_text}
use Rattle.lock_svg.proofs.svg_graph.CurveDisplay.fmt.Goals as goal

pub returns-clause-writes : goal.returns-clause-writes
unfolding curve_text
returns-clause-writes g c = λ plain ok. has_written_of_eq _ _ _ _ _ (simp append_assoc) (c.write.ensures.writes plain ok)
