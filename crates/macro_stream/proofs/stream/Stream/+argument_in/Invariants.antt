use Rattle.macro_stream.proofs.stream.Stream.+argument_in.Given as goal

abbrev pub decreases-argument_in : goal.decreases-argument_in
decreases-argument_in l = l.left
