use Rattle.std.proofs.Common.{◌≡◌, drop}
use Rattle.left_out.specs.Words.{other_in, others_of}
use Rattle.left_out.proofs.words.other_in.Given as goal

-- the row is one of those from here on
abbrev pub invariant-loop-known : goal.invariant-loop-known
invariant-loop-known l = other_in (others_of (drop l.known-index l.rows)) l.name ≡ other_in (others_of l.rows) l.name
