use Rattle.std.proofs.Common.{◌≡◌, Option, Some, drop, fold, nat_lt}
use Rattle.std.specs.Prelude.{if◌then◌else◌}
use Rattle.std.specs.Option.{option_map}
use Rattle.joined_files.specs.declared.joined.Part.{Part}
use Rattle.joined_files.specs.Joined.{part_at}
use Rattle.joined_files.proofs.joined.part_of.Given as goal

abbrev pub invariant-loop-part : goal.invariant-loop-part
invariant-loop-part l =
    fold (λ (found : Option Part) (part : Part). if nat_lt part.before l.line then Some part else found) (option_map (λ part. part.now) l.found) (drop l.part-index l.parts)
    ≡ part_at l.line l.parts
