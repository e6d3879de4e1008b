use Rattle.std.proofs.Common.{◌≡◌, ◌++◌, drop}
use Rattle.std.specs.List.{flat_map}
use Rattle.macro_output.specs.Listings.{file_text}
use Rattle.macro_output.proofs.listings.push_files.Given as goal

abbrev pub invariant-loop-part : goal.invariant-loop-part
invariant-loop-part l =
    l.out.items ++ flat_map (file_text l.number) (drop l.part-index l.parts)
    ≡ l.initial.out.items ++ flat_map (file_text l.number) l.parts
