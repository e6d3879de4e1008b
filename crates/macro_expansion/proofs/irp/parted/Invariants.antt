use Rattle.std.proofs.Common.{◌≡◌, ◌≤◌, drop}
use Rattle.macro_expansion.specs.Rounds.{parted, unparted}
use Rattle.macro_expansion.proofs.irp.parted.Given as goal

-- the characters so far are parted
abbrev pub invariant-loop-c : goal.invariant-loop-c
invariant-loop-c l =
    record {
      same : parted l.by_character l.round l.parting (drop l.c-index l.list) ≡ parted l.by_character l.round unparted l.list;
      angles : l.parting.angles ≤ l.c-index;
      others : l.parting.others ≤ l.c-index;
    }
