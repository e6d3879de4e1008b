use Rattle.std.proofs.Common.{◌≡◌, drop}
use Rattle.kept_parts.specs.Slots.{digest}
use Rattle.job_orders.proofs.pages.digest_of_characters.Given as goal

abbrev pub invariant-loop-c : goal.invariant-loop-c
invariant-loop-c l = digest l.sum (drop l.c-index l.characters) ≡ digest 0 l.characters
