use Rattle.std.proofs.Common.{◌≡◌, drop}
use Rattle.kept_parts.specs.Slots.{digest}
use Rattle.job_orders.proofs.pages.digest_of_words.Given as goal

abbrev pub invariant-loop-word : goal.invariant-loop-word
invariant-loop-word l = digest l.sum (drop l.word-index l.words) ≡ digest 0 l.words
