use Rattle.std.proofs.Common.{◌≡◌, ℕ, ◌<◌, ◌^◌, vec_len}
use Rattle.mac_source.specs.Marks.{assembled, marked_by}
use Rattle.mac_source.proofs.MarkLemmas.{referred_by}
use Rattle.mac_source.proofs.marks.referred_of.Given as goal

-- the addresses that the start and the words so far refer to
abbrev pub invariant-loop-word : goal.invariant-loop-word
invariant-loop-word l =
    (vec_len l.marks ≡ 2 ^ 18) × ((p : ℕ) → p < 2 ^ 18 → marked_by l.marks.items p ≡ referred_by (assembled l.image) l.word-index p)
