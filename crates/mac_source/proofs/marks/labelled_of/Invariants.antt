use Rattle.std.proofs.Common.{◌≡◌, ℕ, ◌<◌, ◌^◌, take, vec_len}
use Rattle.mac_source.specs.Sources.{can_have_label}
use Rattle.mac_source.specs.Marks.{marked_by}
use Rattle.mac_source.proofs.marks.labelled_of.Given as goal

-- the addresses of the words so far
abbrev pub invariant-loop-word : goal.invariant-loop-word
invariant-loop-word l =
    (vec_len l.addresses ≡ 2 ^ 18) × ((p : ℕ) → p < 2 ^ 18 → marked_by l.addresses.items p ≡ can_have_label (take l.word-index l.words) p)
