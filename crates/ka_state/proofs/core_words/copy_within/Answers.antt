use Rattle.std.proofs.Common.{◌≡◌, ◌∙◌, ◌+◌, ◌<◌, length, ℕ, Some, ap, refl, sym, arith, slice_get, slice_set}
use Rattle.std.proofs.Math.ListN.{length-set}
use Rattle.std.proofs.lemmas.Option.{slice_get-get_or}
use Rattle.ka_state.proofs.CopySteps.{copied_read}
use Rattle.ka_state.proofs.core_words.copy_within.Goals as goal

pub loop-i-preserved : goal.loop-i-preserved
loop-i-preserved c =
    let words = c.loop-i.words in
    let i = c.loop-i.i in
    let w = c.index-words-from.result in
    let h : i < c.args.count = omega arith in
    let b : c.args.from + i < length words = omega arith in
    let read : slice_get words (c.args.from + i) ≡ Some w = slice_get-get_or words (c.args.from + i) w b ∙ ap (λ (x : ℕ). Some x) (sym c.index-words-from.is) in
    record {
      copied = sym (copied_read c.args.count i w words (slice_set words (c.args.to + i) w) c.args.from c.args.to h read refl) ∙ c.loop-i.invariant.copied;
      size = length-set words (c.args.to + i) w ∙ c.loop-i.invariant.size;
    }
