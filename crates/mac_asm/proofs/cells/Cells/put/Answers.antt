use Rattle.std.proofs.Common.{drop, arith, ap, sym, ◌∙◌}
use Rattle.mac_asm.specs.Filled.{put_from}
use Rattle.mac_asm.proofs.CellLemmas.{put_past, put_clamped}
use Rattle.mac_asm.proofs.cells.Cells.put.Goals as goal

pub loop-word-init : goal.loop-word-init
loop-word-init c = (
  omega (arith, c.clamped-at.ensures),
  sym c.len-len.ensures.cells,
  ap (λ p. put_from c.args.self.now p c.args.words.now) c.clamped-at.ensures
      ∙ put_clamped c.args.self.now c.args.address.now _ c.args.words.now c.len-len.ensures.cells,
)

pub returns-then-at-len : goal.returns-then-at-len
returns-then-at-len c = sym (put_past c.loop-word.self c.loop-word.at (drop c.loop-word.word-index c.args.words.now) (omega arith)) ∙ c.loop-word.invariant.2
