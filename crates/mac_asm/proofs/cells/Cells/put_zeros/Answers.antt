use Rattle.std.proofs.Common.{◌+◌, ◌-◌, length, arith, ap, sym, ◌∙◌, Some}
use Rattle.std.specs.Prelude.{replicate, set}
use Rattle.std.proofs.lemmas.List.{length-set}
use Rattle.mac_asm.specs.Filled.{put_from}
use Rattle.mac_asm.proofs.CellLemmas.{zeros_begin, zeros_more, zeros_done}
use Rattle.mac_asm.proofs.cells.Cells.put_zeros.Goals as goal

pub loop-at-init : goal.loop-at-init
loop-at-init c = (
  sym c.len-len.ensures.cells,
  zeros_begin c.args.self.now c.args.address.now c.clamped-first.result c.args.count.now _ c.clamped-first.ensures
      c.len-len.ensures.cells,
)

pub loop-at-preserved : goal.loop-at-preserved
loop-at-preserved c =
    let put = c.in_ok-set.ensures ∙ ap (λ w. set c.loop-at.self c.loop-at.at (Some w)) c.new.ensures in (
      ap length put ∙ length-set c.loop-at.self c.loop-at.at (Some 0) ∙ c.loop-at.invariant.0,
      ap (λ cells. put_from cells (c.loop-at.at + 1) (replicate (c.clamped-first.result + c.args.count.now - (c.loop-at.at + 1)) 0)) put
          ∙ sym (zeros_more c.loop-at.self c.loop-at.at (c.clamped-first.result + c.args.count.now) c.loop-at.at (omega (arith, c.clamped.ensures)))
          ∙ c.loop-at.invariant.1,
    )

pub returns : goal.returns
returns c =
    sym
    (zeros_done c.loop-at.self c.clamped-first.result c.args.count.now c.loop-at.at c.len-len.result
    (omega (arith, c.clamped.ensures)) (omega (arith, c.clamped-first.ensures)) (sym c.loop-at.invariant.0))
    ∙ c.loop-at.invariant.1
