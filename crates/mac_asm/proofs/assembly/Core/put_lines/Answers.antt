use Rattle.std.proofs.Common.{◌+◌, drop, Err, ap, sym, ◌∙◌, arith}
use Rattle.mac_layout.specs.Addresses.{names_at, Placed}
use Rattle.mac_asm.specs.Outcome.{lines_with}
use Rattle.mac_asm.proofs.LineLemmas.{item_at, item_past}
use Rattle.mac_asm.proofs.FillLemmas.{filled_from, filled_begins, filled_ends, filled_more, filled_fails, lines_next, lines_done, addresses_done}
use Rattle.mac_asm.proofs.assembly.Core.put_lines.Goals as goal

pub loop-i-init : goal.loop-i-init
loop-i-init c = filled_begins c.args.self.now.cells (lines_with c.args.labels.now.entries c.args.addresses.now c.args.literals.now c.args.lines.now)

pub returns : goal.returns
returns c =
    sym c.loop-i.invariant
    ∙ ap (filled_from c.loop-i.self.cells c.loop-i.start (c.loop-i.i + 1))
    (lines_done c.args.labels.now.entries c.args.addresses.now c.loop-i.left.now c.args.lines.now c.loop-i.i (omega arith))
    ∙ filled_ends c.loop-i.self.cells c.loop-i.start (c.loop-i.i + 1)

pub returns-in_default : goal.returns-in_default
returns-in_default c =
    sym c.loop-i.invariant
    ∙ ap (filled_from c.loop-i.self.cells c.loop-i.start (c.loop-i.i + 1))
    (addresses_done c.args.labels.now.entries c.args.addresses.now c.loop-i.left.now c.args.lines.now c.loop-i.i
    (item_past c.args.addresses.now c.loop-i.i c.in_default.ensures.lookup.0))
    ∙ filled_ends c.loop-i.self.cells c.loop-i.start (c.loop-i.i + 1)

pub returns-in-None : goal.returns-in-None
returns-in-None c =
    let at : Placed = record { names = names_at c.args.labels.now.entries c.in-Some.here.now c.split_at.result.0.now; line = c.index-lines-i.result } in
    let later =
    lines_with c.args.labels.now.entries (drop (c.loop-i.i + 1) c.args.addresses.now) c.split_at.result.1.now
    (drop (c.loop-i.i + 1) c.args.lines.now) in
    let next =
    lines_next c.args.labels.now.entries c.args.addresses.now c.loop-i.left.now c.args.lines.now c.loop-i.i c.in-Some.here.now
    c.min.result c.index-lines-i.result c.split_at.result.0.now c.split_at.result.1.now c.loop-i-test.true c.index-lines-i.is
    (item_at c.args.addresses.now c.loop-i.i c.in-Some.here.now c.in-Some.ensures.lookup.0 c.in-Some.ensures.lookup.1)
    (omega (arith, c.min.ensures, c.len.ensures)) c.split_at.ensures.front c.split_at.ensures.back in
    sym c.loop-i.invariant ∙ ap (filled_from c.loop-i.self.cells c.loop-i.start (c.loop-i.i + 1)) next
    ∙ filled_fails c.loop-i.self.cells c.loop-i.start (c.loop-i.i + 1) at later (rw c.in-None.is at c.in_ok-address.ensures)
    ∙ ap (λ code. Err (record { line = c.loop-i.i + 1; code = code })) (sym c.value_code.ensures)

pub loop-i-preserved : goal.loop-i-preserved
loop-i-preserved c =
    let at : Placed = record { names = names_at c.args.labels.now.entries c.in-Some.here.now c.split_at.result.0.now; line = c.index-lines-i.result } in
    let later =
    lines_with c.args.labels.now.entries (drop (c.loop-i.i + 1) c.args.addresses.now) c.split_at.result.1.now
    (drop (c.loop-i.i + 1) c.args.lines.now) in
    let next =
    lines_next c.args.labels.now.entries c.args.addresses.now c.loop-i.left.now c.args.lines.now c.loop-i.i c.in-Some.here.now
    c.min.result c.index-lines-i.result c.split_at.result.0.now c.split_at.result.1.now c.loop-i-test.true c.index-lines-i.is
    (item_at c.args.addresses.now c.loop-i.i c.in-Some.here.now c.in-Some.ensures.lookup.0 c.in-Some.ensures.lookup.1)
    (omega (arith, c.min.ensures, c.len.ensures)) c.split_at.ensures.front c.split_at.ensures.back in
    sym
    (filled_more c.loop-i.self.cells c.put_line.new.self.cells c.loop-i.start c.in-Some-2.address (c.loop-i.i + 1) at later
    (rw c.in-Some-2.is at c.in_ok-address.ensures))
    ∙ sym (ap (filled_from c.loop-i.self.cells c.loop-i.start (c.loop-i.i + 1)) next) ∙ c.loop-i.invariant
