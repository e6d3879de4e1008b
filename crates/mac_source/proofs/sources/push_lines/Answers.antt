use Rattle.std.proofs.Common.{◌≡◌, ◌∙◌, sym, ap, ◌+◌, ◌++◌, ◌≤◌, ◌^◌, arith}
use Rattle.mac_layout.specs.Addresses.{first_address}
use Rattle.mac_source.specs.Pieces.{IsPlaced, count, address_of}
use Rattle.mac_source.specs.Sources.{end_line, lines_text, style_with}
use Rattle.mac_source.specs.Marks.{marked_by}
use Rattle.mac_source.proofs.PieceLoops.{piece_placed}
use Rattle.mac_source.proofs.LineLemmas.{lines_go, lines_end, on_ok}
use Rattle.mac_source.proofs.sources.push_lines.Goals as goal

pub push_piece_line-requires-clause-address : goal.push_piece_line-requires-clause-address
push_piece_line-requires-clause-address c =
    (piece_placed c.args.pieces.now c.loop-piece.piece-index c.piece-item.result c.requires.placed c.loop-piece-test.true c.piece-item.is).0

pub overflow_add-here : goal.overflow_add-here
overflow_add-here c =
    let p = c.piece-item.result in
    let placed : IsPlaced p = piece_placed c.args.pieces.now c.loop-piece.piece-index p c.requires.placed c.loop-piece-test.true c.piece-item.is in
    let most : address_of p + count p ≤ 2 ^ 18 = placed.1 in
    omega (arith, most, c.address_of-address.ensures, c.count.ensures)

pub loop-piece-preserved : goal.loop-piece-preserved
loop-piece-preserved c =
    let style = style_with (marked_by c.args.marks.now) c.args.shown in
    lines_go style c.args.start c.loop-piece.here c.args.pieces.now c.loop-piece.piece-index c.piece-item.result
    c.address_of-address.result c.count.result c.loop-piece.out.items c.push_loc.new.out.items c.push_piece_line.new.out.items
    (c.args.out.now.items ++ lines_text style c.args.start first_address c.args.pieces.now)
    c.address_of-address.ensures c.count.ensures c.piece-item.is c.loop-piece-test.true c.in_ok-push_loc.ensures c.in_ok-push_piece_line.ensures
    c.loop-piece.invariant

pub returns : goal.returns
returns c =
    let style = style_with (marked_by c.args.marks.now) c.args.shown in
    on_ok c.push_end.result _ _
    (λ (e : c.push_end.new.out.items ≡ c.loop-piece.out.items ++ end_line (marked_by c.args.marks.now) c.args.start).
    e
    ∙ (ap (λ l. c.loop-piece.out.items ++ l)
    (sym (lines_end style c.args.start c.loop-piece.here c.args.pieces.now c.loop-piece.piece-index c.loop-piece-test.false))
    ∙ c.loop-piece.invariant)) c.push_end.ensures

pub count-requires : goal.count-requires
count-requires c =
    piece_placed c.args.pieces.now c.loop-piece.piece-index c.piece-item.result c.requires.placed c.loop-piece-test.true c.piece-item.is
