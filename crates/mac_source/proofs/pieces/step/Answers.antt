use Rattle.std.proofs.Common.{◌≡◌, ◌∙◌, ap, ℕ, ◌+◌, ◌∷◌, ◌++◌}
use Rattle.std.specs.Prelude.{reverse}
use Rattle.mac_source.specs.declared.pieces.Piece.TheVariants as pieces
use Rattle.mac_source.specs.Notes.{ascii_text}
use Rattle.mac_source.specs.Pieces.{alone, with_word}
use Rattle.mac_source.specs.Marks.{marked_by}
use Rattle.mac_source.proofs.PieceLoops.{step_zeros, step_text, step_alone, if_ok}
use Rattle.mac_source.proofs.pieces.step.Goals as goal

pub returns-then-goes_with_zeros : goal.returns-then-goes_with_zeros
returns-then-goes_with_zeros c =
    step_zeros c.args.shown.blocks c.args.shown.texts (marked_by c.args.marks.now) (c.args.address, c.args.word) c.args.hand
    _ (reverse c.args.pieces.now.items) c.goes_with_zeros.result c.goes_with_zeros.ensures c.if-goes_with_zeros.true
    (ap (λ n. pieces.Zeros c.args.address (n + 1)) c.count.ensures)

pub returns-then-goes_with_text : goal.returns-then-goes_with_text
returns-then-goes_with_text c =
    step_text c.args.shown.blocks c.args.shown.texts (marked_by c.args.marks.now) (c.args.address, c.args.word) c.args.hand
    (pieces.Text c.args.address c.put_before.new.self) (reverse c.args.pieces.now.items) (reverse c.push_rest.new.pieces.items)
    c.goes_with_zeros.result c.goes_with_text.result c.goes_with_zeros.ensures c.if-goes_with_zeros.false
    c.goes_with_text.ensures c.if-goes_with_text.true
    (ap (pieces.Text c.args.address) (c.in_ok-put_before.ensures ∙ ap (λ t. ascii_text c.args.word ++ t) c.in_ok-text.ensures))
    c.in_ok-push_rest.ensures

pub returns : goal.returns
returns c =
    let blocks = c.args.shown.blocks in
    let texts = c.args.shown.texts in
    let x : ℕ × ℕ = (c.args.address, c.args.word) in
    if_ok c.alone.result (λ next. next ≡ alone texts x)
    (λ next. next ∷ reverse c.push.new.self.items ≡ with_word blocks texts (marked_by c.args.marks.now) x (c.args.hand ∷ reverse c.args.pieces.now.items))
    (λ next is. step_alone blocks texts (marked_by c.args.marks.now) x c.args.hand next c.args.pieces.now.items c.push.new.self.items
    c.goes_with_zeros.result c.goes_with_text.result c.goes_with_zeros.ensures c.if-goes_with_zeros.false
    c.goes_with_text.ensures c.if-goes_with_text.false c.in_ok-push.ensures.items is)
    c.alone.ensures
