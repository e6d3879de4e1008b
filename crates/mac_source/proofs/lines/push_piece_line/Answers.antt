use Rattle.std.proofs.Common.{◌∙◌, ap, ℕ, [], ◌∷◌, ◌++◌}
use Rattle.mac_source.specs.Sources.{behind_text, comment_if, mark_text, piece_text, style_with}
use Rattle.mac_source.specs.Marks.{marked_by}
use Rattle.mac_source.proofs.Pushed.{line_pushed}
use Rattle.mac_source.proofs.lines.push_piece_line.Goals as goal

pub returns : goal.returns
returns c =
    let marks = c.args.marks.now in
    let out = c.args.out.now.items in
    let x = c.in_ok-head.head in
    let statement = piece_text (style_with (marked_by marks) c.args.shown) c.args.piece.now in
    line_pushed out c.push_mark.new.out.items c.push.new.self.items c.push_piece.new.out.items c.push_comment.new.out.items c.push-2.new.self.items
    (mark_text (marked_by marks x.0) x.0) statement (behind_text (comment_if c.args.shown.comments (x.0, x.1)))
    c.in_ok-push_mark.ensures c.in_ok-push.ensures.items c.in_ok-push_piece.ensures c.in_ok-push_comment.ensures
    c.in_ok-push-2.ensures.items
    ∙ ap (λ (y : ℕ × ℕ). out ++ (mark_text (marked_by marks y.0) y.0 ++ (32 ∷ (statement ++ (behind_text (comment_if c.args.shown.comments y) ++ 10 ∷ [])))))
    c.in_ok-head.ensures
