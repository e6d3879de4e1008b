use Rattle.std.proofs.Common.{◌≡◌, ◌∙◌, sym, ap, subst, List, ◌++◌}
use Rattle.mac_layout.specs.Addresses.{first_address}
use Rattle.mac_source.specs.declared.pieces.Piece.{Piece}
use Rattle.mac_source.specs.Pieces.{ArePlaced, pieces_of}
use Rattle.mac_source.specs.Sources.{lines_text, source_with, style_with}
use Rattle.mac_source.specs.Marks.{assembled, marked_by}
use Rattle.mac_source.proofs.PieceLemmas.{are_placed}
use Rattle.mac_source.proofs.LineLemmas.{text_is, text_assembles}
use Rattle.mac_source.proofs.sources.source_of.Goals as goal

pub push_lines-requires-clause-placed : goal.push_lines-requires-clause-placed
push_lines-requires-clause-placed c =
    subst (λ (ps : List Piece). ArePlaced ps) (sym (c.as_slice-4.ensures.value ∙ c.in_ok-pieces.ensures))
    (subst (λ ws. ArePlaced (pieces_of c.args.shown.blocks c.args.shown.texts (marked_by c.as_slice.result.now) ws)) (sym c.as_slice-2.ensures.value)
    (are_placed c.args.shown.blocks c.args.shown.texts (marked_by c.as_slice.result.now) 0 c.args.image.now.words.items c.requires.image.rises))

pub returns-clause-text : goal.returns-clause-text
returns-clause-text c =
    let image = assembled c.args.image.now in
    let start = c.args.image.now.start in
    let how = c.args.shown in
    let marks = c.in_ok-marks.marks.items in
    let made : c.as_slice-4.result.now ≡ pieces_of how.blocks how.texts (marked_by marks) image.words =
    c.as_slice-4.ensures.value
    ∙ (c.in_ok-pieces.ensures
    ∙ (ap (λ l. pieces_of how.blocks how.texts (marked_by l) c.as_slice-2.result.now) c.as_slice.ensures.value
    ∙ ap (λ l. pieces_of how.blocks how.texts (marked_by marks) l) c.as_slice-2.ensures.value)) in
    let written : c.push_lines.new.out.items ≡ source_with (style_with (marked_by marks) how) image =
    c.in_ok-push_lines.ensures
    ∙ (ap (λ l. l ++ lines_text (style_with (marked_by c.as_slice-3.result.now) how) start first_address c.as_slice-4.result.now) c.new-text.ensures.items
    ∙ (ap (λ l. lines_text (style_with (marked_by l) how) start first_address c.as_slice-4.result.now) c.as_slice-3.ensures.value
    ∙ ap (λ l. lines_text (style_with (marked_by marks) how) start first_address l) made)) in
    text_is how image marks c.push_lines.new.out.items c.requires.image c.in_ok-marks.ensures.marks written

pub returns-clause-assembles : goal.returns-clause-assembles
returns-clause-assembles c =
    text_assembles c.args.shown (assembled c.args.image.now) c.push_lines.new.out.items c.requires.image c.requires.fit (returns-clause-text c)
