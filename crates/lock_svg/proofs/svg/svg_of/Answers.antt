use Rattle.std.proofs.Common.{◌∙◌, append_assoc, string_bytes}
use Rattle.std.proofs.lemmas.Result.{IfOk-weaker}
use Rattle.lock_svg.proofs.ShapeLemmas.{is_picture}
use Rattle.lock_svg.proofs.svg.svg_of.Goals as goal

pub returns : goal.returns
returns c =
    IfOk-weaker c.format-4.result _ _
    (λ page text.
    is_picture c.args.drawing.now c.args.along c.of-frame.result c.as_str-head.result.now c.as_str-middle.result.now c.as_str-foot.result.now
    (string_bytes page) c.as_slice-columns.result.now c.as_slice.result.now c.as_slice-2.result.now c.as_slice-3.result.now
    c.as_slice-columns.ensures.value c.as_slice.ensures.value c.as_slice-2.ensures.value c.as_slice-3.ensures.value (text ∙ simp append_assoc))
    c.format-4.ensures.ok
