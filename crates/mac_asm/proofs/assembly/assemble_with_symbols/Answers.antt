use Rattle.std.proofs.Common.{Err, Ok, ap, sym, ◌∙◌}
use Rattle.std.proofs.Math.Path.{subst}
use Rattle.std.proofs.lemmas.Result.{err_from_is_err_and}
use Rattle.mac_asm.specs.Outcome.{lines_with, outcome_placed, outcome_of}
use Rattle.mac_asm.specs.Filled.{Assembles}
use Rattle.mac_asm.specs.Symbols.{image_in}
use Rattle.mac_asm.proofs.OutcomeLemmas.{not_laid_out, told, not_read, without_end}
use Rattle.mac_asm.proofs.SymbolLemmas.{symbols_are}
use Rattle.mac_asm.proofs.assembly.assemble_with_symbols.Goals as goal

pub returns-in_err-program-clause-image : goal.returns-in_err-program-clause-image
returns-in_err-program-clause-image c =
    let error = err_from_is_err_and c.from_residual.result c.from_residual.ensures.1 in
    subst (λ r. Assembles (image_in r) (outcome_of c.args.source.now)) (sym (error.1 ∙ ap Err error.2))
    (not_read c.in_err-program.field-0.0 c.args.source.now c.in_err-program.ensures.program)

pub returns-then-not-has_end-clause-image : goal.returns-then-not-has_end-clause-image
returns-then-not-has_end-clause-image c =
    without_end c.args.source.now c.as_slice-lines.result.now (c.in_ok-program.ensures.program ∙ ap Ok (sym c.as_slice-lines.ensures))
    (sym c.has_end.ensures ∙ c.if-not-has_end.true)

pub returns-in_err-layout-clause-image : goal.returns-in_err-layout-clause-image
returns-in_err-layout-clause-image c =
    let error = err_from_is_err_and c.from_residual-in_err-layout.result c.from_residual-in_err-layout.ensures.1 in
    subst (λ r. Assembles (image_in r) (outcome_of c.args.source.now)) (sym (error.1 ∙ ap Err error.2))
    (not_laid_out c.in_err-layout.field-0.0 c.args.source.now c.as_slice-lines.result.now
    (c.in_ok-program.ensures.program ∙ ap Ok (sym c.as_slice-lines.ensures)) (sym c.has_end.ensures ∙ c.if-not-has_end.false)
    c.in_err-layout.ensures)

pub returns-in_err-image-clause-image : goal.returns-in_err-image-clause-image
returns-in_err-image-clause-image c =
    let layout = c.in_ok-layout.layout in
    let lines = c.as_slice-lines.result.now in
    let error = err_from_is_err_and c.from_residual-in_err-image.result c.from_residual-in_err-image.ensures.1 in
    subst (λ r. Assembles (image_in r) (outcome_of c.args.source.now)) (sym (error.1 ∙ ap Err error.2))
    (told (Err c.in_err-image.field-0.0) c.args.source.now lines layout
    (c.in_ok-program.ensures.program ∙ ap Ok (sym c.as_slice-lines.ensures)) (sym c.has_end.ensures ∙ c.if-not-has_end.false)
    c.in_ok-layout.ensures
    (subst
    (λ literals. Assembles (Err c.in_err-image.field-0.0)
    (outcome_placed (lines_with layout.labels.entries layout.addresses.items literals lines))) c.as_slice-2.ensures.value
    (subst
    (λ addresses. Assembles (Err c.in_err-image.field-0.0)
    (outcome_placed (lines_with layout.labels.entries addresses c.as_slice-2.result.now lines))) c.as_slice.ensures.value
    c.in_err-image.ensures)))

pub returns-clause-image : goal.returns-clause-image
returns-clause-image c =
    let layout = c.in_ok-layout.layout in
    let lines = c.as_slice-lines.result.now in
    let image = c.in_ok-image.image in
    told (Ok image) c.args.source.now lines layout (c.in_ok-program.ensures.program ∙ ap Ok (sym c.as_slice-lines.ensures))
    (sym c.has_end.ensures ∙ c.if-not-has_end.false) c.in_ok-layout.ensures
    (subst (λ literals. Assembles (Ok image) (outcome_placed (lines_with layout.labels.entries layout.addresses.items literals lines))) c.as_slice-2.ensures.value
    (subst
    (λ addresses. Assembles (Ok image) (outcome_placed (lines_with layout.labels.entries addresses c.as_slice-2.result.now lines)))
    c.as_slice.ensures.value c.in_ok-image.ensures))

pub returns-clause-symbols : goal.returns-clause-symbols
returns-clause-symbols c =
    symbols_are c.args.source.now c.as_slice-lines.result.now c.in_ok-layout.layout
    (c.in_ok-program.ensures.program ∙ ap Ok (sym c.as_slice-lines.ensures)) c.in_ok-layout.ensures
