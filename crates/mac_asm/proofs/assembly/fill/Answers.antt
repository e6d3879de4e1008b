use Rattle.std.proofs.Common.{Err, sym, ap, refl, ◌∙◌}
use Rattle.std.proofs.Math.Path.{subst}
use Rattle.std.proofs.lemmas.Result.{err_from_is_err_and}
use Rattle.mac_asm.specs.Outcome.{lines_with, outcome_placed}
use Rattle.mac_asm.specs.Filled.{Assembles}
use Rattle.mac_asm.proofs.ImageLemmas.{outcome_filled, outcome_fails}
use Rattle.mac_asm.proofs.assembly.fill.Goals as goal

pub returns-in_err-start : goal.returns-in_err-start
returns-in_err-start c =
    let lines = lines_with c.args.labels.now.entries c.args.addresses.now c.args.literals.now c.args.lines.now in
    let told = err_from_is_err_and c.from_residual-in_err-start.result c.from_residual-in_err-start.ensures.1 in
    subst (λ r. Assembles r (outcome_placed lines)) (sym (told.1 ∙ ap Err told.2))
    (outcome_fails c.in_err-start.field-0.0 lines c.in_ok-with_room.field-0 c.put_lines.new.self.cells c.in_err-start.ensures)

pub returns : goal.returns
returns c =
    outcome_filled 262144 c.in_ok-start.start
    (lines_with c.args.labels.now.entries c.args.addresses.now c.args.literals.now c.args.lines.now) c.in_ok-with_room.field-0
    c.put_lines.new.self.cells c.in_ok-words.field-0.items refl c.in_ok-with_room.ensures c.in_ok-start.ensures
    c.in_ok-words.ensures
