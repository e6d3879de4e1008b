use Rattle.std.proofs.Common.{◌∙◌, sym, ap, refl, subst, Some}
use Rattle.mac_layout.specs.LaidOut.{taking_all}
use Rattle.mac_layout.specs.Layouts.{AreMarks}
use Rattle.mac_layout.proofs.LayoutLemmas.{if_ok_more, lays_data, lays_loc_not, lays_loc, lays_radix, lays_end, lays_title, lays_nothing}
use Rattle.mac_layout.proofs.layout.Progress.lay_out_statement.Goals as goal

pub returns-in_default : goal.returns-in_default
returns-in_default c = lays_nothing c.args.self.now c.args.statement.now c.in_default.is

pub returns-in_ok-size-in-Data : goal.returns-in_ok-size-in-Data
returns-in_ok-size-in-Data c =
    if_ok_more _ _
    (λ code. lays_data c.args.self.now c.put.new.self c.args.statement.now _ c.in_ok-size-in-Data.size code
    (c.in-Some.is ∙ ap Some c.in-Data.is) c.in_ok-size-in-Data.ensures)
    c.put.result c.put.ensures

pub returns-in-Err : goal.returns-in-Err
returns-in-Err c =
    lays_loc_not c.args.self.now _ c.args.statement.now _ c.in-Err.code (c.in-Some.is ∙ ap Some c.in-Loc.is) (sym c.in-Err.is ∙ c.in_ok-code-in-Loc.ensures)

pub returns-in-Ok : goal.returns-in-Ok
returns-in-Ok c =
    lays_loc c.args.self.now _ c.args.statement.now _ c.in-Ok.address (c.in-Some.is ∙ ap Some c.in-Loc.is) (sym c.in-Ok.is ∙ c.in_ok-code-in-Loc.ensures)
    refl refl refl refl refl

pub returns-in-Radix : goal.returns-in-Radix
returns-in-Radix c = lays_radix c.args.self.now c.args.statement.now _ c.radix_code.result (c.in-Some.is ∙ ap Some c.in-Radix.is) c.radix_code.ensures

pub returns-in-End : goal.returns-in-End
returns-in-End c =
    if_ok_more _ _
    (λ code h. lays_end c.args.self.now c.args.statement.now _ code (c.in-Some.is ∙ ap Some c.in-End.is)
    (λ past m. h past (subst (λ l. AreMarks l past) (sym c.deref.ensures.value) m) ∙ ap (taking_all past c.args.self.now.address) c.deref-in-End.ensures.value))
    c.literals_code.result c.literals_code.ensures

pub returns-in-Title : goal.returns-in-Title
returns-in-Title c = lays_title c.args.self.now c.args.statement.now (c.in-Some.is ∙ ap Some c.in-Title.is)
