use Rattle.std.proofs.Common.{◌≡◌, ◌+◌, ◌-◌, ◌∷◌, length, take, drop, ap, sym, subst, true, ◌∙◌, eq-eqb, arith}
use Rattle.std.specs.List.{list_all}
use Rattle.std.specs.Str.Lines.{lines, strip_carriage_return}
use Rattle.std.proofs.lemmas.Bool.{eqb-true}
use Rattle.std.proofs.lemmas.List.{take_rest}
use Rattle.mac_text.proofs.LineLemmas.{lines_at, lines_last, parts_pass, front_passes}
use Rattle.mac_text.proofs.source.split_line.Goals as goal

pub returns-in-Some-clause-line : goal.returns-in-Some-clause-line
returns-in-Some-clause-line c =
    let text = c.args.text.now in
    let i = c.in-Some.i in
    let found = c.in-Some.ensures in
    lines_at text i found.0.high (λ k h e. found.0.before k (omega arith) h (eq-eqb _ _ e)) (eqb-true _ _ found.1)
    ∙ ap (λ l. strip_carriage_return (take i text) ∷ lines l) (sym (take_rest text (i + 1)))
    ∙ ap (λ l. l ∷ lines (take (length text - (i + 1)) (drop (i + 1) text))) (sym c.without_carriage_return.ensures)

pub returns-in-Some-clause-front : goal.returns-in-Some-clause-front
returns-in-Some-clause-front c = λ p h. subst (λ l. list_all p l ≡ true) (sym c.without_carriage_return.ensures) (front_passes p c.in-Some.i c.args.text.now h)

pub returns-in-Some-clause-back : goal.returns-in-Some-clause-back
returns-in-Some-clause-back c =
    λ p h. subst (λ l. list_all p l ≡ true) (sym (take_rest c.args.text.now (c.in-Some.i + 1)))
    (parts_pass p (c.in-Some.i + 1) c.args.text.now h).1

pub returns-in-None-clause-line : goal.returns-in-None-clause-line
returns-in-None-clause-line c =
    let text = c.args.text.now in
    lines_last text c.requires (λ k h e. c.in-None.ensures k (omega arith) h (eq-eqb _ _ e))
    ∙ ap (λ l. text ∷ lines l) (sym (take_rest text (length text)))
