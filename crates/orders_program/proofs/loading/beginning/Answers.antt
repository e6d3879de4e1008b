use Rattle.std.proofs.Common.{◌≡◌, ◌∙◌, ◌++◌, ◌∷◌, [], ap, arith}
use Rattle.run_record.specs.Pieces.{events_in}
use Rattle.run_record.specs.declared.happened.RunEvent.TheVariants.{Typed}
use Rattle.orders_program.specs.Begun.{logins, starts}
use Rattle.orders_program.proofs.Begun.{no-logins, none-started, one-login, one-start}
use Rattle.orders_program.proofs.loading.beginning.Goals as goal

pub loop-line-init : goal.loop-line-init
loop-line-init c = ap events_in c.new-events.ensures ∙ no-logins

pub loop-line-preserved : goal.loop-line-preserved
loop-line-preserved c =
    one-login c.loop-line.line (events_in c.loop-line.events) (events_in c.add.new.self) c.loop-line.invariant c.in_ok-add.ensures

pub loop-line-2-init : goal.loop-line-2-init
loop-line-2-init c =
    let end : c.loop-line.line ≡ c.args.count = omega arith in
    none-started (events_in c.loop-line.events) ∙ ap (λ es. es ++ starts 0) (c.loop-line.invariant ∙ ap logins end)

pub loop-line-2-preserved : goal.loop-line-2-preserved
loop-line-2-preserved c =
    one-start c.loop-line-2.line _ _ _ _ c.loop-line-2.invariant c.in_ok-add-2.ensures
    (c.in_ok-add-3.ensures
    ∙ ap (λ n. events_in c.add-in-loop-line-2.new.self ++ Typed c.loop-line-2.line n ∷ []) c.new.ensures)
