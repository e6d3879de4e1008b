use Rattle.std.proofs.Common.{◌≡◌, ◌==◌, ◌∙◌, length, vec_len, sym, ap, arith}
use Rattle.job_order_laws.specs.Turned.{V}
use Rattle.job_order_laws.specs.Choices.{requests_in}
use Rattle.job_orders.specs.Endings.{circle_in}
use Rattle.job_orders.specs.Finding.{circle_at, met_at}
use Rattle.job_orders.proofs.Found.{circle-kept, circle-with, circle-without, empty-by, some-by}
use Rattle.job_orders.proofs.looking.look_for_circle.Goals as goal

pub returns-then-is_some : goal.returns-then-is_some
returns-then-is_some c =
    circle-kept (met_at c.args.orders.now.start c.args.orders.now.tables c.args.kept.now.states.keys c.args.kept.now.origins.items)
    c.args.position c.args.machine.now c.requires.here (circle_at c.args.orders.now.start.count) c.args.circle.now
    (sym c.is_some.ensures ∙ c.if-is_some.true) c.requires.so_far

pub returns-then-is_empty : goal.returns-then-is_empty
returns-then-is_empty c =
    let is = rw (← c.machine-inside.view_is) at c.machine.view_is in
    let jobs : c.in_ok-jobs.jobs.items ≡ circle_at c.args.orders.now.start.count c.args.machine.now =
    c.in_ok-jobs.ensures ∙ ap (λ (v : V). circle_in c.count.result (requests_in v)) is
    ∙ ap (λ n. circle_in n (requests_in c.args.machine.now)) c.count.ensures.count in
    let long : vec_len c.in_ok-jobs.jobs ≡ length c.in_ok-jobs.jobs.items = omega arith in
    circle-without (met_at c.args.orders.now.start c.args.orders.now.tables c.args.kept.now.states.keys c.args.kept.now.origins.items)
    c.args.position c.args.machine.now c.requires.here (circle_at c.args.orders.now.start.count) c.args.circle.now
    (sym c.is_some.ensures ∙ c.if-is_some.false)
    (sym jobs ∙ empty-by c.in_ok-jobs.jobs.items c.is_empty.result (c.is_empty.ensures ∙ ap (λ n. n == 0) long) c.if-is_empty.true) c.requires.so_far

pub returns : goal.returns
returns c =
    let is = rw (← c.machine-inside.view_is) at c.machine.view_is in
    let jobs : c.in_ok-jobs.jobs.items ≡ circle_at c.args.orders.now.start.count c.args.machine.now =
    c.in_ok-jobs.ensures ∙ ap (λ (v : V). circle_in c.count.result (requests_in v)) is
    ∙ ap (λ n. circle_in n (requests_in c.args.machine.now)) c.count.ensures.count in
    let long : vec_len c.in_ok-jobs.jobs ≡ length c.in_ok-jobs.jobs.items = omega arith in
    circle-with (met_at c.args.orders.now.start c.args.orders.now.tables c.args.kept.now.states.keys c.args.kept.now.origins.items)
    c.args.position c.args.machine.now c.requires.here (circle_at c.args.orders.now.start.count) c.args.circle.now
    (sym c.is_some.ensures ∙ c.if-is_some.false) c.requires.so_far (record { moves = c.in_ok-moves.moves; jobs = c.in_ok-jobs.jobs })
    c.in_ok-moves.ensures jobs (some-by c.in_ok-jobs.jobs.items c.is_empty.result (c.is_empty.ensures ∙ ap (λ n. n == 0) long) c.if-is_empty.false)
