use Rattle.std.proofs.Common.{◌≡◌, ◌∙◌, ℕ, Vec, Global, false, true, map, subst, sym, ap}
use Rattle.std.proofs.lemmas.Bool.{false≢true}
use Rattle.std.specs.List.{Contains}
use Rattle.job_orders.specs.Endings.{ending_in, ending_of, rests}
use Rattle.job_orders.specs.Finding.{met_at}
use Rattle.job_orders.proofs.Found.{end-here, ends-stay}
use Rattle.job_orders.proofs.looking.look_for_end.Goals as goal

pub returns-then-not-is_end : goal.returns-then-not-is_end
returns-then-not-is_end c =
    let not_here : rests c.args.orders.now.start.count c.args.machine.now ≡ false =
    sym (c.is_end.ensures ∙ ap (λ n. rests n c.args.machine.now) c.count-count.ensures.count) ∙ c.if-not-is_end.true in
    ends-stay (met_at c.args.orders.now.start c.args.orders.now.tables c.args.kept.now.states.keys c.args.kept.now.origins.items)
    c.args.position c.args.machine.now c.requires.here (rests c.args.orders.now.start.count) (ending_in c.args.orders.now.start.count)
    c.args.ends.now.items c.requires.so_far (λ rest. absurd (false≢true (sym not_here ∙ rest)))

pub returns-then-is_known_end : goal.returns-then-is_known_end
returns-then-is_known_end c =
    let known : Contains (map ending_of c.as_slice.result.now) (ending_in c.count-count.result c.args.machine.now) =
    c.is_known_end.ensures.0 c.if-is_known_end.true in
    ends-stay (met_at c.args.orders.now.start c.args.orders.now.tables c.args.kept.now.states.keys c.args.kept.now.origins.items)
    c.args.position c.args.machine.now c.requires.here (rests c.args.orders.now.start.count) (ending_in c.args.orders.now.start.count)
    c.args.ends.now.items c.requires.so_far
    (λ rest.
    subst (λ n. Contains (map ending_of c.args.ends.now.items) (ending_in n c.args.machine.now)) c.count-count.ensures.count
    (subst (λ l. Contains (map ending_of l) (ending_in c.count-count.result c.args.machine.now)) c.as_slice.ensures.value known))

pub returns : goal.returns
returns c =
    let here : rests c.args.orders.now.start.count c.args.machine.now ≡ true =
    sym (c.is_end.ensures ∙ ap (λ n. rests n c.args.machine.now) c.count-count.ensures.count) ∙ c.if-not-is_end.false in
    let leaves : ending_of c.in_ok-end.end ≡ ending_in c.args.orders.now.start.count c.args.machine.now =
    c.in_ok-end.ensures.ending ∙ ap (λ n. ending_in n c.args.machine.now) c.count-count.ensures.count in
    end-here (met_at c.args.orders.now.start c.args.orders.now.tables c.args.kept.now.states.keys c.args.kept.now.origins.items)
    c.args.position c.args.machine.now c.requires.here (rests c.args.orders.now.start.count) (ending_in c.args.orders.now.start.count)
    c.args.ends.now.items c.push.new.self.items c.in_ok-end.end c.requires.so_far c.in_ok-push.ensures.items here
    (λ known. false≢true (sym c.if-is_known_end.false ∙ c.is_known_end.ensures.1
    (subst (λ l. Contains (map ending_of l) (ending_in c.count-count.result c.args.machine.now)) (sym c.as_slice.ensures.value)
    (subst (λ n. Contains (map ending_of c.args.ends.now.items) (ending_in n c.args.machine.now)) (sym c.count-count.ensures.count) known))))
    (ap (λ (v : Vec ℕ Global). v.items) c.in_ok-end.ensures.moves ∙ c.in_ok-moves.ensures) leaves
