use Rattle.std.proofs.Common.{◌≡◌, ◌<◌, Option, Some, None, IfSome, length, filter, refl, ap, subst, ◌∙◌}
use Rattle.state_search.specs.declared.witnesses.Witness.{Witness}
use Rattle.state_search.specs.Searched.{seen_of, way}
use Rattle.state_search.specs.Witnesses.{IsWitness}
use Rattle.lock_queue.specs.Jobs.{waits_for}
use Rattle.lock_queue.specs.Waits.{is_in_circle}
use Rattle.lockcheck_orders.specs.Circles.{has_circle, circle_jobs}
use Rattle.lockcheck_orders.specs.Orders.{first_state}
use Rattle.lockcheck_orders.specs.NormalOrders.{next_normal}
use Rattle.lockcheck_orders.specs.declared.verdicts.Verdict.{Verdict}
use Rattle.lockcheck_orders.specs.declared.kept.KeptState.{KeptState}
use Rattle.std.specs.List.{list_all}
use Rattle.lockcheck_orders.specs.Packing.{came_from_some, unpacked}
use Rattle.lockcheck_orders.specs.Tables.{IsSoundState, form_of}
use Rattle.lockcheck_orders.specs.Programs.{jobs_of}
use Rattle.lockcheck_orders.proofs.Found.{sound-at, verdict-some}
use Rattle.lockcheck_orders.proofs.NormalFound.{circles}
use Rattle.lockcheck_orders.proofs.verdicts.find_circle.Goals as goal

pub returns : goal.returns
returns c =
    let lines = c.args.orders.now.programs.now in
    let t = c.args.orders.now.tables in
    let shown = λ (x : KeptState). unpacked lines (form_of t x) in
    let items = c.args.kept.now.states.keys in
    let origins = c.args.kept.now.origins.items in
    let P : Option Witness → Type 0 =
    λ o. IfSome o (λ w. (w.position < length items) × (w.moves.items ≡ way (seen_of shown (first_state lines) items origins) w.position w.position)) in
    let Q : Option Witness → Type 0 =
    λ o. IsWitness (length (jobs_of c.args.orders.now.programs.now)) (next_normal c.args.orders.now.programs.now) (first_state c.args.orders.now.programs.now)
    (has_circle c.args.orders.now.programs.now) o in
    let position = subst P c.in-Some.is c.in_ok-found.ensures.position in
    let witness = subst Q c.in-Some.is c.in_ok-found.ensures.witness in
    let v : Verdict = record { moves = c.in-Some.witness.moves; jobs = c.in_ok-jobs.jobs } in
    circles lines (Some v)
    (verdict-some lines shown (has_circle lines) (circle_jobs lines) items origins c.requires.whole c.in-Some.witness c.state.result.now
    c.state.ensures position.0 position.1 witness v refl
    (c.in_ok-jobs.ensures ∙ ap (λ r. filter (is_in_circle (waits_for r)) (jobs_of lines)) c.set_state_out.ensures))

pub returns-in_default : goal.returns-in_default
returns-in_default c =
    let Q : Option Witness → Type 0 =
    λ o. IsWitness (length (jobs_of c.args.orders.now.programs.now)) (next_normal c.args.orders.now.programs.now) (first_state c.args.orders.now.programs.now)
    (has_circle c.args.orders.now.programs.now) o in
    circles c.args.orders.now.programs.now None (subst Q c.in_default.is c.in_ok-found.ensures.witness)

pub set_state_out-requires-clause-kept : goal.set_state_out-requires-clause-kept
set_state_out-requires-clause-kept c =
    let P : KeptState → Type 0 = λ x. IsSoundState c.args.orders.now.programs.now c.args.orders.now.tables x in
    (sound-at P c.args.kept.now.states.keys c.in-Some.witness.position c.state.result.now c.requires.sound c.state.ensures).kept

pub circle_jobs-requires : goal.circle_jobs-requires
circle_jobs-requires c =
    let P : KeptState → Type 0 = λ x. IsSoundState c.args.orders.now.programs.now c.args.orders.now.tables x in
    ap (list_all (came_from_some c.args.orders.now.programs.now)) c.set_state_out.ensures
    ∙ (sound-at P c.args.kept.now.states.keys c.in-Some.witness.position c.state.result.now c.requires.sound c.state.ensures).kept.met.come
