use Rattle.std.proofs.Common.{◌≡◌, ◌<◌, ◌-◌, ◌/◌, ℕ, [], List, length, replicate, Vec, Global, sym, ap, subst, ◌∙◌, arith}
use Rattle.std.specs.List.{All, list_any}
use Rattle.lock_queue.specs.Jobs.{waits_for}
use Rattle.lock_queue.specs.Waits.{is_in_circle}
use Rattle.state_search.specs.Parts.{grown_length, part_stays}
use Rattle.lockcheck_orders.specs.declared.kept.KeptState.{KeptState}
use Rattle.lockcheck_orders.specs.declared.kept.KnownMove.{KnownMove}
use Rattle.lockcheck_orders.specs.declared.tables.Tables.{Tables}
use Rattle.lockcheck_orders.specs.Programs.{jobs_of}
use Rattle.lockcheck_orders.specs.Tables.{IsKnown, numbers_at}
use Rattle.lockcheck_orders.proofs.Learnt.{first-shown, first-sound}
use Rattle.lockcheck_orders.proofs.Numbers.{vector-stored}
use Rattle.lockcheck_orders.proofs.orders.OrdersMoves.first_state.Goals as goal

pub returns-clause-first : goal.returns-clause-first
returns-clause-first c =
    let lines = c.args.self.now.programs.now in
    let v1 = c.number_of.new.self in
    let v2 = c.number_of-2.new.self in
    let v3 = c.number_of-3.new.self in
    let a = c.in_ok-requests.requests in
    let f = c.in_ok-front.front in
    let b = c.in_ok-back.back in
    let sa = c.in_ok-requests.ensures.stored in
    let sf = c.in_ok-front.ensures.stored in
    let sb = c.in_ok-back.ensures.stored in
    let seen : Vec ℕ Global → List ℕ = λ v. v.items in
    let t : Tables = record { requests = c.args.self.now.tables.requests; vectors = c.number_of-3.new.self; known = c.in_ok-self.field-0 } in
    let x : KeptState =
    record { requests = c.in_ok-requests.requests; front = c.in_ok-front.front; back = c.in_ok-back.back; circle = c.in_ok-circle.circle } in
    first-shown lines t x
    (part_stays seen [] v2 v3 a c.in_ok-back.ensures.grown (grown_length v1 v2 c.in_ok-front.ensures.grown a c.in_ok-requests.ensures.within)
    ∙ part_stays seen [] v1 v2 a c.in_ok-front.ensures.grown c.in_ok-requests.ensures.within
    ∙ vector-stored v1 a c.new-2.result sa.0 sa.1 sa.2 ∙ c.new-2.ensures.items)
    (part_stays seen [] v2 v3 f c.in_ok-back.ensures.grown c.in_ok-front.ensures.within
    ∙ vector-stored v2 f c.in_ok-from_elem.field-0 sf.0 sf.1 sf.2 ∙ c.in_ok-from_elem.ensures.items_if_clones_equal (λ y e. e)
    ∙ ap (λ js. replicate (length js / 2) 0) c.jobs-count.ensures.value)
    (vector-stored v3 b c.in_ok-from_elem-2.field-0 sb.0 sb.1 sb.2 ∙ c.in_ok-from_elem-2.ensures.items_if_clones_equal (λ y e. e)
    ∙ ap (λ js. replicate (length js - length js / 2) 0) c.jobs-count.ensures.value)

pub returns-clause-sound : goal.returns-clause-sound
returns-clause-sound c =
    let lines = c.args.self.now.programs.now in
    let v1 = c.number_of.new.self in
    let v2 = c.number_of-2.new.self in
    let v3 = c.number_of-3.new.self in
    let a = c.in_ok-requests.requests in
    let f = c.in_ok-front.front in
    let b = c.in_ok-back.back in
    let sa = c.in_ok-requests.ensures.stored in
    let sf = c.in_ok-front.ensures.stored in
    let sb = c.in_ok-back.ensures.stored in
    let seen : Vec ℕ Global → List ℕ = λ v. v.items in
    let t : Tables = record { requests = c.args.self.now.tables.requests; vectors = c.number_of-3.new.self; known = c.in_ok-self.field-0 } in
    let x : KeptState =
    record { requests = c.in_ok-requests.requests; front = c.in_ok-front.front; back = c.in_ok-back.back; circle = c.in_ok-circle.circle } in
    let Q : List KnownMove → Type 0 =
    λ calls. All
    (IsKnown c.args.self.now.programs.now
    (record { requests = c.args.self.now.tables.requests; vectors = c.number_of-3.new.self; known = c.in_ok-self.field-0 }))
    calls in
    first-sound lines t x
    (record {
      requests = c.len.ensures.unique;
      vectors = c.in_ok-back.ensures.unique;
      known = subst Q (sym c.in_ok-self.ensures.items) (λ k d l. absurd (omega arith));
    })
    (grown_length v2 v3 c.in_ok-back.ensures.grown a (grown_length v1 v2 c.in_ok-front.ensures.grown a c.in_ok-requests.ensures.within))
    (grown_length v2 v3 c.in_ok-back.ensures.grown f c.in_ok-front.ensures.within) c.in_ok-back.ensures.within
    (part_stays seen [] v2 v3 a c.in_ok-back.ensures.grown (grown_length v1 v2 c.in_ok-front.ensures.grown a c.in_ok-requests.ensures.within)
    ∙ part_stays seen [] v1 v2 a c.in_ok-front.ensures.grown c.in_ok-requests.ensures.within
    ∙ vector-stored v1 a c.new-2.result sa.0 sa.1 sa.2 ∙ c.new-2.ensures.items)
    (part_stays seen [] v2 v3 f c.in_ok-back.ensures.grown c.in_ok-front.ensures.within
    ∙ vector-stored v2 f c.in_ok-from_elem.field-0 sf.0 sf.1 sf.2 ∙ c.in_ok-from_elem.ensures.items_if_clones_equal (λ y e. e)
    ∙ ap (λ js. replicate (length js / 2) 0) c.jobs-count.ensures.value)
    (vector-stored v3 b c.in_ok-from_elem-2.field-0 sb.0 sb.1 sb.2 ∙ c.in_ok-from_elem-2.ensures.items_if_clones_equal (λ y e. e)
    ∙ ap (λ js. replicate (length js - length js / 2) 0) c.jobs-count.ensures.value)
    (c.in_ok-circle.ensures ∙ ap (λ d. list_any (is_in_circle (waits_for d)) (jobs_of lines)) c.in_ok-new.ensures)
