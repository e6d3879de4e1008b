use Rattle.std.proofs.Common.{◌≢◌, ◌∙◌, subst}
use Rattle.tty_lines.specs.Rings.{no_characters}
use Rattle.job_order_laws.specs.Places.{rings_of}
use Rattle.state_search.specs.declared.breadth_first.Outcome.{Outcome}
use Rattle.state_search.specs.Found.{IsAnswer}
use Rattle.job_moves.specs.Moves.{next}
use Rattle.job_orders.specs.declared.kept.KeptState.{KeptState}
use Rattle.job_orders.specs.Systems.{IsSoundState, shown_by}
use Rattle.job_orders.proofs.Answering.{all-looked, begins, few-jobs, more-states}
use Rattle.job_orders.proofs.Starting.{awake-is, lines-are, lines-long}
use Rattle.job_orders.proofs.looking.look.Goals as goal

pub busy_line_of-requires : goal.busy_line_of-requires
busy_line_of-requires g c =
    lines-long c.args.system c.args.blocks c.requires.blocks c.into_world-world.ensures.sound.safe c.into_world-world.result c.in_ok-start.start
    c.into_world-world.ensures.world c.in_ok-start.ensures.begun

pub settle-requires-clause-awake : goal.settle-requires-clause-awake
settle-requires-clause-awake g c =
    awake-is c.args.system c.args.blocks c.requires.blocks c.into_world-world.ensures.sound.safe c.into_world-world.result c.in_ok-start.start
    c.into_world-world.ensures.world c.in_ok-start.ensures.begun

pub new-begun-requires : goal.new-begun-requires
new-begun-requires g c =
    begins c.args.system c.args.blocks c.requires.blocks c.into_world-world.ensures.sound.safe c.into_world-world.result c.in_ok-start.start
    c.into_world-world.ensures.world c.in_ok-start.ensures.begun c.args.most_turns c.count_jobs-count.result c.settle.new.self
    c.count_jobs-count.ensures.highest c.in_ok-settle.ensures.settled c.count_jobs-count.ensures.size (c.busy_line_of.ensures.none c.in_default.is)
    c.into_world-world.ensures.sound.well c.count_jobs-count.ensures.shared c.requires.some

pub returns-in-Some : goal.returns-in-Some
returns-in-Some g c = (
  c.in-Some.ensures.some.0,
  subst (λ l. rings_of l c.in-Some.line ≢ no_characters)
      (lines-are c.args.system c.args.blocks c.requires.blocks c.into_world-world.ensures.sound.safe c.into_world-world.result c.in_ok-start.start
      c.into_world-world.ensures.world c.in_ok-start.ensures.begun)
      c.in-Some.ensures.some.1,
)

pub report_on-requires-clause-few : goal.report_on-requires-clause-few
report_on-requires-clause-few g c =
    few-jobs c.args.system c.args.blocks c.requires.blocks c.into_world-world.ensures.sound.safe c.into_world-world.result c.in_ok-start.start
    c.into_world-world.ensures.world c.in_ok-start.ensures.begun c.args.most_turns c.count_jobs-count.result c.settle.new.self
    c.count_jobs-count.ensures.highest c.in_ok-settle.ensures.settled c.search.new.system.start
    (c.in_ok-outcome.ensures.extends.begun ∙ c.new-orders.ensures ∙ c.new-begun.ensures) c.args.most_states

pub returns-in-All : goal.returns-in-All
returns-in-All g c =
    let P : Outcome KeptState → Type 0 =
    λ o. IsAnswer c.search.new.system.start.count (next c.search.new.system.start.most c.search.new.system.start.count)
    (shown_by c.search.new.system.start c.search.new.system.tables) c.search.new.system.start.state
    (IsSoundState c.search.new.system.start c.search.new.system.machine c.search.new.system.tables) c.args.most_states o in
    let answer = subst P c.in-All.is c.in_ok-outcome.ensures.answer in
    all-looked c.args.system c.args.blocks c.requires.blocks c.into_world-world.ensures.sound.safe c.into_world-world.result c.in_ok-start.start
    c.into_world-world.ensures.world c.in_ok-start.ensures.begun c.args.most_turns c.count_jobs-count.result c.settle.new.self
    c.count_jobs-count.ensures.highest c.in_ok-settle.ensures.settled c.search.new.system.start
    (c.in_ok-outcome.ensures.extends.begun ∙ c.new-orders.ensures ∙ c.new-begun.ensures) c.args.most_states c.search.new.system.machine
    c.search.new.system.tables c.in-All.kept.states.keys c.in-All.kept.origins.items c.in_ok-looked-in-All.looked answer.0 answer.1
    c.in_ok-looked-in-All.ensures

pub returns : goal.returns
returns g c =
    let P : Outcome KeptState → Type 0 =
    λ o. IsAnswer c.search.new.system.start.count (next c.search.new.system.start.most c.search.new.system.start.count)
    (shown_by c.search.new.system.start c.search.new.system.tables) c.search.new.system.start.state
    (IsSoundState c.search.new.system.start c.search.new.system.machine c.search.new.system.tables) c.args.most_states o in
    let answer = subst P c.in-GaveUp.is c.in_ok-outcome.ensures.answer in (
      answer.0,
      more-states c.args.system c.args.blocks c.requires.blocks c.into_world-world.ensures.sound.safe c.into_world-world.result
          c.in_ok-start.start c.into_world-world.ensures.world c.in_ok-start.ensures.begun c.args.most_turns c.count_jobs-count.result c.settle.new.self
          c.count_jobs-count.ensures.highest c.in_ok-settle.ensures.settled c.search.new.system.start
          (c.in_ok-outcome.ensures.extends.begun ∙ c.new-orders.ensures ∙ c.new-begun.ensures) c.args.most_states answer.1,
    )
