use Rattle.std.proofs.Common.{◌≡◌, ◌≤◌, ◌+◌, ◌-◌, ◌∙◌, sym, ap, refl, arith}
use Rattle.machine.specs.Machine.{S}
use Rattle.ddt_timeline.specs.Runs.{some_go_on}
use Rattle.ddt_timeline.proofs.AskingLemmas.{asked_more, asked_so_far, no_stop_by, watched_by}
use Rattle.ddt_timeline.proofs.AtOnce.{at_once, none_behind}
use Rattle.ddt_timeline.proofs.GoingOn.{going_behind}
use Rattle.ddt_timeline.proofs.RunLemmas.{noted_on}
use Rattle.ddt_timeline.proofs.stops.run_until.Goals as goal

pub loop-next-preserved : goal.loop-next-preserved
loop-next-preserved g c =
    let none_yet = c.loop-next.invariant.none_yet (c.may_go_on.ensures.stop c.loop-next-test.true) in
    let few = c.may_go_on.ensures.few c.loop-next-test.true in
    let x =
    at_once c.args.machine.now c.args.stops.now c.loop-next.stops c.loop-next.ran.made c.make_rounds-ends.result.0.made c.loop-next.machine
    c.make_rounds-ends.new.machine c.make_rounds-ends.result.0.job c.first_met-ran.result c.args.addresses.now c.loop-next.invariant.state
    c.loop-next.invariant.stood c.make_rounds-ends.ensures.state c.make_rounds-ends.ensures.next c.make_rounds-ends.ensures.least
    (λ (two : 2 ≤ c.make_rounds-ends.result.0.made).
    c.most_at_once-at_once.ensures.many (c.most_next-next.ensures.many (omega (arith, two, c.make_rounds-ends.ensures.most))))
    c.make_rounds-ends.ensures.between c.first_met-ran.ensures in
    record {
      few = omega (arith, few, c.most_next-next.ensures.most, c.make_rounds-ends.ensures.most);
      state = x.state;
      none_over = x.none_over none_yet;
      none_yet =
          λ none.
          none_behind c.args.machine.now c.args.stops.now c.loop-next.ran.made c.make_rounds-ends.result.0.made c.loop-next.machine
          c.make_rounds-ends.new.machine c.first_met-ran.result x none none_yet;
      last = λ _. x.last;
      nothing = λ none. absurd (omega (arith, none, c.make_rounds-ends.ensures.least));
      quiet = no_stop_by c.make_rounds-ends.result.1 _ c.first_met-ran.result c.is_ended_by.ensures;
      going =
          going_behind c.args.machine.now c.loop-next.machine c.loop-next.ran.made c.make_rounds-ends.result.0.made
          c.make_rounds-ends.result.0.job c.args.addresses.now c.loop-next.invariant.state c.make_rounds-ends.ensures.next
          (λ (two : 2 ≤ c.make_rounds-ends.result.0.made).
          c.loop-next.invariant.ready (c.most_next-next.ensures.ready (omega (arith, two, c.make_rounds-ends.ensures.most))))
          (c.may_go_on.ensures.going c.loop-next-test.true) c.make_rounds-ends.ensures.between c.loop-next.invariant.going;
      ready = c.can_run_again-is_ready.ensures;
      watched = λ ended. watched_by _ c.make_rounds-ends.result.1 _ c.first_met-ran.result c.is_ended_by.ensures ended c.make_rounds-ends.ensures.quiet;
      fresh = λ none. absurd (omega (arith, none, c.make_rounds-ends.ensures.least));
      asked =
          λ watched _.
          let one : c.make_rounds-ends.result.0.made ≡ 1 = c.make_rounds-ends.ensures.one watched in
          let before : c.loop-next.ran.made + c.make_rounds-ends.result.0.made - 1 ≡ c.loop-next.ran.made = omega (arith, one) in
          asked_more g.W.Watch.Asks c.args.machine.now c.args.watch.now c.loop-next.watch c.make_rounds-ends.new.watch c.loop-next.machine
          c.loop-next.ran.made _ c.first_met-ran.result c.make_rounds-ends.result.1 _ before c.loop-next.invariant.state
          (asked_so_far g.W.Watch.Asks c.args.machine.now c.args.watch.now c.loop-next.watch c.loop-next.ran.made c.loop-next.ran.stop
          c.loop-next.ran.by_watch (c.may_go_on.ensures.stop c.loop-next-test.true) (c.may_go_on.ensures.quiet c.loop-next-test.true)
          c.loop-next.invariant.fresh (c.loop-next.invariant.asked watched))
          (c.make_rounds-ends.ensures.asked watched) c.is_ended_by.ensures;
      stood =
          noted_on c.args.stops.now c.loop-next.stops _ c.loop-next.machine c.make_rounds-ends.new.machine c.loop-next.invariant.stood
          c.note_stood-in-loop-next.ensures;
    }

pub returns-clause-run : goal.returns-clause-run
returns-clause-run g c = record {
  most = c.loop-next.invariant.few;
  none_over = c.loop-next.invariant.none_over;
  last = c.loop-next.invariant.last;
  nothing = c.loop-next.invariant.nothing;
  quiet = c.loop-next.invariant.quiet;
  going = c.loop-next.invariant.going;
  ends =
      λ few none quiet.
      ap (λ (s : S). some_go_on s) (sym c.loop-next.invariant.state)
      ∙ c.may_go_on.ensures.ends c.loop-next-test.false few none quiet;
}

pub returns-clause-asked : goal.returns-clause-asked
returns-clause-asked g c = λ looks some. c.loop-next.invariant.asked (c.looks_at_rounds-is_watched.ensures ∙ looks) some
