use Rattle.std.proofs.Common.{◌≡◌, ◌≤◌, ◌+◌, ◌∙◌, ℕ, List, [], None, suc, is_some, length, map, true, sym, subst, ap, arith, rules}
use Rattle.std.proofs.lemmas.Grind.{common_steps}
use Rattle.std.specs.List.{All}
use Rattle.std.specs.Str.Lines.{lines}
use Rattle.queue_script.specs.WellFormed.{is_well_formed}
use Rattle.queue_script.specs.Commands.{command_of}
use Rattle.queue_script.specs.QueueScripts.{effect_of}
use Rattle.queue_script.proofs.WellFormedLemmas.{line-right}
use Rattle.lock_bars.specs.Arrows.{HasLock, wait_of, waits_in}
use Rattle.lock_bars.specs.Courses.{has_line, requests_after}
use Rattle.lock_bars.specs.declared.arrows.Arrow.{Arrow}
use Rattle.lock_bars.specs.declared.errors.TheConstants.{MOST_LINES}
use Rattle.lock_bars.proofs.CourseLemmas.{behind_next, behind_now, columns_next, kept_next, locks_here, passed_next, seen_least, told_next}
use Rattle.wait_graph.specs.declared.graph.Graph.{Graph}
use Rattle.lock_bars.proofs.queue_course.watch_queue.Goals as goal

pub do_command-requires : goal.do_command-requires
do_command-requires g c = subst (λ a. is_well_formed a ≡ true) (sym c.read_command-command.ensures) (line-right c.in-Some.line.now)

pub returns-then-seen-ge-MOST_LINES-clause-fault : goal.returns-then-seen-ge-MOST_LINES-clause-fault
returns-then-seen-ge-MOST_LINES-clause-fault g c =
    let size = g.L.LockTable.REQS in
    let n = c.loop-line.seen.lines in
    let known = c.loop-line.invariant in
    let least = subst (λ seen. n ≤ seen.lines) known.course
    (seen_least size (g.L.LockTable.requests c.loop-line.table) n c.loop-line.lines c.loop-line.seen.bars.items) in
    let one : length c.loop-line.lines ≡ suc (length c.next.new.self) = ap length c.in-Some.ensures in
    let many : MOST_LINES ≤ n = omega arith in
    (omega (arith, least, many), omega (arith, many, one, known.count))

pub returns-in-Some-Done-clause-end : goal.returns-in-Some-Done-clause-end
returns-in-Some-Done-clause-end g c =
    c.in-Some-Done.ensures.ended
    ∙ behind_now g.L.LockTable.REQS (g.L.LockTable.requests c.loop-line.table) c.loop-line.seen.lines c.loop-line.lines (lines c.args.script.now)
    c.loop-line.invariant.behind

pub returns-clause-end : goal.returns-clause-end
returns-clause-end g c =
    behind_now g.L.LockTable.REQS (g.L.LockTable.requests c.loop-line.table) c.loop-line.seen.lines c.loop-line.lines (lines c.args.script.now)
    c.loop-line.invariant.behind

pub loop-line-preserved : goal.loop-line-preserved
loop-line-preserved g c =
    let size = g.L.LockTable.REQS in
    let requests = g.L.LockTable.requests c.loop-line.table in
    let next = g.L.LockTable.requests c.do_command.new.table in
    let n = c.loop-line.seen.lines in
    let all = lines c.args.script.now in
    let line = c.in-Some.line.now in
    let known = c.loop-line.invariant in
    let ended = c.in_ok-end_line.ensures in
    let looked = c.in_ok-look.ensures in
    let counted : c.end_line.new.self.lines ≡ n + 1 = search rules in
    let wide : length c.look.new.self.columns.items ≡ n + 1 = grind (arith, common_steps, looked.columns, known.columns) in
    let is : next ≡ (effect_of size (n + 1) requests (command_of line)).requests =
    c.do_command.ensures.requests (n + 1) ∙ ap (λ a. (effect_of size (n + 1) requests a).requests) c.read_command-command.ensures in
    let goes_on : None ≡ (effect_of size (n + 1) requests (command_of line)).ending = search rules in
    let behind = behind_next size requests next n c.end_line.new.self.lines c.loop-line.lines c.next.new.self all line c.in-Some.ensures is counted known.behind in
    let behind_this : next ≡ requests_after size (n + 1) [] 0 all =
    subst (λ i. next ≡ requests_after size i [] 0 all) counted (behind_now size next c.end_line.new.self.lines c.next.new.self all behind) in
    let columns = length c.look.new.self.columns.items in
    let waits = c.end_line.new.self.waits in
    let arrows = c.end_line.new.self.arrows.items in
    record {
      few = omega arith;
      columns = search rules;
      named = columns_next n c.end_line.new.self.lines c.loop-line.seen.columns.items c.look.new.self.columns.items c.end_line.new.self.columns.items
          c.of_line.result counted c.of_line.ensures looked.columns (ap (λ v. v.items) ended.columns) known.named;
      count = search rules;
      course = search rules;
      behind = behind;
      passed = subst (λ i. is_some c.end_line.new.self.waits ≡ has_line i c.args.at) (sym counted)
          (passed_next c.args.at n c.loop-line.seen.waits c.end_line.new.self.waits known.passed (λ apart. ended.kept apart ∙ looked.waits) ended.found);
      waits = kept_next c.args.at (λ k. requests_after size k [] 0 all) n
          columns next c.loop-line.seen.waits waits known.waits behind_this wide (λ apart. ended.kept apart ∙ looked.waits) ended.waits;
      arrows = told_next c.args.at n (λ (w : Graph × ℕ) (l : List Arrow). map wait_of l ≡ waits_in w.0) c.loop-line.seen.waits waits
          c.loop-line.seen.arrows.items arrows known.arrows (λ apart. ended.kept apart ∙ looked.waits)
          (λ apart. ap (λ v. v.items) (ended.left apart ∙ looked.arrows)) ended.arrows;
      locks = told_next c.args.at n (λ (w : Graph × ℕ) (l : List Arrow). All (HasLock (requests_after size w.1 [] 0 all)) l) c.loop-line.seen.waits waits
          c.loop-line.seen.arrows.items arrows known.locks (λ apart. ended.kept apart ∙ looked.waits)
          (λ apart. ap (λ v. v.items) (ended.left apart ∙ looked.arrows))
          (λ asked. locks_here (λ (k : ℕ). requests_after size k [] 0 all) n columns next waits arrows behind_this wide (ended.waits asked) (ended.locks asked));
    }
