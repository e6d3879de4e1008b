use Rattle.std.proofs.Common.{◌≡◌, ◌+◌, None, map, sym, subst, true, arith, rules}
use Rattle.queue_script.specs.Borrowed.{owned_command}
use Rattle.queue_script.specs.QueueScripts.{effect_of}
use Rattle.queue_script.specs.WellFormed.{is_well_formed}
use Rattle.queue_script.proofs.WellFormedLemmas.{line-right}
use Rattle.script_reasons.specs.QueueLines.{explanation_in, line_explanations}
use Rattle.script_reasons.proofs.LineLemmas.{explained_last, explained_next}
use Rattle.script_reasons.proofs.queue_lines.watch_lines.Goals as goal

pub do_command-requires : goal.do_command-requires
do_command-requires g c = subst (λ a. is_well_formed a ≡ true) (sym c.read_command-command.ensures) (line-right c.in-Some.line.now)

pub loop-line-preserved : goal.loop-line-preserved
loop-line-preserved g c =
    let size = g.L.LockTable.REQS in
    let rs = g.L.LockTable.requests c.loop-line.table in
    let n = c.loop-line.count in
    let command = owned_command c.read_command-command.result in
    let goes_on : None ≡ (effect_of size (n + 1) rs command).ending = search rules in
    let left : g.L.LockTable.requests c.do_command.new.table ≡ (effect_of size (n + 1) rs command).requests = c.do_command.ensures.requests (n + 1) in
    let counted : n + 1 ≡ n + 1 = omega arith in
    record {
      few = omega arith;
      explained = explained_next size n (n + 1) rs (g.L.LockTable.requests c.do_command.new.table) command c.in-Some.line.now c.loop-line.lines
          c.next.new.self (map explanation_in c.loop-line.all.items) (map explanation_in c.add_line.new.all.items) (line_explanations c.args.script.now)
          c.requires.size counted c.read_command-command.ensures c.in-Some.ensures goes_on left c.in_ok-add_line.ensures
          c.loop-line.invariant.explained;
    }

pub returns-in-Some-Done : goal.returns-in-Some-Done
returns-in-Some-Done g c =
    let size = g.L.LockTable.REQS in
    let rs = g.L.LockTable.requests c.loop-line.table in
    let n = c.loop-line.count in
    let command = owned_command c.read_command-command.result in
    let counted : n + 1 ≡ n + 1 = omega arith in
    explained_last size n (n + 1) rs command c.in-Some.line.now c.loop-line.lines
    c.next.new.self (map explanation_in c.loop-line.all.items) (map explanation_in c.add_line.new.all.items) (line_explanations c.args.script.now) _
    c.requires.size counted c.read_command-command.ensures c.in-Some.ensures c.in-Some-Done.ensures.ending c.in_ok-add_line.ensures
    c.loop-line.invariant.explained
