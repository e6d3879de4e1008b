use Rattle.std.proofs.Common.{◌≡◌, ◌+◌, subst, drop, List, arith, true}
use Rattle.std.proofs.lemmas.Grind.{common_steps}
use Rattle.lock_queue.specs.declared.want.Want.{Want}
use Rattle.key_queues.specs.Tables.{is_there}
use Rattle.lock_table.specs.Changing.{IsExtending}
use Rattle.lock_table.proofs.Writing.{extending_more, extending_none}
use Rattle.lock_table.proofs.Faults.{rest_is}
use Rattle.lock_table.proofs.Entries.{flipped_then, wanting_before}
use Rattle.lock_table.proofs.table.Table.extend_all.Goals as goal

pub loop-c-preserved-in_default : goal.loop-c-preserved-in_default
loop-c-preserved-in_default g c =
    let t = c.loop-c.self in
    let s = c.args.self.now in
    let rest = rest_is c.args.changes.now c.loop-c.c-index c.c-item.result (omega (arith, c.loop-c-test.true)) c.c-item.is in
    record {
      between = c.loop-c.invariant.between;
      extended =
          extending_none s.store t.store s.keys t.keys c.c-item.result (drop (c.loop-c.c-index + 1) c.args.changes.now)
          c.loop-c.invariant.between.kept
          (subst (λ (l : List Want). IsExtending s.store t.store s.keys t.keys l) rest c.loop-c.invariant.extended) (c.find.ensures.none c.in_default.is);
      flips = c.loop-c.invariant.flips;
    }

pub loop-c-preserved : goal.loop-c-preserved
loop-c-preserved g c =
    let t = c.loop-c.self in
    let u = c.extend.new.self in
    let s = c.args.self.now in
    let rest = rest_is c.args.changes.now c.loop-c.c-index c.c-item.result (omega (arith, c.loop-c-test.true)) c.c-item.is in
    let both =
    extending_more s.store t.store u.store s.keys t.keys u.keys c.c-item.result (drop (c.loop-c.c-index + 1) c.args.changes.now) c.in-Some.n
    c.loop-c.invariant.between (subst (λ (l : List Want). IsExtending s.store t.store s.keys t.keys l) rest c.loop-c.invariant.extended)
    c.in-Some.ensures.found c.extend.ensures.extended c.extend.ensures.full in
    record {
      between = both.0;
      extended = both.1;
      flips =
          flipped_then s.store t.store u.store s.flips t.flips u.flips
          (λ x h. wanting_before t.store u.store x (λ there. (subst (λ l. is_there x l ≡ true) c.extend.ensures.extended.order there, c.extend.ensures.extended.at x)) h)
          c.loop-c.invariant.flips c.extend.ensures.flips;
    }

pub extend-requires : goal.extend-requires
extend-requires g c = grind (arith, c.loop-c.invariant, c.in-Some.ensures)

pub returns-clause-extended : goal.returns-clause-extended
returns-clause-extended g c = grind (arith, common_steps)
