use Rattle.std.proofs.Common.{ℕ, Bool, ◌≡◌, ◌++◌, ◌∙◌, sym, ap, append-nil, subst, true, drop, length, filter, [], arith}
use Rattle.std.proofs.lemmas.Grind.{common_steps}
use Rattle.std.proofs.lemmas.List.{drop_all}
use Rattle.std.specs.List.{All}
use Rattle.key_queues.specs.Tables.{is_there}
use Rattle.key_queues.specs.Stores.{entry_at}
use Rattle.lock_table.specs.Departures.{is_chosen}
use Rattle.lock_table.proofs.Entries.{leavers_among, leavers_few, leavers_present}
use Rattle.lock_table.proofs.leaving.gather.Goals as goal

pub loop-p-init : goal.loop-p-init
loop-p-init g c = record {
  chosen = ap (λ l. l ++ filter (λ x. is_chosen c.args.who.now (entry_at c.args.store.now x)) c.may_be_leavers-p-items.result.now) c.clear.ensures;
  few = omega (arith, ap length c.clear.ensures);
  most = omega (arith, ap length c.may_be_leavers-p-items.ensures, leavers_few c.args.store.now c.args.who.now, c.requires.few);
  present =
      subst (All (λ x. is_there x c.args.store.now.order ≡ true)) (sym c.may_be_leavers-p-items.ensures)
      (leavers_present c.args.store.now c.args.who.now);
}

pub returns : goal.returns
returns g c =
    let t : ℕ → Bool = λ x. is_chosen c.args.who.now (entry_at c.args.store.now x) in
    let slots = c.may_be_leavers-p-items.result.now in
    let none : drop c.loop-p.p-index slots ≡ [] = drop_all c.loop-p.p-index slots (omega (arith, c.loop-p-test.false)) in
    sym (append-nil c.loop-p.leaving.items) ∙ ap (λ l. c.loop-p.leaving.items ++ filter t l) (sym none) ∙ c.loop-p.invariant.chosen
    ∙ ap (filter t) c.may_be_leavers-p-items.ensures ∙ leavers_among c.args.store.now c.args.who.now

pub loop-p-preserved : goal.loop-p-preserved
loop-p-preserved g c = grind (arith, common_steps)
