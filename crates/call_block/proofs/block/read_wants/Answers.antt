use Rattle.std.proofs.Common.{◌≡◌, ap, ◌∙◌, sym, subst, true, List, Ok, arith, take}
use Rattle.std.proofs.lemmas.Result.{err_from_is_err_and}
use Rattle.std.specs.List.{list_all}
use Rattle.lock_queue.specs.declared.want.Want.{Want}
use Rattle.lock_queue.specs.WellFormed.{shares_rightly}
use Rattle.call_block.proofs.WantLemmas.{more, refused, enough, unshared-push}
use Rattle.call_block.proofs.block.read_wants.Goals as goal

pub returns-in_err-want_of-clause-wants : goal.returns-in_err-want_of-clause-wants
returns-in_err-want_of-clause-wants g c =
    let p = err_from_is_err_and c.from_residual.result c.from_residual.ensures.1 in
    rw (p.1, p.2) (sym (refused _ _ _ _ _ _ _ _ _ _ _ c.loop-position-test.true c.loop-position.invariant.read c.lock_at-lock.ensures c.in_err-want_of.ensures.value))

pub returns-clause-wants : goal.returns-clause-wants
returns-clause-wants g c =
    let all : c.loop-position.position ≡ c.args.count = omega (arith, c.loop-position-test.false, c.loop-position.auto.position-end) in
    let left = c.truncate.ensures.items ∙ ap (λ n. take n c.loop-position.wants.items) (sym all) in
    ap (λ (l : List Want). Ok l) left ∙ sym (enough _ _ _ _ _ _ _ _ _ c.loop-position-test.false c.loop-position.invariant.read)

pub loop-position-preserved : goal.loop-position-preserved
loop-position-preserved g c = record {
  read = rw c.put.ensures.items (more _ _ _ _ _ _ _ _ _ _ _ c.loop-position-test.true c.loop-position.invariant.read c.lock_at-lock.ensures c.in_ok-want_of.ensures.value);
  long = c.put.ensures.long;
  unshared = let P : List Want → Type 0 = λ l. list_all shares_rightly l ≡ true in
      subst P (sym c.put.ensures.items)
      (unshared-push (take c.loop-position.position c.loop-position.wants.items) c.in_ok-want_of.field-0 c.loop-position.invariant.unshared c.in_ok-want_of.ensures.unshared);
}
