use Rattle.std.proofs.Common.{◌≡◌, ◌∙◌, sym, true, false, arith}
use Rattle.lock_queue.specs.Enqueues.{are_alike}
use Rattle.lock_queue.specs.Keys.{same_key}
use Rattle.lock_queue.proofs.Lists.{all-passed, all-skipped}
use Rattle.lock_queue.proofs.among_wants.are_alike_in.Goals as goal
use Rattle.lock_queue.proofs.among_wants.are_alike_in.Goals.{else-not-is_alike-via-then-not-is_alike+else-is_same, else-not-is_alike-via-else-not-is_alike}

pub loop-v-preserved : goal.loop-v-preserved
loop-v-preserved c =
    elim c.else-not-is_alike.branch [
      | else-not-is_alike-via-then-not-is_alike+else-is_same w ↦
          let other : same_key c.v-item.result.key c.args.w.now.key ≡ false = sym w.is_same.ensures ∙ w.if-is_same.false in
          sym
          (all-skipped (λ v. are_alike v c.args.w.now) (λ v. same_key v.key c.args.w.now.key) c.args.wants.now
          c.loop-v.v-index c.v-item.result c.loop-v-test.true c.v-item.is other)
          ∙ c.loop-v.invariant
      | else-not-is_alike-via-else-not-is_alike w ↦
          let alike : are_alike c.v-item.result c.args.w.now ≡ true = grind (arith, c.is_alike.ensures, w.if-not-is_alike.false) in
          sym
          (all-passed (λ v. are_alike v c.args.w.now) (λ v. same_key v.key c.args.w.now.key) c.args.wants.now c.loop-v.v-index
          c.v-item.result c.loop-v-test.true c.v-item.is alike)
          ∙ c.loop-v.invariant
    ]
