use Rattle.std.proofs.Common.{◌≡◌, arith, length, refl, subst, sym, take}
use Rattle.std.specs.Prelude.{IsUtf8}
use Rattle.lock_queue.specs.Names.{filled_up}
use Rattle.lock_queue.proofs.Texts.{filled-written, written-utf8}
use Rattle.lock_queue.proofs.name.NameText.new.Goals as goal

pub invariant_of-result : goal.invariant_of-result
invariant_of-result c =
    let text = c.as_bytes-text.result.now in
    let is = c.copy_front.ensures in (
      omega arith,
      omega arith,
      subst (λ b. b ≡ filled_up (take (length text) b)) (sym is) (filled-written text text refl),
      subst (λ b. ∥ IsUtf8 (take (length text) b) ∥₁) (sym is) (written-utf8 text text refl c.as_bytes-text.ensures.utf8),
    )
