use Rattle.std.proofs.Common.{◌≡◌, ◌∙◌, ◌++◌, sym, ap, refl, subst, length}
use Rattle.std.proofs.lemmas.List.{with_items_is}
use Rattle.mac_layout.specs.LaidOut.{taking, addresses_in}
use Rattle.mac_layout.specs.Layouts.{AreMarks}
use Rattle.mac_layout.proofs.LayoutLemmas.{with_size_stands}
use Rattle.mac_layout.proofs.layout.Progress.put.Goals as goal

pub returns-in_ok-add-in-Ok : goal.returns-in_ok-add-in-Ok
returns-in_ok-add-in-Ok c = λ s m.
    let now = c.args.self.now in
    let same : AreMarks c.deref_mut.result.now s.taken = subst (λ l. AreMarks l s.taken) (sym c.deref_mut.ensures.value) m.taken in
    let after : AreMarks c.take-code.new.taken (s.taken ++ addresses_in now.address c.in-Ok.words) = c.take-code.ensures.marks s.taken same in
    let long : length c.take-code.new.taken ≡ now.taken.len = after.all ∙ sym same.all ∙ c.deref_mut.ensures.len in
    rw c.in-Ok.is (
      c.take-code.ensures.code s.taken same ∙ ap (λ n. taking s.taken n c.in-Ok.words) m.address,
      λ h. with_size_stands now _ s c.in-Ok.words m refl c.in_ok-add-in-Ok.ensures refl
          (subst (λ l. AreMarks l (s.taken ++ addresses_in now.address c.in-Ok.words)) (sym (with_items_is now.taken c.take-code.new.taken long)) after) refl,
    )
