use Rattle.std.proofs.Common.{◌≡◌, ◌∙◌, sym, ap, refl, true, ◌∷◌, [], ◌++◌, map}
use Rattle.std.specs.Map.{keys_of}
use Rattle.mac_layout.specs.Addresses.{are_apart}
use Rattle.mac_layout.specs.LaidOut.{literal_size}
use Rattle.mac_layout.proofs.LayoutLemmas.{with_labels_stands}
use Rattle.mac_layout.proofs.layout.Progress.lay_out_labels.Goals as goal

pub returns : goal.returns
returns c = λ s m.
    let now = c.args.self.now in
    let line = c.args.line.now in
    let new : c.in_ok-define.field-0 ≡ true = c.if-not-branch.false in
    let apart : true ≡ are_apart (keys_of s.labels ++ line.labels) =
    sym new ∙ c.in_ok-define.ensures.new (ap (λ l. are_apart (keys_of l)) m.labels ∙ m.apart)
    ∙ ap (λ l. are_apart (keys_of l ++ c.as_slice.result.now)) m.labels ∙ ap (λ l. are_apart (keys_of s.labels ++ l)) c.as_slice.ensures in (
      apart,
      λ h. with_labels_stands now _ s line m (sym apart)
          (c.in_ok-define.ensures.defined new ∙ ap (λ l. now.labels.entries ++ map (λ name. (name, now.address)) l) c.as_slice.ensures)
          refl
          (c.in_ok-push.ensures.items ∙ ap (λ p. now.addresses.items ++ p ∷ []) c.in_ok-try_clone.ensures)
          refl
          (c.in_ok-measure.ensures ∙ ap (λ l. now.sizes.items ++ map (literal_size c.define.new.labels.entries now.address) l) c.as_slice-2.ensures),
    )
