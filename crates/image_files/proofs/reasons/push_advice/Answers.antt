use Rattle.std.proofs.Common.{◌∙◌, sym, ap, ◌++◌}
use Rattle.image_files.specs.Texts.{advice_text}
use Rattle.image_files.proofs.FitLemmas.{advised}
use Rattle.image_files.proofs.reasons.push_advice.Goals as goal

pub returns-in_ok-push-in-Some : goal.returns-in_ok-push-in-Some
returns-in_ok-push-in-Some c =
    advised c.in-Some.packing c.args.out.now.items c.extend_from_slice.new.self.items c.extend_from_slice-in-Some.new.self.items
    c.push.new.self.items c.as_bytes.result.now c.in_ok-extend_from_slice-in-Some.ensures.items
    c.in_ok-extend_from_slice-in-Some-2.ensures.items c.in_ok-push-in-Some.ensures.items (c.as_bytes.ensures.value ∙ c.packing_name.ensures.name)
    ∙ ap (λ o. c.args.out.now.items ++ advice_text o) (sym c.in-Some.is)

pub returns-in_ok-extend_from_slice-in-None : goal.returns-in_ok-extend_from_slice-in-None
returns-in_ok-extend_from_slice-in-None c =
    c.in_ok-extend_from_slice-in-None.ensures.items ∙ ap (λ o. c.args.out.now.items ++ advice_text o) (sym c.in-None.is)
