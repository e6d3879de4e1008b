use Rattle.std.proofs.Common.{◌≡◌, ◌∙◌, ℕ, List, sym, ap, drop, is_some, length}
use Rattle.ddt_commands.specs.Lines.{comparison_in}
use Rattle.ddt_commands.proofs.TextLemmas.{place_on}
use Rattle.ddt_commands.proofs.breakpoints.comparison_place.Goals as goal

pub places-preserved : goal.places-preserved
places-preserved c =
    sym (place_on (λ (i : ℕ). is_some (comparison_in (drop i c.args.text.now))) c.places.i (length c.args.text.now) c.places-test.true
    (sym (c.is_some.ensures ∙ c.comparison.ensures.found ∙ ap (λ (t : List ℕ). is_some (comparison_in t)) c.behind.ensures) ∙ c.if-is_some.false))
    ∙ c.places.invariant
