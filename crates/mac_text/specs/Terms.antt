-- The terms of an expression and the labels of a line as they are kept, and terms as they are handed out.
use Rattle.std.specs.Prelude.{ℕ, List, [], ◌∷◌}
use Rattle.mac_text.specs.declared.syntax.Sign.{Sign}
use Rattle.mac_text.specs.declared.syntax.Sign.TheVariants.{Plus, Minus}
use Rattle.mac_text.specs.declared.syntax.Term.{Term}
use Rattle.mac_text.specs.declared.syntax.Term.TheVariants as one
use Rattle.mac_text.specs.declared.syntax.SignedTerm.{SignedTerm}
use Rattle.mac_text.specs.declared.sum.Many.{Many}
use Rattle.mac_text.specs.declared.sum.Many.TheVariants as many
use Rattle.mac_text.specs.declared.sum.Terms.{Terms}
use Rattle.mac_text.specs.declared.sum.Terms.TheVariants as kept
use Rattle.mac_text.specs.declared.labels.Held.{Held}
use Rattle.mac_text.specs.declared.labels.Held.TheVariants as held
use Rattle.mac_text.specs.declared.sum.Parts.{Parts}
use Rattle.mac_text.specs.declared.sum.Parts.TheVariants as parts

abbrev pub alone : Sign → Term → List SignedTerm
alone sign term = record { sign = sign; term = term } ∷ []

abbrev pub many_of : Many → List SignedTerm
many_of (many.Pair terms) = terms
many_of (many.Sum terms) = terms.items

abbrev pub terms_of : Terms → List SignedTerm
terms_of (kept.Number n) = alone Plus (one.Number n)
terms_of (kept.Negative n) = alone Minus (one.Number n)
terms_of (kept.Label label) = alone Plus (one.Label label)
terms_of kept.Here = alone Plus one.Here
terms_of (kept.Literal at) = alone Plus (one.Literal at)
terms_of (kept.Many terms) = many_of terms.value

abbrev pub terms_in : Parts → List SignedTerm
terms_in (parts.Number n) = alone Plus (one.Number n)
terms_in (parts.Negative n) = alone Minus (one.Number n)
terms_in (parts.Label label) = alone Plus (one.Label label)
terms_in parts.Here = alone Plus one.Here
terms_in (parts.Literal at) = alone Plus (one.Literal at)
terms_in (parts.Sum terms) = terms.now

abbrev pub labels_of : Held → List ℕ
labels_of held.Nothing = []
labels_of (held.One label) = label ∷ []
labels_of (held.Many labels) = labels.items
