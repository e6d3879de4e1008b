use Rattle.std.proofs.Common.{◌≡◌, Bool, not, OnOk, subst, ap, ◌∙◌}
use Rattle.macro_stream.specs.Standing.{Text, store_of, standing, in_front, ends_with_line, entered_text}
use Rattle.macro_stream.specs.declared.texts.Range.{Range}
use Rattle.macro_stream.specs.declared.frames.Arguments.{Arguments}
use Rattle.macro_stream.specs.declared.frames.Rounds.TheVariants as rounds
use Rattle.macro_stream.specs.declared.frames.Kind.TheVariants as kinds
use Rattle.macro_stream.proofs.stream.Stream.enter_source.Goals as goal

abbrev shaped : Range → Arguments → Bool → Text
shaped range arguments due = record { range = range; position = range.start; arguments = arguments; end_due = due; left = rounds.None }

pub returns-clause-front : goal.returns-clause-front
returns-clause-front c =
    let ends : c.ends_with_line-end_due.result ≡ ends_with_line c.args.self.now.items.items c.args.range =
    c.ends_with_line-end_due.ensures ∙ ap (λ items. ends_with_line items c.args.range) c.as_slice.ensures.value in
    let same : shaped c.args.range c.args.self.now.top.arguments (not c.ends_with_line-end_due.result)
    ≡ entered_text (store_of c.args.self.now) kinds.Source c.args.range c.args.self.now.top.arguments =
    ap (λ (b : Bool). shaped c.args.range c.args.self.now.top.arguments (not b)) ends in
    subst (λ (t : Text). OnOk c.push.result (standing c.push.new.self ≡ in_front c.args.self.now t)) same c.push.ensures.front
