use Rattle.std.proofs.Common.{◌≡◌, ℕ, false, OnOk, subst, ap, ◌∙◌}
use Rattle.macro_stream.specs.Standing.{Text, standing, in_front, waiting_text}
use Rattle.macro_stream.specs.declared.texts.Range.{Range}
use Rattle.macro_stream.specs.declared.frames.Arguments.{Arguments}
use Rattle.macro_stream.specs.declared.frames.Rounds.{Rounds}
use Rattle.macro_stream.proofs.stream.Stream.enter_rounds.Goals as goal

abbrev shaped : Range → ℕ → Arguments → Rounds → Text
shaped range position arguments left = record { range = range; position = position; arguments = arguments; end_due = false; left = left }

pub returns-clause-front : goal.returns-clause-front
returns-clause-front c =
    let range : c.entered-frame.result.range ≡ c.args.range = ap (λ (t : Text). t.range) c.entered-frame.ensures in
    let arguments : c.entered-frame.result.arguments ≡ c.args.self.now.top.arguments = ap (λ (t : Text). t.arguments) c.entered-frame.ensures in
    let same : shaped c.entered-frame.result.range c.args.range.end c.entered-frame.result.arguments c.args.rounds
    ≡ waiting_text c.args.range c.args.self.now.top.arguments c.args.rounds =
    ap (λ (r : Range). shaped r c.args.range.end c.entered-frame.result.arguments c.args.rounds) range
    ∙ ap (λ (a : Arguments). waiting_text c.args.range a c.args.rounds) arguments in
    subst (λ (t : Text). OnOk c.put.result (standing c.put.new.self ≡ in_front c.args.self.now t)) same c.put.ensures.front
