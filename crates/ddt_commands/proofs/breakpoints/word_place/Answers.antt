use Rattle.std.proofs.Common.{◌≡◌, ◌∙◌, sym, ap, drop, is_some, length, arith}
use Rattle.ddt_commands.specs.Lines.{is_word_at}
use Rattle.ddt_commands.proofs.TextLemmas.{here_of, place_on}
use Rattle.ddt_commands.proofs.breakpoints.word_place.Goals as goal

pub returns-then-is_word_at-clause-place : goal.returns-then-is_word_at-clause-place
returns-then-is_word_at-clause-place c =
    sym (here_of (is_word_at c.args.word.now c.args.other.now c.args.text.now) c.places.i (length c.args.text.now) c.places-test.true
    (sym c.is_word_at.ensures ∙ c.if-is_word_at.true))
    ∙ c.places.invariant

pub places-preserved : goal.places-preserved
places-preserved c =
    sym (place_on (is_word_at c.args.word.now c.args.other.now c.args.text.now) c.places.i (length c.args.text.now) c.places-test.true
    (sym c.is_word_at.ensures ∙ c.if-is_word_at.false))
    ∙ c.places.invariant
