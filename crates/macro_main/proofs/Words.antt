-- The text that an output got.
use Rattle.std.specs.Prelude.{ℕ, List, Option, IsErr}
use Rattle.mac_asm.specs.Outcome.{outcome_of}
use Rattle.macro_main.specs.declared.serving.Text.{Text}
use Rattle.macro_main.specs.declared.serving.Text.TheVariants as texts
use Rattle.macro_main.specs.Answers.{Answers, HasWords, IsRefusal, HasAnswer}

-- words of a source that an output got are an answer to it
pub has_answer : (source : List ℕ) (text : Text) (o o' : Option (List ℕ)) → Answers source text → HasWords text o o' → HasAnswer source o o'
has_answer source (texts.Words written) o o' stands got = (written.text.items, got, stands)
has_answer source (texts.Errors text) o o' stands got = absurd got
has_answer source texts.NotReadBack o o' stands got = absurd got
has_answer source texts.NotListed o o' stands got = absurd got

-- a source of which errors are told has no image
pub has_no_image : (source : List ℕ) (text : Text) → Answers source text → IsRefusal text → IsErr (outcome_of source)
has_no_image source (texts.Words written) stands refusal = absurd refusal
has_no_image source (texts.Errors text) stands refusal = stands
has_no_image source texts.NotReadBack stands refusal = absurd refusal
has_no_image source texts.NotListed stands refusal = absurd refusal
