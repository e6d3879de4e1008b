-- What goes to standard output for a source.
use Rattle.std.specs.Prelude.{◌≡◌, ℕ, List, [], Option, IsOk, IsErr}
use Rattle.std.specs.Io.KnownBytes.{Appends}
use Rattle.mac_asm.specs.Outcome.{outcome_of}
use Rattle.macro_main.specs.declared.serving.Text.{Text}
use Rattle.macro_main.specs.declared.serving.Text.TheVariants as texts

-- a text comes to exactly what a source of the subset comes to
abbrev pub StandsFor : List ℕ → List ℕ → Type 0
StandsFor source text = IsOk (outcome_of source) → outcome_of text ≡ outcome_of source

-- the words of a source of the subset are its own, and nothing is said to be wrong with it
abbrev pub Answers : List ℕ → Text → Type 0
Answers source (texts.Words written) = StandsFor source written.text.items
Answers source (texts.Errors text) = IsErr (outcome_of source)
Answers source texts.NotReadBack = Unit {0}
Answers source texts.NotListed = Unit {0}

-- the bytes of what goes to standard output
abbrev pub text_bytes : Text → List ℕ
text_bytes (texts.Words written) = written.text.items
text_bytes (texts.Errors text) = text.items
text_bytes texts.NotReadBack = []
text_bytes texts.NotListed = []

-- it is words, and an output, from o to o', got their source
abbrev pub HasWords : Text → Option (List ℕ) → Option (List ℕ) → Type 0
HasWords (texts.Words written) o o' = Appends o o' written.text.items
HasWords (texts.Errors text) o o' = ⊥
HasWords texts.NotReadBack o o' = ⊥
HasWords texts.NotListed o o' = ⊥

-- it is what is wrong with the source
abbrev pub IsRefusal : Text → Type 0
IsRefusal (texts.Words written) = ⊥
IsRefusal (texts.Errors text) = Unit {0}
IsRefusal texts.NotReadBack = ⊥
IsRefusal texts.NotListed = ⊥

-- an output, from o to o', got a text that comes to what a source of the subset comes to
abbrev pub HasAnswer : List ℕ → Option (List ℕ) → Option (List ℕ) → Type 0
HasAnswer source o o' = (text : List ℕ) × Appends o o' text × StandsFor source text
