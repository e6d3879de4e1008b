-- What is read is the text, and each character once.
use Rattle.std.proofs.Common.{◌≡◌, ℕ, ◌+◌, Bool, true, false, List, [], ◌∷◌, Option, Some, Result, Ok, Err, refl, nat_lt, slice_get, if◌then◌else◌}
use Rattle.macro_stream.specs.Standing.{Event, Gives, Opens, Skips, Begins, Goes, text_of, settled, next_of}
use Rattle.macro_stream.specs.declared.stops.Stop.{Stop}
use Rattle.macro_stream.specs.declared.stops.Stop.TheVariants as stops
use Rattle.macro_stream.specs.declared.stops.Limit.TheVariants as limits

-- what comes up from the next character on has the same text
pub text_of-settled : (es : List Event) → text_of (settled es) ≡ text_of es
text_of-settled [] = refl
text_of-settled (Gives item ∷ es) = refl
text_of-settled (Opens depth ∷ es) = text_of-settled es
text_of-settled (Skips ∷ es) = text_of-settled es
text_of-settled (Begins ∷ es) = text_of-settled es
text_of-settled (Goes ∷ es) = text_of-settled es

within : {A : Type 0} (b : Bool) (found : Result A Stop) (stop : Stop) (a : A) → (if b then found else Err stop) ≡ Ok a → found ≡ Ok a
within true found stop a e = e
within false found stop a e = cc

-- the character that is given is the first of the text
pub first-told : (calls : ℕ) (es : List Event) (next : Option ℕ) → next_of calls es ≡ Ok next → next ≡ slice_get (text_of es) 0
first-told calls [] next e = cc
first-told calls (Gives item ∷ es) next e =
    let all : Result (Option ℕ) Stop = Ok (Some item) in
    let told : Result (Option ℕ) Stop = Ok next in
    let same : all ≡ told = within (nat_lt item 128) all stops.NotAscii next e in
    cc
first-told calls (Opens depth ∷ es) next e =
    first-told calls es next (within (nat_lt depth 200) (next_of calls es) (stops.Limit limits.Depth) next e)
first-told calls (Skips ∷ es) next e = first-told calls es next e
first-told calls (Begins ∷ es) next e =
    first-told (calls + 1) es next (within (nat_lt calls 50_000) (next_of (calls + 1) es) (stops.Limit limits.Calls) next e)
first-told calls (Goes ∷ es) next e = first-told calls es next e

pub ruleset reading = (text_of-settled, first-told)
