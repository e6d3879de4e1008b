-- What a serving call reads and writes (this project's profile). The ways E in which scripts end are their language's.
use Rattle.std.specs.Prelude.{◌≡◌, ℕ, Bool, true, List, ◌++◌, Option, Result, Ok, Err, IfSome, is_ok}
use Rattle.std.specs.Io.KnownBytes.{Appends, Consumes}
use Rattle.script_io.specs.Transcripts.{Transcript, after}
use Rattle.script_io.specs.declared.failures.ServeFailure.{ServeFailure}
use Rattle.script_io.specs.declared.failures.ServeFailure.TheVariants.{Read, Write, Memory}

-- the text is a beginning of the whole
abbrev pub Begins : List ℕ → List ℕ → Type 0
Begins text whole = (more : List ℕ) × (whole ≡ text ++ more)

-- what was written and the answer are those of the transcript, or a failure cut the text short
abbrev pub Tells : {E : Type 0} → Result E ServeFailure → Transcript E → List ℕ → Type 0
Tells (Ok ending) t sent = (sent ≡ t.text) × (t.ending ≡ ending)
Tells (Err failure) t sent = Begins sent t.text

-- the failures Read and Write are answered only if that port failed
abbrev pub Blames : ServeFailure → Bool → Bool → Type 0
Blames Read read_failed write_failed = read_failed ≡ true
Blames Write read_failed write_failed = write_failed ≡ true
Blames Memory read_failed write_failed = Unit {0}

-- A call that took its input from i to i' and its output from o to o', for a language with these transcripts: what it wrote
-- belongs to the transcript of the bytes that it read, and at its end that is the transcript of the whole input.
pub record Serves {E : Type 0}
    (transcript : List ℕ → Transcript E) (i i' o o' : Option (List ℕ)) (answer : Result E ServeFailure) : Type 0 where
  pub read : List ℕ
  pub sent : List ℕ
  pub consumed : Consumes i i' read
  pub appended : Appends o o' sent
  pub tells : Tells answer (transcript read) sent
  pub whole : is_ok answer ≡ true → IfSome i (λ all. transcript all ≡ transcript read)

-- ---- the same in the middle of a script, by the rest of its transcript

-- it goes on: it took bytes, it wrote, and the rest of the transcript follows
pub record Goes {E : Type 0} (i i' o o' : Option (List ℕ)) (rest rest' : List ℕ → Transcript E) : Type 0 where
  pub read : List ℕ
  pub sent : List ℕ
  pub consumed : Consumes i i' read
  pub appended : Appends o o' sent
  pub follows : (more : List ℕ) → rest (read ++ more) ≡ after sent (rest' more)

-- it stops: a beginning was written
pub record Stops {E : Type 0} (i i' o o' : Option (List ℕ)) (rest : List ℕ → Transcript E) : Type 0 where
  pub read : List ℕ
  pub sent : List ℕ
  pub consumed : Consumes i i' read
  pub appended : Appends o o' sent
  pub begins : Begins sent (rest read).text

-- ---- the same without reading

-- it wrote, and the rest of the transcript follows
pub record Sends {E : Type 0} (o o' : Option (List ℕ)) (rest rest' : List ℕ → Transcript E) : Type 0 where
  pub sent : List ℕ
  pub appended : Appends o o' sent
  pub follows : (more : List ℕ) → rest more ≡ after sent (rest' more)

-- a failure cut short what would have been written
pub record Cuts {E : Type 0} (o o' : Option (List ℕ)) (rest : List ℕ → Transcript E) : Type 0 where
  pub sent : List ℕ
  pub appended : Appends o o' sent
  pub begins : (more : List ℕ) → Begins sent (rest more).text
