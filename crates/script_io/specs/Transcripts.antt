-- What a script writes, and how it ends (this project's profile). The ways E in which scripts end are their language's.
use Rattle.std.specs.Prelude.{◌≡◌, true, false, is_some, refl, ℕ, List, [], ◌++◌, Option, Some, None}

-- all that a script writes, and how it ends
pub record Transcript (E : Type 0) : Type 0 where
  pub text : List ℕ
  pub ending : E

-- the transcript that writes this text and ends so
abbrev pub closed : {E : Type 0} → List ℕ → E → Transcript E
closed text ending = record { text = text; ending = ending }

-- the text is written before the transcript
abbrev pub after : {E : Type 0} → List ℕ → Transcript E → Transcript E
after text t = closed (text ++ t.text) t.ending

-- nothing more if there is an ending, and otherwise this transcript
abbrev pub unless_ended : {E : Type 0} → Option E → Transcript E → Transcript E
unless_ended (Some ending) t = closed [] ending
unless_ended None t = t

-- nothing counts after the end
pub unless_ended-same : {E : Type 0} (o : Option E) (s t : Transcript E) → is_some o ≡ true → unless_ended o s ≡ unless_ended o t
unless_ended-same (Some e) s t h = refl
unless_ended-same None s t h = cc

-- a fact that is asked only behind an end
pub never_ended-same : {E : Type 0} (s t : Transcript E) → false ≡ true → s ≡ t
never_ended-same s t h = cc
