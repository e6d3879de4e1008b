-- What is reported of a run (this project's profile).
use Rattle.std.specs.Prelude.{ℕ, ◌≡◌, ◌≤◌, Bool, true, false, IsTrue, List, [], ◌∷◌, ◌++◌, Option, Some, None, position, if◌then◌else◌}
use Rattle.lock_queue.specs.Jobs.{waits_for}
use Rattle.lock_queue.specs.Waits.{is_circle, is_in_circle}
use Rattle.lock_queue.specs.declared.request.Request.{Request}
use Rattle.machine.specs.Machine.{S}
use Rattle.program_shell.specs.declared.pending_text.PendingText.{PendingText}
use Rattle.run_events.specs.declared.facts.Fact.{Fact}
use Rattle.run_events.specs.declared.facts.Fact.TheVariants as fact
use Rattle.run_notes.specs.FactWords.{facts_text}
use Rattle.run_notes.specs.Waits.{Clocks, IsDueText, after_facts, clock_at, is_due, table_words, wait_lines}
use Rattle.run_notes.specs.Words.{IsCircleLine}
use Rattle.std.specs.Prelude.{slice_get}
use Rattle.word36.specs.declared.sizes.TheConstants.{JOBS}

-- if there was memory for all of the new text, there was for the old one, and some bytes, which are as it is said, came after it
abbrev pub AddsSome : PendingText → PendingText → (List ℕ → Type 0) → Type 0
AddsSome old new Is =
    IsTrue new.is_whole → IsTrue old.is_whole × ((text : List ℕ) × (new.bytes.items ≡ old.bytes.items ++ text) × Is text)

-- the lines on lock calls, grants and limits, if they are asked for
abbrev pub lock_lines : Bool → S → ℕ → List Fact → List ℕ
lock_lines asked s tick facts = if asked then facts_text s tick facts else []

-- the lines on how long grants took, if they are asked for, and the clocks after them
abbrev pub grant_lines : Option Clocks → ℕ → List Fact → List ℕ
grant_lines (Some clocks) tick facts = wait_lines tick facts clocks
grant_lines None tick facts = []

abbrev pub clocks_after : Option Clocks → ℕ → List Fact → Option Clocks
clocks_after (Some clocks) tick facts = Some (after_facts tick facts clocks)
clocks_after None tick facts = None

-- the circle that a job is in, if it is in one
abbrev pub IsFound : List Request → ℕ → Option (List ℕ) → Type 0
IsFound requests job (Some circle) = (is_circle (waits_for requests) circle ≡ true) × (slice_get circle 0 ≡ Some job)
IsFound requests job None = job ≤ JOBS → is_in_circle (waits_for requests) job ≡ false

abbrev pub IsLineOn : ℕ → List Request → Option (List ℕ) → List ℕ → Type 0
IsLineOn tick requests (Some circle) text = IsCircleLine tick requests circle text
IsLineOn tick requests None text = text ≡ []

-- the line on that circle
pub record IsCircleOf (tick : ℕ) (requests : List Request) (job : ℕ) (text : List ℕ) : Type 0 where
  pub circle : Option (List ℕ)
  pub found : IsFound requests job circle
  pub is_line : IsLineOn tick requests circle text

-- the line on the circle that closed by a fact, if one did
abbrev pub IsCircleBy : ℕ → List Request → Fact → List ℕ → Type 0
IsCircleBy tick requests (fact.CircleClosed job) text = IsCircleOf tick requests job text
IsCircleBy tick requests (fact.Called c) text = text ≡ []
IsCircleBy tick requests (fact.Granted r) text = text ≡ []
IsCircleBy tick requests (fact.Left r) text = text ≡ []
IsCircleBy tick requests (fact.LimitEnded job id) text = text ≡ []
IsCircleBy tick requests (fact.Stopped job why) text = text ≡ []
IsCircleBy tick requests (fact.LoggedOut job) text = text ≡ []

-- the lines on the circles that closed by some facts
abbrev pub AreCircles : ℕ → List Request → List Fact → List ℕ → Type 0
AreCircles tick requests [] text = text ≡ []
AreCircles tick requests (f ∷ facts) text =
    (line rest : List ℕ) × (text ≡ line ++ rest) × IsCircleBy tick requests f line × AreCircles tick requests facts rest

-- what is reported of some facts of a tick, on a machine: the lines on locks, on waits, and on circles
pub record AreFactLines (locks : Bool) (clocks : Option Clocks) (s : S) (tick : ℕ) (facts : List Fact) (text : List ℕ) : Type 0 where
  pub circles : List ℕ
  pub are_circles : AreCircles tick s.world.requests facts circles
  pub is_text : text ≡ lock_lines locks s tick facts ++ (grant_lines clocks tick facts ++ circles)

-- the line on the wait that is long from a tick on, if waits are reported
abbrev pub IsDueLine : Option Clocks → S → ℕ → List ℕ → Type 0
IsDueLine (Some clocks) s tick text =
    IsDueText s.world.requests tick (clock_at clocks.waiting (position (is_due clocks.most tick) clocks.waiting)) text
IsDueLine None s tick text = text ≡ []

-- the table of waits at the end, if they are reported
abbrev pub table_text : Option Clocks → ℕ → List ℕ
table_text (Some clocks) tick = table_words tick clocks
table_text None tick = []
