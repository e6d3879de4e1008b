-- What is done to the machine of a run, and what is recorded of it (this project's profile).
use Rattle.std.specs.Prelude.{ℕ, ◌≡◌, ◌≤◌, ◌-◌, ◌⊎◌, nat_lt, true, false, IsTrue, List, [], ◌∷◌, ◌++◌, Option, Some, None, Vec, replicate, if◌then◌else◌}
use Rattle.std.specs.Global.{Global}
use Rattle.machine.specs.Alone.{taken_from, text_in}
use Rattle.machine.specs.Machine.{S, after, happens}
use Rattle.machine.specs.declared.event.Answer.TheVariants.{Refused}
use Rattle.machine.specs.declared.event.Event.{Event}
use Rattle.machine.specs.declared.event.Event.TheVariants.{Take, Typed}
use Rattle.machine.specs.declared.event.RefusedEvent.TheVariants.{Full}
use Rattle.machine.specs.declared.sizes.TheConstants.{MOST_TAKES}
use Rattle.word36.specs.declared.sizes.TheConstants.{TAKEN_AT_ONCE}
use Rattle.run_record.specs.Pieces.{events_in}
use Rattle.run_record.specs.Scripts.{end_text, head_text, text_in as pieces_text}
use Rattle.run_record.specs.declared.happened.RunEvent.{RunEvent}
use Rattle.run_record.specs.declared.pieces.Piece.{Piece}
use Rattle.program_shell.specs.declared.pending_text.PendingText.{PendingText}
use Rattle.ten.specs.Writing.{Writes}
use Rattle.ten.specs.declared.recording.Recording.{Recording}
use Rattle.ten.specs.declared.terminal.Terminal.{Terminal}

-- ---- characters that are typed

-- a byte is typed at a line, if it is a character
abbrev pub typed_at : ℕ → ℕ → S → S
typed_at line byte s = if nat_lt byte 128 then (happens s (Typed line byte)).state else s

-- bytes are typed one after the other
abbrev pub all_typed : ℕ → List ℕ → S → S
all_typed line [] s = s
all_typed line (byte ∷ bytes) s = all_typed line bytes (typed_at line byte s)

-- there is no room for a byte at a line
abbrev pub IsFull : ℕ → ℕ → S → Type 0
IsFull line byte s = (happens s (Typed line byte)).answer ≡ Refused Full

-- ---- characters that are taken

abbrev pub takes : ℕ → ℕ → List Event
takes line n = replicate n (Take line TAKEN_AT_ONCE)

-- n takes at a line, of which the last found nothing, or as many as empty a line that is full
pub record Takes (line : ℕ) (s t : S) : Type 0 where
  pub count : ℕ
  pub state : t ≡ after (takes line count) s
  pub some : 1 ≤ count
  pub all : (count ≡ MOST_TAKES) ⊎ (text_in (happens (after (takes line (count - 1)) s) (Take line TAKEN_AT_ONCE)).answer ≡ [])

-- what was put out at a terminal's line is taken and written there
pub record TakesOutput (old new : Terminal) (before after_it : PendingText) (s t : S) : Type 0 where
  pub took : Takes old.line s t
  pub writes : Writes old new before after_it (taken_from old.line s (takes old.line took.count))

-- ---- what is recorded

abbrev pub HasAdded : Option (List Piece) → Option (List Piece) → List RunEvent → Type 0
HasAdded (Some old) (Some new) events = events_in new ≡ events_in old ++ events
HasAdded (Some old) None events = true ≡ false
HasAdded None (Some new) events = true ≡ false
HasAdded None None events = true ≡ true

-- if there was memory for all of the record, these events came after the others, if the run is recorded
abbrev pub AddsEvents : Recording → Recording → List RunEvent → Type 0
AddsEvents old new events = IsTrue new.is_whole → IsTrue old.is_whole × HasAdded old.events new.events events × (new.programs ≡ old.programs)

-- the script of a run that is recorded: a remark with the size of the machine, the programs, the events, and the state at the end
abbrev pub IsScript : Recording → ℕ → ℕ → Option (Vec ℕ Global) → Type 0
IsScript r blocks quantum (Some text) =
    (pieces : List Piece) × (r.events ≡ Some pieces)
    × (text.items ≡ head_text blocks quantum ++ (r.programs.items ++ (pieces_text pieces ++ end_text)))
IsScript r blocks quantum None = r.events ≡ None
