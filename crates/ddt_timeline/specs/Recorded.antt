-- What has happened to a machine as the events of a run, which a script of `lockmon run` says (this project's profile).
use Rattle.std.specs.Prelude.{◌≡◌, ℕ, ◌+◌, min, Bool, true, false, List, [], ◌∷◌, ◌++◌, replicate, if◌then◌else◌}
use Rattle.machine.specs.Machine.{S}
use Rattle.machine.specs.declared.event.Answer.{Answer}
use Rattle.machine.specs.declared.event.Answer.TheVariants.{Text, Refused}
use Rattle.run_record.specs.Pieces.{events_in, rounds}
use Rattle.run_record.specs.Scripts.{text_in}
use Rattle.run_record.specs.declared.happened.RunEvent.{RunEvent}
use Rattle.run_record.specs.declared.happened.RunEvent.TheVariants as event
use Rattle.run_record.specs.declared.pieces.Piece.{Piece}
use Rattle.ddt_timeline.specs.Timelines.{answer_to, made}
use Rattle.ddt_timeline.specs.declared.entries.Entry.{Entry}
use Rattle.ddt_timeline.specs.declared.entries.Entry.TheVariants.{Rounds, Login, Start, Continue, Kill, Typed, Take, Ticks}
use Rattle.ddt_timeline.specs.declared.entries.Entry.TheVariants.{Deposit, StartAt, Execute}

-- whether an entry is events of a run: a change that a debugger makes by hand is none
abbrev pub is_event : Entry → Bool
is_event (Rounds n) = true
is_event (Login line image) = true
is_event (Start n) = true
is_event (Continue n) = true
is_event (Kill n) = true
is_event (Typed line c) = true
is_event (Take line) = true
is_event (Ticks n) = true
is_event (Deposit n a word) = false
is_event (StartAt n a) = false
is_event (Execute n word) = false

-- the events of an entry; the programs are numbered from 1 on, by their lines, which are numbered from 0 on
abbrev pub events_of : Entry → List RunEvent
events_of (Rounds n) = rounds n
events_of (Login line image) = event.Login line (min 255 (line + 1)) ∷ []
events_of (Start n) = event.Start n ∷ []
events_of (Continue n) = event.Continue n ∷ []
events_of (Kill n) = event.Kill n ∷ []
events_of (Typed line c) = event.Typed line c ∷ []
events_of (Take line) = event.Take line ∷ []
events_of (Ticks n) = replicate n event.Tick
events_of (Deposit n a word) = []
events_of (StartAt n a) = []
events_of (Execute n word) = []

-- whether a text has characters
abbrev pub has_some : List ℕ → Bool
has_some [] = false
has_some (c ∷ more) = true

-- whether something has changed, by the machine's answer: nothing has where it refuses, or where it had no output to be taken
abbrev pub has_changed : Answer → Bool
has_changed (Refused r) = false
has_changed (Text text) = has_some text
has_changed _ = true

-- the events of an entry that happens to a machine, if something changes by it
abbrev pub changes : S → Entry → List RunEvent
changes s e = if has_changed (answer_to s e) then events_of e else []

-- the events of entries that happen to a machine one after the other, of all those by which something changes
abbrev pub recorded : S → List Entry → List RunEvent
recorded s [] = []
recorded s (e ∷ es) = changes s e ++ recorded (made s e) es

-- a text with the lines of a script that say these events behind it
pub record AddsScript (before after : List ℕ) (events : List RunEvent) : Type 0 where
  pub pieces : List Piece
  pub lines : after ≡ before ++ text_in pieces
  pub said : events_in pieces ≡ events
