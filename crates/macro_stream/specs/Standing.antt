-- What a stack of texts stands for: all that comes up in it, from the highest text down to the source
-- (MACRO-10 Assembler Manual, macros, REPEAT and IRP).
use Rattle.std.specs.Prelude.{◌≡◌, ℕ, zero, suc, ◌+◌, ◌-◌, Bool, true, false, ◌&&◌, not, nat_lt, nat_eq, List, []}
use Rattle.std.specs.Prelude.{◌∷◌, ◌++◌, length, get_or, reverse}
use Rattle.std.specs.Prelude.{Option, Some, None, Result, Ok, Err, slice_get, if◌then◌else◌}
use Rattle.macro_stream.specs.declared.texts.Range.{Range}
use Rattle.macro_stream.specs.declared.frames.Arguments.{Arguments}
use Rattle.macro_stream.specs.declared.frames.Arguments.TheVariants.{Call, Round}
use Rattle.macro_stream.specs.declared.frames.Kind.{Kind}
use Rattle.macro_stream.specs.declared.frames.Kind.TheVariants as kinds
use Rattle.macro_stream.specs.declared.frames.Rounds.{Rounds}
use Rattle.macro_stream.specs.declared.frames.Rounds.TheVariants as rounds
use Rattle.macro_stream.specs.declared.frames.Frame.{Frame}
use Rattle.macro_stream.specs.declared.stream.Stream.{Stream}
use Rattle.macro_stream.specs.declared.stops.Limit.TheVariants as limits
use Rattle.macro_stream.specs.declared.stops.Stop.{Stop}
use Rattle.macro_stream.specs.declared.stops.Stop.TheVariants as stops

-- the storage: characters and marks, the arguments outside of rounds, the texts that are arguments and elements
pub record Store : Type 0 where
  pub items : List ℕ
  pub outside : List Arguments
  pub ranges : List Range

abbrev pub store_of : Stream → Store
store_of s = record { items = s.items.items; outside = s.outside.items; ranges = s.ranges.items }

-- the item at a place of the storage; a line end where there is none
abbrev pub item_of : List ℕ → ℕ → ℕ
item_of items at = get_or items at 10

abbrev pub no_range : Range
no_range = record { start = 0; end = 0 }

abbrev pub range_of : List Range → ℕ → Range
range_of ranges at = get_or ranges at no_range

-- whether a text ends with a line end
abbrev pub ends_with_line : List ℕ → Range → Bool
ends_with_line items r = nat_lt r.start r.end && nat_eq (item_of items (r.end - 1)) 10

-- the text that a dummy stands for among arguments and so many of those outside
abbrev pub argument_in : Store → ℕ → Arguments → ℕ → Range
argument_in m n (Call start count) dummy = if nat_lt dummy count then range_of m.ranges (start + dummy) else no_range
argument_in m zero (Round outer own element) dummy = if nat_eq own dummy then element else no_range
argument_in m (suc n) (Round outer own element) dummy =
    if nat_eq own dummy then element else elim (slice_get m.outside outer) [ None ↦ no_range | Some around ↦ argument_in m n around dummy ]

abbrev pub argument_of : Store → Arguments → ℕ → Range
argument_of m = argument_in m (length m.outside)

-- what counts of a text that is being read
pub record Text : Type 0 where
  pub range : Range
  pub position : ℕ
  pub arguments : Arguments
  pub end_due : Bool
  pub left : Rounds

abbrev pub text_at : Frame → Text
text_at f = record { range = f.range; position = f.position; arguments = f.arguments; end_due = f.end_due; left = f.rounds }

-- an argument, as it is put in front: its marks stand for nothing
abbrev pub argument_text : Range → Text
argument_text r = record { range = r; position = r.start; arguments = Call 0 0; end_due = false; left = rounds.None }

-- a text at the beginning of a round: a line end comes behind it if it has none
abbrev pub begun_text : Store → Range → Arguments → Rounds → Text
begun_text m range arguments left =
    record { range = range; position = range.start; arguments = arguments; end_due = not (ends_with_line m.items range); left = left }

-- the source before its first character
abbrev pub source_text : ℕ → Text
source_text n = record { range = record { start = 0; end = n }; position = 0; arguments = Call 0 0; end_due = false; left = rounds.None }

-- whether a line end comes behind a text that has none: behind all but the body of a macro
abbrev pub closes : Kind → Bool
closes kinds.Macro = false
closes kind = true

-- a text as it is put in front
abbrev pub entered_text : Store → Kind → Range → Arguments → Text
entered_text m kind range arguments = record {
  range = range;
  position = range.start;
  arguments = arguments;
  end_due = closes kind && not (ends_with_line m.items range);
  left = rounds.None;
}

-- a text whose rounds are all still to begin
abbrev pub waiting_text : Range → Arguments → Rounds → Text
waiting_text range arguments left = record { range = range; position = range.end; arguments = arguments; end_due = false; left = left }

-- a text with its next round begun, if it has one
abbrev pub round_in : Store → Range → Arguments → Rounds → Option Text
round_in m range arguments rounds.None = None
round_in m range arguments (rounds.Count zero) = None
round_in m range arguments (rounds.Count (suc n)) = Some (begun_text m range arguments (rounds.Count n))
round_in m range arguments (rounds.List next end dummy outer) =
    if nat_lt next end
    then elim (slice_get m.ranges next) [
      | None ↦ None
      | Some element ↦ Some (begun_text m range (Round outer dummy element) (rounds.List (next + 1) end dummy outer))
    ]
    else None

abbrev pub round_of : Store → Text → Option Text
round_of m t = round_in m t.range t.arguments t.left

-- what comes up in the texts
pub data Event : Type 0 where
  Gives : (item : ℕ) → Event
  Opens : (depth : ℕ) → Event
  Skips : Event
  Begins : Event
  Goes : Event

-- the items of an argument: a mark in it stands for nothing
abbrev pub plain_events : List ℕ → ℕ → ℕ → List Event
plain_events items zero at = []
plain_events items (suc n) at = (if nat_lt (item_of items at) 256 then Gives (item_of items at) else Skips) ∷ plain_events items n (at + 1)

-- a mark whose text is put in front, on so many texts, and goes at its end; one of nothing is skipped
abbrev pub argument_events : List ℕ → ℕ → Range → List Event
argument_events items depth r =
    if nat_lt r.start r.end then Opens depth ∷ (plain_events items (r.end - r.start) r.start ++ Goes ∷ []) else Skips ∷ []

abbrev pub item_events : Store → ℕ → Arguments → ℕ → List Event
item_events m depth arguments item =
    if nat_lt item 256 then Gives item ∷ [] else argument_events m.items depth (argument_of m arguments (item - 256))

-- so many items from a place on
abbrev pub items_events : Store → ℕ → Arguments → ℕ → ℕ → List Event
items_events m depth arguments zero at = []
items_events m depth arguments (suc n) at =
    item_events m depth arguments (item_of m.items at) ++ items_events m depth arguments n (at + 1)

-- what is left of the present round of a text
abbrev pub present_events : Store → ℕ → Text → List Event
present_events m depth t =
    items_events m depth t.arguments (t.range.end - t.position) t.position ++ (if t.end_due then Gives 10 ∷ [] else [])

-- so many further rounds of a text
abbrev pub rounds_events : Store → ℕ → ℕ → Range → Arguments → Rounds → List Event
rounds_events m depth zero range arguments left = []
rounds_events m depth (suc n) range arguments left =
    elim (round_in m range arguments left) [
      | None ↦ []
      | Some begun ↦ Begins ∷ (present_events m depth begun ++ rounds_events m depth n begun.range begun.arguments begun.left)
    ]

abbrev pub rounds_left : Rounds → ℕ
rounds_left rounds.None = 0
rounds_left (rounds.Count n) = n
rounds_left (rounds.List next end dummy outer) = end - next

-- all that comes up in a text, as the highest of so many
abbrev pub text_events : Store → ℕ → Text → List Event
text_events m depth t = present_events m depth t ++ rounds_events m depth (rounds_left t.left) t.range t.arguments t.left

-- all that comes up when a text is at its end: it goes, and the text below it, the first of these, is read on
abbrev pub below_events : Store → List Frame → List Event
below_events m [] = []
below_events m (f ∷ below) = Goes ∷ (text_events m (length below + 1) (text_at f) ++ below_events m below)

-- all that comes up in a stack of texts; of the texts below the highest the first is the lowest
abbrev pub standing_in : Store → Frame → List Frame → List Event
standing_in m top below = text_events m (length below + 1) (text_at top) ++ below_events m (reverse below)

abbrev pub standing : Stream → List Event
standing s = standing_in (store_of s) s.top s.lower.items

-- a text in front of all that comes up in a stack of texts, as one more of them
abbrev pub in_front : Stream → Text → List Event
in_front s t = text_events (store_of s) (length s.lower.items + 2) t ++ Goes ∷ standing s

-- a stream before its source: nothing is in front of it, and nothing counts against the limits
pub record IsBefore (s : Stream) : Type 0 where
  pub alone : s.lower.items ≡ []
  pub source : text_at s.top ≡ source_text s.source_end
  pub calls : s.calls ≡ 0
  pub lines : s.lines ≡ 0
  pub characters : s.characters ≡ 0

-- the text that these stand for: its characters
abbrev pub text_of : List Event → List ℕ
text_of [] = []
text_of (Gives item ∷ es) = item ∷ text_of es
text_of (Opens depth ∷ es) = text_of es
text_of (Skips ∷ es) = text_of es
text_of (Begins ∷ es) = text_of es
text_of (Goes ∷ es) = text_of es

-- what comes up from the next character on
abbrev pub settled : List Event → List Event
settled [] = []
settled (Gives item ∷ es) = Gives item ∷ es
settled (Opens depth ∷ es) = settled es
settled (Skips ∷ es) = settled es
settled (Begins ∷ es) = settled es
settled (Goes ∷ es) = settled es

-- how many rounds begin before the next character
abbrev pub rounds_begun : List Event → ℕ
rounds_begun [] = 0
rounds_begun (Gives item ∷ es) = 0
rounds_begun (Opens depth ∷ es) = rounds_begun es
rounds_begun (Skips ∷ es) = rounds_begun es
rounds_begun (Begins ∷ es) = rounds_begun es + 1
rounds_begun (Goes ∷ es) = rounds_begun es

-- the next character, behind so many calls: a byte that is not ASCII, a stack of 200 texts that would grow, and a
-- round behind 50,000 calls are refused
abbrev pub next_of : ℕ → List Event → Result (Option ℕ) Stop
next_of calls [] = Ok None
next_of calls (Gives item ∷ es) = if nat_lt item 128 then Ok (Some item) else Err stops.NotAscii
next_of calls (Opens depth ∷ es) = if nat_lt depth 200 then next_of calls es else Err (stops.Limit limits.Depth)
next_of calls (Skips ∷ es) = next_of calls es
next_of calls (Begins ∷ es) = if nat_lt calls 50_000 then next_of (calls + 1) es else Err (stops.Limit limits.Calls)
next_of calls (Goes ∷ es) = next_of calls es
