-- The TTCALL functions (TOPS-10 Monitor Calls Manual; the limit, and that a text goes out as a whole, are this project's profile).
use Rattle.std.specs.Prelude.{ℕ, ◌≡◌, suc, zero, ◌+◌, ◌-◌, ◌*◌, ◌/◌, ◌%◌, ◌^◌, ◌==◌, nat_lt, nat_le, Bool, drop, unwrap_or}
use Rattle.std.specs.Prelude.{slice_get, if◌then◌else◌, List, [], ◌∷◌, ◌++◌, length, Option, Some, None}
use Rattle.ka_state.specs.Memory.{word_below, is_legal, ac_with, core_with}
use Rattle.ka_state.specs.declared.outcome.StopReason.TheVariants.{IllegalAddress}
use Rattle.core_store.specs.Cores.{core_of, with_core}
use Rattle.tty_lines.specs.Rings.{Rings, input_of, output_of, room_of, with_input, with_output, holds_line}
use Rattle.word36.specs.declared.sizes.TheConstants.{OUTPUT_RING}
use Rattle.job_sched.specs.declared.job.Wait.TheVariants.{Char, Line, Room}
use Rattle.job_sched.specs.declared.job.Wait.{Wait}
use Rattle.arrayvec.specs.ArrayVec.{ArrayVec}
use Rattle.job_sched.specs.declared.job.Job.{Job}
use Rattle.uuo_calls.specs.declared.call.CallOutcome.{CallOutcome}
use Rattle.uuo_calls.specs.declared.call.CallOutcome.TheVariants.{Done, Empty}
use Rattle.uuo_calls.specs.declared.service.Awaited.{Awaited}
use Rattle.uuo_calls.specs.declared.service.Awaited.TheVariants as awaited
use Rattle.uuo_calls.specs.CallState.{CallState, stopped_at, put_back, waiting, skipping}

-- character k of a word, 0 to 4 from the left
abbrev pub character : ℕ → ℕ → ℕ
character k w = w / 2 ^ (29 - 7 * k) % 2 ^ 7

-- the text from a character of a word on: it ends before a zero, and there is none where the word's address is not legal
abbrev pub behind : Option ℕ → ℕ → List ℕ → (ℕ → Option (List ℕ)) → Option (List ℕ)
behind None k text more = None
behind (Some w) k text more = if character k w == 0 then Some text else more (character k w)

-- the text at e that begins with `text`, up to a zero, and with so many more characters at most
unfoldable pub text_from : List ℕ → List ℕ → ℕ → List ℕ → ℕ → Option (List ℕ)
text_from ac core e text zero = Some text
text_from ac core e text (suc n) =
    behind (word_below ac core (e + length text / 5)) (length text % 5) text (λ c. text_from ac core e (text ++ c ∷ []) n)

-- this text was read, or none
abbrev pub TextIs : Option (ArrayVec ℕ) → Option (List ℕ) → Type 0
TextIs (Some text) read = read ≡ Some text.items
TextIs None read = read ≡ None

-- a job, all lines, and how the call ends
pub record JobLines : Type 0 where
  pub job : Job
  pub lines : List Rings
  pub ending : CallOutcome

-- a text goes out as a whole where there is room for it; otherwise the job waits for room and makes the call again
abbrev pub put_text : Option (List ℕ) → Job → List Rings → JobLines
put_text None j lines = record { job = stopped_at j IllegalAddress; lines = lines; ending = Done }
put_text (Some text) j lines =
    if nat_le (length text) (room_of lines j.line)
    then record { job = j; lines = with_output lines j.line (output_of lines j.line ++ text); ending = Done }
    else record { job = waiting (put_back j) (Room (length text)); lines = lines; ending = Empty }

-- OUTSTR puts the text at E
abbrev pub outstr : ℕ → List ℕ → Job → List Rings → JobLines
outstr e core j lines = put_text (text_from j.regs.ac core e [] OUTPUT_RING) j lines

abbrev pub outstr_row : ℕ → ℕ → CallState → CallState
outstr_row n e a =
    let o = outstr e (core_of a.cores n) a.job a.lines in
    record a { job = o.job; lines = o.lines; ending = o.ending }

-- OUTCHR puts the low seven bits of a word
abbrev pub low_character : Option ℕ → Option (List ℕ)
low_character None = None
low_character (Some w) = Some (w % 2 ^ 7 ∷ [])

abbrev pub outchr : ℕ → List ℕ → Job → List Rings → JobLines
outchr e core j lines = put_text (low_character (word_below j.regs.ac core e)) j lines

abbrev pub outchr_row : ℕ → ℕ → CallState → CallState
outchr_row n e a =
    let o = outchr e (core_of a.cores n) a.job a.lines in
    record a { job = o.job; lines = o.lines; ending = o.ending }

-- whether what is to be read is there
abbrev pub has_input : Awaited → List ℕ → Bool
has_input awaited.Character input = nat_lt 0 (length input)
has_input awaited.Line input = holds_line input

abbrev pub input_wait : Awaited → Wait
input_wait awaited.Character = Char
input_wait awaited.Line = Line

-- the oldest character
abbrev pub first_of : List ℕ → ℕ
first_of input = unwrap_or (slice_get input 0) 0

-- a job, its core, all lines, and how the call ends
pub record JobInput : Type 0 where
  pub job : Job
  pub core : List ℕ
  pub lines : List Rings
  pub ending : CallOutcome

abbrev pub skipping_if : Bool → Job → Job
skipping_if skips j = if skips then skipping j else j

-- a character goes to the address E
abbrev pub stored_input : Bool → ℕ → List ℕ → Job → List Rings → JobInput
stored_input skips e core j lines = record {
  job = skipping_if skips (record j { regs = record j.regs { ac = ac_with j.regs.ac e (first_of (input_of lines j.line)) } });
  core = core_with core e (first_of (input_of lines j.line));
  lines = with_input lines j.line (drop 1 (input_of lines j.line));
  ending = Done;
}

-- there is no character: the functions that skip go on, and the others wait
abbrev pub no_input : Awaited → Bool → List ℕ → Job → List Rings → JobInput
no_input unit skips core j lines =
    if skips
    then record { job = j; core = core; lines = lines; ending = Done }
    else record { job = waiting (put_back j) (input_wait unit); core = core; lines = lines; ending = Empty }

-- INCHRW, INCHRS, INCHWL and INCHSL; E has to be legal, also where there is no character
abbrev pub input_called : Awaited → Bool → ℕ → List ℕ → Job → List Rings → JobInput
input_called unit skips e core j lines =
    if is_legal core e then
    (if has_input unit (input_of lines j.line)
    then stored_input skips e core j lines
    else no_input unit skips core j lines)
    else record { job = stopped_at j IllegalAddress; core = core; lines = lines; ending = Done }

abbrev pub without_core : JobInput → JobLines
without_core o = record { job = o.job; lines = o.lines; ending = o.ending }

abbrev pub input_row : Awaited → Bool → ℕ → ℕ → CallState → CallState
input_row unit skips n e a =
    let o = input_called unit skips e (core_of a.cores n) a.job a.lines in
    record a { job = o.job; cores = with_core a.cores n o.core; lines = o.lines; ending = o.ending }

-- CLRBFI and CLRBFO empty the input and the output of the job's line
abbrev pub clrbfi_row : CallState → CallState
clrbfi_row a = record a { lines = with_input a.lines a.job.line [] }

abbrev pub clrbfo_row : CallState → CallState
clrbfo_row a = record a { lines = with_output a.lines a.job.line [] }

-- SKPINC and SKPINL skip where INCHRW or INCHWL would not wait
abbrev pub skpin_row : Awaited → CallState → CallState
skpin_row unit a = record a { job = skipping_if (has_input unit (input_of a.lines a.job.line)) a.job }
