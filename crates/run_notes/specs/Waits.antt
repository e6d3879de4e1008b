-- How long requests wait for their grants: clocks that the facts of a run start and stop, and a table of that by lock (this
-- project's profile). Times are in ticks.
use Rattle.std.specs.Prelude.{ℕ, ◌≡◌, ◌+◌, ◌-◌, ◌*◌, ◌/◌, ◌%◌, ◌^◌, ◌==◌, ◌&&◌, Bool, true, false, if◌then◌else◌, min, max, nat_lt}
use Rattle.std.specs.Prelude.{count_by, position, remove, slice_get}
use Rattle.std.specs.Fmt.{format_spec, styled_decimal, styled_text}
use Rattle.std.specs.List.{flat_map}
use Rattle.std.specs.Prelude.{List, [], ◌∷◌, ◌++◌, Option, Some, None, Ok, Err, codes, decimal}
use Rattle.word36.specs.Words.{left_half}
use Rattle.lock_queue.specs.Jobs.{is_blocking}
use Rattle.lock_queue.specs.Keys.{same_key}
use Rattle.lock_queue.specs.Queue.{names}
use Rattle.lock_queue.specs.declared.call.LockReply.{LockReply}
use Rattle.lock_queue.specs.declared.call.LockReply.TheVariants as reply
use Rattle.lock_queue.specs.declared.key.Key.{Key}
use Rattle.lock_queue.specs.declared.request.EnqueueKind.{EnqueueKind}
use Rattle.lock_queue.specs.declared.request.EnqueueKind.TheVariants.{Blocking, AtOnce, Interrupt}
use Rattle.lock_queue.specs.declared.request.Request.{Request}
use Rattle.lock_queue.specs.declared.want.Want.{Want}
use Rattle.call_block.specs.declared.block.Block.{Block}
use Rattle.queue_script.specs.Printing.{name_text}
use Rattle.uuo_calls.specs.Asked.{ReadBlock}
use Rattle.uuo_calls.specs.declared.asked.LockService.{LockService}
use Rattle.run_events.specs.Grants.{is_rest_of}
use Rattle.run_events.specs.declared.facts.Called.{Called}
use Rattle.run_events.specs.declared.facts.Fact.{Fact}
use Rattle.run_events.specs.declared.facts.Fact.TheVariants as fact
use Rattle.run_notes.specs.FactWords.{stays}
use Rattle.run_notes.specs.Words.{IsWaitText, wants_words}
use Rattle.run_notes.specs.declared.lock_rows.Count.{Count}
use Rattle.run_notes.specs.declared.lock_rows.Count.TheVariants.{Asked, Waited}
use Rattle.run_notes.specs.declared.lock_rows.LockRow.{LockRow}
use Rattle.run_notes.specs.declared.wait_clocks.WaitClock.{WaitClock}

-- ---- the table by lock

-- a counter of 64 bits stays at its end
abbrev pub plus : ℕ → ℕ → ℕ
plus a b = min (a + b) (2 ^ 64 - 1)

abbrev pub counted : Count → LockRow → LockRow
counted (Asked waits) row =
    record row { requests = plus row.requests 1; waited = (if waits then plus row.waited 1 else row.waited) }
counted (Waited ticks) row = record row { longest = max row.longest ticks; total = plus row.total ticks }

abbrev pub new_row : Key → LockRow
new_row key = record { key = key; requests = 0; waited = 0; longest = 0; total = 0 }

-- counted in the row of a lock, which is added behind the others where there is none
abbrev pub with_count : Count → Key → List LockRow → List LockRow
with_count count key [] = counted count (new_row key) ∷ []
with_count count key (row ∷ rows) = if same_key row.key key then counted count row ∷ rows else row ∷ with_count count key rows

-- counted for each of some locks
abbrev pub with_counts : Count → List Want → List LockRow → List LockRow
with_counts count [] rows = rows
with_counts count (w ∷ wants) rows = with_counts count wants (with_count count w.key rows)

-- ---- the clocks

-- the clocks of the requests that wait for their grants, the last first, and the rows of the locks in the order in which they
-- were first asked for; a wait of more ticks than `most` is long
pub record Clocks : Type 0 where
  pub most : ℕ
  pub waiting : List WaitClock
  pub rows : List LockRow

-- whether a lock call, answered so, made a request: it was granted or queued, or an interrupt is to tell of its grant
abbrev pub makes_request : LockService → ℕ → LockReply → Bool
makes_request service function reply.Granted = true
makes_request service function reply.Queued = true
makes_request service function (reply.Refused refusal) = stays service function refusal
makes_request service function reply.Done = false

-- whether a request waits, where the call that made it was answered so
abbrev pub waits_by : LockReply → Bool
waits_by reply.Granted = false
waits_by reply.Queued = true
waits_by (reply.Refused refusal) = true
waits_by reply.Done = true

-- what the request of an ENQ. of this function does where it is not granted at once
abbrev pub kind_of : ℕ → EnqueueKind
kind_of function = if function == 0 then Blocking else if function == 1 then AtOnce else Interrupt

-- the request that a call made, with this block
abbrev pub request_made : Called → Block → Request
request_made c block = record {
  job = c.job;
  id = block.id;
  kind = kind_of (left_half c.asked.word);
  notified = false;
  wants = block.wants;
}

abbrev pub started : ℕ → Called → Block → List WaitClock → List WaitClock
started tick c block waiting = if waits_by c.reply then record { since = tick; request = request_made c block } ∷ waiting else waiting

abbrev pub after_request : ℕ → Called → ReadBlock → Clocks → Clocks
after_request tick c (Some (Ok block)) s = record s {
  waiting = started tick c block s.waiting;
  rows = with_counts (Asked (waits_by c.reply)) block.wants.items s.rows;
}
after_request tick c (Some (Err refusal)) s = s
after_request tick c None s = s

abbrev pub after_call : ℕ → Called → Clocks → Clocks
after_call tick c s = if makes_request c.asked.service (left_half c.asked.word) c.reply then after_request tick c c.block s else s

-- whether a fact ends the wait of a request: it is granted or gone, or its job's time limit ended
abbrev pub ends : Fact → WaitClock → Bool
ends (fact.Granted r) clock = is_rest_of r clock.request
ends (fact.Left r) clock = is_rest_of r clock.request
ends (fact.LimitEnded job id) clock = clock.request.job == job && is_blocking clock.request.kind
ends other clock = false

abbrev pub clock_at : List WaitClock → Option ℕ → Option WaitClock
clock_at waiting (Some i) = slice_get waiting i
clock_at waiting None = None

-- the clock that a fact stops: of a job's clocks for one lock only the last can run still
abbrev pub stopped_by : Fact → List WaitClock → Option WaitClock
stopped_by f waiting = clock_at waiting (position (ends f) waiting)

abbrev pub without : List WaitClock → Option ℕ → List WaitClock
without waiting (Some i) = remove waiting i
without waiting None = waiting

abbrev pub with_wait : ℕ → Option WaitClock → List LockRow → List LockRow
with_wait tick (Some clock) rows = with_counts (Waited (tick - clock.since)) clock.request.wants.items rows
with_wait tick None rows = rows

abbrev pub after_end : ℕ → Fact → Clocks → Clocks
after_end tick f s = record s {
  waiting = without s.waiting (position (ends f) s.waiting);
  rows = with_wait tick (stopped_by f s.waiting) s.rows;
}

abbrev pub after_fact : ℕ → Fact → Clocks → Clocks
after_fact tick (fact.Called c) s = after_call tick c s
after_fact tick f s = after_end tick f s

-- the clocks behind some facts of one tick
abbrev pub after_facts : ℕ → List Fact → Clocks → Clocks
after_facts tick [] s = s
after_facts tick (f ∷ facts) s = after_facts tick facts (after_fact tick f s)

-- ---- the lines

-- when a clock was started
abbrev pub started_at : Option WaitClock → Option ℕ
started_at (Some clock) = Some clock.since
started_at None = None

-- a request is granted that has waited since a tick
abbrev pub granted_after : ℕ → Request → Option ℕ → List ℕ
granted_after tick r (Some since) =
    codes "tick " ++ (decimal tick ++ (codes ", job " ++ (decimal r.job ++ (codes ": granted after "
    ++ (decimal (tick - since) ++ (codes " ticks" ++ (wants_words r.wants.items ++ codes "\n")))))))
granted_after tick r None = []

-- the line on a fact: how long a grant took
abbrev pub wait_line : ℕ → Fact → List WaitClock → List ℕ
wait_line tick (fact.Granted r) waiting = granted_after tick r (started_at (stopped_by (fact.Granted r) waiting))
wait_line tick f waiting = []

-- the lines on some facts of one tick
abbrev pub wait_lines : ℕ → List Fact → Clocks → List ℕ
wait_lines tick [] s = []
wait_lines tick (f ∷ facts) s = wait_line tick f s.waiting ++ wait_lines tick facts (after_fact tick f s)

-- whether a wait, for which its job waits too, is long from this tick on: one tick more than `most`
abbrev pub is_due : ℕ → ℕ → WaitClock → Bool
is_due most tick clock = is_blocking clock.request.kind && plus (plus clock.since most) 1 == tick

-- the least number of ticks in which one of some waits is long, and another number
abbrev pub least_due : ℕ → ℕ → ℕ → List WaitClock → ℕ
least_due most tick least [] = least
least_due most tick least (clock ∷ waiting) =
    least_due most tick
    (if is_blocking clock.request.kind && nat_lt tick (plus (plus clock.since most) 1)
    then min least (plus (plus clock.since most) 1 - tick) else least) waiting

-- the line on a wait that is long from a tick on, if there is one
abbrev pub IsDueText : List Request → ℕ → Option WaitClock → List ℕ → Type 0
IsDueText requests tick None text = text ≡ []
IsDueText requests tick (Some clock) text =
    (words : List ℕ) × IsWaitText requests clock.request.job words
    × (text ≡ codes "tick " ++ (decimal tick ++ (codes ", job " ++ (decimal clock.request.job ++ (codes ": "
    ++ (words ++ (codes ", for " ++ (decimal (tick - clock.since) ++ codes " ticks\n"))))))))

-- ---- the table

-- a number at the right of a column, and a text at the left of one
abbrev pub right_column : ℕ → ℕ → List ℕ
right_column width n = styled_decimal (format_spec 32 3 0 width (2 ^ 64 - 1)) n

abbrev pub left_column : ℕ → List ℕ → List ℕ
left_column width text = styled_text (format_spec 32 1 0 width (2 ^ 64 - 1)) text

-- the mean of the waits for a lock, in tenths of ticks
abbrev pub mean_tenths : LockRow → ℕ
mean_tenths row = if row.waited == 0 then 0 else min (row.total * 10) (2 ^ 64 - 1) / row.waited

-- the line on a lock for which so many requests still wait
abbrev pub row_words : ℕ → LockRow → List ℕ
row_words waiting row =
    left_column 20 (name_text row.key.name) ++ (right_column 9 row.requests ++ (right_column 9 row.waited
    ++ (right_column 9 row.longest ++ (right_column 7 (mean_tenths row / 10) ++ (codes "."
    ++ (decimal (mean_tenths row % 10) ++ (right_column 15 waiting ++ codes "\n")))))))

-- how many of these clocks are of requests that name a lock
abbrev pub still_waiting : List WaitClock → Key → ℕ
still_waiting waiting key = count_by (λ clock. names clock.request.wants.items key) waiting

abbrev pub lock_line : List WaitClock → LockRow → List ℕ
lock_line waiting row = row_words (still_waiting waiting row.key) row

-- empty where no lock was asked for
abbrev pub table_of : List WaitClock → List LockRow → List ℕ
table_of waiting [] = []
table_of waiting (row ∷ rows) =
    codes "lock                 requests   waited  longest     mean  still waiting\n" ++ flat_map (lock_line waiting) (row ∷ rows)

-- the waits of some clocks, which still go on, counted up to a tick
abbrev pub with_waits : ℕ → List WaitClock → List LockRow → List LockRow
with_waits tick [] rows = rows
with_waits tick (clock ∷ waiting) rows =
    with_waits tick waiting (with_counts (Waited (tick - clock.since)) clock.request.wants.items rows)

abbrev pub table_words : ℕ → Clocks → List ℕ
table_words tick s = table_of s.waiting (with_waits tick s.waiting s.rows)
