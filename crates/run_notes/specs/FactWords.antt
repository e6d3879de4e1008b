-- The facts of a run in words: lock calls with their answers, grants, and time limits that end (this project's profile).
use Rattle.std.specs.Prelude.{ℕ, ◌==◌, ◌++◌, ◌&&◌, nat_le, nat_lt, Bool, false, unwrap_or, if◌then◌else◌}
use Rattle.std.specs.Prelude.{List, [], Some, None, Ok, Err, codes, decimal}
use Rattle.std.specs.Fmt.{digits}
use Rattle.std.specs.List.{flat_map}
use Rattle.word36.specs.Words.{left_half, right_half}
use Rattle.lock_queue.specs.Refusals.{code_of}
use Rattle.lock_queue.specs.StatusWords.{status_of}
use Rattle.lock_queue.specs.declared.call.LockReply.{LockReply}
use Rattle.lock_queue.specs.declared.call.LockReply.TheVariants as reply
use Rattle.lock_queue.specs.declared.refusal.Refusal.{Refusal}
use Rattle.lock_queue.specs.declared.refusal.Refusal.TheVariants as refused
use Rattle.lock_queue.specs.declared.request.Request.{Request}
use Rattle.lock_queue.specs.declared.status.Status.{Status}
use Rattle.lock_queue.specs.declared.want.Want.{Want}
use Rattle.call_block.specs.declared.block.Block.{Block}
use Rattle.uuo_calls.specs.Asked.{ReadBlock}
use Rattle.uuo_calls.specs.declared.asked.LockService.{LockService}
use Rattle.uuo_calls.specs.declared.asked.LockService.TheVariants.{Enq, Deq, Enqc}
use Rattle.machine.specs.Machine.{S}
use Rattle.machine.specs.Views.{word_in}
use Rattle.run_events.specs.declared.facts.Called.{Called}
use Rattle.run_events.specs.declared.facts.Fact.{Fact}
use Rattle.run_events.specs.declared.facts.Fact.TheVariants as fact
use Rattle.run_notes.specs.Words.{grant_words, limit_words, lock_words, wants_words}

abbrev pub service_words : LockService → List ℕ
service_words Enq = codes "ENQ."
service_words Deq = codes "DEQ."
service_words Enqc = codes "ENQC."

-- what the function of a lock call asks for
abbrev pub function_words : LockService → ℕ → List ℕ
function_words Enq function =
    if function == 0 then codes "wait"
    else if function == 1 then codes "at once"
    else if function == 2 then codes "by interrupt"
    else if function == 3 then codes "change"
    else codes "no such function"
function_words Deq function =
    if function == 0 then codes "locks"
    else if function == 1 then codes "all"
    else if function == 2 then codes "by request"
    else codes "no such function"
function_words Enqc function =
    if function == 0 then codes "status"
    else if function == 1 then codes "quota"
    else if function == 2 then codes "lower the quota"
    else codes "no such function"

-- ---- what a call names

-- the id of a request, in decimal
abbrev pub id_words : ℕ → List ℕ
id_words id = codes ", request " ++ (decimal id ++ codes ".")

abbrev pub limit_asked_words : ℕ → List ℕ
limit_asked_words limit = if nat_lt 0 limit then codes ", limit " ++ (decimal limit ++ codes " ticks") else []

-- ENQ. 0, 1 and 2 ask for the locks of their blocks, by a request with an id
abbrev pub asks_for_locks : LockService → ℕ → Bool
asks_for_locks Enq function = nat_le function 2
asks_for_locks Deq function = false
asks_for_locks Enqc function = false

-- a lock with the numbers of its owners and its waiters, as a job sees it
abbrev pub counts_words : Status → List ℕ
counts_words status =
    codes " (owners " ++ (decimal status.owner_count ++ (codes ", waiters " ++ (decimal status.waiter_count ++ codes ")")))

abbrev pub status_words : List Request → ℕ → Want → List ℕ
status_words requests job w = codes ", " ++ (lock_words w ++ counts_words (status_of requests w.key job))

abbrev pub locks_words : List Request → ℕ → LockService → List Want → List ℕ
locks_words requests job Enqc wants = flat_map (status_words requests job) wants
locks_words requests job Enq wants = wants_words wants
locks_words requests job Deq wants = wants_words wants

abbrev pub block_words : List Request → Called → Block → List ℕ
block_words requests c block =
    (if asks_for_locks c.asked.service (left_half c.asked.word) then id_words block.id else [])
    ++ (limit_asked_words block.limit ++ locks_words requests c.job c.asked.service block.wants.items)

-- what a call without a block names in the right half of its word: the id of a request, a job, a quota
abbrev pub named_words : ℕ → LockService → ℕ → ℕ → List ℕ
named_words job Enq function named = []
named_words job Deq function named = if function == 2 then id_words named else []
named_words job Enqc function named =
    if function == 1 then codes ", job " ++ decimal (if named == 0 then job else named)
    else if function == 2 then codes ", to " ++ decimal named
    else []

-- of a block that is refused no locks are named
abbrev pub what_words : List Request → Called → ReadBlock → List ℕ
what_words requests c (Some (Ok block)) = block_words requests c block
what_words requests c (Some (Err refusal)) =
    named_words c.job c.asked.service (left_half c.asked.word) (right_half c.asked.word)
what_words requests c None = named_words c.job c.asked.service (left_half c.asked.word) (right_half c.asked.word)

-- ---- what it is answered

-- a code in decimal and, where that differs, in octal
abbrev pub code_words : ℕ → List ℕ
code_words code = if nat_lt code 8 then decimal code else decimal code ++ (codes " (" ++ (digits 8 false code ++ codes " octal)"))

-- what a refusal means
abbrev pub meaning_of : Refusal → List ℕ
meaning_of refused.NotGranted = codes "not granted at once"
meaning_of refused.NoFunction = codes "no such function"
meaning_of refused.BadBlock = codes "the block is not in memory, or its head is wrong"
meaning_of refused.BadCount = codes "no lock, or more than 16"
meaning_of refused.BadPointer = codes "neither a user code nor a pointer to a name"
meaning_of refused.BadName = codes "an empty name, or one of more than 30 characters"
meaning_of refused.BadQualifier = codes "no such qualifier"
meaning_of refused.BadPool = codes "a pool or a group that makes no sense"
meaning_of refused.Differs = codes "another level, or another pool, than those present have"
meaning_of refused.LevelOrder = codes "the level is not above those before it"
meaning_of refused.NamedAlready = codes "named already"
meaning_of refused.NotPresent = codes "not present"
meaning_of refused.WouldLose = codes "the change would take a grant away"
meaning_of refused.QueueFull = codes "the queue is full"
meaning_of refused.NoVector = codes "there is no interrupt vector"
meaning_of refused.OverQuota = codes "the job has as many requests as it may have"
meaning_of refused.TimedOut = codes "its time limit ended"
meaning_of refused.NoSuchQuota = codes "no such job, or the quota would be greater"

abbrev pub refused_with : ℕ → List ℕ → List ℕ
refused_with code meaning = codes "refused, code " ++ (code_words code ++ (codes ": " ++ meaning))

abbrev pub refused_words : Refusal → List ℕ
refused_words refusal = refused_with (code_of refusal) (meaning_of refusal)

-- whether a request that is not granted at once, code 1, stays in the queue: that of ENQ. 2 does
abbrev pub stays : LockService → ℕ → Refusal → Bool
stays Enq function refusal = function == 2 && code_of refusal == 1
stays Deq function refusal = false
stays Enqc function refusal = false

abbrev pub refusal_words : LockService → ℕ → Refusal → List ℕ
refusal_words service function refusal =
    if stays service function refusal then codes "queued, it will be told (code 1)" else refused_words refusal

-- ENQC. 1 has left the quota and the number of requests in its accumulator
abbrev pub quota_words : ℕ → List ℕ
quota_words word =
    codes "done, quota " ++ (decimal (left_half word) ++ (codes ", requests " ++ decimal (right_half word)))

abbrev pub done_words : S → Called → LockService → List ℕ
done_words s c Enqc =
    if left_half c.asked.word == 1 then quota_words (unwrap_or (word_in s.world c.job c.asked.ac) 0) else codes "done"
done_words s c Enq = codes "done"
done_words s c Deq = codes "done"

abbrev pub answer_words : S → Called → LockReply → List ℕ
answer_words s c reply.Granted = codes "granted"
answer_words s c reply.Queued = codes "queued, the job waits"
answer_words s c (reply.Refused refusal) = refusal_words c.asked.service (left_half c.asked.word) refusal
answer_words s c reply.Done = done_words s c c.asked.service

-- ---- the facts

-- a lock call that a job made in a tick, on the machine as the call left it
abbrev pub called_words : S → ℕ → Called → List ℕ
called_words s tick c =
    codes "tick " ++ (decimal tick ++ (codes ", job " ++ (decimal c.job ++ (codes ": " ++ (service_words c.asked.service
    ++ (codes " " ++ (digits 8 false (left_half c.asked.word) ++ (codes " ("
    ++ (function_words c.asked.service (left_half c.asked.word) ++ (codes ")" ++ (what_words s.world.requests c c.block
    ++ (codes ": " ++ (answer_words s c c.reply ++ codes "\n")))))))))))))

-- the line on a fact of a tick, on the machine as the fact left it; a circle has a line of its own, and the others have none
abbrev pub fact_text : S → ℕ → Fact → List ℕ
fact_text s tick (fact.Called c) = called_words s tick c
fact_text s tick (fact.Granted r) = grant_words tick r
fact_text s tick (fact.LimitEnded job id) = limit_words tick job id
fact_text s tick (fact.Left r) = []
fact_text s tick (fact.CircleClosed job) = []
fact_text s tick (fact.Stopped job why) = []
fact_text s tick (fact.LoggedOut job) = []

-- the line on a grant, and none on another fact
abbrev pub grant_text : ℕ → Fact → List ℕ
grant_text tick (fact.Granted r) = grant_words tick r
grant_text tick (fact.Called c) = []
grant_text tick (fact.LimitEnded job id) = []
grant_text tick (fact.Left r) = []
grant_text tick (fact.CircleClosed job) = []
grant_text tick (fact.Stopped job why) = []
grant_text tick (fact.LoggedOut job) = []

-- the lines on the grants among some facts of one tick
abbrev pub grants_text : ℕ → List Fact → List ℕ
grants_text tick facts = flat_map (grant_text tick) facts

-- the lines on some facts of one tick
abbrev pub facts_text : S → ℕ → List Fact → List ℕ
facts_text s tick facts = flat_map (fact_text s tick) facts
