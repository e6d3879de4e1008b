-- The sentences on why a call is not done, or not granted, at once (this project's profile).
use Rattle.std.specs.Prelude.{ℕ, ◌==◌, ◌++◌, List, [], ◌∷◌, Option, Some, None, codes, decimal, if◌then◌else◌}
use Rattle.std.specs.List.{flat_map}
use Rattle.lock_bars.specs.Names.{label_text}
use Rattle.lock_queue.specs.declared.refusal.Refusal.{Refusal}
use Rattle.lock_queue.specs.declared.refusal.Refusal.TheVariants as refusal
use Rattle.lock_queue.specs.declared.key.Key.{Key}
use Rattle.lock_queue.specs.declared.want.Want.{Want}
use Rattle.lock_queue.specs.Pools.{PoolShare}
use Rattle.lock_reasons.specs.Causes.{CallCause, in_the_way, refused}
use Rattle.lock_reasons.specs.declared.meetings.Present.{Present}
use Rattle.lock_reasons.specs.declared.meetings.Rule.{Rule}
use Rattle.lock_reasons.specs.declared.meetings.Rule.TheVariants as rule
use Rattle.lock_reasons.specs.declared.reasons.Met.{Met}
use Rattle.lock_reasons.specs.declared.reasons.Met.TheVariants as met
use Rattle.lock_reasons.specs.declared.reasons.Reason.{Reason}
use Rattle.lock_reasons.specs.declared.reasons.Reason.TheVariants as reason
use Rattle.script_reasons.specs.Explanations.{CallExplanation, busy, by_queue, wrong}

-- what a call is refused for before it is judged
abbrev pub refusal_text : Refusal → List ℕ
refusal_text refusal.NoFunction = codes "there is no such function: ENQ has 0 to 3, DEQ 0 to 2"
refusal_text refusal.BadBlock =
    codes "the block's head is not n,,2+3n, or it has a limit and the call does not wait, or the job has no such memory"
refusal_text refusal.BadCount = codes "a call names 1 to 16 locks"
refusal_text refusal.BadPointer = codes "a lock has neither a user code nor a byte pointer to a name that the job has"
refusal_text refusal.BadName = codes "a name has 1 to 30 characters"
refusal_text refusal.BadQualifier = codes "a name is one of all jobs (777777) or of the job's own (777776)"
refusal_text refusal.BadPool =
    codes "an amount is from 1 to the size of its pool, a pool is not shared, and only what is shared has a group"
refusal_text _ = codes "the call is wrong in itself"

-- ---- wants

-- how a want has its lock: an amount of a pool, by itself, or shared by all or by a group
abbrev pub group_text : ℕ → List ℕ
group_text group = if group == 0 then codes "shared" else codes "shared in group " ++ decimal group

abbrev pub share_in : Option PoolShare → Want → List ℕ
share_in (Some pool) w = decimal pool.amount ++ codes " of " ++ decimal pool.size
share_in None w = if w.shared then group_text w.group else codes "exclusive"

abbrev pub share_text : Want → List ℕ
share_text w = share_in w.pool w

-- its level, and the size of its pool
abbrev pub terms_of : ℕ → ℕ → List ℕ
terms_of level size = codes "level " ++ decimal level ++ codes " and a pool of " ++ decimal size

abbrev pub terms_in : ℕ → Option PoolShare → List ℕ
terms_in level (Some pool) = terms_of level pool.size
terms_in level None = codes "level " ++ decimal level ++ codes " and no pool"

abbrev pub terms_text : Want → List ℕ
terms_text w = terms_in w.level w.pool

-- ---- how a want meets another one

abbrev pub want_of : Met → Want
want_of (met.Earlier w) = w
want_of (met.InQueue present) = present.want

-- who wants that lock: the call itself, or a job by a request
abbrev pub wants_by : ℕ → ℕ → List ℕ
wants_by job id = codes "job " ++ decimal job ++ codes " wants by request " ++ decimal id

abbrev pub who_text : Met → List ℕ
who_text (met.Earlier w) = codes "the call names before it"
who_text (met.InQueue present) = wants_by present.job present.id

-- the level of a want, and its lock
abbrev pub level_of : ℕ → Key → List ℕ
level_of level key = codes "level " ++ decimal level ++ codes " of " ++ label_text key

unfoldable pub level_text : Want → List ℕ
level_text w = level_of w.level w.key

-- why the first of two wants is at fault, the second of which is met
abbrev pub meeting_text : Rule → Want → Want → List ℕ → List ℕ
meeting_text rule.Reaches w v who = level_text w ++ codes " is not above " ++ level_text v ++ codes ", which " ++ who
meeting_text rule.Differs w v who =
    label_text w.key ++ codes " has " ++ terms_text w ++ codes " here, and " ++ terms_text v ++ codes " in what " ++ who
meeting_text rule.Names w v who = label_text w.key ++ codes ", which " ++ who ++ codes ", is named again"
meeting_text rule.Pools w v who = label_text w.key ++ codes " can't be shared, for it is of a pool, which " ++ who

-- ---- who is in the way of a want

abbrev pub present_text : Present → List ℕ
present_text present =
    codes "request " ++ decimal present.id ++ codes " of job " ++ decimal present.job ++ codes " (" ++ share_text present.want
    ++ codes ")"

abbrev pub also_text : Present → List ℕ
also_text present = codes ", " ++ present_text present

abbrev pub all_text : List Present → List ℕ
all_text [] = []
all_text (first ∷ more) = codes ": " ++ present_text first ++ flat_map also_text more

abbrev pub way_text : Want → List Present → List ℕ
way_text w way = codes "in the way of " ++ label_text w.key ++ all_text way

-- ---- why a job's call is refused, or waits

abbrev pub no_request_of : ℕ → ℕ → List ℕ
no_request_of job id = codes "job " ++ decimal job ++ codes " has no request " ++ decimal id

abbrev pub would_lose : ℕ → ℕ → List ℕ
would_lose other id = codes "job " ++ decimal other ++ codes " would lose what it owns by request " ++ decimal id

abbrev pub reason_text : ℕ → Reason → List ℕ
reason_text job (reason.Meets rule w met) = meeting_text rule w (want_of met) (who_text met)
reason_text job (reason.NotPresent w) = codes "job " ++ decimal job ++ codes " has no request for " ++ label_text w.key
reason_text job reason.NoRequest = codes "job " ++ decimal job ++ codes " has no request"
reason_text job (reason.NoRequestOf id) = no_request_of job id
reason_text job reason.NoVector = codes "job " ++ decimal job ++ codes " has no interrupt vector"
reason_text job (reason.OverQuota quota) =
    codes "job " ++ decimal job ++ codes " may have no more requests than " ++ decimal quota
reason_text job (reason.QueueFull size) = codes "the queue is full: it has " ++ decimal size ++ codes " requests"
reason_text job (reason.NotGranted w) = way_text w []
reason_text job (reason.WouldLose other id) = would_lose other id

abbrev pub cause_text : ℕ → CallCause → List ℕ
cause_text job (refused reason) = reason_text job reason
cause_text job (in_the_way w way) = way_text w way

-- the words of an explanation
abbrev pub explanation_text : CallExplanation → List ℕ
explanation_text (busy job) = codes "job " ++ decimal job ++ codes " waits, and makes no call"
explanation_text (wrong refusal) = refusal_text refusal
explanation_text (by_queue job cause) = cause_text job cause
