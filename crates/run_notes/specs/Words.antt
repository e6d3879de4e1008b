-- Facts of a run in words (this project's profile).
use Rattle.std.specs.Prelude.{◌≡◌, ◌==◌, ◌++◌, ◌+◌, ◌-◌, ◌<◌, ◌&&◌, nat_lt, ℕ, List, [], ◌∷◌, length, take, drop, slice_index_or}
use Rattle.std.specs.Prelude.{Option, Some, None, IfSome, false, codes, decimal, if◌then◌else◌}
use Rattle.std.specs.List.{IsFirstBest, flat_map, list_any}
use Rattle.lock_queue.specs.Jobs.{waits_for}
use Rattle.lock_queue.specs.Queue.{some_behind}
use Rattle.lock_queue.specs.Waits.{waits_hard_for, jobs as the_jobs}
use Rattle.lock_queue.specs.declared.request.Request.{Request}
use Rattle.lock_queue.specs.declared.want.Want.{Want}
use Rattle.queue_script.specs.Printing.{name_text, group_text, level_text, pool_text, scope_text}
use Rattle.wait_graph.specs.LockWaits.{is_kept_from, is_kept_waiting, keepers, want_at, want_kept, want_waited_for, waits_for_owner}
use Rattle.wait_graph.specs.declared.lock_waits.LockBetween.{LockBetween}
use Rattle.wait_graph.specs.declared.lock_waits.LockWait.{LockWait}

-- a job's time limit ended at a tick, with the request by which the job waited
abbrev pub limit_words : ℕ → ℕ → Option ℕ → List ℕ
limit_words tick job (Some id) =
    codes "tick " ++ (decimal tick ++ (codes ", job " ++ (decimal job
    ++ (codes ": time limit ended, request " ++ (decimal id ++ codes "., code 17 (21 octal)\n")))))
limit_words tick job None =
    codes "tick " ++ (decimal tick ++ (codes ", job " ++ (decimal job ++ codes ": time limit ended, code 17 (21 octal)\n")))

-- the options of a want, in the order of scripts of `lockmon queue`
abbrev pub options_words : Want → List ℕ
options_words w =
    (if w.shared then codes "/S" else []) ++ (group_text w.group ++ ((if w.bypass then codes "/B" else [])
    ++ (level_text w.level ++ (pool_text w.pool ++ scope_text w.key.scope))))

abbrev pub lock_words : Want → List ℕ
lock_words w = name_text w.key.name ++ options_words w

-- each of some locks behind a comma
abbrev pub want_words : Want → List ℕ
want_words w = codes ", " ++ lock_words w

abbrev pub wants_words : List Want → List ℕ
wants_words wants = flat_map want_words wants

-- a request that was granted at a tick
abbrev pub grant_words : ℕ → Request → List ℕ
grant_words tick r =
    codes "tick " ++ (decimal tick ++ (codes ", job " ++ (decimal r.job
    ++ (codes ": granted request " ++ (decimal r.id ++ (codes "." ++ (wants_words r.wants.items ++ codes "\n")))))))

-- the first lock from which another job keeps a job, if it keeps it from one, and whether it owns it
pub record IsBetween (requests : List Request) (job other : ℕ) (o : Option LockBetween) : Type 0 where
  pub held : IfSome o (λ b. b.is_held ≡ waits_hard_for requests job other)
  pub lock : IfSome o (λ b. want_at (want_kept b.is_held job other) requests b.position ≡ Some b.want.now)
  pub first : IfSome o (λ b. some_behind (is_kept_from b.is_held job other) [] (take b.position requests) ≡ false)
  pub none : o ≡ None → waits_for requests job other ≡ false

-- what a job of a circle has
abbrev pub had_words : Option LockBetween → List ℕ
had_words None = codes "is in front"
had_words (Some b) = (if b.is_held then codes "has " else codes "is in front for ") ++ name_text b.want.now.key.name

-- what it waits for
abbrev pub waited_words : Option LockBetween → List ℕ
waited_words None = codes "waits for a lock"
waited_words (Some b) = codes "waits for " ++ name_text b.want.now.key.name

abbrev pub job_words : ℕ → List ℕ → List ℕ → List ℕ
job_words job had waited =
    codes " job " ++ (decimal job ++ (codes " (" ++ (had ++ (codes ", " ++ (waited ++ codes ")")))))

-- a job of a circle: it has the lock that the job before it waits for, and waits for the one that the next job has
pub record IsJobText (requests : List Request) (before job next : ℕ) (text : List ℕ) : Type 0 where
  pub had : Option LockBetween
  pub waited : Option LockBetween
  pub has : IsBetween requests before job had
  pub waits : IsBetween requests job next waited
  pub words : text ≡ job_words job (had_words had) (waited_words waited)

-- the first of some jobs, or another one where there is none
abbrev pub first_or : ℕ → List ℕ → ℕ
first_or other [] = other
first_or other (job ∷ jobs) = job

-- some jobs of a circle, one after the other, which stand between two jobs: each with what it has and waits for, and a comma
-- between them; what stands before the first is given
abbrev pub AreJobTexts : List Request → ℕ → List ℕ → ℕ → List ℕ → List ℕ → Type 0
AreJobTexts requests before [] after comma text = text ≡ []
AreJobTexts requests before (job ∷ jobs) after comma text =
    (own later : List ℕ) × IsJobText requests before job (first_or after jobs) own
    × AreJobTexts requests job jobs after (codes ",") later × (text ≡ comma ++ (own ++ later))

-- all jobs of a circle: the first waits for the second, and the last for the first
abbrev pub IsCircleText : List Request → List ℕ → List ℕ → Type 0
IsCircleText requests jobs text = AreJobTexts requests (slice_index_or jobs (length jobs - 1) 0) jobs (first_or 0 jobs) [] text

-- the same circle, from its least job on
pub record IsFromLeast (circle jobs : List ℕ) : Type 0 where
  pub position : ℕ
  pub turned : jobs ≡ drop position circle ++ take position circle
  pub least : 0 < length circle → IsFirstBest nat_lt circle (length circle) position

abbrev pub circle_words : ℕ → List ℕ → List ℕ
circle_words tick text = codes "tick " ++ (decimal tick ++ (codes ": circle:" ++ (text ++ codes "\n")))

-- the line on a circle: the tick, and each of its jobs once, in the order of their waits, from the least on
pub record IsCircleLine (tick : ℕ) (requests : List Request) (circle text : List ℕ) : Type 0 where
  pub jobs : List ℕ
  pub told : List ℕ
  pub turned : IsFromLeast circle jobs
  pub each : IsCircleText requests jobs told
  pub words : text ≡ circle_words tick told

-- what stands before the job at a position of a list of so many
abbrev pub before_words : ℕ → ℕ → List ℕ
before_words position count =
    if position == 0 then (if count == 1 then codes " job " else codes " jobs ")
    else if position + 1 == count then codes " and " else codes ", "

-- the jobs of a list of so many, from a position on
abbrev pub jobs_words : ℕ → ℕ → List ℕ → List ℕ
jobs_words count position [] = []
jobs_words count position (job ∷ later) = before_words position count ++ (decimal job ++ jobs_words count (position + 1) later)

-- what a job waits for: the lock, and who owns it, or stands in front of the job
abbrev pub wait_words : LockWait → List ℕ
wait_words w =
    codes "lock " ++ (lock_words w.want.now ++ ((if w.is_held then codes ", held by" else codes ", behind")
    ++ jobs_words (length w.jobs.items) 0 w.jobs.items))

abbrev pub waits_words : Option LockWait → List ℕ
waits_words None = codes "waits for a lock"
waits_words (Some w) = codes "waits for " ++ wait_words w

-- what a job waits for, if it waits for others: the first lock, of the first request by which others keep it waiting, from which
-- they keep it, and all who do
pub record IsWait (requests : List Request) (job : ℕ) (o : Option LockWait) : Type 0 where
  pub held : IfSome o (λ w. w.is_held ≡ waits_for_owner requests job)
  pub jobs : IfSome o (λ w. w.jobs.items ≡ keepers w.is_held requests job (take w.position requests) w.want.now)
  pub lock : IfSome o (λ w. want_at (want_waited_for w.is_held requests job) requests w.position ≡ Some w.want.now)
  pub first : IfSome o (λ w. some_behind (is_kept_waiting w.is_held requests job) [] (take w.position requests) ≡ false)
  pub none : o ≡ None → list_any (waits_for requests job) the_jobs ≡ false

-- the words on what a job waits for
pub record IsWaitText (requests : List Request) (job : ℕ) (text : List ℕ) : Type 0 where
  pub wait : Option LockWait
  pub is : IsWait requests job wait
  pub words : text ≡ waits_words wait
