-- The lines that commands on the lock queue write (this project's profile). A text is the list of its ASCII codes.
use Rattle.std.specs.Prelude.{◌==◌, ℕ, Bool, List, [], ◌∷◌, ◌++◌, Option, Some, None, if◌then◌else◌, codes, decimal}
use Rattle.std.specs.List.{flat_map}
use Rattle.word36.specs.Octal.{octal_text, word_text}
use Rattle.lock_queue.specs.Pools.{PoolShare}
use Rattle.lock_queue.specs.Refusals.{code_of}
use Rattle.lock_queue.specs.StatusWords.{owner_word, count_word}
use Rattle.lock_queue.specs.declared.call.LockReply.{LockReply}
use Rattle.lock_queue.specs.declared.call.LockReply.TheVariants.{Granted, Queued, Done, Refused}
use Rattle.lock_queue.specs.declared.grant.Grant.{Grant}
use Rattle.lock_queue.specs.declared.key.Scope.{Scope}
use Rattle.lock_queue.specs.declared.key.Scope.TheVariants.{All, Job}
use Rattle.lock_queue.specs.declared.name.Name.{Name}
use Rattle.lock_queue.specs.declared.name.Name.TheVariants.{Text, Code}
use Rattle.lock_queue.specs.declared.refusal.Refusal.{Refusal}
use Rattle.lock_queue.specs.declared.request.EnqueueKind.{EnqueueKind}
use Rattle.lock_queue.specs.declared.request.EnqueueKind.TheVariants.{Blocking, AtOnce, Interrupt}
use Rattle.lock_queue.specs.declared.request.Request.{Request}
use Rattle.lock_queue.specs.declared.status.Status.{Status}
use Rattle.lock_queue.specs.declared.want.Want.{Want}
use Rattle.script_io.specs.Printing.{escaped}
use Rattle.queue_script.specs.Locks.{is_name_character}

-- ---- answers

-- `CODE n`
abbrev pub code_line : Refusal → List ℕ
code_line refusal = codes "CODE " ++ decimal (code_of refusal) ++ codes "\n"

-- the line of a call's answer
abbrev pub reply_line : LockReply → List ℕ
reply_line Granted = codes "OK\n"
reply_line Done = codes "OK\n"
reply_line Queued = codes "WAIT\n"
reply_line (Refused refusal) = code_line refusal

-- `GRANT j id`
abbrev pub grant_line : Grant → List ℕ
grant_line grant = codes "GRANT " ++ decimal grant.job ++ codes " " ++ decimal grant.id ++ codes "\n"

-- a line of three words
abbrev pub status_line : Status → List ℕ
status_line s = word_text (owner_word s) ++ codes " " ++ word_text (count_word s) ++ codes " " ++ word_text s.amount ++ codes "\n"

-- ---- requests

-- a character of a name; one that a script cannot spell is escaped
abbrev pub name_character : ℕ → List ℕ
name_character c = if is_name_character c then c ∷ [] else escaped c

abbrev pub name_text : Name → List ℕ
name_text (Text name) = flat_map name_character name
name_text (Code code) = codes "#" ++ octal_text code

abbrev pub group_text : ℕ → List ℕ
group_text group = if group == 0 then [] else codes "/G" ++ decimal group

abbrev pub level_text : ℕ → List ℕ
level_text level = if level == 0 then [] else codes "/L" ++ decimal level

abbrev pub pool_text : Option PoolShare → List ℕ
pool_text None = []
pool_text (Some p) = codes "/P" ++ decimal p.size ++ codes ":" ++ decimal p.amount

abbrev pub scope_text : Scope → List ℕ
scope_text All = []
scope_text (Job job) = codes "/J"

-- a lock of a request: its name, and its options in one order
abbrev pub want_text : Want → List ℕ
want_text w =
    name_text w.key.name ++ (if w.shared then codes "/S" else []) ++ group_text w.group
    ++ (if w.bypass then codes "/B" else []) ++ level_text w.level ++ pool_text w.pool ++ scope_text w.key.scope

abbrev pub kind_number : EnqueueKind → ℕ
kind_number Blocking = 0
kind_number AtOnce = 1
kind_number Interrupt = 2

-- the locks of a request, each behind a space
abbrev pub wants_text : List Want → List ℕ
wants_text [] = []
wants_text (w ∷ more) = codes " " ++ want_text w ++ wants_text more

-- `j kind id OWN` or `WAIT` and the locks
abbrev pub request_line : Bool → Request → List ℕ
request_line granted r =
    decimal r.job ++ codes " " ++ decimal (kind_number r.kind) ++ codes " " ++ decimal r.id
    ++ (if granted then codes " OWN" else codes " WAIT") ++ wants_text r.wants.items ++ codes "\n"
