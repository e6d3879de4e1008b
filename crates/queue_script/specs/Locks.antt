-- The locks of a command, and what a call wants of them (this project's profile).
use Rattle.std.specs.Prelude.{◌≡◌, ◌≤◌, take, ◌==◌, ◌&&◌, ◌||◌, ◌++◌, ◌+◌}
use Rattle.std.specs.Prelude.{ℕ, Bool, true, false, List, [], ◌∷◌, length, Option, Some, None, IfSome, Result}
use Rattle.std.specs.Prelude.{Ok, Err, if◌then◌else◌, option_and_then, option_map, unwrap_or, nat_le}
use Rattle.std.specs.Borrow.{Bor}
use Rattle.std.specs.List.{list_all}
use Rattle.arrayvec.specs.ArrayVec.{ArrayVec}
use Rattle.word36.specs.declared.sizes.TheConstants.{LOCKS_A_CALL, NAME_LENGTH}
use Rattle.lock_queue.specs.Uses.{want_on}
use Rattle.lock_queue.specs.declared.key.Key.{Key}
use Rattle.lock_queue.specs.declared.key.Scope.TheVariants.{All, Job}
use Rattle.lock_queue.specs.declared.name.Name.{Name}
use Rattle.lock_queue.specs.declared.name.Name.TheVariants.{Text, Code}
use Rattle.lock_queue.specs.declared.refusal.Refusal.{Refusal}
use Rattle.lock_queue.specs.declared.refusal.Refusal.TheVariants.{BadCount, BadName}
use Rattle.lock_queue.specs.declared.terms.BlockUse.{BlockUse}
use Rattle.lock_queue.specs.declared.terms.Terms.{Terms}
use Rattle.lock_queue.specs.declared.want.Want.{Want}
use Rattle.script_io.specs.Numbers.{number, parts}
use Rattle.queue_script.specs.Options.{no_options, options_from}
use Rattle.queue_script.specs.declared.locks.Lock.{Lock}
use Rattle.queue_script.specs.declared.locks.LockName.{LockName}
use Rattle.queue_script.specs.declared.locks.LockName.TheVariants.{Spelled, Coded}
use Rattle.queue_script.specs.declared.locks.StoreOutcome.{StoreOutcome}
use Rattle.queue_script.specs.declared.locks.StoreOutcome.TheVariants as outcome
use Rattle.queue_script.specs.declared.locks.TheConstants.{CODE_DIGITS, MOST_CODE}
use Rattle.queue_script.specs.declared.options.Options.{Options}
use Rattle.queue_script.specs.declared.options.PoolOption.{PoolOption}

-- ---- what a lock's text says

-- letters, digits, `.`, `-` and `_`
abbrev pub is_name_character : ℕ → Bool
is_name_character c =
    ((nat_le 65 c && nat_le c 90) || (nat_le 97 c && nat_le c 122))
    || ((nat_le 48 c && nat_le c 57) || ((c == 46 || c == 45) || c == 95))

-- 1 to 11 octal digits, a number of 33 bits at most
abbrev pub user_code : List ℕ → Option ℕ
user_code digits = if nat_le (length digits) CODE_DIGITS then number 8 MOST_CODE digits else None

-- a name in characters, which may be too long for a lock
abbrev pub name_of_characters : List ℕ → Option LockName
name_of_characters text = if list_all is_name_character text then Some (Spelled text) else None

-- the name that a text spells: `#` and a user code, or one or more characters
abbrev pub name_of : List ℕ → Option LockName
name_of [] = None
name_of (c ∷ rest) =
    if c == 35 then option_map Coded (user_code rest) else name_of_characters (c ∷ rest)

-- the lock of some texts: a name and options
abbrev pub lock_of_parts : List (List ℕ) → Option Lock
lock_of_parts [] = None
lock_of_parts (name ∷ options) =
    option_and_then (λ n. option_map (λ o. record { name = n; options = o }) (options_from no_options options)) (name_of name)

-- the lock that an item of a line spells: parts between slashes
abbrev pub lock_of : List ℕ → Option Lock
lock_of item = lock_of_parts (parts 47 item)

-- the locks that all items spell
abbrev pub locks_of : List (List ℕ) → Option (List Lock)
locks_of [] = Some []
locks_of (item ∷ more) = option_and_then (λ lock. option_map (λ locks. lock ∷ locks) (locks_of more)) (lock_of item)

-- the first of some items spells this lock, or none, and these are behind it
abbrev pub IsFirstLock : List (List ℕ) → Option Lock → List (List ℕ) → Type 0
IsFirstLock items lock others = (item : List ℕ) × (items ≡ item ∷ others) × (lock_of item ≡ lock)

-- some items are the parts of this text, where it is known, and so many characters at its front can belong to a name
abbrev pub IsNameFront : List (List ℕ) → Option (Bor (List ℕ)) → ℕ → Type 0
IsNameFront items text n =
    IfSome text (λ t. (items ≡ parts 32 t.now) × (n ≤ length t.now) × (list_all is_name_character (take n t.now) ≡ true))

-- ---- what a call wants of a lock

abbrev pub key_of : ℕ → Name → Bool → Key
key_of job name own = record { scope = (if own then Job job else All); name = name }

-- a pool that is not given is size 0 and amount 0
abbrev pub size_in : Option PoolOption → ℕ
size_in None = 0
size_in (Some pool) = pool.size

abbrev pub amount_in : Option PoolOption → ℕ
amount_in None = 0
amount_in (Some pool) = pool.amount

-- the terms that options spell; group 0 and level 0 where none is given
abbrev pub terms_of : Options → Terms
terms_of o =
    record {
      shared = o.shared;
      group = unwrap_or o.group 0;
      bypass = o.bypass;
      level = unwrap_or o.level 0;
      pool_size = size_in o.pool;
      pool_amount = amount_in o.pool;
    }

-- what a job's call wants of a lock, or why that is refused: a name in characters has at most 30
abbrev pub want_of_name : ℕ → BlockUse → LockName → Options → Result Want Refusal
want_of_name job use_ (Spelled text) o =
    if nat_le (length text) NAME_LENGTH then want_on use_ (key_of job (Text text) o.own) (terms_of o) else Err BadName
want_of_name job use_ (Coded code) o = want_on use_ (key_of job (Code code) o.own) (terms_of o)

abbrev pub want_of : ℕ → BlockUse → Lock → Result Want Refusal
want_of job use_ lock = want_of_name job use_ lock.name lock.options

-- what any call wants of the lock of a name alone
abbrev pub plain_want : List ℕ → Result Want Refusal
plain_want text =
    if nat_le (length text) NAME_LENGTH
    then Ok (record { key = record { scope = All; name = Text text }; shared = false; group = 0; bypass = false; level = 0; pool = None })
    else Err BadName

-- some wants and one more, where it is not refused
abbrev pub with_want : List Want → Result Want Refusal → List Want
with_want wants (Ok want) = wants ++ want ∷ []
with_want wants (Err refusal) = wants

-- what is done with a lock of which this is wanted
abbrev pub store_outcome : Result Want Refusal → StoreOutcome
store_outcome (Ok want) = outcome.Stored
store_outcome (Err refusal) = outcome.Refused refusal

-- the position behind a want at some position, if it is not refused
abbrev pub position_behind : ℕ → Result Want Refusal → ℕ
position_behind position (Ok want) = position + 1
position_behind position (Err refusal) = position

-- a want is stored at a position behind the wants before it, or refused
abbrev pub StoresWant : Result Want Refusal → ℕ → List Want → List Want → StoreOutcome → Type 0
StoresWant want position wants next result =
    (result ≡ store_outcome want)
    × (take (position_behind position want) next ≡ with_want (take position wants) want)
    × (position_behind position want ≤ length next)

-- what a call wants of this lock is stored so; or there is no lock
abbrev pub Stores : ℕ → BlockUse → Option Lock → ℕ → List Want → List Want → StoreOutcome → Type 0
Stores job use_ None position wants next result = result ≡ outcome.NoLock
Stores job use_ (Some lock) position wants next result = StoresWant (want_of job use_ lock) position wants next result

-- the same of the lock that the first of some items spells; these items are behind it
abbrev pub StoresFirst : ℕ → BlockUse → List (List ℕ) → List (List ℕ)
    → ℕ → List Want → List Want → StoreOutcome → Type 0
StoresFirst job use_ items others position wants next result =
    (lock : Option Lock) × IsFirstLock items lock others × Stores job use_ lock position wants next result

-- a want in front of others, or the first refusal
abbrev pub onto_wants : Result Want Refusal → Result (List Want) Refusal → Result (List Want) Refusal
onto_wants (Ok want) (Ok wants) = Ok (want ∷ wants)
onto_wants (Ok want) (Err refusal) = Err refusal
onto_wants (Err refusal) later = Err refusal

-- the wants of all locks, or the first refusal, lock by lock
abbrev pub wants_of : ℕ → BlockUse → List Lock → Result (List Want) Refusal
wants_of job use_ [] = Ok []
wants_of job use_ (lock ∷ more) = onto_wants (want_of job use_ lock) (wants_of job use_ more)

abbrev pub stored : Result (List Want) Refusal → Result (ArrayVec Want) Refusal
stored (Ok wants) = Ok (record { items = wants })
stored (Err refusal) = Err refusal

-- the wants of a call; a wrong number of locks comes before any other refusal
abbrev pub call_wants : ℕ → BlockUse → List Lock → Result (ArrayVec Want) Refusal
call_wants job use_ locks =
    if nat_le 1 (length locks) && nat_le (length locks) LOCKS_A_CALL then stored (wants_of job use_ locks) else Err BadCount

-- why a call is refused that names so many locks and these, one of which is wrong: too many locks come first
abbrev pub refused_with : ℕ → Refusal → List Lock → StoreOutcome
refused_with count why locks = if nat_le (count + length locks) LOCKS_A_CALL then outcome.Refused why else outcome.Refused BadCount
