-- The options of a lock: `/S`, `/Gn`, `/B`, `/Ln`, `/Ps:a` and `/J` (this project's profile).
use Rattle.std.specs.Prelude.{◌≡◌, ◌==◌, ◌&&◌, not, ℕ, Bool, true, false, List, [], ◌∷◌}
use Rattle.std.specs.Prelude.{Option, Some, None, if◌then◌else◌, option_and_then, option_map}
use Rattle.script_io.specs.Numbers.{number, parts}
use Rattle.queue_script.specs.declared.options.LockOption.{LockOption}
use Rattle.queue_script.specs.declared.options.LockOption.TheVariants.{Shared, Group, Bypass, Level, Pool, Own}
use Rattle.queue_script.specs.declared.options.Options.{Options}
use Rattle.queue_script.specs.declared.options.TheConstants.{MOST_HALF, MOST_LEVEL}
use Rattle.queue_script.specs.declared.options.PoolOption.{PoolOption}

-- a number of 18 bits in decimal
abbrev pub half_of : List ℕ → Option ℕ
half_of text = number 10 MOST_HALF text

-- the pool of two texts, its size and an amount
abbrev pub pool_of : List (List ℕ) → Option PoolOption
pool_of (size ∷ amount ∷ []) =
    option_and_then (λ s. option_map (λ a. record { size = s; amount = a }) (half_of amount)) (half_of size)
pool_of _ = None

-- a letter that stands alone
abbrev pub alone : LockOption → List ℕ → Option LockOption
alone option [] = Some option
alone option (c ∷ more) = None

-- the option that a text behind a `/` spells: its letter, S, B, J, L, P or G, and what follows
abbrev pub option_of : List ℕ → Option LockOption
option_of [] = None
option_of (letter ∷ rest) =
    if letter == 83 then alone Shared rest
    else (if letter == 66 then alone Bypass rest
    else (if letter == 74 then alone Own rest
    else (if letter == 76 then option_map Level (number 10 MOST_LEVEL rest)
    else (if letter == 80 then option_map Pool (pool_of (parts 58 rest))
    else (if letter == 71 then option_map Group (half_of rest)
    else None)))))

-- no option
abbrev pub no_options : Options
no_options = record { shared = false; group = None; bypass = false; level = None; pool = None; own = false }

-- some options and one more, which is not among them
abbrev pub with_option : Options → LockOption → Option Options
with_option o Shared = if o.shared then None else Some (record o { shared = true })
with_option o (Group group) = elim o.group [ None ↦ Some (record o { group = Some group }) | Some other ↦ None ]
with_option o Bypass = if o.bypass then None else Some (record o { bypass = true })
with_option o (Level level) = elim o.level [ None ↦ Some (record o { level = Some level }) | Some other ↦ None ]
with_option o (Pool pool) = elim o.pool [ None ↦ Some (record o { pool = Some pool }) | Some other ↦ None ]
with_option o Own = if o.own then None else Some (record o { own = true })

-- some options and those of the texts, in any order, each at most once
abbrev pub options_from : Options → List (List ℕ) → Option Options
options_from o [] = Some o
options_from o (text ∷ more) =
    option_and_then (λ option. option_and_then (λ next. options_from next more) (with_option o option)) (option_of text)

-- neither a slash nor a blank, which end an option
abbrev pub is_option_character : ℕ → Bool
is_option_character c = not (c == 47) && not (c == 32)

-- the first of some items spells what makes these options of some others, and these items are behind it
abbrev pub SpellsOptions : Options → List ℕ → Options → List (List ℕ) → Type 0
SpellsOptions before items options others =
    (item : List ℕ) × (parts 32 items ≡ item ∷ others) × (options_from before (parts 47 item) ≡ Some options)
