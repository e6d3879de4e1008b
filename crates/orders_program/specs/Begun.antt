-- The machine on which orders begin (this project's profile).
use Rattle.std.specs.Prelude.{ℕ, zero, suc, ◌+◌, ◌++◌, min, List, [], ◌∷◌}
use Rattle.word36.specs.declared.sizes.TheConstants.{MOST_REQUESTS}
use Rattle.machine.specs.Machine.{S, at_boot, logged_in, started}
use Rattle.run_record.specs.declared.happened.RunEvent.{RunEvent}
use Rattle.run_record.specs.declared.happened.RunEvent.TheVariants.{Login, Start, Typed}
use Rattle.source_labels.specs.declared.sources.Program.{Program}
use Rattle.job_order_laws.specs.Turned.{V}
use Rattle.job_orders.specs.Reports.{started as untouched}
use Rattle.orders_program.specs.declared.loading.Work.{Work}

-- the number after this one; 255 stays
abbrev pub after_number : ℕ → ℕ
after_number n = min 255 (n + 1)

-- a job is logged in for each program, the first at this line, the next at the next; one that is refused changes nothing
abbrev pub logged : ℕ → List Program → S → S
logged line [] s = s
logged line (p ∷ more) s = logged (after_number line) more (logged_in s line p.image.words.items p.image.start).state

-- a job is started for each program, this one first
abbrev pub all_started : ℕ → List Program → S → S
all_started job [] s = s
all_started job (p ∷ more) s = all_started (after_number job) more (started s job).state

-- all of that, from the boot
abbrev pub begun_with : ℕ → ℕ → List Program → S
begun_with blocks quantum programs =
    all_started 1 programs (logged 0 programs (at_boot MOST_REQUESTS blocks quantum))

-- the state in which nobody has taken a turn
abbrev pub start_of : Work → V
start_of w = untouched w.config.blocks (begun_with w.config.blocks w.config.quantum w.programs.now).world

-- what happens until then, as a script says it: jobs are logged in, and each is started and stopped by CTRL-C
unfoldable pub logins : ℕ → List RunEvent
logins zero = []
logins (suc n) = logins n ++ Login n (n + 1) ∷ []

unfoldable pub starts : ℕ → List RunEvent
starts zero = []
starts (suc n) = starts n ++ (Start (n + 1) ∷ Typed n 3 ∷ [])
