-- The order that is recorded, and its script (this project's profile).
use Rattle.std.specs.Prelude.{ℕ, ◌-◌, ◌==◌, ◌++◌, List, Option, Some, None, option_map, slice_get, codes, decimal, if◌then◌else◌}
use Rattle.std.specs.List.{flat_map}
use Rattle.job_orders.specs.declared.ends.End.{End}
use Rattle.job_orders.specs.declared.looking.Looked.{Looked}
use Rattle.job_orders.specs.declared.looking.Looked.TheVariants.{All, GaveUp}
use Rattle.job_orders.specs.declared.looking.Reason.{Reason}
use Rattle.job_orders.specs.declared.looking.Reason.TheVariants.{States, Typed, Limit, Clock, Turns}
use Rattle.job_orders.specs.declared.looking.Waiting.{Waiting}
use Rattle.order_report.specs.declared.findings.DataWord.{DataWord}
use Rattle.program_files.specs.declared.files.ProgramFile.{ProgramFile}
use Rattle.program_files.specs.Recorded.{programs_text}
use Rattle.run_record.specs.Scripts.{end_text, head_text, text_in}
use Rattle.orders_program.specs.Telling.{data_from}
use Rattle.orders_program.specs.declared.following.Following.{Following}
use Rattle.orders_program.specs.declared.loading.Work.{Work}

-- the moves of the end of this number, if there is one
abbrev pub moves_of_end : ℕ → List End → Option (List ℕ)
moves_of_end n ends = if n == 0 then None else option_map (λ e. e.moves.items) (slice_get ends (n - 1))

-- if no end is asked for, the moves to the circle, or else to end 1
abbrev pub moves_of_all : Option Waiting → List End → Option ℕ → Option (List ℕ)
moves_of_all circle ends (Some n) = moves_of_end n ends
moves_of_all (Some c) ends None = Some c.moves.items
moves_of_all None ends None = moves_of_end 1 ends

abbrev pub moves_given_up : Reason → List ℕ → Option ℕ → Option (List ℕ)
moves_given_up reason moves (Some n) = None
moves_given_up (States n) moves None = None
moves_given_up (Typed line) moves None = None
moves_given_up (Limit job) moves None = Some moves
moves_given_up (Clock job) moves None = Some moves
moves_given_up (Turns job) moves None = Some moves

abbrev pub moves_recorded : Looked → Option ℕ → Option (List ℕ)
moves_recorded (All r) end = moves_of_all r.circle r.ends.items end
moves_recorded (GaveUp g) end = moves_given_up g.reason g.moves.items end

-- ---- its script

-- what shows the words that all jobs share and that are not 0
abbrev pub data_text : DataWord → List ℕ
data_text d = codes "DATA " ++ decimal d.number ++ codes "\n"

-- the machine, the programs, what happens, and what shows how it ends
abbrev pub script_text : Work → List ProgramFile → Following → List ℕ
script_text w files f =
    head_text w.config.blocks w.config.quantum ++ programs_text 1 files w.programs.now ++ text_in f.events ++ end_text
    ++ flat_map data_text (data_from 0 f.machine.machine.world.shared)
