-- How jobs stand, and their registers (this project's profile).
use Rattle.std.specs.Prelude.{◌≡◌, ◌+◌, ◌-◌, ◌%◌, ◌^◌, ◌++◌, ℕ, Bool, true, false, nat_lt, unwrap_or, if◌then◌else◌}
use Rattle.std.specs.Prelude.{List, [], Option, Some, None, codes, decimal}
use Rattle.std.specs.Fmt.{digits}
use Rattle.job_sched.specs.declared.job.Stop.{Stop}
use Rattle.job_sched.specs.declared.job.Wait.{Wait}
use Rattle.job_sched.specs.declared.job.Wait.TheVariants.{Queue, None as Nothing}
use Rattle.run_notes.specs.Flags.{flag_words}
use Rattle.run_notes.specs.Instructions.{reference_words}
use Rattle.run_notes.specs.Seen.{JobView, Request, World, job_view, word_in}
use Rattle.run_notes.specs.Standings.{IsStandingText, standing_by}
use Rattle.source_labels.specs.declared.places.Places.{Places}
use Rattle.word36.specs.Octal.{word_text}

-- ---- registers

-- an accumulator: its number in octal, in two columns, and its word
abbrev pub register_words : World → ℕ → ℕ → List ℕ
register_words w job register =
    (if nat_lt register 8 then codes " " else [])
    ++ (digits 8 false register ++ (codes "/ " ++ word_text (unwrap_or (word_in w job register) 0)))

-- four accumulators in a line
abbrev pub register_line : World → ℕ → ℕ → List ℕ
register_line w job first =
    register_words w job first ++ (codes "  " ++ (register_words w job (first + 1) ++ (codes "  "
    ++ (register_words w job (first + 2) ++ (codes "  " ++ (register_words w job (first + 3) ++ codes "\n"))))))

abbrev pub registers_by : World → Places → ℕ → Option JobView → List ℕ
registers_by w places job None = codes "job " ++ (decimal job ++ codes " is gone\n")
registers_by w places job (Some view) =
    codes "job " ++ (decimal job ++ (codes ", PC " ++ (reference_words places view.pc ++ (codes ", flags "
    ++ (flag_words view.flags ++ (codes "\n" ++ (register_line w job 0 ++ (register_line w job 4
    ++ (register_line w job 8 ++ register_line w job 12)))))))))

-- the PC of a job, its flags and its sixteen accumulators
abbrev pub registers_words : World → Places → ℕ → List ℕ
registers_words w places job = registers_by w places job (job_view w job)

-- ---- the state of a job

-- whether a job goes on and waits for nothing
abbrev pub runs : Option Stop → Wait → Bool
runs None Nothing = true
runs _ _ = false

-- the state of a job: that it runs, or as `ten` tells it
abbrev pub IsToldStanding : List Request → ℕ → Option Stop → Wait → List ℕ → Type 0
IsToldStanding requests job None Nothing text = text ≡ codes "runs"
IsToldStanding requests job stop wait text = IsStandingText requests job (standing_by stop wait) text

-- at which address it is: the one at which it ended; that of its lock call, from which it goes on with a skip; else its PC
abbrev pub at_words : Places → ℕ → Option Stop → Wait → Option ℕ → List ℕ
at_words places pc stop wait (Some ended_at) = codes " at " ++ reference_words places ended_at
at_words places pc None (Queue limit accumulator) None =
    codes ", at " ++ reference_words places ((pc + (2 ^ 18 - 2)) % 2 ^ 18)
at_words places pc _ _ None = codes ", PC " ++ reference_words places pc

abbrev pub job_head : ℕ → List ℕ → List ℕ → List ℕ
job_head job file rest = codes "job " ++ (decimal job ++ (codes ", " ++ (file ++ (codes ": " ++ rest))))

-- the line on a job
abbrev pub IsJobLine : List Request → Places → ℕ → List ℕ → Option ℕ → Option JobView → List ℕ → Type 0
IsJobLine requests places job file ended_at None text = text ≡ job_head job file (codes "gone\n")
IsJobLine requests places job file ended_at (Some view) text =
    (told : List ℕ) × IsToldStanding requests job view.stop view.wait told
    × (text ≡ job_head job file (told ++ (at_words places view.pc view.stop view.wait ended_at ++ codes "\n")))
