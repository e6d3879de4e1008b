-- Words that the debugger has changed, and instructions that it has executed (this project's profile).
use Rattle.std.specs.Prelude.{Bool, true, false}
use Rattle.ddt_timeline.specs.declared.entries.Entry.{Entry}
use Rattle.ddt_timeline.specs.declared.entries.Entry.TheVariants.{Rounds, Login, Start, Continue, Kill, Typed, Take, Ticks}
use Rattle.ddt_timeline.specs.declared.entries.Entry.TheVariants.{Deposit, StartAt, Execute}

-- whether an entry is a word that was deposited
abbrev pub is_deposit : Entry → Bool
is_deposit (Rounds n) = false
is_deposit (Login line image) = false
is_deposit (Start n) = false
is_deposit (Continue n) = false
is_deposit (Kill n) = false
is_deposit (Typed line c) = false
is_deposit (Take line) = false
is_deposit (Ticks n) = false
is_deposit (Deposit n a word) = true
is_deposit (StartAt n a) = false
is_deposit (Execute n word) = false

-- whether an entry is an instruction that was executed by hand
abbrev pub is_execution : Entry → Bool
is_execution (Rounds n) = false
is_execution (Login line image) = false
is_execution (Start n) = false
is_execution (Continue n) = false
is_execution (Kill n) = false
is_execution (Typed line c) = false
is_execution (Take line) = false
is_execution (Ticks n) = false
is_execution (Deposit n a word) = false
is_execution (StartAt n a) = false
is_execution (Execute n word) = true
