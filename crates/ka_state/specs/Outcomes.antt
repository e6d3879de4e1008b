-- Numbers of the reasons why a job stops (this project's profile).
use Rattle.std.specs.Prelude.{ℕ}
use Rattle.ka_state.specs.declared.outcome.StopReason.{StopReason}
use Rattle.ka_state.specs.declared.outcome.StopReason.TheVariants.{IllegalAddress, IllegalInstruction, Halt, Pushdown, AddressChain}

abbrev pub code_of : StopReason → ℕ
code_of IllegalAddress = 1
code_of IllegalInstruction = 2
code_of Halt = 3
code_of Pushdown = 4
code_of AddressChain = 5
