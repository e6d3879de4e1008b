-- The codes of refusals (this project's profile).
use Rattle.std.specs.Prelude.{ℕ}
use Rattle.lock_queue.specs.declared.refusal.Refusal.{Refusal}
use Rattle.lock_queue.specs.declared.refusal.Refusal.TheVariants.{NotGranted, NoFunction, BadBlock, BadCount}
use Rattle.lock_queue.specs.declared.refusal.Refusal.TheVariants.{BadPointer, BadName, BadQualifier, BadPool}
use Rattle.lock_queue.specs.declared.refusal.Refusal.TheVariants.{Differs, LevelOrder, NamedAlready, NotPresent}
use Rattle.lock_queue.specs.declared.refusal.Refusal.TheVariants.{WouldLose, QueueFull, NoVector, OverQuota}
use Rattle.lock_queue.specs.declared.refusal.Refusal.TheVariants.{TimedOut, NoSuchQuota}

abbrev pub code_of : Refusal → ℕ
code_of NotGranted = 1
code_of NoFunction = 2
code_of BadBlock = 3
code_of BadCount = 4
code_of BadPointer = 5
code_of BadName = 6
code_of BadQualifier = 7
code_of BadPool = 8
code_of Differs = 9
code_of LevelOrder = 10
code_of NamedAlready = 11
code_of NotPresent = 12
code_of WouldLose = 13
code_of QueueFull = 14
code_of NoVector = 15
code_of OverQuota = 16
code_of TimedOut = 17
code_of NoSuchQuota = 18
