-- What the program writes of a search of every order (this project's profile).
use Rattle.std.specs.Prelude.{◌≡◌, ℕ, List, Vec, Option, Some, None}
use Rattle.job_orders.specs.Reports.{IsOrder}
use Rattle.job_orders.specs.declared.looking.Looked.{Looked}
use Rattle.order_report.specs.Statuses.{found_status}
use Rattle.order_report.specs.Texts.{found_text}
use Rattle.order_report.specs.declared.findings.Found.{Found}
use Rattle.program_files.specs.declared.files.ProgramFile.{ProgramFile}
use Rattle.orders_program.specs.Begun.{start_of}
use Rattle.orders_program.specs.Scripts.{moves_recorded, script_text}
use Rattle.orders_program.specs.Telling.{IsTold}
use Rattle.orders_program.specs.declared.following.Following.{Following}
use Rattle.orders_program.specs.declared.loading.Work.{Work}
use Rattle.orders_program.specs.declared.program.Answer.{Answer}

-- the text and the status are those of a report on the search, with `most` ends at most
pub record IsAnswer (most jobs : ℕ) (looked : Looked) (a : Answer) : Type 0 where
  pub found : Found
  pub told : IsTold jobs looked found
  pub text : a.text.items ≡ found_text most found
  pub status : a.status ≡ found_status found

-- the script of the order that is recorded, which was followed on the machine; none if there is no such order
pub record IsScriptOf (turns : ℕ) (w : Work) (files : List ProgramFile) (moves script : List ℕ) : Type 0 where
  pub followed : Following
  pub order : IsOrder turns (start_of w) moves followed.machine
  pub text : script ≡ script_text w files followed

abbrev pub IsScriptBy : {A : Type 0} → ℕ → Work → List ProgramFile → Option (List ℕ) → Option (Vec ℕ A) → Type 0
IsScriptBy turns w files None script = script ≡ None
IsScriptBy turns w files (Some moves) None = ⊥
IsScriptBy turns w files (Some moves) (Some script) = IsScriptOf turns w files moves script.items

abbrev pub IsScriptFor : {A : Type 0} → ℕ → Option ℕ → Work → List ProgramFile → Looked → Option (Vec ℕ A) → Type 0
IsScriptFor turns end w files looked script = IsScriptBy turns w files (moves_recorded looked end) script
