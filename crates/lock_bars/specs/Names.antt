-- The names of locks as pictures show them (this project's profile).
use Rattle.std.specs.Prelude.{ℕ, ◌++◌, List}
use Rattle.lock_queue.specs.declared.key.Key.{Key}
use Rattle.queue_script.specs.Printing.{name_text, scope_text}

-- a lock as the transcript of a script spells it: its name, and `/J` where it is a job's own
abbrev pub label_text : Key → List ℕ
label_text key = name_text key.name ++ scope_text key.scope
