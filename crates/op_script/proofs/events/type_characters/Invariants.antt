use Rattle.std.proofs.Common.{◌≡◌, drop}
use Rattle.op_script.specs.Events.{typed_by}
use Rattle.op_script.proofs.events.type_characters.Given as goal

abbrev pub invariant-characters : goal.invariant-characters
invariant-characters g l = typed_by (drop l.character-index l.text) l.machine l.line ≡ typed_by l.text l.initial.machine l.line
