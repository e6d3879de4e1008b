use Rattle.std.proofs.Common.{◌≡◌, ◌++◌, take}
use Rattle.std.specs.List.{flat_map}
use Rattle.order_report.specs.Texts.{typed_line}
use Rattle.order_report.proofs.text.push_texts.Given as goal

abbrev pub invariant-loop-typed : goal.invariant-loop-typed
invariant-loop-typed l = l.out.items ≡ l.initial.out.items ++ flat_map typed_line (take l.typed-index l.texts)
