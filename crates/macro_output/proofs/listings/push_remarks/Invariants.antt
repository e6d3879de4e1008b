use Rattle.std.proofs.Common.{◌≡◌, ◌++◌, drop, map}
use Rattle.macro_output.specs.Listings.{texts_to, texts_behind, remark_text}
use Rattle.macro_output.proofs.listings.push_remarks.Given as goal

abbrev pub invariant-loop-index : goal.invariant-loop-index
invariant-loop-index l = record {
  text : l.out.items ++ texts_to l.line (map remark_text (drop l.index l.remarks)) ≡ l.initial.out.items ++ texts_to l.line (map remark_text l.remarks);
  left : texts_behind l.line (map remark_text (drop l.index l.remarks)) ≡ texts_behind l.line (map remark_text l.remarks);
}
