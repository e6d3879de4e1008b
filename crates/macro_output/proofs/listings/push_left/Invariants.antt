use Rattle.std.proofs.Common.{◌≡◌, ◌++◌, drop, map}
use Rattle.macro_output.specs.Listings.{all_texts, remark_text}
use Rattle.macro_output.proofs.listings.push_left.Given as goal

abbrev pub invariant-loop-remark : goal.invariant-loop-remark
invariant-loop-remark l =
    l.out.items ++ all_texts (map remark_text (drop l.remark-index l.remarks)) ≡ l.initial.out.items ++ all_texts (map remark_text l.remarks)
