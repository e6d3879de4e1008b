use Rattle.std.proofs.Common.{◌≡◌, ◌++◌, ◌-◌, take, map}
use Rattle.macro_output.specs.Listings.{expanded_from, lines_of, lines_text, remark_text}
use Rattle.macro_output.proofs.listings.push_lines.Given as goal

abbrev pub invariant-loop-number : goal.invariant-loop-number
invariant-loop-number l =
    l.out.items ++ lines_text l.listing l.parts l.number (take (4294967295 - l.number) l.lines) l.rows (expanded_from l.listing l.unlisted.number l.unlisted.rows.now) (map remark_text l.remarks)
    ≡ l.fn.out.items ++ lines_text l.listing l.parts 1 (take 4294967294 (lines_of l.fn.source)) l.fn.rows (expanded_from l.listing 0 l.fn.expanded_rows) (map remark_text l.fn.remarks)
