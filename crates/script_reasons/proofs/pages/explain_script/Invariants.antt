use Rattle.std.proofs.Common.{◌≡◌, ◌++◌, drop, map}
use Rattle.std.specs.Str.Lines.{lines}
use Rattle.script_reasons.specs.Pages.{page_text, told_in}
use Rattle.script_reasons.proofs.pages.explain_script.Given as goal

-- the lines so far are on the page, and those after them are to come
abbrev pub invariant-loop-done : goal.invariant-loop-done
invariant-loop-done l =
    l.page.items ++ page_text l.lines (map told_in (drop l.done-index l.done-items)) ≡ page_text (lines l.script) (map told_in l.done-items)
