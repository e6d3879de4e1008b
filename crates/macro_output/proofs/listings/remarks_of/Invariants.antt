use Rattle.std.proofs.Common.{◌≡◌, ℕ, List, take, map}
use Rattle.macro_faults.specs.declared.reports.Report.{Report}
use Rattle.macro_output.specs.Listings.{remark_text}
use Rattle.macro_output.proofs.listings.remarks_of.Given as goal

abbrev pub invariant-loop-report : goal.invariant-loop-report
invariant-loop-report l =
    map (λ (remark : ℕ × List ℕ). remark.0) (map remark_text l.remarks.items)
    ≡ map (λ (fault : Report). fault.place.line) (take l.report-index l.report-items)
