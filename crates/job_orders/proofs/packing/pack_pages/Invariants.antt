use Rattle.std.proofs.Common.{◌≡◌, ◌*◌, take}
use Rattle.std.specs.List.{All, IsDistinct}
use Rattle.state_search.specs.Parts.{AreGrown}
use Rattle.job_orders.specs.declared.tables.TheConstants.{PAGE_WORDS}
use Rattle.job_orders.specs.Pages.{same_numbers}
use Rattle.job_orders.specs.Tables.{IsPage, words_in}
use Rattle.job_orders.proofs.packing.pack_pages.Given as goal

abbrev pub invariant-loop-i : goal.invariant-loop-i
invariant-loop-i l =
    (words_in l.pages l.numbers.items ≡ take (l.i * PAGE_WORDS) l.words) × All (IsPage l.pages) l.numbers.items
    × AreGrown l.initial.pages l.pages × (IsDistinct same_numbers l.initial.pages → IsDistinct same_numbers l.pages)
