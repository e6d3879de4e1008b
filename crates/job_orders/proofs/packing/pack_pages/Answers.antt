use Rattle.std.proofs.Common.{◌≡◌, ◌+◌, ◌*◌, ◌++◌, ℕ, List, take, sym, ap, subst, ◌∙◌, arith}
use Rattle.std.specs.List.{All}
use Rattle.state_search.specs.Parts.{grown_on}
use Rattle.job_orders.specs.declared.tables.TheConstants.{PAGE_WORDS}
use Rattle.job_orders.specs.Learning.{all_pages_stay, pages_stay}
use Rattle.job_orders.specs.Tables.{IsPage, page_at, words_in}
use Rattle.job_orders.proofs.Numbers.{all-more, range-more, words-more}
use Rattle.job_orders.proofs.packing.pack_pages.Goals as goal

pub loop-i-preserved : goal.loop-i-preserved
loop-i-preserved c =
    let old = c.loop-i.pages in
    let new = c.pack_page.new.pages in
    let ns = c.loop-i.numbers.items in
    let n = c.in_ok-number.number in
    let ws = c.args.words.now in
    let at : ℕ = c.loop-i.i * PAGE_WORDS in
    let grown = c.in_ok-number.ensures.grown in
    let next : c.loop-i.i * PAGE_WORDS + PAGE_WORDS ≡ (c.loop-i.i + 1) * PAGE_WORDS = omega arith in
    let P : List ℕ → Type 0 = λ ms. All (IsPage c.pack_page.new.pages) ms in (
      ap (words_in c.pack_page.new.pages) c.in_ok-push.ensures.items ∙ words-more new ns n
          ∙ ap (λ w. w ++ page_at c.pack_page.new.pages c.in_ok-number.number) (pages_stay old new ns grown c.loop-i.invariant.1 ∙ c.loop-i.invariant.0)
          ∙ ap (λ w. take (c.loop-i.i * PAGE_WORDS) c.args.words.now ++ w) c.in_ok-number.ensures.page
          ∙ range-more ws at PAGE_WORDS ∙ ap (λ k. take k c.args.words.now) next,
      subst P (sym c.in_ok-push.ensures.items)
          (all-more (IsPage new) ns n (all_pages_stay old new ns grown c.loop-i.invariant.1) c.in_ok-number.ensures.there),
      grown_on c.args.pages.now old new c.loop-i.invariant.2 grown,
      λ h. c.in_ok-number.ensures.unique (c.loop-i.invariant.3 h),
    )
