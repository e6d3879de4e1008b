use Rattle.std.proofs.Common.{◌≡◌, ◌*◌, ◌∙◌, ℕ, [], List, length, sym, ap, subst, arith}
use Rattle.std.specs.List.{All}
use Rattle.word36.specs.declared.sizes.TheConstants.{DATA_WORDS}
use Rattle.job_orders.specs.declared.tables.TheConstants.{PAGE_WORDS}
use Rattle.job_orders.specs.Tables.{IsPage, items_of, numbers_at, words_at, words_in}
use Rattle.job_orders.proofs.Filling.{part-is, words-length}
use Rattle.job_orders.proofs.unpacking.set_shared.Goals as goal

pub set_words-requires-clause-pages : goal.set_words-requires-clause-pages
set_words-requires-clause-pages c =
    let is : c.as_slice.result.now ≡ numbers_at c.args.tables.now.lists c.args.number =
    c.as_slice.ensures.value
    ∙ part-is items_of [] c.args.tables.now.lists c.args.number c.part.result.now c.requires.pages.there c.part.ensures in
    subst (λ (ns : List ℕ). All (IsPage c.args.tables.now.pages) ns) (sym is) c.requires.pages.pages

pub set_words-requires-clause-length : goal.set_words-requires-clause-length
set_words-requires-clause-length c =
    let is : c.as_slice.result.now ≡ numbers_at c.args.tables.now.lists c.args.number =
    c.as_slice.ensures.value
    ∙ part-is items_of [] c.args.tables.now.lists c.args.number c.part.result.now c.requires.pages.there c.part.ensures in
    let many : length c.as_slice.result.now ≡ length (numbers_at c.args.tables.now.lists c.args.number) = ap length is in
    let long : length (words_at c.args.tables.now c.args.number) ≡ length (numbers_at c.args.tables.now.lists c.args.number) * PAGE_WORDS =
    words-length c.args.tables.now.pages (numbers_at c.args.tables.now.lists c.args.number) c.requires.pages.pages in
    let size : length c.args.shared.now ≡ DATA_WORDS = c.told-shared in
    let whole : length c.as_mut_slice.result.now ≡ length c.args.shared.now = ap length c.as_mut_slice.ensures.value in
    omega (arith, many, long, size, whole, c.requires.size)

pub returns : goal.returns
returns c =
    let is : c.as_slice.result.now ≡ numbers_at c.args.tables.now.lists c.args.number =
    c.as_slice.ensures.value
    ∙ part-is items_of [] c.args.tables.now.lists c.args.number c.part.result.now c.requires.pages.there c.part.ensures in
    c.set_words.ensures ∙ ap (words_in c.args.tables.now.pages) is
