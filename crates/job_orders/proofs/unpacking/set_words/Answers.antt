use Rattle.std.proofs.Common.{◌≡◌, ◌<◌, ◌*◌, ◌++◌, ℕ, List, [], length, drop, get_or, ap, ◌∙◌, arith}
use Rattle.std.proofs.lemmas.List.{append-nil, drop_all, take_all}
use Rattle.job_orders.specs.declared.tables.TheConstants.{PAGE_WORDS}
use Rattle.job_orders.specs.Tables.{words_in}
use Rattle.job_orders.proofs.Filling.{filled, part-is}
use Rattle.job_orders.proofs.unpacking.set_words.Goals as goal

pub loop-i-preserved : goal.loop-i-preserved
loop-i-preserved c =
    let low : c.loop-i.i < length c.args.numbers.now = omega arith in
    c.set_page.ensures
    ∙ filled c.args.pages.now c.args.numbers.now c.args.words.now c.loop-i.words c.loop-i.i c.part.result.now c.requires.pages low
    (part-is (λ (p : List ℕ). p) [] c.args.pages.now (get_or c.args.numbers.now c.loop-i.i 0) c.part.result.now
    (c.requires.pages c.loop-i.i 0 low).0 c.part.ensures)
    c.loop-i.invariant

pub returns : goal.returns
returns c =
    let end : length c.args.numbers.now ≡ c.loop-i.i = omega arith in
    let long : length c.args.words.now ≡ length c.args.numbers.now * PAGE_WORDS = c.requires.length in
    c.loop-i.invariant
    ∙ ap (λ ns. words_in c.args.pages.now ns ++ drop (c.loop-i.i * PAGE_WORDS) c.args.words.now) (take_all c.loop-i.i c.args.numbers.now (omega (arith, end)))
    ∙ ap (λ ws. words_in c.args.pages.now c.args.numbers.now ++ ws) (drop_all (c.loop-i.i * PAGE_WORDS) c.args.words.now (omega (arith, end, long)))
    ∙ append-nil (words_in c.args.pages.now c.args.numbers.now)
