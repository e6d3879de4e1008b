use Rattle.std.proofs.Common.{◌≡◌, ◌<◌, ◌*◌, ◌∙◌, ℕ, [], List, length, replicate, slice_set, sym, ap, subst, arith}
use Rattle.std.specs.List.{All}
use Rattle.std.proofs.lemmas.List.{get_or-set_same, length-replicate, nil_from_length, set-get_or, set-set}
use Rattle.word36.specs.declared.sizes.TheConstants.{BLOCK_WORDS}
use Rattle.core_store.specs.Cores.{Cores, core_of}
use Rattle.job_orders.specs.declared.tables.TheConstants.{PAGE_WORDS}
use Rattle.job_orders.specs.Tables.{IsPage, items_of, numbers_at, words_at, words_in}
use Rattle.job_orders.proofs.Filling.{part-is, words-length}
use Rattle.job_orders.proofs.unpacking.set_core.Goals as goal

pub returns-then-blocks-eq0-clause-core : goal.returns-then-blocks-eq0-clause-core
returns-then-blocks-eq0-clause-core g c =
    let s : Cores = g.C.CoreStore.meaning c.args.cores.now in
    let is : c.part-numbers.result.now.items ≡ numbers_at c.args.tables.now.lists c.args.core =
    part-is items_of [] c.args.tables.now.lists c.args.core c.part-numbers.result.now c.requires.pages.there c.part-numbers.ensures in
    let many : length c.part-numbers.result.now.items ≡ length (numbers_at c.args.tables.now.lists c.args.core) = ap length is in
    let long : length (words_at c.args.tables.now c.args.core) ≡ length (numbers_at c.args.tables.now.lists c.args.core) * PAGE_WORDS =
    words-length c.args.tables.now.pages (numbers_at c.args.tables.now.lists c.args.core) c.requires.pages.pages in
    let none : length (words_at c.args.tables.now c.args.core) ≡ 0 = omega (arith, many, long, c.requires.whole) in
    sym (set-get_or s.cores c.args.n [])
    ∙ ap (slice_set (g.C.CoreStore.meaning c.args.cores.now).cores c.args.n)
    (c.requires.none_yet ∙ sym (nil_from_length (words_at c.args.tables.now c.args.core) none))

pub set_words-requires-clause-pages : goal.set_words-requires-clause-pages
set_words-requires-clause-pages g c =
    let is : c.as_slice.result.now ≡ numbers_at c.args.tables.now.lists c.args.core =
    c.as_slice.ensures.value
    ∙ part-is items_of [] c.args.tables.now.lists c.args.core c.part-numbers.result.now c.requires.pages.there c.part-numbers.ensures in
    subst (λ (ns : List ℕ). All (IsPage c.args.tables.now.pages) ns) (sym is) c.requires.pages.pages

pub set_words-requires-clause-length : goal.set_words-requires-clause-length
set_words-requires-clause-length g c =
    let s : Cores = g.C.CoreStore.meaning c.args.cores.now in
    let zeros : List ℕ = replicate (c.in-Ok.blocks * BLOCK_WORDS) 0 in
    let low : c.args.n < length (g.C.CoreStore.meaning c.args.cores.now).cores =
    omega (arith, c.in-Ok-take.ensures.store.jobs, c.requires.number.1) in
    let at : c.window.result.now ≡ replicate (c.in-Ok.blocks * BLOCK_WORDS) 0 =
    c.window.ensures.value ∙ ap (λ (x : Cores). core_of x c.args.n) c.in-Ok-take.ensures.ok ∙ get_or-set_same s.cores c.args.n zeros [] low in
    let size : length c.window.result.now ≡ c.in-Ok.blocks * BLOCK_WORDS = ap length at ∙ length-replicate (c.in-Ok.blocks * BLOCK_WORDS) 0 in
    let is : c.part-numbers.result.now.items ≡ numbers_at c.args.tables.now.lists c.args.core =
    part-is items_of [] c.args.tables.now.lists c.args.core c.part-numbers.result.now c.requires.pages.there c.part-numbers.ensures in
    let many : length c.part-numbers.result.now.items ≡ length (numbers_at c.args.tables.now.lists c.args.core) = ap length is in
    let long : length (words_at c.args.tables.now c.args.core) ≡ length (numbers_at c.args.tables.now.lists c.args.core) * PAGE_WORDS =
    words-length c.args.tables.now.pages (numbers_at c.args.tables.now.lists c.args.core) c.requires.pages.pages in
    let slice : length c.as_slice.result.now ≡ length c.part-numbers.result.now.items = ap length c.as_slice.ensures.value in
    omega (arith, size, many, long, slice, c.requires.whole)

pub returns-clause-core : goal.returns-clause-core
returns-clause-core g c =
    let s : Cores = g.C.CoreStore.meaning c.args.cores.now in
    let ws : List ℕ = c.set_words.new.words in
    let is : c.as_slice.result.now ≡ numbers_at c.args.tables.now.lists c.args.core =
    c.as_slice.ensures.value
    ∙ part-is items_of [] c.args.tables.now.lists c.args.core c.part-numbers.result.now c.requires.pages.there c.part-numbers.ensures in
    let words : c.set_words.new.words ≡ words_at c.args.tables.now c.args.core = c.set_words.ensures ∙ ap (words_in c.args.tables.now.pages) is in
    let same : length c.set_words.new.words ≡ length (core_of (g.C.CoreStore.meaning c.take.new.self) c.args.n) =
    c.set_words.auto.words ∙ ap length c.window.ensures.value in
    ap (λ (x : Cores). x.cores) (g.met.C.CoreStore.put_meaning c.take.new.self c.args.n ws c.requires.number same)
    ∙ ap (λ (x : Cores). slice_set x.cores c.args.n c.set_words.new.words) c.in-Ok-take.ensures.ok
    ∙ set-set s.cores c.args.n (replicate (c.in-Ok.blocks * BLOCK_WORDS) 0) ws
    ∙ ap (slice_set (g.C.CoreStore.meaning c.args.cores.now).cores c.args.n) words
