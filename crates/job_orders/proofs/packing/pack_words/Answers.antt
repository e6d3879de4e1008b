use Rattle.std.proofs.Common.{ℕ, List, [], sym, ap, subst, ◌∙◌}
use Rattle.std.specs.List.{All}
use Rattle.state_search.specs.Parts.{grown_itself}
use Rattle.job_orders.specs.Learning.{same_list-Decides}
use Rattle.job_orders.specs.Tables.{IsPage, items_of, same_list, words_in}
use Rattle.job_orders.proofs.Numbers.{stored}
use Rattle.job_orders.proofs.packing.pack_words.Goals as goal

pub returns-clause-words : goal.returns-clause-words
returns-clause-words c =
    let s = c.in_ok-number.ensures.stored in
    ap (words_in c.pack_pages.new.pages)
    (stored items_of [] same_list same_list-Decides c.number_of.new.self c.in_ok-number.number c.in_ok-numbers.numbers s.0
    c.in_ok-number.ensures.within s.1 s.2)
    ∙ c.in_ok-numbers.ensures.words

pub returns-clause-pages : goal.returns-clause-pages
returns-clause-pages c =
    let s = c.in_ok-number.ensures.stored in
    record {
      there = c.in_ok-number.ensures.within;
      pages = subst (λ (ns : List ℕ). All (IsPage c.pack_pages.new.pages) ns)
          (sym (stored items_of [] same_list same_list-Decides c.number_of.new.self c.in_ok-number.number c.in_ok-numbers.numbers s.0
          c.in_ok-number.ensures.within s.1 s.2))
          c.in_ok-numbers.ensures.pages;
    }

pub returns-clause-learns : goal.returns-clause-learns
returns-clause-learns c = record {
  slots = grown_itself c.args.tables.now.slots;
  requests = grown_itself c.args.tables.now.requests;
  pages = c.in_ok-numbers.ensures.grown;
  texts = grown_itself c.args.tables.now.texts;
  lists = c.in_ok-number.ensures.grown;
  right = λ h. record {
    slots = h.slots;
    requests = h.requests;
    pages = c.in_ok-numbers.ensures.unique h.pages;
    texts = h.texts;
    lists = c.in_ok-number.ensures.unique;
  };
}
