use Rattle.std.proofs.Common.{ℕ, List, [], sym, ap, subst, ◌∙◌}
use Rattle.state_search.specs.Parts.{AreNumbers, grown_itself}
use Rattle.job_orders.specs.Learning.{same_list-Decides}
use Rattle.job_orders.specs.Tables.{items_of, requests_in, same_list}
use Rattle.job_orders.proofs.Numbers.{stored}
use Rattle.job_orders.proofs.packing.pack_requests.Goals as goal

pub returns-clause-requests : goal.returns-clause-requests
returns-clause-requests g c =
    let s = c.in_ok-number.ensures.stored in
    ap (requests_in c.number_requests.new.table)
    (stored items_of [] same_list same_list-Decides c.number_of.new.self c.in_ok-number.number c.in_ok-numbers.numbers s.0
    c.in_ok-number.ensures.within s.1 s.2)
    ∙ c.in_ok-numbers.ensures.requests

pub returns-clause-asked : goal.returns-clause-asked
returns-clause-asked g c =
    let s = c.in_ok-number.ensures.stored in
    subst (λ (ns : List ℕ). AreNumbers c.number_requests.new.table ns)
    (sym (stored items_of [] same_list same_list-Decides c.number_of.new.self c.in_ok-number.number c.in_ok-numbers.numbers s.0
    c.in_ok-number.ensures.within s.1 s.2))
    c.in_ok-numbers.ensures.there

pub returns-clause-learns : goal.returns-clause-learns
returns-clause-learns g c = record {
  slots = grown_itself c.args.tables.now.slots;
  requests = c.in_ok-numbers.ensures.grown;
  pages = grown_itself c.args.tables.now.pages;
  texts = grown_itself c.args.tables.now.texts;
  lists = c.in_ok-number.ensures.grown;
  right = λ h. record {
    slots = h.slots;
    requests = c.in_ok-numbers.ensures.unique h.requests;
    pages = h.pages;
    texts = h.texts;
    lists = c.in_ok-number.ensures.unique;
  };
}
