use Rattle.std.proofs.Common.{◌≤◌, ◌∙◌, ◌==◌, ◌∷◌, sym, ap, subst, length, filter, is_some, arith}
use Rattle.std.proofs.lemmas.List.{length-append, length-map}
use Rattle.word36.specs.declared.sizes.TheConstants.{JOBS}
use Rattle.key_queues.specs.Stores.{blocked_at, entry_or, job_at}
use Rattle.key_queues.specs.Tables.{is_there}
use Rattle.key_queues.proofs.Keeps.{entry_is}
use Rattle.key_queues.proofs.store.Store.new.Goals as goal

pub invariant_of-result : goal.invariant_of-result
invariant_of-result g c =
    let contents = c.in_ok-new-2.field-0.contents in
    let entry_slab = c.in_ok-new-2.ensures in
    let is = c.in_ok-new.ensures in
    let own = c.in_ok-no_lists.ensures in
    let counts = c.in_ok-no_counts.ensures in
    record {
      small = entry_slab.most;
      long = entry_slab.long;
      there = λ p. ap (is_there p) is ∙ sym (ap is_some (entry_slab.none p));
      once = λ before after p e. absurd (omega (arith, ap length (sym is ∙ e), length-append before (p ∷ after)));
      many = entry_slab.len ∙ sym (ap length is);
      few = subst (λ l. length l ≤ g.row.REQS) (sym is) (omega arith);
      lists = own.long;
      jobs = λ p. subst (λ o. (entry_or o).request.job ≤ JOBS) (sym (entry_slab.none p)) (omega arith);
      each = λ job le. own.empty job ∙ sym (ap (filter (λ p. job_at contents p == job)) is);
      numbers = counts.long;
      blocked = λ job le. counts.zero job ∙ sym (ap (λ l. length (filter (blocked_at contents) l)) (own.empty job));
    }

pub returns-clause-entries : goal.returns-clause-entries
returns-clause-entries g c = λ p. entry_is c.in_ok-new-2.field-0.contents p ∙ ap entry_or (c.in_ok-new-2.ensures.none p)

pub returns-clause-order : goal.returns-clause-order
returns-clause-order g c = c.in_ok-new.ensures

pub returns-clause-long : goal.returns-clause-long
returns-clause-long g c = length-map c.in_ok-new-2.field-0.contents entry_or ∙ c.in_ok-new-2.ensures.long
