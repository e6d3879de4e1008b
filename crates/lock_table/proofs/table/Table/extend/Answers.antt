use Rattle.std.proofs.Common.{◌≡◌, ◌∙◌, subst, true}
use Rattle.key_queues.specs.Tables.{is_there}
use Rattle.lock_table.proofs.Entries.{flipped_then, wanting_before}
use Rattle.lock_table.proofs.table.Table.extend.Goals as goal

pub loop-more-preserved : goal.loop-more-preserved
loop-more-preserved g c =
    let was = c.loop-more.invariant in
    let e = c.let_in_next-more.ensures.extended in
    record {
      extended = record {
        kept = e.kept;
        flags = e.flags;
        order = e.order ∙ was.extended.order;
        at = λ x. e.at x ∙ was.extended.at x;
        own = λ x. e.own x ∙ was.extended.own x;
        key = λ m. e.key m ∙ was.extended.key m;
        size = λ m. e.size m ∙ was.extended.size m;
        others = λ m ne. e.others m ne ∙ was.extended.others m ne;
      };
      full = c.let_in_next-more.ensures.full;
      flips =
          flipped_then c.args.self.now.store c.loop-more.self.store c.let_in_next-more.new.self.store c.args.self.now.flips c.loop-more.self.flips
          c.let_in_next-more.new.self.flips
          (λ x h. wanting_before c.loop-more.self.store c.let_in_next-more.new.self.store x (λ there. (subst (λ l. is_there x l ≡ true) e.order there, e.at x)) h)
          was.flips c.let_in_next-more.ensures.flips;
    }
