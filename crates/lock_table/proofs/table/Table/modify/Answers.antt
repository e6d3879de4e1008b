use Rattle.std.proofs.Common.{◌≡◌, ◌∙◌, sym, ap, subst, true, length, arith, refl, lit<, rules}
use Rattle.lock_queue.specs.Outcomes.{Outcome}
use Rattle.lock_queue.specs.WellFormed.{are_well_formed}
use Rattle.lock_queue.proofs.WellKept.{well-modify}
use Rattle.lock_table.specs.Whole.{requests_in}
use Rattle.lock_table.specs.Changing.{IsChanged}
use Rattle.lock_table.proofs.Admitting.{levels_changed}
use Rattle.lock_table.proofs.Writing.{changed_all, full_but_changed, modified, requests_changed, all_spare, are_sound, tells_lost}
use Rattle.lock_table.proofs.table.Table.modify.Goals as goal
use Rattle.lock_table.proofs.Wholes.{refused_done, right_from_well, well_from_right}

pub some_loses-requires : goal.some_loses-requires
some_loses-requires g c =
    let w = c.requires.whole in
    let spare =
    all_spare c.args.self.now.store c.args.self.now.keys c.args.job w.table w.right c.args.changes.now
    (sym c.refusal_of_modify.ensures ∙ c.in_default.is) in
    (lit< tt, (lit< tt, (w.table, (w.right, spare))))

pub returns-then-some_loses : goal.returns-then-some_loses
returns-then-some_loses g c =
    let none = sym c.refusal_of_modify.ensures ∙ c.in_default.is in
    let w = c.requires.whole in
    let tells = tells_lost c.args.self.now.store c.args.self.now.keys c.args.job w.table w.right c.args.changes.now none in
    record {
      whole = w;
      requests = grind (arith, none, tells, c.some_loses.ensures, c.if-some_loses.true);
      reply = grind (arith, none, tells, c.some_loses.ensures, c.if-some_loses.true);
      changed = λ done. absurd (refused_done _ done);
      flips = search rules;
    }

pub alter_all-requires : goal.alter_all-requires
alter_all-requires g c =
    let w = c.requires.whole in
    let sound =
    are_sound c.args.self.now.store c.args.self.now.keys c.args.job w.table w.right c.args.changes.now
    (sym c.refusal_of_modify.ensures ∙ c.in_default.is) (sym c.some_loses.ensures ∙ c.if-some_loses.false) in
    (lit< tt, (lit< tt, (record { kept = w.table.kept; flags = w.table.flags; used = w.table.used; jobs = w.jobs }, sound)))

pub extend_all-requires : goal.extend_all-requires
extend_all-requires g c =
    let full =
    full_but_changed c.args.self.now.store c.alter_all.new.store c.args.self.now.keys c.alter_all.new.keys c.args.job
    c.args.changes.now c.requires.whole.table c.alter_all.ensures.altered in
    (lit< tt, (c.alter_all.ensures.between, full))

pub returns : goal.returns
returns g c =
    let s = c.args.self.now.store in
    let locks = c.args.self.now.keys in
    let changes = c.args.changes.now in
    let whole = c.requires.whole in
    let none = sym c.refusal_of_modify.ensures ∙ c.in_default.is in
    let safe = sym (tells_lost s locks c.args.job whole.table whole.right changes none) ∙ sym c.some_loses.ensures ∙ c.if-some_loses.false in
    let t = c.extend_all.new.self.store in
    let b = c.extend_all.ensures.between in
    let is : IsChanged s t c.args.job changes =
    changed_all s c.alter_all.new.store t locks c.alter_all.new.keys c.extend_all.new.self.keys c.args.job changes
    c.alter_all.ensures.altered c.extend_all.ensures.extended in
    let done = modified (requests_in s) c.args.job changes none safe in
    let requests = requests_changed s t c.args.job changes is ∙ sym (ap (λ (o : Outcome). o.requests) done) in
    record {
      whole = record {
        table = record { kept = b.kept; flags = b.flags; full = λ x m stands. c.extend_all.ensures.extended.full x m stands refl; used = b.used };
        right =
            right_from_well t
            (subst (λ l. are_well_formed l ≡ true) (sym requests)
            (well-modify g.row.REQS (requests_in s) c.args.job (well_from_right s whole.right) (record { items = changes })));
        jobs = b.jobs;
        levels = levels_changed s t c.args.job changes whole.levels is;
        few = omega (arith, whole.few, ap length is.order);
      };
      requests = requests;
      reply = sym (ap (λ (o : Outcome). o.reply) done);
      changed = λ done. is;
      flips = search rules;
    }
