use Rattle.std.proofs.Common.{◌≡◌, ◌≤◌, ◌∙◌, sym, ap, subst, false, true, [], ◌∷◌, ◌++◌, ℕ, length, length-append, refl, arith, lit<}
use Rattle.std.proofs.lemmas.Bool.{both_ways}
use Rattle.std.proofs.lemmas.List.{take_all}
use Rattle.std.specs.List.{list_all}
use Rattle.word36.specs.declared.sizes.TheConstants.{LOCKS_A_CALL}
use Rattle.lock_queue.specs.declared.request.Request.{Request}
use Rattle.lock_queue.specs.Dequeues.{with_wants}
use Rattle.lock_queue.specs.Enqueues.{request_of}
use Rattle.lock_queue.specs.WellFormed.{are_well_formed, is_in_range}
use Rattle.lock_queue.proofs.Granted.{granted_last}
use Rattle.lock_queue.proofs.WellKept.{right_job}
use Rattle.key_queues.specs.declared.entry.Entry.{Entry}
use Rattle.key_queues.specs.Entries.{arrived}
use Rattle.key_queues.specs.Stores.{Stored, entry_at}
use Rattle.lock_table.specs.Whole.{requests_in}
use Rattle.lock_table.specs.Arrivals.{AreFound, IsArriving}
use Rattle.lock_table.proofs.Admitting.{admits_from, apart_after, jobs_after, requests_after, short_of, well_after, levels_after}
use Rattle.lock_table.proofs.Arriving.{arrived_by, came_last, came_mine, came_others, flag_last, present_last, queues_within, whole_again}
use Rattle.lock_table.proofs.Entries.{entry_mine}
use Rattle.lock_table.proofs.Wholes.{right_from_well}
use Rattle.lock_table.proofs.table.Table.arrive.Goals as goal

pub enter_all-requires : goal.enter_all-requires
enter_all-requires g c =
    let s = c.args.self.now.store in
    let locks = c.args.self.now.keys in
    let wants = c.args.wants.now in
    let w = c.requires.whole in
    let few : length wants.items ≤ LOCKS_A_CALL = omega (arith, c.as_slice.ensures.fits, ap length c.as_slice.ensures.value) in
    let range : list_all is_in_range wants.items ≡ true = ap (list_all is_in_range) (sym c.as_slice.ensures.value) ∙ c.are_in_range.ensures in
    let well = well_after s c.args.job c.args.asking.now wants w.right c.requires.job c.requires.some c.requires.unshared c.requires.passed few range in
    let came =
    came_last s c.insert-p.new.self locks c.insert-p.result c.args.job c.args.asking.now wants.items w.table
    (short_of g.row.REQS s locks c.args.job w) c.insert-p.ensures.within c.insert-p.ensures.out
    (apart_after s c.args.job c.args.asking.now wants well) few
    (admits_from g.row.REQS s locks c.args.job wants.items w (right_job c.args.job c.requires.job) c.requires.passed) c.insert-p.ensures.value in
    let arriving = subst (λ l. IsArriving c.insert-p.new.self locks c.insert-p.result l 0) (sym c.as_slice-2.ensures.value) came in
    let order = ap (λ (v : Stored). length v.order) c.insert-p.ensures.value in
    let long = length-append s.order (c.insert-p.result ∷ []) in
    let seen = sym c.as_slice-2.ensures.value in
    let found = subst (λ l. AreFound 0 locks l c.args.found.now) seen c.requires.found in (
      lit< tt,
      (lit< tt, (arriving, (c.requires.long ∙ ap length seen, (found, omega (arith, c.requires.few, order, long))))),
    )

pub renew-requires : goal.renew-requires
renew-requires g c =
    let s = c.args.self.now.store in
    let p = c.insert-p.result in
    let a = c.enter_all.ensures.arriving in
    let put = ap (λ (v : Stored). v.entries) c.insert-p.ensures.value in
    let mine = entry_mine s c.insert-p.new.self p (arrived c.args.job c.args.asking.now false) c.insert-p.ensures.within put in
    let new : (entry_at c.enter_all.new.store p).granted ≡ false = c.enter_all.ensures.same.flags p ∙ ap (λ (f : Entry). f.granted) mine in
    let present = present_last _ c.enter_all.new.store c.enter_all.new.keys p _ a in
    let within = queues_within _ c.enter_all.new.store c.enter_all.new.keys p _ a in
    (lit< tt, (lit< tt, (present, (within, λ granted. absurd (both_ways _ new granted)))))

pub returns : goal.returns
returns g c =
    let s = c.args.self.now.store in
    let m = c.enter_all.new.store in
    let t = c.renew.new.store in
    let locks = c.args.self.now.keys in
    let more = c.enter_all.new.keys in
    let p = c.insert-p.result in
    let job = c.args.job in
    let asking = c.args.asking.now in
    let wants = c.args.wants.now in
    let r = request_of job asking false wants in
    let w = c.requires.whole in
    let a = c.enter_all.ensures.arriving in
    let renews = c.renew.ensures.renews in
    let few : length wants.items ≤ LOCKS_A_CALL = omega (arith, c.as_slice.ensures.fits, ap length c.as_slice.ensures.value) in
    let range : list_all is_in_range wants.items ≡ true = ap (list_all is_in_range) (sym c.as_slice.ensures.value) ∙ c.are_in_range.ensures in
    let well = well_after s job asking wants w.right c.requires.job c.requires.some c.requires.unshared c.requires.passed few range in
    let all : (entry_at m p).request.wants.items ≡ wants.items =
    a.entered ∙ take_all (length c.as_slice-2.result.now) c.as_slice-2.result.now (omega arith) ∙ c.as_slice-2.ensures.value in
    let bare : with_wants (entry_at m p).request [] ≡ request_of job asking false (record { items = [] }) =
    c.enter_all.ensures.same.mine
    ∙ ap (λ (q : Request). with_wants q []) (came_mine s c.insert-p.new.self p job asking c.insert-p.ensures.within c.insert-p.ensures.value) in
    let table = arrived_by m t more p _ a renews in
    let out = c.insert-p.ensures.out in
    let order : t.order ≡ s.order ++ p ∷ [] = renews.order ∙ c.enter_all.ensures.same.order ∙ ap (λ (v : Stored). v.order) c.insert-p.ensures.value in
    let request : (entry_at t p).request ≡ r = renews.at p ∙ whole_again (entry_at m p).request job asking wants bare all in
    let others : (x : ℕ) → (x ≡ p → ⊥) → (entry_at t x).request ≡ (entry_at s x).request =
    λ x ne. renews.at x ∙ c.enter_all.ensures.same.others x ne
    ∙ came_others s c.insert-p.new.self p x job asking c.insert-p.ensures.within c.insert-p.ensures.value ne in
    let after : requests_in t ≡ requests_in s ++ r ∷ [] = requests_after s t p job r out order request others in
    record {
      whole = record {
        table = table;
        right = right_from_well t (subst (λ l. are_well_formed l ≡ true) (sym after) well);
        jobs = jobs_after s t p job r w.jobs out order request refl others c.requires.passed;
        levels = levels_after s t p job r w.table.kept.apart w.levels order request others (apart_after s job asking wants well) c.requires.passed;
        few = omega (arith, ap length order, length-append s.order (p ∷ []), c.requires.few);
      };
      requests = after;
      granted = flag_last s t s.order more p r table order out request others ∙ sym (granted_last (requests_in s) r);
      out = out;
      order = order;
      request = request;
      others = others;
    }
