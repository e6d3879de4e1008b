use Rattle.std.proofs.Common.{◌≡◌, ◌∙◌, sym, ap, ℕ, List, [], ◌∷◌, ◌++◌, map, true, false, refl, arith}
use Rattle.std.proofs.lemmas.Grind.{common_steps}
use Rattle.lock_queue.specs.declared.grant.Grant.{Grant}
use Rattle.lock_queue.specs.Grants.{grant_of}
use Rattle.key_queues.specs.declared.entry.Entry.{Entry}
use Rattle.lock_table.specs.Reads.{request_at, requests_at}
use Rattle.lock_table.specs.Raised.{is_raised}
use Rattle.lock_table.proofs.Wholes.{none_raised, only_grants}
use Rattle.lock_table.proofs.waking.fill_woken.Goals as goal
use Rattle.lock_table.proofs.waking.fill_woken.Goals.{else-contains-via-then-contains+else-is_raised, else-contains-via-else-contains}

pub returns-then-none : goal.returns-then-none
returns-then-none g c =
    let s = c.args.store.now in
    c.clear.ensures ∙ sym (ap (λ (l : List ℕ). map grant_of (requests_at s l)) (none_raised s c.args.flips.now s.order (c.none.ensures c.if-none.true)))

pub returns-then-is_raised : goal.returns-then-is_raised
returns-then-is_raised g c =
    let s = c.args.store.now in
    let p = c.in-Some.p in
    let grant : c.grant_of.result ≡ grant_of (request_at s p) = c.grant_of.ensures ∙ ap (λ (f : Entry). grant_of f.request) c.get.ensures.value in
    c.push.ensures.items ∙ ap (λ (l : List Grant). l ++ c.grant_of.result ∷ []) c.clear.ensures ∙ ap (λ (v : Grant). v ∷ []) grant
    ∙ sym
    (only_grants s c.args.flips.now p true true c.in-Some.ensures c.requires.once (sym c.contains.ensures ∙ c.if-contains.true)
    (sym c.is_raised.ensures ∙ c.if-is_raised.true))

pub returns-else-contains : goal.returns-else-contains
returns-else-contains g c =
    let s = c.args.store.now in
    let p = c.in-Some.p in
    c.clear.ensures
    ∙ sym
    (elim c.else-contains.branch [
      | else-contains-via-then-contains+else-is_raised w ↦
          only_grants s c.args.flips.now p true false c.in-Some.ensures c.requires.once (sym c.contains.ensures ∙ w.if-contains.true)
          (sym w.is_raised.ensures ∙ w.if-is_raised.false)
      | else-contains-via-else-contains w ↦
          only_grants s c.args.flips.now p false (is_raised s c.args.flips.now p) c.in-Some.ensures c.requires.once
          (sym c.contains.ensures ∙ w.if-contains.false) refl
    ])

pub loop-p-preserved : goal.loop-p-preserved
loop-p-preserved g c = grind (arith, common_steps)

pub get-requires-then-is_raised-2 : goal.get-requires-then-is_raised-2
get-requires-then-is_raised-2 g c = grind (arith, common_steps)

pub is_raised-requires-in-loop-p : goal.is_raised-requires-in-loop-p
is_raised-requires-in-loop-p g c = grind (arith, common_steps)
