use Rattle.std.proofs.Common.{◌≡◌, ◌≤◌, ◌*◌, ℕ, [], List, Vec, Global, None, true, length, map, ap, sym, subst, ◌∙◌}
use Rattle.std.specs.List.{All}
use Rattle.word36.specs.declared.sizes.TheConstants.{BLOCK_WORDS, JOBS, MOST_REQUESTS}
use Rattle.core_store.specs.Cores.{IsWhole}
use Rattle.lock_queue.specs.WellFormed.{are_well_formed}
use Rattle.state_search.specs.Parts.{AreNumbers}
use Rattle.job_order_laws.specs.Turned.{V}
use Rattle.job_orders.specs.declared.tables.Tables.{Tables}
use Rattle.job_orders.specs.Forms.{JobForm}
use Rattle.job_orders.specs.Tables.{IsJob, form_of, items_of, job_of, numbers_at, requests_in}
use Rattle.job_orders.specs.Views.{padded}
use Rattle.job_orders.proofs.Filling.{part-is}
use Rattle.job_orders.proofs.Setting.{few-requests, set-made, whole-cores, written-back}
use Rattle.job_orders.proofs.machines.set_out.Goals as goal

pub set_slots-requires-clause-jobs : goal.set_slots-requires-clause-jobs
set_slots-requires-clause-jobs c =
    let is : c.as_slice-numbers.result.now ≡ numbers_at c.args.tables.now.lists c.args.state.jobs =
    c.as_slice-numbers.ensures.value
    ∙ part-is items_of [] c.args.tables.now.lists c.args.state.jobs c.part.result.now c.requires.numbered.jobs c.part.ensures in
    subst (λ (ns : List ℕ). All (IsJob c.args.tables.now) ns) (sym is) c.requires.numbered.each

pub set_slots-requires-clause-few : goal.set_slots-requires-clause-few
set_slots-requires-clause-few c =
    let is : c.as_slice-numbers.result.now ≡ numbers_at c.args.tables.now.lists c.args.state.jobs =
    c.as_slice-numbers.ensures.value
    ∙ part-is items_of [] c.args.tables.now.lists c.args.state.jobs c.part.result.now c.requires.numbered.jobs c.part.ensures in
    subst (λ (ns : List ℕ). length ns ≤ JOBS) (sym is) c.requires.few

pub set_cores-requires-clause-jobs : goal.set_cores-requires-clause-jobs
set_cores-requires-clause-jobs c =
    let is : c.as_slice-numbers.result.now ≡ numbers_at c.args.tables.now.lists c.args.state.jobs =
    c.as_slice-numbers.ensures.value
    ∙ part-is items_of [] c.args.tables.now.lists c.args.state.jobs c.part.result.now c.requires.numbered.jobs c.part.ensures in
    subst (λ (ns : List ℕ). All (IsJob c.args.tables.now) ns) (sym is) c.requires.numbered.each

pub set_cores-requires-clause-whole : goal.set_cores-requires-clause-whole
set_cores-requires-clause-whole c =
    let is : c.as_slice-numbers.result.now ≡ numbers_at c.args.tables.now.lists c.args.state.jobs =
    c.as_slice-numbers.ensures.value
    ∙ part-is items_of [] c.args.tables.now.lists c.args.state.jobs c.part.result.now c.requires.numbered.jobs c.part.ensures in
    subst (λ (ns : List ℕ). All (λ n. IsWhole (job_of c.args.tables.now n).core) ns) (sym is)
    (whole-cores c.args.machine.now.machine.quantum c.args.machine.now.machine.blocks
    (length (numbers_at c.args.tables.now.lists c.args.state.jobs)) c.args.tables.now c.args.state c.requires.framed c.requires.few)

pub set_texts-requires-clause-jobs : goal.set_texts-requires-clause-jobs
set_texts-requires-clause-jobs c =
    let is : c.as_slice-numbers.result.now ≡ numbers_at c.args.tables.now.lists c.args.state.jobs =
    c.as_slice-numbers.ensures.value
    ∙ part-is items_of [] c.args.tables.now.lists c.args.state.jobs c.part.result.now c.requires.numbered.jobs c.part.ensures in
    subst (λ (ns : List ℕ). All (IsJob c.args.tables.now) ns) (sym is) c.requires.numbered.each

pub set_requests-requires-clause-within : goal.set_requests-requires-clause-within
set_requests-requires-clause-within c =
    let is : c.as_slice-requests.result.now ≡ numbers_at c.args.tables.now.lists c.args.state.requests =
    c.as_slice-requests.ensures.value
    ∙ part-is items_of [] c.args.tables.now.lists c.args.state.requests c.part-2.result.now c.requires.numbered.requests c.part-2.ensures in
    subst (λ (ns : List ℕ). AreNumbers c.args.tables.now.requests ns) (sym is) c.requires.numbered.asked

pub set_requests-requires-clause-few : goal.set_requests-requires-clause-few
set_requests-requires-clause-few c =
    let is : c.as_slice-requests.result.now ≡ numbers_at c.args.tables.now.lists c.args.state.requests =
    c.as_slice-requests.ensures.value
    ∙ part-is items_of [] c.args.tables.now.lists c.args.state.requests c.part-2.result.now c.requires.numbered.requests c.part-2.ensures in
    subst (λ (ns : List ℕ). length ns ≤ MOST_REQUESTS) (sym is)
    (few-requests c.args.machine.now.machine.quantum c.args.machine.now.machine.blocks
    (length (numbers_at c.args.tables.now.lists c.args.state.jobs)) c.args.tables.now c.args.state c.requires.framed)

pub set_requests-requires-clause-well : goal.set_requests-requires-clause-well
set_requests-requires-clause-well c =
    let is : c.as_slice-requests.result.now ≡ numbers_at c.args.tables.now.lists c.args.state.requests =
    c.as_slice-requests.ensures.value
    ∙ part-is items_of [] c.args.tables.now.lists c.args.state.requests c.part-2.result.now c.requires.numbered.requests c.part-2.ensures in
    subst (λ (ns : List ℕ). are_well_formed (requests_in c.args.tables.now.requests ns) ≡ true) (sym is) c.requires.framed.well

pub returns : goal.returns
returns c =
    let t : Tables = c.args.tables.now in
    let numbers : c.as_slice-numbers.result.now ≡ numbers_at c.args.tables.now.lists c.args.state.jobs =
    c.as_slice-numbers.ensures.value
    ∙ part-is items_of [] c.args.tables.now.lists c.args.state.jobs c.part.result.now c.requires.numbered.jobs c.part.ensures in
    let requests : c.as_slice-requests.result.now ≡ numbers_at c.args.tables.now.lists c.args.state.requests =
    c.as_slice-requests.ensures.value
    ∙ part-is items_of [] c.args.tables.now.lists c.args.state.requests c.part-2.result.now c.requires.numbered.requests c.part-2.ensures in
    let blocks : c.machine.inside.blocks ≡ c.args.machine.now.machine.blocks = ap (λ (v : V). v.machine.blocks) c.machine.view_is in
    set-made c.args.machine.now c.machine.inside.quantum c.machine.inside.blocks (length (numbers_at c.args.tables.now.lists c.args.state.jobs))
    (form_of c.args.tables.now c.args.state) _ _ _ _ _ _ _ (ap (λ (v : V). v.machine.quantum) c.machine.view_is) blocks c.requires.framed
    (c.set_slots.ensures.table
    ∙ ap (λ ns. record { jobs = padded None (map (λ (j : JobForm). j.slot) (map (job_of t) ns)); current = 0; left = 0 }) numbers)
    (c.set_slots.ensures.last ∙ ap (λ ns. padded 0 (map (λ (j : JobForm). j.last) (map (job_of t) ns))) numbers)
    (c.in_ok-set_cores.ensures.cores ∙ ap (λ ns. padded [] (map (λ (j : JobForm). j.core) (map (job_of t) ns))) numbers)
    (c.in_ok-set_cores.ensures.words ∙ ap (λ n. n * BLOCK_WORDS) blocks)
    (ap (map (λ (x : Vec ℕ Global). x.items)) (written-back c.set_texts.new.texts _ c.machine.inside.texts.len (c.set_texts.auto.texts ∙ c.as_mut_slice.ensures.len))
    ∙ c.in_ok-set_texts.ensures ∙ ap (λ ns. padded [] (map (λ (j : JobForm). j.text) (map (job_of t) ns))) numbers)
    c.clear.ensures
    (c.set_requests.ensures ∙ ap (requests_in c.args.tables.now.requests) requests)
    c.set_shared.ensures
