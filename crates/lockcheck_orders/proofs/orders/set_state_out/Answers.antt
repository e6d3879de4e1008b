use Rattle.std.proofs.Common.{◌≡◌, ◌≤◌, ℕ, true, List, length, map, sym, ap, subst, ◌∙◌, arith}
use Rattle.word36.specs.declared.sizes.TheConstants.{MOST_REQUESTS}
use Rattle.lock_queue.specs.WellFormed.{are_well_formed}
use Rattle.state_search.specs.Parts.{AreNumbers}
use Rattle.lockcheck_orders.specs.declared.lines.Line.{Line}
use Rattle.lockcheck_orders.specs.Packing.{unpacked_request}
use Rattle.lockcheck_orders.specs.Tables.{forms_at, numbers_at}
use Rattle.lockcheck_orders.proofs.Learnt.{few-numbers}
use Rattle.lockcheck_orders.proofs.Numbers.{vector-is}
use Rattle.lockcheck_orders.proofs.orders.set_state_out.Goals as goal

pub set_all_out-requires-clause-within : goal.set_all_out-requires-clause-within
set_all_out-requires-clause-within c =
    let P : List ℕ → Type 0 = λ ns. AreNumbers c.args.tables.now.requests ns in
    subst P (vector-is c.args.tables.now.vectors c.args.state.requests c.part.result.now c.part.ensures ∙ sym c.as_slice.ensures.value) c.requires.listed.numbers

pub set_all_out-requires-clause-few : goal.set_all_out-requires-clause-few
set_all_out-requires-clause-few c =
    let P : List ℕ → Type 0 = λ ns. length ns ≤ MOST_REQUESTS in
    subst P (vector-is c.args.tables.now.vectors c.args.state.requests c.part.result.now c.part.ensures ∙ sym c.as_slice.ensures.value)
    (few-numbers c.args.programs.now c.args.tables.now c.args.state c.requires.kept)

pub set_all_out-requires-clause-well : goal.set_all_out-requires-clause-well
set_all_out-requires-clause-well c =
    let P : List ℕ → Type 0 =
    λ ns. are_well_formed (map (unpacked_request c.args.programs.now) (forms_at c.args.tables.now.requests ns)) ≡ true in
    let Q : List Line → Type 0 = λ l. are_well_formed (map (unpacked_request l) (forms_at c.args.tables.now.requests c.as_slice.result.now)) ≡ true in
    subst Q (sym c.lines.ensures.value)
    (subst P (vector-is c.args.tables.now.vectors c.args.state.requests c.part.result.now c.part.ensures ∙ sym c.as_slice.ensures.value) c.requires.kept.met.well)

pub returns : goal.returns
returns c =
    c.set_all_out.ensures
    ∙ ap (λ l. map (unpacked_request l) (forms_at c.args.tables.now.requests c.as_slice.result.now)) c.lines.ensures.value
    ∙ ap (λ ns. map (unpacked_request c.args.programs.now) (forms_at c.args.tables.now.requests ns))
    (sym (vector-is c.args.tables.now.vectors c.args.state.requests c.part.result.now c.part.ensures ∙ sym c.as_slice.ensures.value))
