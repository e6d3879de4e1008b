use Rattle.std.proofs.Common.{◌≡◌, ◌<◌, false, length, get_or, refl, sym, ap, ◌∙◌, arith}
use Rattle.std.proofs.lemmas.List.{get_or_read}
use Rattle.lock_queue.specs.Jobs.{is_waiting_job}
use Rattle.lockcheck_orders.specs.declared.kept.KnownMove.{KnownMove}
use Rattle.lockcheck_orders.specs.declared.lines.Line.{Line}
use Rattle.lockcheck_orders.specs.declared.tables.Tables.{Tables}
use Rattle.lockcheck_orders.specs.Packing.{unpacked}
use Rattle.lockcheck_orders.specs.Programs.{no_line}
use Rattle.lockcheck_orders.specs.Tables.{form_of}
use Rattle.lockcheck_orders.proofs.Learnt.{learnt, left-is, made-left}
use Rattle.lockcheck_orders.proofs.Numbers.{vector-stored}
use Rattle.lockcheck_orders.proofs.orders.find_move.Goals as goal

pub returns-clause-made : goal.returns-clause-made
returns-clause-made c =
    let lines = c.args.programs.now in
    let ls = c.lines-lines.result.now in
    let t = c.args.tables.now in
    let u : Tables = record { requests = c.pack_requests.new.requests; vectors = c.number_of.new.self; known = c.args.tables.now.known } in
    let k : KnownMove =
    record { from = c.args.state.requests; after = c.in_ok-after.after; line = c.args.line; waits = false; circle = c.in_ok-circle.circle } in
    let within : c.args.line < length c.lines-lines.result.now = omega (arith, ap length c.lines-lines.ensures.value, c.requires.there) in
    let job : (get_or c.lines-lines.result.now c.args.line c.index-lines-line.result).job ≡ (get_or c.args.programs.now c.args.line no_line).job =
    ap (λ (l : Line). l.job)
    (sym c.index-lines-line.is ∙ get_or_read ls c.args.line c.index-lines-line.result within c.index-lines-line.is no_line
    ∙ ap (λ v. get_or v c.args.line no_line) c.lines-lines.ensures.value) in
    let turn : is_waiting_job c.set_state_out.new.desk (get_or c.lines-lines.result.now c.args.line c.index-lines-line.result).job
    ≡ is_waiting_job (unpacked c.args.programs.now (form_of c.args.tables.now c.args.state)).requests (get_or c.args.programs.now c.args.line no_line).job =
    λ i. is_waiting_job (c.set_state_out.ensures i) (job i) in
    let stored = c.in_ok-after.ensures.stored in
    made-left lines t u c.args.state c.args.line k c.in_ok-numbers.numbers.items c.in_ok-numbers.ensures.grown c.in_ok-after.ensures.grown c.requires.sound
    refl refl refl (sym turn ∙ sym c.is_waiting.ensures ∙ c.if-is_waiting.false) c.in_ok-after.ensures.within
    (vector-stored c.number_of.new.self c.in_ok-after.after c.in_ok-numbers.numbers stored.0 stored.1 stored.2) c.in_ok-numbers.ensures.within
    (left-is lines ls (unpacked lines (form_of t c.args.state)).requests c.set_state_out.new.desk c.perform_line.new.desk c.args.line _
    c.in_ok-circle.circle c.lines-lines.ensures.value c.set_state_out.ensures c.perform_line.ensures.requests c.in_ok-numbers.ensures.forms
    c.perform_line.ensures.come c.perform_line.ensures.well c.perform_line.ensures.few c.in_ok-circle.ensures)

pub returns-clause-learns : goal.returns-clause-learns
returns-clause-learns c =
    let u : Tables = record { requests = c.pack_requests.new.requests; vectors = c.number_of.new.self; known = c.args.tables.now.known } in
    learnt c.args.programs.now c.args.tables.now u c.in_ok-numbers.ensures.grown c.in_ok-after.ensures.grown c.in_ok-numbers.ensures.unique
    c.in_ok-after.ensures.unique refl
