use Rattle.std.proofs.Common.{◌≡◌, List, slice_get, slice_index, refl, sym, ap, subst, ◌∙◌}
use Rattle.std.specs.List.{IsDistinct}
use Rattle.lockcheck_orders.specs.declared.kept.KeptState.{KeptState}
use Rattle.lockcheck_orders.specs.Learning.{form_stays, learns_on, sound_stays}
use Rattle.lockcheck_orders.specs.Packing.{RequestForm, StateForm, unpacked}
use Rattle.lockcheck_orders.specs.Programs.{due, jobs_of}
use Rattle.lockcheck_orders.specs.Same.{same_request}
use Rattle.lockcheck_orders.specs.Tables.{form_of}
use Rattle.lockcheck_orders.proofs.Learnt.{known-waits, learnt, move-shown, move-sound, next-waits, nowhere, same-grown}
use Rattle.lockcheck_orders.proofs.orders.OrdersMoves.make_move.Goals as goal

pub returns-then-found-clause-next : goal.returns-then-found-clause-next
returns-then-found-clause-next c =
    let lines = c.args.self.now.programs.now in
    let t0 = c.args.self.now.tables in
    let t = c.move_of.new.tables in
    let x = c.args.state.now in
    let i = c.in-Some.line in
    let k = c.in_ok-found.found in
    let learns = c.in_ok-found.ensures.learns in
    let sound = sound_stays lines lines t0 t x learns c.requires.sound in
    let due-is : slice_get c.args.self.now.programs.now c.in-Some.line
    ≡ due c.args.self.now.programs.now (slice_index (jobs_of c.args.self.now.programs.now) c.args.by)
    (slice_index (form_of c.move_of.new.tables c.args.state.now).made c.args.by) =
    c.in-Some.ensures.line
    ∙ ap (λ (f : StateForm). due lines (slice_index (jobs_of lines) c.args.by) (slice_index f.made c.args.by))
    (sym (form_stays t0 t learns.requests learns.vectors x c.requires.sound.requests c.requires.sound.front c.requires.sound.back)) in
    nowhere lines (unpacked lines (form_of t x)) c.args.by
    (next-waits lines (unpacked lines (form_of t x)) c.args.by
    (known-waits lines t x c.args.by i k c.in_ok-found.ensures.made c.in_ok-found.ensures.from c.in_ok-found.ensures.line c.in-Some.ensures.there due-is
    ∙ c.if-found.true))

pub returns-clause-next : goal.returns-clause-next
returns-clause-next c =
    let lines = c.args.self.now.programs.now in
    let t0 = c.args.self.now.tables in
    let t = c.move_of.new.tables in
    let x = c.args.state.now in
    let i = c.in-Some.line in
    let k = c.in_ok-found.found in
    let learns = c.in_ok-found.ensures.learns in
    let sound = sound_stays lines lines t0 t x learns c.requires.sound in
    let due-is : slice_get c.args.self.now.programs.now c.in-Some.line
    ≡ due c.args.self.now.programs.now (slice_index (jobs_of c.args.self.now.programs.now) c.args.by)
    (slice_index (form_of c.move_of.new.tables c.args.state.now).made c.args.by) =
    c.in-Some.ensures.line
    ∙ ap (λ (f : StateForm). due lines (slice_index (jobs_of lines) c.args.by) (slice_index f.made c.args.by))
    (sym (form_stays t0 t learns.requests learns.vectors x c.requires.sound.requests c.requires.sound.front c.requires.sound.back)) in
    let u = c.one_more.new.tables in
    let y : KeptState =
    record { requests = c.in_ok-found.found.after; front = c.in_ok-front.front; back = c.in_ok-front.back; circle = c.in_ok-found.found.circle } in
    let D : List RequestForm → Type 0 = λ rs. IsDistinct same_request rs in
    let grown = same-grown t.requests u.requests c.in_ok-front.ensures.requests in
    let more = learnt lines t u grown c.in_ok-front.ensures.grown (λ h. subst D (sym c.in_ok-front.ensures.requests) h) c.in_ok-front.ensures.unique
    c.in_ok-front.ensures.known in
    move-shown lines t u x y c.args.by i k (more.right sound.right) grown c.in_ok-front.ensures.grown sound c.in_ok-found.ensures.made c.in_ok-found.ensures.from
    c.in_ok-found.ensures.line c.if-found.false c.in-Some.ensures.there due-is refl refl c.in_ok-front.ensures.front_there c.in_ok-front.ensures.back_there
    c.in_ok-front.ensures.front c.in_ok-front.ensures.made

pub returns-clause-kept_sound : goal.returns-clause-kept_sound
returns-clause-kept_sound c =
    let lines = c.args.self.now.programs.now in
    let t0 = c.args.self.now.tables in
    let t = c.move_of.new.tables in
    let x = c.args.state.now in
    let i = c.in-Some.line in
    let k = c.in_ok-found.found in
    let learns = c.in_ok-found.ensures.learns in
    let sound = sound_stays lines lines t0 t x learns c.requires.sound in
    let due-is : slice_get c.args.self.now.programs.now c.in-Some.line
    ≡ due c.args.self.now.programs.now (slice_index (jobs_of c.args.self.now.programs.now) c.args.by)
    (slice_index (form_of c.move_of.new.tables c.args.state.now).made c.args.by) =
    c.in-Some.ensures.line
    ∙ ap (λ (f : StateForm). due lines (slice_index (jobs_of lines) c.args.by) (slice_index f.made c.args.by))
    (sym (form_stays t0 t learns.requests learns.vectors x c.requires.sound.requests c.requires.sound.front c.requires.sound.back)) in
    let u = c.one_more.new.tables in
    let y : KeptState =
    record { requests = c.in_ok-found.found.after; front = c.in_ok-front.front; back = c.in_ok-front.back; circle = c.in_ok-found.found.circle } in
    let D : List RequestForm → Type 0 = λ rs. IsDistinct same_request rs in
    let grown = same-grown t.requests u.requests c.in_ok-front.ensures.requests in
    let more = learnt lines t u grown c.in_ok-front.ensures.grown (λ h. subst D (sym c.in_ok-front.ensures.requests) h) c.in_ok-front.ensures.unique
    c.in_ok-front.ensures.known in
    move-sound lines t u x y c.args.by i k (more.right sound.right) grown c.in_ok-front.ensures.grown sound c.in_ok-found.ensures.made c.in_ok-found.ensures.from
    c.in_ok-found.ensures.line c.if-found.false c.in-Some.ensures.there due-is refl refl c.in_ok-front.ensures.front_there c.in_ok-front.ensures.back_there
    c.in_ok-front.ensures.front c.in_ok-front.ensures.made

pub returns-clause-extends : goal.returns-clause-extends
returns-clause-extends c =
    let lines = c.args.self.now.programs.now in
    let t0 = c.args.self.now.tables in
    let t = c.move_of.new.tables in
    let x = c.args.state.now in
    let i = c.in-Some.line in
    let k = c.in_ok-found.found in
    let learns = c.in_ok-found.ensures.learns in
    let sound = sound_stays lines lines t0 t x learns c.requires.sound in
    let due-is : slice_get c.args.self.now.programs.now c.in-Some.line
    ≡ due c.args.self.now.programs.now (slice_index (jobs_of c.args.self.now.programs.now) c.args.by)
    (slice_index (form_of c.move_of.new.tables c.args.state.now).made c.args.by) =
    c.in-Some.ensures.line
    ∙ ap (λ (f : StateForm). due lines (slice_index (jobs_of lines) c.args.by) (slice_index f.made c.args.by))
    (sym (form_stays t0 t learns.requests learns.vectors x c.requires.sound.requests c.requires.sound.front c.requires.sound.back)) in
    let u = c.one_more.new.tables in
    let y : KeptState =
    record { requests = c.in_ok-found.found.after; front = c.in_ok-front.front; back = c.in_ok-front.back; circle = c.in_ok-found.found.circle } in
    let D : List RequestForm → Type 0 = λ rs. IsDistinct same_request rs in
    let grown = same-grown t.requests u.requests c.in_ok-front.ensures.requests in
    let more = learnt lines t u grown c.in_ok-front.ensures.grown (λ h. subst D (sym c.in_ok-front.ensures.requests) h) c.in_ok-front.ensures.unique
    c.in_ok-front.ensures.known in
    learns_on lines lines lines t0 t u learns more
