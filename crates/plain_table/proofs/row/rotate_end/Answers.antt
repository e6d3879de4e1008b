use Rattle.std.proofs.Common.{◌≡◌, ◌∙◌, sym, ap, ◌-◌, ◌+◌, ◌<◌, ◌≤◌, List, [], ◌∷◌, ◌++◌, length, get_or, take, false, arith, remove}
use Rattle.std.proofs.Math.Seq.{take-append_seam}
use Rattle.std.proofs.lemmas.List.Edits.{length-remove}
use Rattle.std.proofs.lemmas.Slice.{put_mid-rotated}
use Rattle.lock_queue.specs.declared.request.EnqueueKind.TheVariants.{AtOnce}
use Rattle.lock_queue.specs.declared.request.Request.{Request}
use Rattle.plain_table.proofs.row.rotate_end.Goals as goal

pub returns : goal.returns
returns c =
    let xs : List Request = c.args.requests.now in
    let d : Request = record { job = 0; id = 0; kind = AtOnce; notified = false; wants = record { items = [] } } in
    let lt : c.args.i < length xs = c.requires in
    let le : length xs ≤ c.args.i + (length xs - c.args.i) = omega arith in
    let turned =
    put_mid-rotated c.args.i (length xs - c.args.i) xs c.rotate_left.new.self d lt le c.rotate_left.ensures.after in
    let short : length (remove xs c.args.i) ≡ length xs - 1 = omega (arith, length-remove xs c.args.i lt) in
    ap (take (length xs - 1)) turned
    ∙ ap (λ n. take n (remove xs c.args.i ++ get_or xs c.args.i d ∷ [])) (sym short)
    ∙ take-append_seam (remove xs c.args.i) (get_or xs c.args.i d ∷ [])
