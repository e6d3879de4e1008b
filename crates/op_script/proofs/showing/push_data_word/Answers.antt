use Rattle.std.proofs.Common.{◌∙◌, ap, unwrap_or, slice_index}
use Rattle.std.proofs.lemmas.Option.{unwrap_or-slice_get}
use Rattle.op_script.proofs.showing.push_data_word.Goals as goal

pub returns : goal.returns
returns g c =
    let shared = c.args.machine.now.world.shared in
    let word = c.unwrap_or-word.ensures ∙ ap (unwrap_or c.data_word.result) c.new.ensures ∙ ap (λ o. unwrap_or o 0) c.data_word.ensures
    ∙ unwrap_or-slice_get shared c.from.result 0 ∙ ap (slice_index shared) c.from.ensures in
    rw (← word) c.push_word_line.ensures
