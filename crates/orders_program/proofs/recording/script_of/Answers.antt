use Rattle.std.proofs.Common.{◌≡◌, ◌∙◌, ◌++◌, ap, ℕ, List}
use Rattle.std.specs.List.{flat_map}
use Rattle.program_files.specs.Recorded.{programs_text}
use Rattle.run_record.specs.Scripts.{end_text, head_text, text_in}
use Rattle.orders_program.specs.Scripts.{data_text}
use Rattle.orders_program.specs.Telling.{data_from}
use Rattle.orders_program.proofs.recording.script_of.Goals as goal

-- texts that are added one after another
in-order : (h p e end d s t u v w : List ℕ) → s ≡ h → t ≡ s ++ p → u ≡ t ++ e → v ≡ u ++ end → w ≡ v ++ d → w ≡ (((h ++ p) ++ e) ++ end) ++ d
in-order h p e end d s t u v w a b c f g =
    g ∙ ap (λ l. l ++ d) (f ∙ ap (λ l. l ++ end) (c ∙ ap (λ l. l ++ e) (b ∙ ap (λ l. l ++ p) a)))

pub returns : goal.returns
returns c =
    let work = c.args.work.now in
    let f = c.args.followed.now in
    let shared = f.machine.machine.world.shared in
    let shown : c.as_slice.result.now ≡ data_from 0 shared = c.as_slice.ensures.value ∙ c.in_ok-data.ensures in
    let head : c.push_head.new.out.items ≡ head_text work.config.blocks work.config.quantum =
    c.in_ok-push_head.ensures ∙ ap (λ l. l ++ head_text c.blocks-2.result c.quantum.result) c.new-script.ensures.items
    ∙ ap (λ b. head_text b c.quantum.result) c.blocks-2.ensures.value ∙ ap (head_text work.config.blocks) c.quantum.ensures.value in
    in-order (head_text work.config.blocks work.config.quantum) (programs_text 1 c.args.files.now work.programs.now) (text_in f.events) end_text
    (flat_map data_text (data_from 0 shared)) c.push_head.new.out.items c.push_programs.new.script.items c.push_pieces.new.out.items
    c.push_end.new.out.items c.push_data.new.script.items head c.in_ok-push_programs.ensures
    (c.in_ok-push_pieces.ensures ∙ ap (λ ps. c.push_programs.new.script.items ++ text_in ps) c.pieces.ensures) c.in_ok-push_end.ensures
    (c.in_ok-push_data.ensures ∙ ap (λ ds. c.push_end.new.out.items ++ flat_map data_text ds) shown)
