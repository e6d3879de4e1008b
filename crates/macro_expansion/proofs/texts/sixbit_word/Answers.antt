use Rattle.std.proofs.Common.{◌∙◌, ap, drop}
use Rattle.std.proofs.lemmas.List.{drop_min, take_rest}
use Rattle.word36.specs.Sixbit.{sixbit_word as word_in_sixbit}
use Rattle.mac_text.specs.Names.{folded}
use Rattle.mac_asm.specs.Packing.{sixbit_word}
use Rattle.macro_expansion.proofs.texts.sixbit_word.Goals as goal

pub returns : goal.returns
unfolding sixbit_word
returns c =
    let text = c.args.text.now in
    c.sixbit.ensures
    ∙ ap word_in_sixbit (c.as_slice.ensures.value ∙ c.folded.ensures.characters
    ∙ ap folded (take_rest text c.min.result ∙ ap (λ n. drop n text) c.min.ensures ∙ drop_min c.args.from text))
