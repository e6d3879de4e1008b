use Rattle.std.proofs.Common.{◌≡◌, ◌-◌, length}
use Rattle.mac_layout.specs.TextSizes.{words_in}
use Rattle.mac_asm.specs.Words.{text_words_from}
use Rattle.mac_asm.proofs.PushLemmas.{with_words}
use Rattle.mac_asm.proofs.words.push_text.Given as goal

-- the words so far and those to come are all
abbrev pub invariant-loop-i : goal.invariant-loop-i
invariant-loop-i l =
    with_words l.words.items (text_words_from l.form l.text l.i (l.i-end - l.i))
    ≡ with_words l.fn.words.items (text_words_from l.form l.text 0 (words_in l.form (length l.text)))
