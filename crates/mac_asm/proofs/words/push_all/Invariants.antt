use Rattle.std.proofs.Common.{◌≡◌, drop}
use Rattle.mac_layout.specs.Values.{names_of}
use Rattle.mac_asm.specs.Words.{word_of, words_of_all}
use Rattle.mac_asm.proofs.PushLemmas.{with_words}
use Rattle.mac_asm.proofs.words.push_all.Given as goal

-- the words so far and those to come are all
abbrev pub invariant-loop-expression : goal.invariant-loop-expression
invariant-loop-expression l =
    with_words l.words.items (words_of_all (word_of (names_of l.scope)) (drop l.expression-index l.expressions))
    ≡ with_words l.fn.words.items (words_of_all (word_of (names_of l.scope)) l.expressions)
