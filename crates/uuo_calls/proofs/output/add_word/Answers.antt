use Rattle.std.proofs.Common.{Some, ◌≡◌, ◌≢◌, ◌∙◌, ◌+◌, ◌-◌, ◌/◌, ◌%◌, length, sym, arith}
use Rattle.std.proofs.lemmas.Grind.{common_steps}
use Rattle.ka_state.specs.Memory.{word_below}
use Rattle.uuo_calls.specs.TerminalRows.{character}
use Rattle.uuo_calls.proofs.Texts.{same-word, place-in-word, text-zero, text-more}
use Rattle.uuo_calls.proofs.output.add_word.Goals as goal

pub returns-then-number-eq0-clause-ended : goal.returns-then-number-eq0-clause-ended
returns-then-number-eq0-clause-ended c is ac core e n some =
    let old = length c.args.text.now.items in
    let k = c.loop-k.k in
    let there : word_below ac core (e + (old + k) / 5) ≡ Some c.args.word =
    rw (same-word old k c.requires.whole (omega (arith, c.loop-k-test.true, c.requires.within))) some in
    let zero : character ((old + k) % 5) c.args.word ≡ 0 =
    rw (place-in-word old k c.requires.whole (omega (arith, c.loop-k-test.true, c.requires.within)))
    (sym c.character-c.ensures ∙ sym c.number.ensures.value ∙ c.if-number-eq0.true) in
    c.loop-k.invariant.rest ac core e n some
    ∙ text-zero ac core e c.loop-k.text.items (n + (c.args.count - k)) (n + (c.args.count - (k + 1))) (old + k) c.args.word
    (omega (arith, c.loop-k-test.true)) c.loop-k.invariant.long there zero

pub loop-k-preserved : goal.loop-k-preserved
loop-k-preserved c =
    let old = length c.args.text.now.items in
    let k = c.loop-k.k in
    let other : c.character-c.result ≢ 0 = λ z. c.if-number-eq0.false (c.number.ensures.value ∙ z) in
    let is : c.character-c.result ≡ character ((old + k) % 5) c.args.word =
    rw (place-in-word old k c.requires.whole (omega (arith, c.loop-k-test.true, c.requires.within))) c.character-c.ensures in
    record {
      rest = λ ac core e n some.
          let there : word_below ac core (e + (old + k) / 5) ≡ Some c.args.word =
          rw (same-word old k c.requires.whole (omega (arith, c.loop-k-test.true, c.requires.within))) some in
          let more =
          text-more ac core e c.loop-k.text.items (n + (c.args.count - k)) (n + (c.args.count - (k + 1))) (old + k)
          c.args.word c.character-c.result (omega (arith, c.loop-k-test.true)) c.loop-k.invariant.long there is other in
          rw (c.push.ensures.items) (c.loop-k.invariant.rest ac core e n some ∙ more);
      long = grind (arith, common_steps);
    }
