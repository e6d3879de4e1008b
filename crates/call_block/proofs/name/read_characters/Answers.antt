use Rattle.std.proofs.Common.{ℕ, ◌+◌, sym, ap, ◌∙◌, Some}
use Rattle.std.proofs.lemmas.List.{length_push}
use Rattle.word36.specs.Words.{right_half}
use Rattle.ka_state.specs.Memory.{word_at}
use Rattle.call_block.proofs.NameLemmas.{more, zero_ends, enough, illegal, character_in}
use Rattle.call_block.proofs.name.read_characters.Goals as goal

pub returns : goal.returns
returns g c = enough _ _ _ 31 _ _ _ c.loop-count-test.false c.loop-count.invariant.read

pub returns-then-character-eq0 : goal.returns-then-character-eq0
returns-then-character-eq0 g c =
    let at = character_in _ _ _ _ _ _ c.next_word-word.ensures c.increment-pointer.ensures.value c.in_ok-word.was
    ∙ ap Some (sym c.character_of-character.ensures.value ∙ c.if-character-eq0.true) in
    zero_ends _ _ _ _ 31 _ _ _ c.loop-count-test.true c.loop-count.invariant.read c.increment-pointer.ensures.value at

pub returns-in_err-word : goal.returns-in_err-word
returns-in_err-word g c =
    let at = character_in _ _ _ _ _ _ c.next_word-word.ensures c.increment-pointer.ensures.value c.in_err-word.was in
    rw c.from_residual.ensures
    (illegal _ _ _ _ 31 _ _ _ c.loop-count-test.true c.loop-count.invariant.read c.increment-pointer.ensures.value at)

pub loop-count-preserved : goal.loop-count-preserved
loop-count-preserved g c =
    let at = character_in _ _ _ _ _ _ c.next_word-word.ensures c.increment-pointer.ensures.value c.in_ok-word.was
    ∙ ap Some (sym c.character_of-character.ensures.value) in
    let pushed = c.push.ensures in
    record {
      read = rw pushed (more _ _ _ _ 31 _ _ _ _ c.loop-count-test.true c.loop-count.invariant.read c.increment-pointer.ensures.value at c.if-character-eq0.false);
      counted = rw (pushed, length_push) (ap (λ n. n + 1) c.loop-count.invariant.counted);
      size = c.increment-pointer.ensures.size;
      word = c.next_word-word.ensures ∙ ap (λ (r : ℕ). word_at c.args.regs.now.ac (g.M.ReadMemory.words c.args.memory.now) (right_half r))
          (sym c.increment-pointer.ensures.value);
    }
