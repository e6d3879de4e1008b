use Rattle.std.proofs.Common.{◌∙◌, ap, sym}
use Rattle.ka_state.specs.Memory.{word_at}
use Rattle.call_block.proofs.PointerLemmas.{word_here}
use Rattle.call_block.proofs.name.next_word.Goals as goal

pub returns-then-is_next_here : goal.returns-then-is_next_here
returns-then-is_next_here g c =
    c.requires.word ∙ ap (word_at c.args.regs.now.ac (g.M.ReadMemory.words c.args.memory.now))
    (word_here c.args.pointer c.requires.size (sym c.is_next_here.ensures ∙ c.if-is_next_here.true))
