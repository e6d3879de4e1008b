use Rattle.std.proofs.Common.{◌≡◌, ◌-◌, length, map, ◌++◌, Some}
use Rattle.word36.specs.Words.{right_half}
use Rattle.ka_word.specs.Bytes.{size_of}
use Rattle.ka_state.specs.Memory.{word_at}
use Rattle.call_block.specs.Names.{characters}
use Rattle.call_block.proofs.name.read_characters.Given as goal

abbrev pub invariant-loop-count : goal.invariant-loop-count
invariant-loop-count g l =
    record {
      read : characters l.fn.regs.ac (g.M.ReadMemory.words l.fn.memory) l.fn.pointer 31 ≡ map Some l.text ++ characters l.fn.regs.ac
          (g.M.ReadMemory.words l.fn.memory) l.pointer (31 - l._count);
      counted : length l.text ≡ l._count;
      size : size_of l.pointer ≡ 7;
      word : l.word ≡ word_at l.fn.regs.ac (g.M.ReadMemory.words l.fn.memory) (right_half l.pointer);
    }
