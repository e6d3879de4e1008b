use Rattle.std.proofs.Common.{◌≡◌, ◌+◌, drop}
use Rattle.macro_meaning.specs.Meaning.{put_all}
use Rattle.macro_meaning.proofs.walk.put_all.Given as goal

-- the words to come lead to what all lead to
abbrev pub invariant-loop-word : goal.invariant-loop-word
invariant-loop-word l =
    record {
      leads : put_all (drop l.word-index l.words) l.walk ≡ put_all l.words l.fn.walk;
      place : l.walk.place ≡ l.fn.walk.place + l.word-index;
    }
