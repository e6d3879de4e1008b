use Rattle.std.proofs.Common.{◌≤◌, ◌<◌, ◌^◌, drop, length}
use Rattle.image_files.specs.Saves.{blocks_of}
use Rattle.image_files.specs.Writes.{IsWritten}
use Rattle.image_files.proofs.save_writer.backwards.Given as goal

-- the blocks of the words from the index on are written, but for the IOWD of the first
abbrev pub invariant-loop-i : goal.invariant-loop-i
invariant-loop-i l =
    record {
      written : IsWritten l.start (blocks_of (drop l.i l.words)) l.file.items l.count l.first;
      there : l.i ≤ length l.words;
      few : l.count ≤ 2 ^ 17;
      fits : l.first < 2 ^ 18;
    }
