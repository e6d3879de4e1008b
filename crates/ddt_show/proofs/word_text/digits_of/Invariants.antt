use Rattle.std.proofs.Common.{◌≡◌, ◌-◌, true, drop, length}
use Rattle.std.specs.Fmt.{digits}
use Rattle.ddt_show.proofs.RadixLemmas.{digits_left}
use Rattle.ddt_show.proofs.word_text.digits_of.Given as goal

-- the digits that are there, after those that are left, are all
abbrev pub invariant-loop-count : goal.invariant-loop-count
invariant-loop-count l = record {
  size : length l.room ≡ 64;
  digits : digits_left (64 - l.count) l.radix l.left (drop (64 - l.count) l.room) ≡ digits l.radix true l.number;
}
