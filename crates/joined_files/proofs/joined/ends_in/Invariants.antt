use Rattle.std.proofs.Common.{◌≡◌, ◌≤◌, suc, drop, fold, nat_eq}
use Rattle.std.specs.Prelude.{if◌then◌else◌}
use Rattle.joined_files.specs.Joined.{ends_in}
use Rattle.joined_files.proofs.joined.ends_in.Given as goal

abbrev pub invariant-loop-character : goal.invariant-loop-character
invariant-loop-character l = record {
  count : fold (λ n c. if nat_eq c 10 then suc n else n) l.ends (drop l.character-index l.text) ≡ ends_in l.text;
  small : l.ends ≤ l.character-index;
}
