use Rattle.std.proofs.Common.{◌≡◌, ◌++◌, []}
use Rattle.std.specs.Prelude.{if◌then◌else◌}
use Rattle.macro_output.specs.Listings.{expanded_from, texts_to, texts_behind}
use Rattle.macro_output.proofs.listings.push_expanded.Given as goal

abbrev pub invariant-loop-number : goal.invariant-loop-number
invariant-loop-number l = record {
  first : l.unlisted.number ≡ l.number;
  text : l.out.items ++ (if l.is_hidden then [] else texts_to l.line (expanded_from l.listing l.unlisted.number l.unlisted.rows.now))
      ≡ l.initial.out.items ++ (if l.is_hidden then [] else texts_to l.line (expanded_from l.listing l.initial.unlisted.number l.initial.unlisted.rows.now));
  left : texts_behind l.line (expanded_from l.listing l.unlisted.number l.unlisted.rows.now)
      ≡ texts_behind l.line (expanded_from l.listing l.initial.unlisted.number l.initial.unlisted.rows.now);
}
