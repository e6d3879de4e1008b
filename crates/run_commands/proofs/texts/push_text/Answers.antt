use Rattle.std.proofs.Common.{rules, ◌≡◌, ◌∙◌, ap, ◌++◌, take, drop}
use Rattle.std.specs.List.{flat_map}
use Rattle.script_io.specs.Printing.{printed_character}
use Rattle.run_commands.proofs.TextLemmas.{written-before}
use Rattle.run_commands.proofs.texts.push_text.Goals as goal

pub loop-first-preserved-in_ok-extend_from_slice-in-Some-plain_numbers :
    goal.loop-first-preserved-in_ok-extend_from_slice-in-Some-plain_numbers
loop-first-preserved-in_ok-extend_from_slice-in-Some-plain_numbers c =
    let more : c.in-Some.more.now ≡ drop 16 c.loop-first.rest.now = search rules in
    let now : c.extend_from_slice.new.self.items ≡ c.loop-first.out.items ++ flat_map printed_character (take 16 c.loop-first.rest.now) = search rules in
    ap (λ l. c.extend_from_slice.new.self.items ++ flat_map printed_character l) more ∙ written-before c.loop-first.out.items _ c.loop-first.rest.now _ 16 now c.loop-first.invariant

pub loop-first-preserved : goal.loop-first-preserved
loop-first-preserved c =
    let more : c.in-Some.more.now ≡ drop 16 c.loop-first.rest.now = search rules in
    let now : c.push_each.new.out.items ≡ c.loop-first.out.items ++ flat_map printed_character (take 16 c.loop-first.rest.now) = search rules in
    ap (λ l. c.push_each.new.out.items ++ flat_map printed_character l) more ∙ written-before c.loop-first.out.items _ c.loop-first.rest.now _ 16 now c.loop-first.invariant
