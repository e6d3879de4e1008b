use Rattle.std.proofs.Common.{◌≡◌, ◌<◌, ◌+◌, ◌-◌, ◌∙◌, ap, subst, sym, ℕ, Bool, List, true, false, length, get_or, take, drop, arith}
use Rattle.std.proofs.lemmas.Grind.{common_steps}
use Rattle.std.proofs.Math.Seq.{take-length}
use Rattle.std.specs.List.{list_all, prefix_len}
use Rattle.ddt_commands.specs.Values.{is_inside}
use Rattle.ddt_commands.proofs.TextLemmas.{all_pass, ended, everywhere}
use Rattle.ddt_commands.proofs.reader.Reader.word.Goals as goal

pub returns-then-not-is_inside : goal.returns-then-not-is_inside
returns-then-not-is_inside c =
    let text : List ℕ = c.args.self.now.rest.now in
    let here : is_inside (get_or text c.loop-i.i 0) ≡ false = sym c.is_inside.ensures ∙ c.if-not-is_inside.true in
    let place : c.loop-i.i ≡ prefix_len is_inside text = ended is_inside text c.loop-i.i c.loop-i-test.true here c.loop-i.invariant in
    record {
      word = ap (λ (n : ℕ). take n text) place;
      rest = grind (arith, common_steps, place);
      inside = ap (λ (n : ℕ). list_all is_inside (take n text)) place ∙ all_pass is_inside text;
    }

pub returns-clause-inside : goal.returns-clause-inside
returns-clause-inside c =
    let text : List ℕ = c.args.self.now.rest.now in
    let all : prefix_len is_inside text ≡ length text = everywhere is_inside text c.loop-i.i (omega arith) (omega arith) c.loop-i.invariant in
    sym (ap (λ (n : ℕ). list_all is_inside (take n text)) all ∙ ap (λ (l : List ℕ). list_all is_inside l) (take-length text)) ∙ all_pass is_inside text
