use Rattle.std.proofs.Common.{◌≡◌, ◌≤◌, ◌<◌, ◌-◌, ◌∙◌, ap, sym, ℕ, Bool, true, false, not, nat_lt, length, get_or, take, drop, arith}
use Rattle.std.proofs.lemmas.Bool.Decides.{nat_tests}
use Rattle.std.proofs.lemmas.Grind.{common_steps}
use Rattle.std.specs.List.{suffix_len}
use Rattle.ddt_commands.specs.Texts.{is_escape}
use Rattle.ddt_commands.proofs.TextLemmas.{none_behind, none_from}
use Rattle.ddt_commands.proofs.reader.cut_at_last_escape.Goals as goal

pub back-preserved : goal.back-preserved
back-preserved c = record {
  within = omega arith;
  none_behind =
      λ k least within.
      none_from is_escape c.args.text.now c.back.end k c.back.invariant.none_behind (sym c.is_escape.ensures ∙ c.if-is_escape.false) least within;
}

pub returns-then-is_escape : goal.returns-then-is_escape
returns-then-is_escape c =
    let all : suffix_len (λ b. not (is_escape b)) c.args.text.now ≡ length c.args.text.now - c.back.end =
    none_behind is_escape c.args.text.now c.back.end c.back.invariant.within c.back.invariant.none_behind
    (λ some. sym c.is_escape.ensures ∙ c.if-is_escape.true) in
    let some : 0 < c.back.end = c.back-test.true in
    let within : c.back.end ≤ length c.args.text.now = c.back.invariant.within in
    record {
      found = grind (arith, nat_tests, all);
      before = ap (λ (n : ℕ). take n c.args.text.now) (omega (arith, all));
      behind = grind (arith, common_steps, all);
    }

pub returns : goal.returns
returns c =
    let all : suffix_len (λ b. not (is_escape b)) c.args.text.now ≡ length c.args.text.now - c.back.end =
    none_behind is_escape c.args.text.now c.back.end c.back.invariant.within c.back.invariant.none_behind (λ some. absurd (omega arith)) in
    record {
      found = grind (arith, nat_tests, all);
      before = tt;
      behind = tt;
    }
