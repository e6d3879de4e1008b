use Rattle.std.proofs.Common.{◌∙◌, sym, ap, map}
use Rattle.mac_layout.specs.LaidOut.{with_line, count_or}
use Rattle.mac_layout.specs.Addresses.{addresses_from}
use Rattle.mac_layout.proofs.LayoutLemmas.{line_goes_on, line_fails, lines_done}
use Rattle.mac_layout.proofs.layout.lay_out.Goals as goal

pub returns-in-Some : goal.returns-in-Some
returns-in-Some c =
    let s = c.loop-i.invariant.0 in
    line_fails s c.args.lines.now c.loop-i.i c.index-lines-i.result _ c.in-Some.code _ c.loop-i-test.true c.index-lines-i.is
    (sym c.in-Some.is ∙ (c.in_ok-code.ensures s c.loop-i.invariant.1).0) c.loop-i.invariant.2

pub loop-i-preserved : goal.loop-i-preserved
loop-i-preserved c =
    let s = c.loop-i.invariant.0 in
    let lays = c.in_ok-code.ensures s c.loop-i.invariant.1 in (
      with_line s c.index-lines-i.result,
      lays.1 c.in_default.is,
      line_goes_on s c.args.lines.now c.loop-i.i c.index-lines-i.result _ _ c.loop-i-test.true c.index-lines-i.is
          (sym c.in_default.is ∙ lays.0) c.loop-i.invariant.2,
    )

pub returns : goal.returns
returns c =
    let s = c.loop-i.invariant.0 in
    let m = c.loop-i.invariant.1 in
    record {
      layout = s;
      is = lines_done s c.args.lines.now c.loop-i.i _ c.loop-i-test.false c.loop-i.invariant.2;
      labels = m.labels;
      addresses = m.addresses;
      literals =
          c.in_ok-literals.ensures
          ∙ ap (λ n. addresses_from n (map (count_or 0) c.deref.result.now)) m.address
          ∙ ap (λ l. addresses_from s.address (map (count_or 0) l)) (c.deref.ensures.value ∙ m.sizes);
    }
