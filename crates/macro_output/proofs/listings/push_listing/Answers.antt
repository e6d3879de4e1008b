use Rattle.std.proofs.Common.{◌∙◌, map}
use Rattle.std.proofs.lemmas.Result.{on_ok_weaker}
use Rattle.macro_output.proofs.LineSteps.{listing-is}
use Rattle.macro_output.specs.Listings.{remark_text}
use Rattle.macro_output.proofs.listings.push_listing.Goals as goal

pub returns : goal.returns
returns c =
    let state = c.args.state.now in
    on_ok_weaker c.push_lines.result (λ (e : _). (
      map remark_text c.in_ok-remarks.remarks.items,
      c.in_ok-remarks.ensures,
      listing-is state.listing c.args.parts.now c.args.source.now c.without_last_end.result.now c.as_slice.result.now c.as_slice-2.result.now c.as_slice-3.result.now c.in_ok-remarks.remarks.items
          c.args.out.now.items c.push_lines.new.out.items c.without_last_end.ensures (c.as_slice.ensures.value ∙ c.in_ok-rows.ensures.own)
          (c.as_slice-2.ensures.value ∙ c.in_ok-rows.ensures.expanded) c.as_slice-3.ensures.value e,
    )) c.push_lines.ensures
