use Rattle.std.proofs.Common.{refl}
use Rattle.mac_layout.proofs.LayoutLemmas.{apart_nil, unmarked_all}
use Rattle.mac_layout.proofs.layout.Progress.new.Goals as goal

pub returns : goal.returns
returns c = record {
  labels = c.in_ok-with_capacity.ensures.empty;
  apart = apart_nil;
  address = c.from_u64.ensures;
  addresses = c.in_ok-with_capacity-2.ensures.items;
  taken = unmarked_all c.in_ok-vec.field-0.items _ refl (c.in_ok-vec.ensures.items_if_clones_equal (λ y h. h));
  sizes = c.new.ensures.items;
}
