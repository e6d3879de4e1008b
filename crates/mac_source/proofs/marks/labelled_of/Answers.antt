use Rattle.std.proofs.Common.{◌∙◌, ap, ◌<◌, ◌^◌, arith, length, refl}
use Rattle.mac_source.specs.Marks.{marked_by}
use Rattle.mac_source.proofs.MarkLemmas.{item_below, none_able, none_marked, word_marked}
use Rattle.mac_source.proofs.marks.labelled_of.Goals as goal

pub loop-word-init : goal.loop-word-init
loop-word-init c = (
  c.in_ok-addresses.ensures.len,
  λ p h. ap (λ l. marked_by l p) (c.in_ok-addresses.ensures.items_if_clones_equal (λ y e. e)) ∙ (none_marked (2 ^ 18) p ∙ none_able p),
)

pub index_mut-requires : goal.index_mut-requires
index_mut-requires c =
    let below : c.word-item.result.0 < 2 ^ 18 =
    item_below c.args.words.now 0 c.loop-word.word-index c.word-item.result c.requires c.loop-word-test.true c.word-item.is in
    omega (arith, below, c.loop-word.invariant.0)

pub loop-word-preserved : goal.loop-word-preserved
loop-word-preserved c =
    let below : c.word-item.result.0 < 2 ^ 18 =
    item_below c.args.words.now 0 c.loop-word.word-index c.word-item.result c.requires c.loop-word-test.true c.word-item.is in
    let within : c.word-item.result.0 < length c.loop-word.addresses.items = omega (arith, below, c.loop-word.invariant.0) in (
      c.loop-word.invariant.0,
      λ p h. word_marked c.loop-word.addresses.items c.args.words.now c.loop-word.word-index p c.word-item.result _ refl c.word-item.is
          c.loop-word-test.true within (c.loop-word.invariant.1 p h),
    )
