use Rattle.std.proofs.Common.{◌∙◌, ap, ◌<◌, ◌-◌, ◌∷◌, length, arith}
use Rattle.std.specs.Prelude.{reverse}
use Rattle.mac_source.specs.Marks.{marked_by}
use Rattle.mac_source.proofs.MarkLemmas.{item_below}
use Rattle.mac_source.proofs.PieceLoops.{none_made, last_made, step_made, hand_placed}
use Rattle.mac_source.proofs.pieces.backwards.Goals as goal

pub returns-then-is_empty : goal.returns-then-is_empty
returns-then-is_empty c =
    none_made c.args.shown.blocks c.args.shown.texts (marked_by c.args.marks.now) c.is_empty.result c.args.words.now c.new-pieces.result.items
    c.is_empty.ensures c.if-is_empty.true c.new-pieces.ensures.items

pub loop-i-init : goal.loop-i-init
loop-i-init c =
    let some : 0 < length c.args.words.now = grind (arith, c.is_empty.ensures, c.if-is_empty.false) in
    record {
      made =
          ap (λ h. h ∷ reverse c.new-pieces.result.items) c.in_ok-hand.ensures
          ∙ last_made c.args.shown.blocks c.args.shown.texts (marked_by c.args.marks.now) c.args.words.now (length c.args.words.now - 1)
          c.index-words-words.result c.new-pieces.result.items (omega arith) c.index-words-words.is c.new-pieces.ensures.items;
      there = omega arith;
    }

pub step-requires-clause-address : goal.step-requires-clause-address
step-requires-clause-address c =
    item_below c.args.words.now 0 (c.loop-i.i - 1) c.index-words-i.result c.requires.rises (omega (arith, c.loop-i.invariant.there)) c.index-words-i.is

pub step-requires-clause-hand : goal.step-requires-clause-hand
step-requires-clause-hand c =
    hand_placed c.args.shown.blocks c.args.shown.texts (marked_by c.args.marks.now) c.args.words.now c.loop-i.i c.loop-i.hand
    (reverse c.loop-i.pieces.items) c.requires.rises c.loop-i.invariant.made

pub loop-i-preserved : goal.loop-i-preserved
loop-i-preserved c =
    record {
      made =
          step_made c.args.shown.blocks c.args.shown.texts (marked_by c.args.marks.now) c.args.words.now c.loop-i.i (c.loop-i.i - 1)
          c.index-words-i.result (c.loop-i.hand ∷ reverse c.loop-i.pieces.items) (c.in_ok-next.next ∷ reverse c.step.new.pieces.items)
          (omega arith) c.loop-i.invariant.there c.index-words-i.is c.in_ok-next.ensures c.loop-i.invariant.made;
      there = omega (arith, c.loop-i.invariant.there);
    }
