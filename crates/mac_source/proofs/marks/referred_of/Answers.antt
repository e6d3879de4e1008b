use Rattle.std.proofs.Common.{◌≡◌, ◌∙◌, sym, ap, ◌<◌, ◌^◌, true, false, arith, length, get_or}
use Rattle.word36.specs.Words.{right_half}
use Rattle.ka_isa.specs.declared.Fields.{Fields}
use Rattle.mac_source.specs.Sources.{can_have_label, is_reaching, reaches_memory}
use Rattle.mac_source.specs.Marks.{assembled}
use Rattle.mac_source.proofs.MarkLemmas.{start_marked, reference_marked, nothing_marked, read_mark}
use Rattle.mac_source.proofs.marks.referred_of.Goals as goal

pub loop-word-init : goal.loop-word-init
loop-word-init c =
    let image = assembled c.args.image.now in
    let start : c.args.image.now.start < 2 ^ 18 = c.requires.start_fits in
    let within : c.args.image.now.start < length c.in_ok-marks.marks.items = omega (arith, start, c.in_ok-marks.ensures.len) in
    let inside : c.args.image.now.start < length c.in_ok-addresses.addresses.items = omega (arith, start, c.in_ok-addresses.ensures.length) in (
      c.in_ok-marks.ensures.len,
      λ p h. start_marked image c.in_ok-marks.marks.items c.in_ok-addresses.addresses.items (2 ^ 18) p c.index.result.now
          (c.in_ok-marks.ensures.items_if_clones_equal (λ y e. e)) within
          (read_mark c.in_ok-addresses.addresses.items c.args.image.now.start c.index.result.now inside c.index.ensures)
          (c.in_ok-addresses.ensures.marks p h ∙ ap (λ l. can_have_label l p) c.as_slice.ensures.value),
    )

pub index_mut-requires-in-loop-word : goal.index_mut-requires-in-loop-word
index_mut-requires-in-loop-word c =
    let below : c.decode-fields.result.y < 2 ^ 18 = c.decode-fields.ensures.y in
    omega (arith, below, c.loop-word.invariant.0)

pub loop-word-preserved-then-not-reaches_memory : goal.loop-word-preserved-then-not-reaches_memory
loop-word-preserved-then-not-reaches_memory c =
    let image = assembled c.args.image.now in
    let x = c.word-item.result in
    let fewer : c.loop-word.word-index < length c.args.image.now.words.items = omega (arith, c.loop-word-test.true, ap length c.as_slice-word-items.ensures.value) in
    let is = c.word-item.is ∙ ap (λ l. get_or l c.loop-word.word-index x) c.as_slice-word-items.ensures.value in
    let same : c.reaches_memory.result ≡ is_reaching x.1 = c.reaches_memory.ensures ∙ ap (λ (f : Fields). reaches_memory f.op) c.decode-fields.ensures.value in
    let stays : c.reaches_memory.result ≡ false = cc in (
      c.loop-word.invariant.0,
      λ p h. nothing_marked image c.loop-word.marks.items c.loop-word.word-index p x is fewer (sym same ∙ stays) (c.loop-word.invariant.1 p h),
    )

pub loop-word-preserved : goal.loop-word-preserved
loop-word-preserved c =
    let image = assembled c.args.image.now in
    let x = c.word-item.result in
    let address = c.decode-fields.result.y in
    let below : address < 2 ^ 18 = c.decode-fields.ensures.y in
    let within : address < length c.loop-word.marks.items = omega (arith, below, c.loop-word.invariant.0) in
    let inside : address < length c.in_ok-addresses.addresses.items = omega (arith, below, c.in_ok-addresses.ensures.length) in
    let fewer : c.loop-word.word-index < length c.args.image.now.words.items = omega (arith, c.loop-word-test.true, ap length c.as_slice-word-items.ensures.value) in
    let is = c.word-item.is ∙ ap (λ l. get_or l c.loop-word.word-index x) c.as_slice-word-items.ensures.value in
    let same : c.reaches_memory.result ≡ is_reaching x.1 = c.reaches_memory.ensures ∙ ap (λ (f : Fields). reaches_memory f.op) c.decode-fields.ensures.value in
    let goes : c.reaches_memory.result ≡ true = cc in
    let right : address ≡ right_half x.1 = ap (λ (f : Fields). f.y) c.decode-fields.ensures.value in (
      c.loop-word.invariant.0,
      λ p h. reference_marked image c.loop-word.marks.items c.in_ok-addresses.addresses.items c.loop-word.word-index p address x
          c.index-in-loop-word.result.now is fewer (sym same ∙ goes) right within
          (read_mark c.in_ok-addresses.addresses.items address c.index-in-loop-word.result.now inside c.index-in-loop-word.ensures)
          (c.in_ok-addresses.ensures.marks p h ∙ ap (λ l. can_have_label l p) c.as_slice.ensures.value) (c.loop-word.invariant.1 p h),
    )
