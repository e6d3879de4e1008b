use Rattle.std.proofs.Common.{◌≡◌, ◌∙◌, sym, ap, ◌+◌, ◌-◌, ◌<◌, Ok, Err, length, refl, arith, rules}
use Rattle.image_files.specs.declared.save_reader.Head.TheVariants.{Block as block, Start as start_at}
use Rattle.image_files.specs.Saves.{fault_at, missing, image_from, image_of_save}
use Rattle.image_files.proofs.SaveLemmas.{load_step, head_step, told_fault, told_image, told_behind, told_missing, behind_length}
use Rattle.image_files.proofs.SaveImages.{save_gives_image}
use Rattle.image_files.proofs.save_reader.read_save.Goals as goal

pub loop-i-preserved-then-left-gt0 : goal.loop-i-preserved-then-left-gt0
loop-i-preserved-then-left-gt0 c = (
  load_step c.loop-i.loaded.items c.push.new.self.items c.args.words.now c.loop-i.i (c.loop-i.i + 1) c.loop-i.left c.loop-i.address
      c.index-words-i.result (image_from 1 0 0 c.args.words.now) c.loop-i-test.true c.index-words-i.is c.if-left-gt0.true
      c.in_ok-push.ensures.items c.loop-i.invariant.0,
  omega (arith, c.loop-i.invariant.1, c.if-left-gt0.true),
)

pub loop-i-preserved : goal.loop-i-preserved
loop-i-preserved c = (
  head_step c.loop-i.loaded.items c.args.words.now c.loop-i.i (c.loop-i.i + 1) c.loop-i.left c.loop-i.address c.index-words-i.result
      (Ok (block c.in-Ok-Block.count c.in-Ok-Block.first)) (image_from 1 0 0 c.args.words.now) c.loop-i-test.true c.index-words-i.is
      (omega (arith, c.if-left-gt0.false)) (sym c.head_at.ensures.value ∙ (c.in-Ok-Block.is ∙ ap Ok c.in-Ok-Block.field-0-is))
      c.loop-i.invariant.0,
  search rules,
)

pub returns-in-Err-clause-told : goal.returns-in-Err-clause-told
unfolding image_of_save
returns-in-Err-clause-told c =
    told_fault c.loop-i.loaded.items (c.loop-i.i + 1) c.in-Err.kind (image_from 1 0 0 c.args.words.now)
    (head_step c.loop-i.loaded.items c.args.words.now c.loop-i.i (c.loop-i.i + 1) c.loop-i.left c.loop-i.address c.index-words-i.result
    (Err c.in-Err.kind) (image_from 1 0 0 c.args.words.now) c.loop-i-test.true c.index-words-i.is
    (omega (arith, c.if-left-gt0.false)) (sym c.head_at.ensures.value ∙ c.in-Err.is) c.loop-i.invariant.0)

pub overflow_add-result-in-Some-2 : goal.overflow_add-result-in-Some-2
overflow_add-result-in-Some-2 c =
    let behind = behind_length c.args.words.now (c.loop-i.i + 1) in
    let more : c.in-Some.more < length c.args.words.now - (c.loop-i.i + 1) = omega (arith, behind, c.in-Some.ensures.0) in
    omega (arith, more, c.loop-i-test.true)

pub returns-in-None-clause-told : goal.returns-in-None-clause-told
unfolding image_of_save
returns-in-None-clause-told c =
    told_image c.loop-i.loaded.items c.args.words.now (c.loop-i.i + 1) _ (c.loop-i.i + 1 + 1) c.in-Ok-Start.start
    (image_from 1 0 0 c.args.words.now) refl (c.in-None.ensures c.in-Ok-Start.start (c.loop-i.i + 1 + 1))
    (head_step c.loop-i.loaded.items c.args.words.now c.loop-i.i (c.loop-i.i + 1) c.loop-i.left c.loop-i.address c.index-words-i.result
    (Ok (start_at c.in-Ok-Start.start)) (image_from 1 0 0 c.args.words.now) c.loop-i-test.true c.index-words-i.is
    (omega (arith, c.if-left-gt0.false)) (sym c.head_at.ensures.value ∙ (c.in-Ok-Start.is ∙ ap Ok c.in-Ok-Start.field-0-is)) c.loop-i.invariant.0)

pub returns-in-Some-clause-told : goal.returns-in-Some-clause-told
unfolding image_of_save
returns-in-Some-clause-told c =
    told_behind c.loop-i.loaded.items c.args.words.now (c.loop-i.i + 1) _ (c.loop-i.i + 2) (c.loop-i.i + 2 + c.in-Some.more) c.in-Ok-Start.start
    (image_from 1 0 0 c.args.words.now) refl (c.in-Some.ensures.1 c.in-Ok-Start.start (c.loop-i.i + 2))
    (let two : c.loop-i.i + 1 + 1 ≡ c.loop-i.i + 2 = omega arith in
    rw two at
    (head_step c.loop-i.loaded.items c.args.words.now c.loop-i.i (c.loop-i.i + 1) c.loop-i.left c.loop-i.address c.index-words-i.result
    (Ok (start_at c.in-Ok-Start.start)) (image_from 1 0 0 c.args.words.now) c.loop-i-test.true c.index-words-i.is
    (omega (arith, c.if-left-gt0.false)) (sym c.head_at.ensures.value ∙ (c.in-Ok-Start.is ∙ ap Ok c.in-Ok-Start.field-0-is)) c.loop-i.invariant.0))

pub returns-clause-told : goal.returns-clause-told
unfolding image_of_save
returns-clause-told c =
    let last : c.loop-i.i + 1 ≡ length c.args.words.now + 1 = omega (arith, c.loop-i.auto.i-end, c.loop-i-test.false) in
    told_missing c.loop-i.loaded.items c.args.words.now c.loop-i.i (c.loop-i.i + 1) c.loop-i.left c.loop-i.address
    (image_from 1 0 0 c.args.words.now) c.loop-i-test.false c.loop-i.invariant.0
    ∙ (ap (λ n. fault_at n (missing c.loop-i.left)) last ∙ ap (λ k. fault_at (length c.args.words.now + 1) k) (sym c.missing.ensures))

pub returns-in-None-clause-image : goal.returns-in-None-clause-image
unfolding image_of_save
returns-in-None-clause-image c =
    save_gives_image c.args.words.now (record { words = c.loop-i.loaded.items; start = c.in-Ok-Start.start })
    (told_image c.loop-i.loaded.items c.args.words.now (c.loop-i.i + 1) _ (c.loop-i.i + 1 + 1) c.in-Ok-Start.start
    (image_from 1 0 0 c.args.words.now) refl (c.in-None.ensures c.in-Ok-Start.start (c.loop-i.i + 1 + 1))
    (head_step c.loop-i.loaded.items c.args.words.now c.loop-i.i (c.loop-i.i + 1) c.loop-i.left c.loop-i.address c.index-words-i.result
    (Ok (start_at c.in-Ok-Start.start)) (image_from 1 0 0 c.args.words.now) c.loop-i-test.true c.index-words-i.is
    (omega (arith, c.if-left-gt0.false)) (sym c.head_at.ensures.value ∙ (c.in-Ok-Start.is ∙ ap Ok c.in-Ok-Start.field-0-is)) c.loop-i.invariant.0))
