use Rattle.std.proofs.Common.{◌∙◌, sym, ap, ◌+◌, refl, arith, vec_len, rules}
use Rattle.image_files.specs.declared.packings.PackErrorKind.TheVariants.{CutShort}
use Rattle.image_files.specs.WordForms.{fault_in, numbered_words}
use Rattle.image_files.specs.Packings.{wrong_at}
use Rattle.image_files.proofs.FormLemmas.{form_stepped, form_ended, form_short, form_wrong}
use Rattle.image_files.proofs.from_bytes.unpack_each.Goals as goal

pub loop-rest-preserved : goal.loop-rest-preserved
loop-rest-preserved c =
    form_stepped c.args.form c.size-size.result c.loop-rest.words.items c.push.new.self.items c.loop-rest.rest.now (vec_len c.loop-rest.words + 1)
    (vec_len c.push.new.self + 1) _ c.in-Some.word (numbered_words c.args.form 1 c.args.bytes.now)
    c.size-size.ensures (sym c.in-Some.is ∙ c.read.ensures) c.in_ok-push.ensures.items (omega arith) (omega arith) (omega arith) refl c.loop-rest.invariant

pub returns : goal.returns
returns c =
    form_ended c.args.form c.loop-rest.words.items c.loop-rest.rest.now (vec_len c.loop-rest.words + 1) (numbered_words c.args.form 1 c.args.bytes.now)
    (search rules) c.loop-rest.invariant

pub returns-then-rest-size : goal.returns-then-rest-size
returns-then-rest-size c =
    form_short c.args.form c.size-size.result c.loop-rest.words.items c.loop-rest.rest.now (vec_len c.loop-rest.words + 1)
    (numbered_words c.args.form 1 c.args.bytes.now) c.size-size.ensures c.loop-rest.invariant
    (grind (arith, c.is_empty.ensures, c.loop-rest-test.true)) c.if-rest-size.true
    ∙ ap (λ n. wrong_at (n + 1) CutShort) (sym c.len-number.ensures)

pub returns-in_default : goal.returns-in_default
returns-in_default c =
    form_wrong c.args.form c.size-size.result c.loop-rest.words.items c.loop-rest.rest.now (vec_len c.loop-rest.words + 1)
    (numbered_words c.args.form 1 c.args.bytes.now) c.size-size.ensures c.loop-rest.invariant c.if-rest-size.false
    (sym c.in_default.is ∙ c.read.ensures)
    ∙ (ap (λ n. wrong_at (n + 1) (fault_in c.args.form)) (sym c.len-number.ensures)
    ∙ ap (wrong_at (c.len-number.result + 1)) (sym c.fault.ensures))
