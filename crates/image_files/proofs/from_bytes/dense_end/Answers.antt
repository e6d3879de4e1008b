use Rattle.std.proofs.Common.{◌∙◌, sym, ap, ◌+◌, arith, rules, vec_len}
use Rattle.image_files.specs.declared.packings.PackErrorKind.TheVariants.{CutShort, ExtraBits}
use Rattle.image_files.specs.Packings.{wrong_at}
use Rattle.image_files.proofs.UnpackLemmas.{dense_none, dense_cut_first, dense_cut_second, dense_last, dense_extra}
use Rattle.image_files.proofs.from_bytes.dense_end.Goals as goal

pub returns-then-is_empty : goal.returns-then-is_empty
returns-then-is_empty c = dense_none c.args.words.items c.args.rest.now (vec_len c.args.words + 1) (search rules)

pub returns-then-rest-lt5 : goal.returns-then-rest-lt5
returns-then-rest-lt5 c = dense_cut_first c.args.words.items c.args.rest.now (vec_len c.args.words + 1)
    (grind (arith, c.is_empty.ensures, c.if-is_empty.false)) (omega arith)
    ∙ ap (λ n. wrong_at (n + 1) CutShort) (sym c.len-number.ensures)

pub returns-then-rest-gt5 : goal.returns-then-rest-gt5
returns-then-rest-gt5 c =
    dense_cut_second c.args.words.items c.args.rest.now (vec_len c.args.words + 1) (omega arith) (omega arith)
    ∙ ap (λ n. wrong_at (n + 1 + 1) CutShort) (sym c.len-number.ensures)

pub returns-then-rest-ne0 : goal.returns-then-rest-ne0
returns-then-rest-ne0 c =
    dense_extra c.args.words.items c.args.rest.now (vec_len c.args.words + 1) (omega arith) c.if-rest-ne0.true
    ∙ ap (λ n. wrong_at (n + 1) ExtraBits) (sym c.len-number.ensures)

pub returns : goal.returns
returns c =
    dense_last c.args.words.items c.push.new.self.items c.args.rest.now (vec_len c.args.words + 1) c.five_bytes.result
    c.in_ok-push.ensures.items c.five_bytes.ensures (omega arith) c.if-rest-ne0.false
