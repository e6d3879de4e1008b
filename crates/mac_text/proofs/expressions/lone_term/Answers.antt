use Rattle.std.proofs.Common.{◌≡◌, Some, ap, sym, ◌∙◌, length}
use Rattle.std.specs.Prelude.{option_map}
use Rattle.mac_text.specs.Scan.{word_of}
use Rattle.mac_text.specs.Terms.{alone}
use Rattle.mac_text.specs.Expressions.{term_of_word}
use Rattle.mac_text.proofs.TermLemmas.{lone_at}
use Rattle.mac_text.proofs.expressions.lone_term.Goals as goal

pub returns-in-Some-clause-read : goal.returns-in-Some-clause-read
returns-in-Some-clause-read c =
    let long = rw c.rest.ensures at c.in-Some.ensures.word in
    let term = rw (c.rest.ensures, c.radix.ensures.value) at c.in-Some.ensures.term in
    let is = ap (option_map (alone c.args.sign)) term ∙ ap Some (sym c.number.ensures) in
    lone_at c.args.sign c.args.scan.now c.number.result c.in-Some.len c.requires long is ∙ ap (λ t. Some (c.number.result, t)) (sym c.advance.ensures)

pub returns-in_ok-expression-in-Plus-clause-read : goal.returns-in_ok-expression-in-Plus-clause-read
returns-in_ok-expression-in-Plus-clause-read c =
    let s = c.args.scan.now in
    let e = c.in_ok-expression-in-Plus.expression in
    let word = c.word-word.ensures.value in
    let is : option_map (alone c.args.sign) (term_of_word s.radix (word_of s.rest)) ≡ Some e =
    rw (c.in-Plus.is, ← word) (c.in_ok-expression-in-Plus.ensures s.radix) in
    lone_at c.args.sign s e (length c.word-word.result.now) c.requires (ap length (sym word)) is ∙ ap (λ t. Some (e, t)) (sym c.advance-in-Plus.ensures)
