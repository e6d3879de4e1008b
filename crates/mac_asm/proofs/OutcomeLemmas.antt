-- What a source comes to, step by step.
use Rattle.std.proofs.Common.{◌≡◌, ℕ, suc, ◌-◌, ◌<◌, List, [], ◌∷◌, length, Some, None, Result, Ok, Err, true, false, cond, refl, sym, ap, ◌∙◌, arith}
use Rattle.std.specs.Prelude.{slice_get}
use Rattle.std.proofs.Math.Path.{subst}
use Rattle.std.proofs.lemmas.Option.{slice_get-get_or}
use Rattle.word36.specs.declared.image.Image.{Image}
use Rattle.mac_text.specs.declared.syntax.Line.{Line}
use Rattle.mac_text.specs.Lines.{is_end, program_of, Refuses as Unread}
use Rattle.mac_text.specs.declared.fault.ParseError.{ParseError}
use Rattle.mac_text.specs.declared.fault.ParseError.TheVariants as parse_errors
use Rattle.mac_layout.specs.declared.error.AsmCode.TheVariants.{Syntax, NoEnd}
use Rattle.mac_layout.specs.declared.error.AsmError.{AsmError}
use Rattle.mac_layout.specs.declared.error.AsmError.TheVariants as errors
use Rattle.mac_layout.specs.declared.layout.Layout.{Layout as Given}
use Rattle.mac_layout.specs.LaidOut.{laid_out, empty_layout, addresses_of_literals}
use Rattle.mac_asm.specs.Outcome.{has_end, lines_with, outcome_placed, outcome_from, outcome_read, outcome_of}
use Rattle.mac_layout.specs.Layouts.{IsLayoutOf, Refuses}
use Rattle.mac_layout.specs.Errors.{refusal_of}
use Rattle.mac_asm.specs.Filled.{Assembles}

-- the last line
one_line : (line last : Line) → Some last ≡ slice_get (line ∷ []) (length (line ∷ []) - 1) → line ≡ last
one_line line last is =
    let first : length (line ∷ []) - 1 ≡ 0 = omega arith in
    let same : Some last ≡ Some line = is ∙ ap (slice_get (line ∷ [])) first in cc

pub last_end : (lines : List Line) (last : Line) → Some last ≡ slice_get lines (length lines - 1) → has_end lines ≡ is_end last
last_end [] last is = cc
last_end (line ∷ []) last is = ap is_end (one_line line last is)
last_end (line ∷ next ∷ lines) last is =
    let behind : length (line ∷ next ∷ lines) - 1 ≡ suc (length (next ∷ lines) - 1) = omega arith in
    last_end (next ∷ lines) last (is ∙ ap (slice_get (line ∷ next ∷ lines)) behind)

pub no_last : (lines : List Line) → None ≡ slice_get lines (length lines - 1) → has_end lines ≡ false
no_last [] is = refl
no_last (line ∷ lines) is =
    let within : length (line ∷ lines) - 1 < length (line ∷ lines) = omega arith in
    let some = slice_get-get_or (line ∷ lines) (length (line ∷ lines) - 1) line within in cc

-- a line out of the grammar
out_of_grammar : (source : List ℕ) (number : ℕ) → program_of source ≡ Err number → outcome_of source ≡ Err (record { line = number; code = Syntax })
unfolding outcome_of outcome_read
out_of_grammar source number is = ap outcome_read is

pub not_read : (e : ParseError) (source : List ℕ) → Unread e (program_of source) → Assembles (Err (refusal_of e)) (outcome_of source)
not_read parse_errors.Memory source is = tt
not_read (parse_errors.Syntax fault) source is = out_of_grammar source fault.line is

-- END is missing
pub without_end : (source : List ℕ) (lines : List Line) → program_of source ≡ Ok lines → has_end lines ≡ false
    → outcome_of source ≡ Err (record { line = length lines; code = NoEnd })
unfolding outcome_of outcome_read
without_end source lines is none =
    ap outcome_read is
    ∙ ap (λ b. cond b (outcome_from lines (laid_out empty_layout 1 lines)) (Err (record { line = length lines; code = NoEnd })))
    none

with_end : (source : List ℕ) (lines : List Line) → program_of source ≡ Ok lines → has_end lines ≡ true
    → outcome_of source ≡ outcome_from lines (laid_out empty_layout 1 lines)
unfolding outcome_of outcome_read
with_end source lines is end =
    ap outcome_read is
    ∙ ap (λ b. cond b (outcome_from lines (laid_out empty_layout 1 lines)) (Err (record { line = length lines; code = NoEnd })))
    end

-- a line that cannot be laid out
pub not_laid_out : (e : AsmError) (source : List ℕ) (lines : List Line) → program_of source ≡ Ok lines → has_end lines ≡ true
    → Refuses e lines
    → Assembles (Err e) (outcome_of source)
not_laid_out (errors.Line number code) source lines is end refused = with_end source lines is end ∙ ap (outcome_from lines) refused
not_laid_out errors.Memory source lines is end refused = tt

-- lines that are laid out
laid : (source : List ℕ) (lines : List Line) (given : Given) → program_of source ≡ Ok lines → has_end lines ≡ true → IsLayoutOf given lines
    → outcome_of source ≡ outcome_placed (lines_with given.labels.entries given.addresses.items given.literals.items lines)
laid source lines given is end l =
    with_end source lines is end ∙ ap (outcome_from lines) l.is
    ∙ ap (λ labels. outcome_placed (lines_with labels l.layout.addresses (addresses_of_literals l.layout) lines)) (sym l.labels)
    ∙ ap (λ addresses. outcome_placed (lines_with given.labels.entries addresses (addresses_of_literals l.layout) lines)) (sym l.addresses)
    ∙ ap (λ literals. outcome_placed (lines_with given.labels.entries given.addresses.items literals lines)) (sym l.literals)

pub told : (r : Result Image AsmError) (source : List ℕ) (lines : List Line) (given : Given) → program_of source ≡ Ok lines
    → has_end lines ≡ true
    → IsLayoutOf given lines
    → Assembles r (outcome_placed (lines_with given.labels.entries given.addresses.items given.literals.items lines)) → Assembles r (outcome_of source)
told r source lines given is end l tells = subst (Assembles r) (sym (laid source lines given is end l)) tells
