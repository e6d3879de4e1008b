-- Lines are read as they are written.
use Rattle.std.proofs.Common.{◌≡◌, ℕ, zero, suc, ◌≤◌, ◌==◌, ◌&&◌, not, List, [], ◌∷◌, ◌++◌, Option, Some, None, Bool, true}
use Rattle.std.proofs.Common.{false, length, length-append, map, refl, ap, subst, ◌∙◌, append-nil, arith}
use Rattle.std.specs.Prelude.{◌||◌}
use Rattle.std.specs.List.{list_all}
use Rattle.std.proofs.lemmas.Bool.{and_parts, not-true}
use Rattle.mac_text.specs.Characters.{is_name_character}
use Rattle.mac_text.specs.Names.{is_name, symbol_of}
use Rattle.mac_text.specs.Scan.{◌>>=◌, Scan, after_blanks, skipped, begins_with, is_at_end, word_of, items_at}
use Rattle.mac_text.specs.Texts.{after_word, literal_len}
use Rattle.mac_text.specs.Lines.{scan_of, is_label, next_label_at, whole_statement_at, literal_data, literal_of, literals_of, is_ascii, line_of}
use Rattle.mac_text.specs.Written
use Rattle.mac_text.specs.Written.{Blanks, NameText, SignText, TermText, MoreText, ExpressionText, StatementText, LiteralText, LabelText, LineText}
use Rattle.mac_text.specs.Written.{IsStatement, IsStatementOr, IsLine, parts_name, before_if, sign_before, sign_character, term_before, more_before}
use Rattle.mac_text.specs.Written.{expression_before, form_before, operands_before, statement_before, statement_literals, statement_given, nothing_of}
use Rattle.mac_text.specs.Written.{literal_text, labels_before, comment_text, line_text, literals_written, line_given}
use Rattle.mac_text.specs.declared.syntax.Sign.{Sign}
use Rattle.mac_text.specs.declared.syntax.Sign.TheVariants.{Plus, Minus}
use Rattle.mac_text.specs.declared.syntax.Data.{Data}
use Rattle.mac_text.specs.declared.syntax.Statement.{Statement}
use Rattle.mac_text.proofs.ItemLemmas.{one_more, no_more}
use Rattle.mac_text.proofs.NumberTexts.{word_read, behind_read}
use Rattle.mac_text.proofs.WrittenTerms.{skip_blanks, skip_to, firm_stays, word_begins, name_some, digits_are_characters, drop_further}
use Rattle.mac_text.proofs.WrittenLiterals.{cut_nothing, literal_cut}
use Rattle.mac_text.proofs.WrittenStatements.{EndsStatement, statement_ends, statement_ends_blank, blanks_part, parts_word_end, parts_form}
use Rattle.mac_text.proofs.WrittenStatements.{parts_operands, digits_no_name, firm_case, whole_read, nothing_read}

-- ---- literals

literal_ends : (radix : ℕ) → radix ≤ 10 → (l : LiteralText radix) (rest : List ℕ)
    → (false ≡ false) × (literal_len (literal_text l ++ 93 ∷ rest) ≡ Some (length (literal_text l)))
literal_ends radix small l rest = (refl, literal_cut radix small l rest)

blanks_gone : (b : Blanks) → after_blanks b.text ≡ []
blanks_gone b = subst (λ (x : List ℕ). after_blanks x ≡ []) (append-nil b.text) (skip_to b [] refl)

literal_read : (radix : ℕ) (l : LiteralText radix) → radix ≤ 10 → literal_of radix (literal_text l) ≡ Some l.given
unfolding literal_of
literal_read radix l small =
    let ended = ap (is_at_end true) (blanks_gone l.behind) in
    let whole =
    whole_read radix true nothing_of small cut_nothing (literal_text l) l.statement l.behind.text
    (skip_blanks l.before (statement_before nothing_of l.statement l.behind.text)) l.legal (statement_ends_blank l.behind)
    ended in
    let given : literal_data (Some (statement_given l.statement)) ≡ Some l.given = rw (l.is_given, l.words) refl in
    ap (λ o. o >>= λ x. literal_data x.0) whole ∙ given

literals_read : (radix : ℕ) (ls : List (LiteralText radix)) → radix ≤ 10 → literals_of radix (map (λ l. literal_text l) ls) ≡ Some (map (λ l. l.given) ls)
unfolding literals_of
literals_read radix [] small = refl
literals_read radix (l ∷ ls) small = rw (literal_read radix l small, literals_read radix ls small) refl

-- ---- labels

label_found : (s : Scan) (name x : List ℕ) → after_blanks s.rest ≡ name ++ 58 ∷ x → word_of (name ++ 58 ∷ x) ≡ name
    → after_word (name ++ 58 ∷ x) ≡ 58 ∷ x
    → is_name name ≡ true
    → next_label_at s ≡ Some (Some (symbol_of name), record s { rest = x })
unfolding next_label_at
label_found s name x a b c d = rw (a, c, b, d, drop_further name 58 x) refl

label_read : (s : Scan) (l : LabelText) (x : List ℕ) → s.rest ≡ l.before.text ++ (l.name.text ++ 58 ∷ x)
    → next_label_at s ≡ Some (Some (symbol_of l.name.text), record s { rest = x })
label_read s l x e =
    let name = l.name in
    let begin = word_begins name.text (58 ∷ x) (name_some name.text name.names) name.characters in
    label_found s name.text x (ap after_blanks e ∙ skip_to l.before (name.text ++ 58 ∷ x) begin.firm)
    (word_read name.text (58 ∷ x) name.characters refl) (behind_read name.text (58 ∷ x) name.characters refl) name.names

no_label : (s : Scan) → is_label (after_blanks s.rest) ≡ false → next_label_at s ≡ Some (None, skipped s)
unfolding next_label_at
no_label s h = rw h refl

labels_read : (n radix : ℕ) (labels : List LabelText) (rest : List ℕ) → length (labels_before labels rest) ≤ n → is_label (after_blanks rest) ≡ false
    → items_at next_label_at n (scan_of radix false (labels_before labels rest))
    ≡ Some (map (λ l. symbol_of l.name.text) labels, scan_of radix false (after_blanks rest))
unfolding labels_before items_at
labels_read zero radix [] [] le none = refl
labels_read zero radix [] (c ∷ cs) le none = absurd (omega arith)
labels_read (suc n) radix [] rest le none = no_more next_label_at n _ _ (no_label (scan_of radix false rest) none)
labels_read zero radix (l ∷ ls) rest le none =
    let x = labels_before ls rest in
    absurd (omega (arith, length-append l.before.text (l.name.text ++ 58 ∷ x), length-append l.name.text (58 ∷ x)))
labels_read (suc n) radix (l ∷ ls) rest le none =
    let x = labels_before ls rest in
    one_more next_label_at n _ _ _ _ _ (label_read (scan_of radix false (labels_before (l ∷ ls) rest)) l x refl)
    (labels_read n radix ls rest (omega (arith, length-append l.before.text (l.name.text ++ 58 ∷ x), length-append l.name.text (58 ∷ x))) none)

-- ---- what is no label

or_false : (a : Bool) → (a || false) ≡ true → a ≡ true
or_false true h = refl
or_false false h = h

parted_no_colon : (x : List ℕ) → parts_name false x ≡ true → begins_with 58 x ≡ false
parted_no_colon [] h = refl
parted_no_colon (c ∷ cs) h = not-true (c == 58) (or_false (not (c == 58)) (and_parts (not (is_name_character c)) (not (c == 58) || false) h).1)

and_false : (a : Bool) → (a && false) ≡ false
and_false true = refl
and_false false = refl

-- a name with no colon right behind it
parted_no_label : (name : NameText) (body : List ℕ) → parts_name false body ≡ true → is_label (name.text ++ body) ≡ false
parted_no_label name body parted =
    let behind = behind_read name.text body name.characters (parts_word_end false body parted) in
    rw (behind, parted_no_colon body parted) (and_false _)

no_name_no_label : (x w : List ℕ) → word_of x ≡ w → is_name w ≡ false → is_label x ≡ false
no_name_no_label x w a b = rw (a, b) refl

module _ (radix : ℕ) {L : Type 0} (text_of : L → List ℕ) (small : radix ≤ 10)
    (cut : (l : L) (rest : List ℕ) → (false ≡ false) × (literal_len (text_of l ++ 93 ∷ rest) ≡ Some (length (text_of l)))) where
  parts_more : (more : List (MoreText radix L)) (rest : List ℕ) → parts_name false rest ≡ true → parts_name false (more_before text_of more rest) ≡ true
  unfolding more_before
  parts_more [] rest h = h
  parts_more (m ∷ ms) rest h =
      let tail = m.sign.behind.text ++ term_before text_of m.term (more_before text_of ms rest) in
      blanks_part false m.before.text (sign_character m.sign.sign ∷ tail) m.before.blank (signs_part m.sign.sign tail)
    where
      signs_part : (sign : Sign) (x : List ℕ) → parts_name false (sign_character sign ∷ x) ≡ true
      signs_part Plus x = refl
      signs_part Minus x = refl

  term_no_label : (sign : Option SignText) (t : TermText radix L) (x : List ℕ) → parts_name false x ≡ true
      → is_label (before_if sign_before sign (term_before text_of t x)) ≡ false
  term_no_label (Some s) t x h = sign_no_label s.sign (s.behind.text ++ term_before text_of t x)
    where
      sign_no_label : (sign : Sign) (x : List ℕ) → is_label (sign_character sign ∷ x) ≡ false
      sign_no_label Plus x = refl
      sign_no_label Minus x = refl
  term_no_label None (Written.Number digits) x h =
      no_name_no_label (digits.text ++ x) digits.text
      (word_read digits.text x (digits_are_characters radix digits.text small digits.digits) (parts_word_end false x h))
      (digits_no_name radix digits.text small digits.some digits.digits)
  term_no_label None (Written.Marked m) x h = refl
  term_no_label None (Written.Label name) x h = parted_no_label name x h
  term_no_label None Written.Point x h = no_name_no_label (46 ∷ x) (46 ∷ []) (word_read (46 ∷ []) x refl (parts_word_end false x h)) refl
  term_no_label None (Written.Literal l) x h = refl

  value_no_label : (e : ExpressionText radix L) (rest : List ℕ) → parts_name false rest ≡ true
      → is_label (after_blanks (expression_before text_of e rest)) ≡ false
  value_no_label e rest h =
      let x = more_before text_of e.more rest in
      ap is_label (skip_to e.before _ (firm_case radix false text_of small cut e.sign e.term x)) ∙ term_no_label e.sign e.term x (parts_more e.more rest h)

  named_no_label : (name : NameText) (body : List ℕ) → parts_name false body ≡ true → is_label (after_blanks (name.text ++ body)) ≡ false
  named_no_label name body h =
      let begin = word_begins name.text body (name_some name.text name.names) name.characters in
      ap is_label (firm_stays (name.text ++ body) begin.firm) ∙ parted_no_label name body h

  statement_no_label : (st : StatementText radix L) (rest : List ℕ) → IsStatement false text_of st → EndsStatement rest
      → is_label (after_blanks (statement_before text_of st rest)) ≡ false
  statement_no_label (Written.Formed name form) rest is end =
      named_no_label name (form_before text_of form rest)
      (parts_form radix false text_of small cut form [] rest (λ _. end.name false) is.1)
  statement_no_label (Written.Instruction name named o) rest is end =
      named_no_label name (operands_before text_of o rest)
      (parts_operands radix false text_of small cut o.accumulator o.operand [] rest (λ _. end.name false) is.3)
  statement_no_label (Written.Value e) rest is end = value_no_label e rest (end.name false)
  statement_no_label (Written.Halves p) rest is end =
      let right = expression_before text_of p.right rest in
      value_no_label p.left (p.behind.text ++ 44 ∷ 44 ∷ right) (blanks_part false p.behind.text (44 ∷ 44 ∷ right) p.behind.blank refl)

-- ---- lines

line_steps : (radix : ℕ) (text : List ℕ) (s t : Scan) (labels : List ℕ) (statement : Option Statement) (literals : List Data)
    → list_all is_ascii text ≡ true → items_at next_label_at (length text) (scan_of radix false text) ≡ Some (labels, s)
    → whole_statement_at s ≡ Some (statement, t)
    → literals_of radix t.cuts ≡ Some literals
    → line_of radix text ≡ Some (record { labels = labels; statement = statement; literals = literals })
unfolding line_of
line_steps radix text s t labels statement literals a b c d = rw (a, b, c, d) refl

comment_ends : (comment : Option (List ℕ)) → is_at_end false (comment_text comment) ≡ true
comment_ends None = refl
comment_ends (Some comment) = refl

comment_no_label : (comment : Option (List ℕ)) → is_label (comment_text comment) ≡ false
comment_no_label None = refl
comment_no_label (Some comment) = refl

comment_behind : (b : Blanks) (comment : Option (List ℕ)) → after_blanks (b.text ++ comment_text comment) ≡ comment_text comment
comment_behind b None = skip_to b [] refl
comment_behind b (Some comment) = skip_to b (59 ∷ comment) refl

line_case : (radix : ℕ) → radix ≤ 10
    → (labels : List LabelText) (before : Blanks) (st : Option (StatementText radix (LiteralText radix))) (behind : Blanks)
    (comment : Option (List ℕ))
    → IsStatementOr st → list_all is_ascii (line_text (record { labels = labels; before = before; statement = st; behind = behind; comment = comment })) ≡ true
    → line_of radix (line_text (record { labels = labels; before = before; statement = st; behind = behind; comment = comment }))
    ≡ Some (line_given (record { labels = labels; before = before; statement = st; behind = behind; comment = comment }))
line_case radix small labels before None behind comment is ascii =
    let tail = behind.text ++ comment_text comment in
    let rest = before.text ++ tail in
    let there = skip_blanks before tail ∙ comment_behind behind comment in
    let none = ap is_label there ∙ comment_no_label comment in
    let ended = ap (is_at_end false) (Rattle.mac_text.proofs.WordLemmas.skip_twice rest ∙ there) ∙ comment_ends comment in
    line_steps radix (labels_before labels rest) _ _ _ None [] ascii (labels_read (length (labels_before labels rest)) radix labels rest (omega arith) none)
    (nothing_read radix false (λ (l : LiteralText radix). literal_text l) small (literal_ends radix small) (after_blanks rest)
    ended) (literals_read radix [] small)
line_case radix small labels before (Some st) behind comment is ascii =
    let tail = behind.text ++ comment_text comment in
    let text = statement_before literal_text st tail in
    let rest = before.text ++ text in
    let end = statement_ends behind comment in
    let there = skip_blanks before text in
    let none = ap is_label there ∙ statement_no_label radix (λ (l : LiteralText radix). literal_text l) small (literal_ends radix small) st tail is end in
    let ended = ap (is_at_end false) (comment_behind behind comment) ∙ comment_ends comment in
    line_steps radix (labels_before labels rest) _ _ _ _ _ ascii (labels_read (length (labels_before labels rest)) radix labels rest (omega arith) none)
    (whole_read radix false (λ (l : LiteralText radix). literal_text l) small (literal_ends radix small) (after_blanks rest) st
    tail (Rattle.mac_text.proofs.WordLemmas.skip_twice rest ∙ there) is end ended)
    (literals_read radix (statement_literals st) small)

-- each line is read as it is written
pub line_read : (radix : ℕ) (line : LineText radix) → radix ≤ 10 → IsLine line → line_of radix (line_text line) ≡ Some (line_given line)
line_read radix line small is = line_case radix small line.labels line.before line.statement line.behind line.comment is.statement is.ascii
