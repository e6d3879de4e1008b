-- The bracket that ends a literal is found: its statement holds none but in a text.
use Rattle.std.proofs.Common.{◌≡◌, ℕ, ◌+◌, ◌-◌, ◌<◌, ◌≤◌, ◌==◌, not, List, [], ◌∷◌, ◌++◌, Option, Some, None, Bool, true}
use Rattle.std.proofs.Common.{false, length, length-append, refl, sym, ap, ◌∙◌, append_assoc, arith}
use Rattle.std.specs.Prelude.{◌||◌, is_none, is_some}
use Rattle.std.specs.List.{list_all, prefix_len}
use Rattle.std.specs.Str.{bytes_eq}
use Rattle.std.proofs.lemmas.Bool.{and_parts, ne_eqb}
use Rattle.std.proofs.lemmas.Bool.Decides.{nat_tests}
use Rattle.std.proofs.lemmas.List.Folds.{list_all-append}
use Rattle.ka_isa.specs.Operations.{named_of}
use Rattle.mac_text.specs.Characters.{is_blank, is_digit, is_name_character, upper_case}
use Rattle.mac_text.specs.Names.{folded}
use Rattle.mac_text.specs.Numbers.{is_digit_of}
use Rattle.mac_text.specs.Keywords.{form_of}
use Rattle.mac_text.specs.Scan.{after_blanks, word_of}
use Rattle.mac_text.specs.Texts.{after_word, text_at, behind_form, behind_text, literal_len}
use Rattle.mac_text.specs.Expressions.{radix_of_mark}
use Rattle.mac_text.specs.Written
use Rattle.mac_text.specs.Written.{Blanks, NameText, DigitsText, MarkedText, NumberText, SignText, TermText, MoreText, ExpressionText, IndexText, OperandText}
use Rattle.mac_text.specs.Written.{AccumulatorText, OperandsText, ItemText, PositionText, QuotedText, FormText, StatementText, LiteralText, IsStatement}
use Rattle.mac_text.specs.Written.{parts_name, before_if, marked_before, number_before, sign_before, sign_character, term_before, more_before}
use Rattle.mac_text.specs.Written.{expression_before, index_before, indirect_before, operand_before, accumulator_before, operands_before, items_before}
use Rattle.mac_text.specs.Written.{position_before, quoted_before, form_before, form_written, tells_nothing, is_bare, statement_before, statement_given}
use Rattle.mac_text.specs.Written.{nothing_of, literal_text}
use Rattle.mac_text.specs.declared.keyword.Form.{Form}
use Rattle.mac_text.specs.declared.keyword.Form.TheVariants as forms
use Rattle.mac_text.specs.declared.syntax.TextForm.{TextForm}
use Rattle.mac_text.specs.declared.syntax.Sign.{Sign}
use Rattle.mac_text.specs.declared.syntax.Sign.TheVariants.{Plus, Minus}
use Rattle.mac_text.specs.declared.syntax.Data.{Data}
use Rattle.mac_text.specs.declared.syntax.Statement.TheVariants as statements
use Rattle.mac_text.proofs.DigitLemmas.{digit_is_digit}
use Rattle.mac_text.proofs.NumberTexts.{ends_word, word_read, behind_read}
use Rattle.mac_text.proofs.WrittenTerms.{skip_blanks, firm_stays, is_firm, word_begins, name_some, digits_are_characters, marked_small}
use Rattle.mac_text.proofs.WrittenStatements.{statement_ends_blank, position_read, text_read, parts_word_end, parts_form, parts_operands}

-- ---- characters that are no bracket

abbrev no_bracket : ℕ → Bool
no_bracket c = not (c == 93)

abbrev Free : List ℕ → Type 0
Free text = list_all no_bracket text ≡ true

joined : (xs ys : List ℕ) → Free xs → Free ys → Free (xs ++ ys)
joined xs ys h k = list_all-append no_bracket xs ys ∙ rw (h, k) refl

blank_free : (c : ℕ) → is_blank c ≡ true → no_bracket c ≡ true
blank_free c h = grind (arith, nat_tests)

character_free : (c : ℕ) → is_name_character c ≡ true → no_bracket c ≡ true
character_free c h = grind (arith, nat_tests)

mark_free : (c radix : ℕ) → radix_of_mark (Some c) ≡ Some radix → no_bracket c ≡ true
mark_free c radix h = grind (arith, nat_tests)

all_free : (p : ℕ → Bool) (xs : List ℕ) → ((c : ℕ) → p c ≡ true → no_bracket c ≡ true) → list_all p xs ≡ true → Free xs
all_free p [] each h = refl
all_free p (x ∷ xs) each h =
    let q = and_parts (p x) (list_all p xs) h in
    rw (each x q.0, all_free p xs each q.1) refl

blanks_free : (b : Blanks) (x : List ℕ) → Free x → Free (b.text ++ x)
blanks_free b x h = joined b.text x (all_free is_blank b.text blank_free b.blank) h

word_free : (w x : List ℕ) → list_all is_name_character w ≡ true → Free x → Free (w ++ x)
word_free w x characters h = joined w x (all_free is_name_character w character_free characters) h

sign_free : (sign : Sign) (x : List ℕ) → Free x → Free (sign_character sign ∷ x)
sign_free Plus x h = h
sign_free Minus x h = h

marked_free : (m : MarkedText) (x : List ℕ) → Free x → Free (marked_before m x)
marked_free m x h =
    rw (mark_free m.letter m.radix m.marks)
    (word_free m.digits.text x (digits_are_characters m.radix m.digits.text (marked_small m) m.digits.digits) h)

number_free : (n : NumberText) (x : List ℕ) → Free x → Free (number_before n x)
number_free (Written.Decimal b digits) x h =
    blanks_free b (digits.text ++ x)
    (word_free digits.text x (digits_are_characters 10 digits.text (omega arith) digits.digits) h)
number_free (Written.Marked b m) x h = blanks_free b (marked_before m x) (marked_free m x h)

position_free : (p : Option PositionText) (x : List ℕ) → Free x → Free (before_if Written.position_before p x)
position_free None x h = h
position_free (Some p) x h = blanks_free p.before (44 ∷ number_before p.number x) (number_free p.number x h)

indirect_free : (b : Option Blanks) (x : List ℕ) → Free x → Free (before_if indirect_before b x)
indirect_free None x h = h
indirect_free (Some b) x h = blanks_free b (64 ∷ x) h

-- ---- the parts of a statement in a literal

pub cut_nothing : (l : ⊥) (rest : List ℕ) → (true ≡ false) × (literal_len (nothing_of l ++ 93 ∷ rest) ≡ Some (length (nothing_of l)))
cut_nothing l rest = absurd l

module _ (radix : ℕ) (small : radix ≤ 10) where
  term_free : (t : TermText radix ⊥) (x : List ℕ) → Free x → Free (term_before nothing_of t x)
  term_free (Written.Number digits) x h = word_free digits.text x (digits_are_characters radix digits.text small digits.digits) h
  term_free (Written.Marked m) x h = marked_free m x h
  term_free (Written.Label name) x h = word_free name.text x name.characters h
  term_free Written.Point x h = h
  term_free (Written.Literal l) x h = absurd l

  more_free : (more : List (MoreText radix ⊥)) (x : List ℕ) → Free x → Free (more_before nothing_of more x)
  unfolding more_before
  more_free [] x h = h
  more_free (m ∷ ms) x h =
      let t = term_before nothing_of m.term (more_before nothing_of ms x) in
      blanks_free m.before (sign_character m.sign.sign ∷ (m.sign.behind.text ++ t))
      (sign_free m.sign.sign (m.sign.behind.text ++ t)
      (blanks_free m.sign.behind t (term_free m.term (more_before nothing_of ms x) (more_free ms x h))))

  signed_free : (sign : Option SignText) (x : List ℕ) → Free x → Free (before_if sign_before sign x)
  signed_free None x h = h
  signed_free (Some s) x h = sign_free s.sign (s.behind.text ++ x) (blanks_free s.behind x h)

  expression_free : (e : ExpressionText radix ⊥) (x : List ℕ) → Free x → Free (expression_before nothing_of e x)
  expression_free e x h =
      let t = term_before nothing_of e.term (more_before nothing_of e.more x) in
      blanks_free e.before (before_if sign_before e.sign t) (signed_free e.sign t (term_free e.term (more_before nothing_of e.more x) (more_free e.more x h)))

  optional_free : (e : Option (ExpressionText radix ⊥)) (x : List ℕ) → Free x → Free (before_if (expression_before nothing_of) e x)
  optional_free None x h = h
  optional_free (Some e) x h = expression_free e x h

  index_free : (i : Option (IndexText radix ⊥)) (x : List ℕ) → Free x → Free (before_if (index_before nothing_of) i x)
  index_free None x h = h
  index_free (Some i) x h =
      let tail = i.behind.text ++ 41 ∷ x in
      blanks_free i.before (40 ∷ expression_before nothing_of i.register tail) (expression_free i.register tail (blanks_free i.behind (41 ∷ x) h))

  operand_free : (o : OperandText radix ⊥) (x : List ℕ) → Free x → Free (operand_before nothing_of o x)
  operand_free o x h =
      let i = before_if (index_before nothing_of) o.index x in
      indirect_free o.indirect (before_if (expression_before nothing_of) o.address i) (optional_free o.address i (index_free o.index x h))

  accumulator_free : (a : Option (AccumulatorText radix ⊥)) (x : List ℕ) → Free x → Free (before_if (accumulator_before nothing_of) a x)
  accumulator_free None x h = h
  accumulator_free (Some a) x h = expression_free a.register (a.behind.text ++ 44 ∷ x) (blanks_free a.behind (44 ∷ x) h)

  items_free : (items : List (ItemText radix ⊥)) (x : List ℕ) → Free x → Free (items_before nothing_of items x)
  unfolding items_before
  items_free [] x h = h
  items_free (i ∷ is) x h =
      let y = items_before nothing_of is x in
      blanks_free i.before (44 ∷ expression_before nothing_of i.value y) (expression_free i.value y (items_free is x h))

  pair_free : (p : Written.PairText radix ⊥) (x : List ℕ) → Free x → Free (Written.pair_before nothing_of p x)
  pair_free p x h =
      let right = expression_before nothing_of p.right x in
      expression_free p.left (p.behind.text ++ 44 ∷ right) (blanks_free p.behind (44 ∷ right) (expression_free p.right x h))

  point_free : (p : Written.PointText radix ⊥) (x : List ℕ) → Free x → Free (Written.point_before nothing_of p x)
  point_free p x h =
      let tail = before_if position_before p.position x in
      let o = operand_before nothing_of p.operand tail in
      number_free p.size (p.behind.text ++ 44 ∷ o) (blanks_free p.behind (44 ∷ o) (operand_free p.operand tail (position_free p.position x h)))

  -- ---- where a literal without a text ends

  bracket_found : (text rest : List ℕ) → Free text → behind_text (text ++ 93 ∷ rest) ≡ Some (text ++ 93 ∷ rest)
      → literal_len (text ++ 93 ∷ rest) ≡ Some (length text)
  unfolding literal_len
  bracket_found text rest h a = rw (a, position_read 93 text rest h) (ap Some (omega arith))

  ends_further : (x rest : List ℕ) → ends_word x ≡ true → ends_word (x ++ 93 ∷ rest) ≡ true
  ends_further [] rest h = refl
  ends_further (c ∷ cs) rest h = h

  -- the word that comes next tells no form with a text
  no_text : (bytes word : List ℕ) → word_of (after_blanks bytes) ≡ word → form_of (folded word) ≡ None → behind_text bytes ≡ Some bytes
  unfolding behind_text
  no_text bytes word a b = rw (a, b) refl

  regroup : (b : Blanks) (w body rest : List ℕ) → (b.text ++ (w ++ body)) ++ 93 ∷ rest ≡ b.text ++ (w ++ (body ++ 93 ∷ rest))
  regroup b w body rest = append_assoc b.text (w ++ body) (93 ∷ rest) ∙ ap (λ x. b.text ++ x) (append_assoc w body (93 ∷ rest))

  -- a word behind blanks, in a literal
  word_there : (b : Blanks) (w body rest : List ℕ) → 0 < length w → list_all is_name_character w ≡ true → ends_word body ≡ true
      → (after_blanks ((b.text ++ (w ++ body)) ++ 93 ∷ rest) ≡ w ++ (body ++ 93 ∷ rest)) × (word_of (after_blanks ((b.text ++ (w ++ body)) ++ 93 ∷ rest)) ≡ w)
  word_there b w body rest some characters e =
      let x = body ++ 93 ∷ rest in
      let begin = word_begins w x some characters in
      let there = ap after_blanks (regroup b w body rest) ∙ skip_blanks b (w ++ x) ∙ firm_stays (w ++ x) begin.firm in
      (there, ap word_of there ∙ word_read w x characters (ends_further body rest e))

  -- a word with the name of a form that has no text
  other_form : (bytes word : List ℕ) (f : Form) → word_of (after_blanks bytes) ≡ word → form_of (folded word) ≡ Some f
      → ((x : List ℕ) → behind_form (Some f) bytes x ≡ Some bytes)
      → behind_text bytes ≡ Some bytes
  unfolding behind_text
  other_form bytes word f a b c = rw (a, b) (c (after_word (after_blanks bytes)))

  named_word : (b : Blanks) (name : NameText) (body rest : List ℕ) → parts_name true body ≡ true
      → word_of (after_blanks ((b.text ++ (name.text ++ body)) ++ 93 ∷ rest)) ≡ name.text
  named_word b name body rest parted = (word_there b name.text body rest (name_some name.text name.names) name.characters (parts_word_end true body parted)).1

  named_free : (b : Blanks) (name : NameText) (body : List ℕ) → Free body → Free (b.text ++ (name.text ++ body))
  named_free b name body h = blanks_free b (name.text ++ body) (word_free name.text body name.characters h)

  behind_free : (b : Blanks) → Free b.text
  behind_free b = all_free is_blank b.text blank_free b.blank

  plain_form : (b : Blanks) (name : NameText) (body rest : List ℕ) (f : Form) → form_of (folded name.text) ≡ Some f → parts_name true body ≡ true → Free body
      → ((bytes x : List ℕ) → behind_form (Some f) bytes x ≡ Some bytes)
      → literal_len ((b.text ++ (name.text ++ body)) ++ 93 ∷ rest) ≡ Some (length (b.text ++ (name.text ++ body)))
  plain_form b name body rest f is parted free other =
      let text = b.text ++ (name.text ++ body) in
      bracket_found text rest (named_free b name body free)
      (other_form (text ++ 93 ∷ rest) name.text f (named_word b name body rest parted) is (other (text ++ 93 ∷ rest)))

  -- ---- where a literal with a text ends

  text_steps : (bytes word body tail text : List ℕ) (form : TextForm) (more : ℕ) → word_of (after_blanks bytes) ≡ word
      → form_of (folded word) ≡ Some (forms.Text form) → after_word (after_blanks bytes) ≡ body → text_at body ≡ Some (text, tail)
      → Rattle.std.specs.Prelude.position (λ c. c == 93) tail ≡ Some more
      → literal_len bytes ≡ Some (length bytes - length tail + more)
  unfolding literal_len behind_text
  text_steps bytes word body tail text form more a b c d e = rw (a, b, c, d, e) refl

  quoted_further : (q : QuotedText) (x rest : List ℕ) → quoted_before q x ++ 93 ∷ rest ≡ quoted_before q (x ++ 93 ∷ rest)
  quoted_further q x rest =
      append_assoc q.before.text (q.delimiter ∷ (q.text ++ q.delimiter ∷ x)) (93 ∷ rest)
      ∙ ap (λ y. q.before.text ++ q.delimiter ∷ y) (append_assoc q.text (q.delimiter ∷ x) (93 ∷ rest))

  text_form : (b : Blanks) (name : NameText) (form : TextForm) (q : QuotedText) (behind : Blanks) (rest : List ℕ)
      → form_of (folded name.text) ≡ Some (forms.Text form)
      → parts_name true (quoted_before q behind.text) ≡ true
      → literal_len ((b.text ++ (name.text ++ quoted_before q behind.text)) ++ 93 ∷ rest) ≡ Some (length (b.text ++ (name.text ++ quoted_before q behind.text)))
  text_form b name form q behind rest is parted =
      let body = quoted_before q behind.text in
      let text = b.text ++ (name.text ++ body) in
      let tail = behind.text ++ 93 ∷ rest in
      let e = parts_word_end true body parted in
      let there = word_there b name.text body rest (name_some name.text name.names) name.characters e in
      let after =
      ap after_word there.0 ∙ behind_read name.text (body ++ 93 ∷ rest) name.characters (ends_further body rest e)
      ∙ quoted_further q behind.text rest in
      let long : length (text ++ 93 ∷ rest) - length tail + length behind.text ≡ length text =
      omega (
        arith,
        length-append text (93 ∷ rest),
        length-append behind.text (93 ∷ rest),
        length-append b.text (name.text ++ body),
        length-append name.text body,
        length-append q.before.text (q.delimiter ∷ (q.text ++ q.delimiter ∷ behind.text)),
        length-append q.text (q.delimiter ∷ behind.text),
      ) in
      text_steps (text ++ 93 ∷ rest) name.text (quoted_before q tail) tail q.text form (length behind.text) there.1 is after
      (text_read q tail) (position_read 93 behind.text rest (behind_free behind))
      ∙ ap Some long

  -- ---- forms and operations

  form_cut : (b : Blanks) (name : NameText) (form : FormText radix ⊥) (behind : Blanks) (rest : List ℕ) (given : Data)
      → form_of (folded name.text) ≡ Some (form_written form) → parts_name true (form_before nothing_of form behind.text) ≡ true
      → Written.form_given [] form ≡ statements.Data given
      → literal_len ((b.text ++ (name.text ++ form_before nothing_of form behind.text)) ++ 93 ∷ rest)
      ≡ Some (length (b.text ++ (name.text ++ form_before nothing_of form behind.text)))
  form_cut b name (Written.Xwd p) behind rest given is parted gives =
      plain_form b name _ rest forms.Xwd is parted (pair_free p behind.text (behind_free behind)) (λ bytes x. refl)
  form_cut b name (Written.Iowd p) behind rest given is parted gives =
      plain_form b name _ rest forms.Iowd is parted (pair_free p behind.text (behind_free behind)) (λ bytes x. refl)
  form_cut b name (Written.Exp e more) behind rest given is parted gives =
      plain_form b name _ rest forms.Exp is parted
      (expression_free e (items_before nothing_of more behind.text) (items_free more behind.text (behind_free behind)))
      (λ bytes x. refl)
  form_cut b name (Written.Point p) behind rest given is parted gives =
      plain_form b name _ rest forms.Point is parted (point_free p behind.text (behind_free behind)) (λ bytes x. refl)
  form_cut b name (Written.Text form q) behind rest given is parted gives = text_form b name form q behind rest is parted
  form_cut b name (Written.Block e) behind rest given is parted gives =
      plain_form b name _ rest forms.Block is parted (expression_free e behind.text (behind_free behind)) (λ bytes x. refl)
  form_cut b name (Written.Loc e) behind rest given is parted gives = cc
  form_cut b name (Written.End e) behind rest given is parted gives = cc
  form_cut b name (Written.Radix n) behind rest given is parted gives = cc
  form_cut b name (Written.Title t) behind rest given is parted gives = cc

  operation_cut : (b : Blanks) (name : NameText) (body rest : List ℕ) → form_of (folded name.text) ≡ None → parts_name true body ≡ true → Free body
      → literal_len ((b.text ++ (name.text ++ body)) ++ 93 ∷ rest) ≡ Some (length (b.text ++ (name.text ++ body)))
  operation_cut b name body rest is parted free =
      let text = b.text ++ (name.text ++ body) in
      bracket_found text rest (named_free b name body free) (no_text (text ++ 93 ∷ rest) name.text (named_word b name body rest parted) is)

  -- ---- values

  digit_no_form : (c : ℕ) (cs : List ℕ) → is_digit c ≡ true → form_of (c ∷ cs) ≡ None
  unfolding form_of
  digit_no_form c cs is =
      let other : (k : ℕ) → is_digit k ≡ false → (c == k) ≡ false =
      λ k h. ne_eqb c k (λ same. Rattle.std.proofs.lemmas.Bool.false≢true (sym h ∙ ap is_digit (sym same) ∙ is)) in
      rw (
        other 88 refl,
        other 69 refl,
        other 76 refl,
        other 73 refl,
        other 80 refl,
        other 65 refl,
        other 66 refl,
        other 82 refl,
        other 84 refl,
        other 83 refl,
      ) refl

  digit_stays : (c : ℕ) → is_digit c ≡ true → upper_case c ≡ c
  digit_stays c h = grind (arith, nat_tests)

  digits_no_form : (ds : List ℕ) → 0 < length ds → list_all (is_digit_of radix) ds ≡ true → form_of (folded ds) ≡ None
  digits_no_form [] some h = absurd (omega arith)
  digits_no_form (d ∷ ds) some h =
      let is = digit_is_digit radix d small (and_parts (is_digit_of radix d) (list_all (is_digit_of radix) ds) h).0 in
      rw (digit_stays d is) (digit_no_form d _ is)

  nothing_no_form : form_of (folded []) ≡ None
  unfolding form_of
  nothing_no_form = refl

  point_no_form : form_of (folded (46 ∷ [])) ≡ None
  unfolding form_of
  point_no_form = refl

  is_nothing : {X : Type 0} (o : Option X) → is_none o ≡ true → o ≡ None
  is_nothing None h = refl
  is_nothing (Some x) h = absurd (Rattle.std.proofs.lemmas.Bool.false≢true h)

  -- no word behind blanks, in a literal
  mark_there : (b : Blanks) (c : ℕ) (x rest : List ℕ) → is_blank c ≡ false → is_name_character c ≡ false
      → word_of (after_blanks ((b.text ++ c ∷ x) ++ 93 ∷ rest)) ≡ []
  mark_there b c x rest firm other =
      ap (λ y. word_of (after_blanks y)) (append_assoc b.text (c ∷ x) (93 ∷ rest))
      ∙ ap word_of (Rattle.mac_text.proofs.WrittenTerms.skip_to b (c ∷ (x ++ 93 ∷ rest)) (ap not firm)) ∙ rw other refl

  -- what stands behind a further run of blanks is what comes next
  strip : (b : Blanks) (x rest : List ℕ) → after_blanks ((b.text ++ x) ++ 93 ∷ rest) ≡ after_blanks (x ++ 93 ∷ rest)
  strip b x rest = ap after_blanks (append_assoc b.text x (93 ∷ rest)) ∙ skip_blanks b (x ++ 93 ∷ rest)

  sign_there : (sign : Sign) (b : Blanks) (x rest : List ℕ) → word_of (after_blanks ((b.text ++ sign_character sign ∷ x) ++ 93 ∷ rest)) ≡ []
  sign_there Plus b x rest = mark_there b 43 x rest refl refl
  sign_there Minus b x rest = mark_there b 45 x rest refl refl

  value_case : (b before : Blanks) (sign : Option SignText) (t : TermText radix ⊥) (x rest : List ℕ)
      → (is_some sign || tells_nothing t) ≡ true
      → ends_word x ≡ true
      → behind_text ((b.text ++ (before.text ++ before_if sign_before sign (term_before nothing_of t x))) ++ 93 ∷ rest)
      ≡ Some ((b.text ++ (before.text ++ before_if sign_before sign (term_before nothing_of t x))) ++ 93 ∷ rest)
  value_case b before (Some s) t x rest bare e =
      let y = s.behind.text ++ term_before nothing_of t x in
      no_text _ [] (ap word_of (strip b (before.text ++ sign_character s.sign ∷ y) rest) ∙ sign_there s.sign before y rest) nothing_no_form
  value_case b before None (Written.Number digits) x rest bare e =
      no_text _ digits.text
      (ap word_of (strip b (before.text ++ (digits.text ++ x)) rest)
      ∙ (word_there before digits.text x rest digits.some (digits_are_characters radix digits.text small digits.digits) e).1)
      (digits_no_form digits.text digits.some digits.digits)
  value_case b before None (Written.Marked m) x rest bare e =
      let y = m.letter ∷ (m.digits.text ++ x) in
      no_text _ [] (ap word_of (strip b (before.text ++ 94 ∷ y) rest) ∙ mark_there before 94 y rest refl refl) nothing_no_form
  value_case b before None (Written.Label name) x rest bare e =
      no_text _ name.text
      (ap word_of (strip b (before.text ++ (name.text ++ x)) rest)
      ∙ (word_there before name.text x rest (name_some name.text name.names) name.characters e).1)
      (is_nothing _ (and_parts (is_none (form_of (folded name.text))) (is_none (named_of (folded name.text))) bare).0)
  value_case b before None Written.Point x rest bare e =
      no_text _ (46 ∷ []) (ap word_of (strip b (before.text ++ 46 ∷ x) rest) ∙ (word_there before (46 ∷ []) x rest (omega arith) refl e).1) point_no_form
  value_case b before None (Written.Literal l) x rest bare e = absurd l

  value_cut : (b : Blanks) (e : ExpressionText radix ⊥) (x rest : List ℕ) → is_bare e ≡ true → ends_word x ≡ true → Free x
      → literal_len ((b.text ++ expression_before nothing_of e x) ++ 93 ∷ rest) ≡ Some (length (b.text ++ expression_before nothing_of e x))
  value_cut b e x rest bare end free =
      bracket_found (b.text ++ expression_before nothing_of e x) rest (blanks_free b (expression_before nothing_of e x) (expression_free e x free))
      (value_case b e.before e.sign e.term (more_before nothing_of e.more x) rest bare
      (Rattle.mac_text.proofs.WrittenTerms.more_end radix true nothing_of small cut_nothing e.more x end))

  statement_cut : (b : Blanks) (st : StatementText radix ⊥) (behind : Blanks) (rest : List ℕ) (given : Data)
      → IsStatement true nothing_of st
      → statement_given st ≡ statements.Data given
      → literal_len ((b.text ++ statement_before nothing_of st behind.text) ++ 93 ∷ rest) ≡ Some (length (b.text ++ statement_before nothing_of st behind.text))
  statement_cut b (Written.Formed name form) behind rest given is gives =
      form_cut b name form behind rest given is.0
      (parts_form radix true nothing_of small cut_nothing form [] behind.text (λ _. (statement_ends_blank behind).name true)
      is.1) gives
  statement_cut b (Written.Instruction name named o) behind rest given is gives =
      operation_cut b name (operands_before nothing_of o behind.text) rest is.0
      (parts_operands radix true nothing_of small cut_nothing o.accumulator o.operand [] behind.text
      (λ _. (statement_ends_blank behind).name true) is.3)
      (accumulator_free o.accumulator (operand_before nothing_of o.operand behind.text) (operand_free o.operand behind.text (behind_free behind)))
  statement_cut b (Written.Value e) behind rest given is gives = value_cut b e behind.text rest is (statement_ends_blank behind).part.word (behind_free behind)
  statement_cut b (Written.Halves p) behind rest given is gives =
      let right = expression_before nothing_of p.right behind.text in
      let tail = p.behind.text ++ 44 ∷ 44 ∷ right in
      value_cut b p.left tail rest is (Rattle.mac_text.proofs.WrittenTerms.blanks_end p.behind (44 ∷ 44 ∷ right) refl)
      (blanks_free p.behind (44 ∷ 44 ∷ right) (expression_free p.right behind.text (behind_free behind)))

  -- the bracket behind a literal is the one that ends it
  pub literal_cut : (l : LiteralText radix) (rest : List ℕ) → literal_len (literal_text l ++ 93 ∷ rest) ≡ Some (length (literal_text l))
  literal_cut l rest = statement_cut l.before l.statement l.behind rest l.given l.legal l.is_given
