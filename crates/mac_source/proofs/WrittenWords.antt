-- The lines of a source as they are written: each is in the grammar, has its text, and stands for what is given.
use Rattle.std.proofs.Common.{◌≡◌, ◌∙◌, ap, ℕ, zero, suc, ◌-◌, ◌*◌, ◌/◌, ◌^◌, ◌==◌, Bool, true, false, ◌||◌, not, List, [], ◌∷◌, ◌++◌}
use Rattle.std.proofs.Common.{length, map, Option, Some, None, if◌then◌else◌, refl, arith, append_assoc, append-nil}
use Rattle.std.specs.Prelude.{codes, slice_index}
use Rattle.std.specs.List.{list_all}
use Rattle.std.proofs.lemmas.Bool.{and_parts}
use Rattle.std.proofs.lemmas.Bool.Decides.{nat_tests}
use Rattle.std.proofs.lemmas.List.Folds.{list_all-append}
use Rattle.word36.specs.Octal.{octal_text}
use Rattle.word36.specs.Words.{left_half, right_half}
use Rattle.ka_isa.specs.declared.Fields.{Fields}
use Rattle.ka_isa.specs.Fields.{fields_of}
use Rattle.ka_isa.specs.Operations.{Name, name_of, named_of, operation_meaning}
use Rattle.ka_isa.specs.Text.{accumulator_text, index_text}
use Rattle.ka_isa.proofs.DistinctLemmas.{named_of_name}
use Rattle.mac_text.specs.Names.{symbol_of}
use Rattle.mac_text.specs.Keywords.{form_of}
use Rattle.mac_text.specs.Lines.{is_ascii}
use Rattle.mac_text.specs.Written
use Rattle.mac_text.specs.Written.{Blanks, NameText, TermText, ExpressionText, IndexText, OperandsText, StatementText, LiteralText, LineText, QuotedText}
use Rattle.mac_text.specs.Written.{IsLine, IsStatement, literal_text, term_before, operands_before, statement_before, statement_given, statement_literals, line_text, line_given}
use Rattle.mac_text.specs.Written.{more_before, labels_before, more_literals, more_given}
use Rattle.mac_text.specs.WrittenSource.{SourceLine, Feed, IsOneLine, is_line_character, end_before, source_line_text, source_line_given}
use Rattle.mac_text.specs.declared.syntax.Line.{Line}
use Rattle.mac_text.specs.declared.syntax.Data.TheVariants as data_of
use Rattle.mac_text.specs.declared.syntax.Statement.TheVariants as statements
use Rattle.mac_text.proofs.NumberTexts.{is_printed, word_is_printed, octal_is_printed}
use Rattle.mac_text.proofs.PrintedLemmas.{IsPlain, plain_name}
use Rattle.mac_source.specs.Sources.{Style, ArePrinting, IsPrinting, shown, mark_text, behind_text, label_text, address_text, instruction_text, halves_text, named_text, block_text, asciz_text, contains, delimiter_of, piece_text, piece_line, loc_text, end_line}
use Rattle.mac_source.specs.declared.pieces.Piece.{Piece}
use Rattle.mac_source.specs.declared.pieces.Piece.TheVariants as pieces
use Rattle.mac_source.specs.Pieces.{first, address_of, is_text_character}
use Rattle.mac_source.proofs.PieceLemmas.{IsPiece}
use Rattle.mac_text.specs.declared.syntax.TextForm.TheVariants.{Asciz}
use Rattle.mac_text.specs.Characters.{is_blank}
use Rattle.mac_text.specs.Printed.{number_alone}
use Rattle.mac_source.specs.Notes.{is_printing}
use Rattle.mac_source.proofs.LabelTexts.{all_so, octal_digits, octal_some, label_characters, label_names, read_number}
use Rattle.mac_source.proofs.Given.{address_alone, register_if, data_in, symbols_if, piece_data, piece_given, loc_given, end_given}

-- ---- parts

neither : (a b : Bool) → (a || b) ≡ false → (not a ≡ true) × (b ≡ false)
neither false false h = (refl, refl)
neither true b h = absurd (cc)
neither false true h = absurd (cc)

not_last : (c : ℕ) → is_text_character c ≡ true → not (c == 126) ≡ true
not_last c h = grind (arith, nat_tests)

abbrev none : Blanks
none = record { text = []; blank = refl }

abbrev one : Blanks
one = record { text = 32 ∷ []; blank = refl }

abbrev Literals : Type 0
Literals = LiteralText 8

abbrev number_term : ℕ → TermText 8 Literals
number_term n = Written.Number (record { text = octal_text n; some = octal_some 21 n; digits = octal_digits 22 n })

abbrev label_name : ℕ → NameText
label_name p = record { text = label_text p; characters = label_characters p; names = label_names p }

abbrev address_term : Bool → ℕ → TermText 8 Literals
address_term true y = Written.Label (label_name y)
address_term false y = number_term y

abbrev expression : Blanks → TermText 8 Literals → ExpressionText 8 Literals
expression before term = record { before = before; sign = None; term = term; more = [] }

abbrev index_part : Bool → ℕ → Option (IndexText 8 Literals)
index_part true x = None
index_part false x = Some (record { before = none; register = expression none (number_term x); behind = none })

abbrev blanks_if : Bool → Option Blanks
blanks_if true = Some none
blanks_if false = None

-- the space behind the name stands before the first part that is written
abbrev operands : (noac i : Bool) → ℕ → TermText 8 Literals → Option (IndexText 8 Literals) → OperandsText 8 Literals
operands true true ac term x = record { accumulator = None; operand = record { indirect = Some one; address = Some (expression none term); index = x } }
operands true false ac term x = record { accumulator = None; operand = record { indirect = None; address = Some (expression one term); index = x } }
operands false i ac term x =
    record {
      accumulator = Some (record { register = expression one (number_term ac); behind = none });
      operand = record { indirect = blanks_if i; address = Some (expression none term); index = x };
    }

abbrev operands_in : (ℕ → Bool) → Fields → OperandsText 8 Literals
operands_in marked f = operands (f.ac == 0) f.i f.ac (address_term (marked f.y) f.y) (index_part (f.x == 0) f.x)

abbrev instruction : (ℕ → Bool) → ℕ → (name : Name) → IsPlain name → StatementText 8 Literals
instruction marked w name is =
    Written.Instruction (record { text = name; characters = is.characters; names = is.names }) (operation_meaning (w / 2 ^ 27)) (operands_in marked (fields_of w))

abbrev halves : (ℕ → Bool) → ℕ → StatementText 8 Literals
halves marked w =
    Written.Formed (record { text = codes "XWD"; characters = refl; names = refl })
    (Written.Xwd (record {
      left = expression one (number_term (left_half w));
      behind = none;
      right = expression none (address_term (marked (right_half w)) (right_half w));
    }))

abbrev statement_in : (ℕ → Bool) → (w : ℕ) (o : Option Name) → o ≡ name_of (w / 2 ^ 27) → StatementText 8 Literals
statement_in marked w (Some name) e = instruction marked w name (plain_name (w / 2 ^ 27) name e)
statement_in marked w None e = halves marked w

-- ---- texts

address_before : (b : Bool) (y : ℕ) (rest : List ℕ)
    → term_before literal_text (address_term b y) rest ≡ (if b then label_text y else octal_text y) ++ rest
address_before true y rest = refl
address_before false y rest = refl

index_before_is : (b : Bool) (x : ℕ) (rest : List ℕ)
    → Written.before_if (Written.index_before literal_text) (index_part b x) rest
    ≡ (if b then [] else codes "(" ++ octal_text x ++ codes ")") ++ rest
unfolding more_before
index_before_is true x rest = refl
index_before_is false x rest = simp append_assoc

operands_text : (noac i : Bool) (ac : ℕ) (term : TermText 8 Literals) (x : Option (IndexText 8 Literals)) (rest : List ℕ)
    → operands_before literal_text (operands noac i ac term x) rest
    ≡ 32 ∷ ((if noac then [] else octal_text ac ++ codes ",") ++ ((if i then codes "@" else [])
    ++ term_before literal_text term (Written.before_if (Written.index_before literal_text) x rest)))
unfolding more_before
operands_text true true ac term x rest = refl
operands_text true false ac term x rest = refl
operands_text false true ac term x rest = simp append_assoc
operands_text false false ac term x rest = simp append_assoc

instruction_before : (marked : ℕ → Bool) (w : ℕ) (name : Name) (is : IsPlain name) (rest : List ℕ)
    → statement_before literal_text (instruction marked w name is) rest ≡ instruction_text marked name (fields_of w) ++ rest
instruction_before marked w name is rest =
    let f = fields_of w in
    let term = address_term (marked f.y) f.y in
    let index = index_part (f.x == 0) f.x in
    ap (λ t. name ++ t) (operands_text (f.ac == 0) f.i f.ac term index rest
    ∙ ap (λ t. 32 ∷ (accumulator_text f.ac ++ ((if f.i then codes "@" else []) ++ t)))
    (address_before (marked f.y) f.y (Written.before_if (Written.index_before literal_text) index rest)
    ∙ ap (λ t. address_text marked f.y ++ t) (index_before_is (f.x == 0) f.x rest)))
    ∙ simp append_assoc

halves_before : (marked : ℕ → Bool) (w : ℕ) (rest : List ℕ)
    → statement_before literal_text (halves marked w) rest ≡ halves_text marked w ++ rest
unfolding more_before
halves_before marked w rest =
    ap (λ t. codes "XWD " ++ (octal_text (left_half w) ++ 44 ∷ t)) (address_before (marked (right_half w)) (right_half w) rest)
    ∙ simp append_assoc

statement_text_is : (marked : ℕ → Bool) (w : ℕ) (o : Option Name) (e : o ≡ name_of (w / 2 ^ 27)) (rest : List ℕ)
    → statement_before literal_text (statement_in marked w o e) rest ≡ named_text marked o w ++ rest
statement_text_is marked w (Some name) e rest = instruction_before marked w name (plain_name (w / 2 ^ 27) name e) rest
statement_text_is marked w None e rest = halves_before marked w rest

-- ---- meanings

address_given : (b : Bool) (before : Blanks) (y : ℕ) → Written.expression_given [] (expression before (address_term b y)) ≡ address_alone b y
unfolding more_given
address_given true before y = refl
address_given false before y = refl

address_literals : (b : Bool) (before : Blanks) (y : ℕ) → Written.expression_literals [] (expression before (address_term b y)) ≡ []
unfolding more_literals
address_literals true before y = refl
address_literals false before y = refl

operands_mean : (code : ℕ) (noac i b noix : Bool) (ac y x : ℕ)
    → Written.instruction_given [] (operation_meaning code) (operands noac i ac (address_term b y) (index_part noix x))
    ≡ data_of.Instruction (record {
      word = code * 2 ^ 27;
      accumulator = register_if noac ac;
      operand = record { indirect = i; address = Some (address_alone b y); index = register_if noix x };
    })
unfolding more_literals more_given
operands_mean code true true true true ac y x = refl
operands_mean code true true true false ac y x = refl
operands_mean code true true false true ac y x = refl
operands_mean code true true false false ac y x = refl
operands_mean code true false true true ac y x = refl
operands_mean code true false true false ac y x = refl
operands_mean code true false false true ac y x = refl
operands_mean code true false false false ac y x = refl
operands_mean code false true true true ac y x = refl
operands_mean code false true true false ac y x = refl
operands_mean code false true false true ac y x = refl
operands_mean code false true false false ac y x = refl
operands_mean code false false true true ac y x = refl
operands_mean code false false true false ac y x = refl
operands_mean code false false false true ac y x = refl
operands_mean code false false false false ac y x = refl

-- no literal is written
operands_hold : (noac i b noix : Bool) (ac y x : ℕ)
    → Written.operands_literals [] (operands noac i ac (address_term b y) (index_part noix x)) ≡ []
unfolding more_literals
operands_hold true true true true ac y x = refl
operands_hold true true true false ac y x = refl
operands_hold true true false true ac y x = refl
operands_hold true true false false ac y x = refl
operands_hold true false true true ac y x = refl
operands_hold true false true false ac y x = refl
operands_hold true false false true ac y x = refl
operands_hold true false false false ac y x = refl
operands_hold false true true true ac y x = refl
operands_hold false true true false ac y x = refl
operands_hold false true false true ac y x = refl
operands_hold false true false false ac y x = refl
operands_hold false false true true ac y x = refl
operands_hold false false true false ac y x = refl
operands_hold false false false true ac y x = refl
operands_hold false false false false ac y x = refl

halves_mean : (b : Bool) (l r : ℕ)
    → Written.form_given [] (Written.Xwd (record { left = expression one (number_term l); behind = none; right = expression none (address_term b r) }))
    ≡ statements.Data (data_of.Halves (address_alone false l) (address_alone b r))
unfolding more_literals more_given
halves_mean true l r = refl
halves_mean false l r = refl

halves_hold : (b : Bool) (l r : ℕ)
    → Written.form_literals [] (Written.Xwd (record { left = expression one (number_term l); behind = none; right = expression none (address_term b r) })) ≡ []
unfolding more_literals
halves_hold true l r = refl
halves_hold false l r = refl

statement_means : (marked : ℕ → Bool) (w : ℕ) (o : Option Name) (e : o ≡ name_of (w / 2 ^ 27))
    → statement_given (statement_in marked w o e) ≡ statements.Data (data_in marked o w)
statement_means marked w (Some name) e =
    let f = fields_of w in
    ap statements.Data (operands_mean (w / 2 ^ 27) (f.ac == 0) f.i (marked f.y) (f.x == 0) f.ac f.y f.x)
statement_means marked w None e = halves_mean (marked (right_half w)) (left_half w) (right_half w)

statement_holds : (marked : ℕ → Bool) (w : ℕ) (o : Option Name) (e : o ≡ name_of (w / 2 ^ 27))
    → statement_literals (statement_in marked w o e) ≡ []
statement_holds marked w (Some name) e =
    let f = fields_of w in
    operands_hold (f.ac == 0) f.i (marked f.y) (f.x == 0) f.ac f.y f.x
statement_holds marked w None e = halves_hold (marked (right_half w)) (left_half w) (right_half w)

-- ---- each statement is one

statement_legal : (marked : ℕ → Bool) (w : ℕ) (o : Option Name) (e : o ≡ name_of (w / 2 ^ 27))
    → IsStatement false literal_text (statement_in marked w o e)
unfolding form_of
statement_legal marked w (Some name) e =
    let is = plain_name (w / 2 ^ 27) name e in
    let f = fields_of w in (
      ap form_of is.whole ∙ is.form,
      ap named_of is.whole ∙ named_of_name (w / 2 ^ 27) name e,
      refl,
      ap (Written.parts_name false) (operands_text (f.ac == 0) f.i f.ac (address_term (marked f.y) f.y) (index_part (f.x == 0) f.x) []),
    )
statement_legal marked w None e = (refl, refl)

-- ---- characters

both : (xs ys : List ℕ) → list_all is_printed xs ≡ true → list_all is_printed ys ≡ true → list_all is_printed (xs ++ ys) ≡ true
both xs ys h k = list_all-append is_printed xs ys ∙ rw (h, k) refl

behind : (c : ℕ) (xs : List ℕ) → is_printed c ≡ true → list_all is_printed xs ≡ true → list_all is_printed (c ∷ xs) ≡ true
behind c xs h k = rw (h, k) refl

accumulator_printed : (b : Bool) (n : ℕ) → list_all is_printed (if b then [] else octal_text n ++ codes ",") ≡ true
accumulator_printed true n = refl
accumulator_printed false n = both (octal_text n) (codes ",") (octal_is_printed n) refl

at_printed : (b : Bool) → list_all is_printed (if b then codes "@" else []) ≡ true
at_printed true = refl
at_printed false = refl

index_printed : (b : Bool) (n : ℕ) → list_all is_printed (if b then [] else codes "(" ++ octal_text n ++ codes ")") ≡ true
index_printed true n = refl
index_printed false n = both (codes "(" ++ octal_text n) (codes ")") (both (codes "(") (octal_text n) refl (octal_is_printed n)) refl

address_printed : (b : Bool) (n : ℕ) → list_all is_printed (if b then label_text n else octal_text n) ≡ true
address_printed true n = word_is_printed (label_text n) (label_characters n)
address_printed false n = octal_is_printed n

statement_printed : (marked : ℕ → Bool) (w : ℕ) (o : Option Name) → o ≡ name_of (w / 2 ^ 27) → list_all is_printed (named_text marked o w) ≡ true
statement_printed marked w (Some name) e =
    let f = fields_of w in
    let address = address_text marked f.y ++ index_text f.x in
    let operand = (if f.i then codes "@" else []) ++ address in
    let all = accumulator_text f.ac ++ operand in
    both name (32 ∷ all) (word_is_printed name (plain_name (w / 2 ^ 27) name e).characters)
    (behind 32 all refl
    (both (accumulator_text f.ac) operand (accumulator_printed (f.ac == 0) f.ac)
    (both (if f.i then codes "@" else []) address (at_printed f.i)
    (both (address_text marked f.y) (index_text f.x) (address_printed (marked f.y) f.y) (index_printed (f.x == 0) f.x)))))
statement_printed marked w None e =
    let right = address_text marked (right_half w) in
    both (codes "XWD ") (octal_text (left_half w) ++ 44 ∷ right) refl
    (both (octal_text (left_half w)) (44 ∷ right) (octal_is_printed (left_half w))
    (behind 44 right refl (address_printed (marked (right_half w)) (right_half w))))

ascii_one : (c : ℕ) → is_printed c ≡ true → is_ascii c ≡ true
ascii_one c h = grind (arith, nat_tests)

no_feed : (c : ℕ) → is_printed c ≡ true → is_line_character c ≡ true
no_feed c h = grind (arith, nat_tests)

no_return : (c : ℕ) → is_printed c ≡ true → (c == 13) ≡ false
no_return c h = grind (arith, nat_tests)

all_ascii : (text : List ℕ) → list_all is_printed text ≡ true → list_all is_ascii text ≡ true
all_ascii = all_so is_printed is_ascii ascii_one

all_on_line : (text : List ℕ) → list_all is_printed text ≡ true → list_all is_line_character text ≡ true
all_on_line = all_so is_printed is_line_character no_feed

no_return_at : (text : List ℕ) (k : ℕ) → list_all is_printed text ≡ true → (slice_index text k == 13) ≡ false
no_return_at [] k h = refl
no_return_at (c ∷ cs) zero h = no_return c (and_parts (is_printed c) (list_all is_printed cs) h).0
no_return_at (c ∷ cs) (suc k) h = no_return_at cs k (and_parts (is_printed c) (list_all is_printed cs) h).1

one_line : (text : List ℕ) → list_all is_printed text ≡ true → IsOneLine text
one_line text h = record { characters = all_on_line text h; no_return = no_return_at text (length text - 1) h }

-- a line that is a statement with labels before it, whose text is printed
source_line : (line : LineText 8) → Written.IsStatementOr line.statement → list_all is_printed (line_text line) ≡ true → SourceLine
source_line line legal printed =
    record {
      radix = 8;
      line = line;
      end = Feed;
      legal = record { statement = legal; ascii = all_ascii (line_text line) printed };
      one = one_line (line_text line) printed;
    }

-- ---- lines

abbrev labels_if : Bool → ℕ → List Written.LabelText
labels_if true p = record { before = none; name = label_name p } ∷ []
labels_if false p = []

-- a comment stands behind a space
abbrev blanks_of : Option (List ℕ) → Blanks
blanks_of None = none
blanks_of (Some comment) = one

abbrev line_with : List Written.LabelText → StatementText 8 Literals → Option (List ℕ) → LineText 8
line_with labels statement comment =
    record { labels = labels; before = one; statement = Some statement; behind = blanks_of comment; comment = comment }

abbrev block_statement : ℕ → StatementText 8 Literals
block_statement n =
    Written.Formed (record { text = codes "BLOCK"; characters = refl; names = refl }) (Written.Block (expression one (number_term n)))

-- the delimiter of a text is not in it
absent : (d : ℕ) (text : List ℕ) → contains d text ≡ false → list_all (λ c. not (c == d)) text ≡ true
absent d [] h = refl
absent d (c ∷ cs) h =
    let parts = neither (c == d) (contains d cs) h in
    rw (parts.0, absent d cs parts.1) refl

last_absent : (text : List ℕ) → list_all is_text_character text ≡ true → list_all (λ c. not (c == 126)) text ≡ true
last_absent [] h = refl
last_absent (c ∷ cs) h =
    let parts = and_parts (is_text_character c) (list_all is_text_character cs) h in
    rw (not_last c parts.0, last_absent cs parts.1) refl

abbrev delimiter_if : Bool → Bool → ℕ
delimiter_if slash quote = if slash then (if quote then 126 else 34) else 47

within_if : (text : List ℕ) → list_all is_text_character text ≡ true → (slash quote : Bool) → contains 47 text ≡ slash → contains 34 text ≡ quote
    → list_all (λ c. not (c == delimiter_if slash quote)) text ≡ true
within_if text h false quote e k = absent 47 text e
within_if text h true false e k = absent 34 text k
within_if text h true true e k = last_absent text h

firm_if : (slash quote : Bool) → is_blank (delimiter_if slash quote) ≡ false
firm_if false quote = refl
firm_if true false = refl
firm_if true true = refl

abbrev quoted : (text : List ℕ) → list_all is_text_character text ≡ true → QuotedText
quoted text h =
    record {
      before = one;
      delimiter = delimiter_of text;
      text = text;
      firm = firm_if (contains 47 text) (contains 34 text);
      within = within_if text h (contains 47 text) (contains 34 text) refl refl;
    }

abbrev asciz_statement : (text : List ℕ) → list_all is_text_character text ≡ true → StatementText 8 Literals
asciz_statement text h =
    Written.Formed (record { text = codes "ASCIZ"; characters = refl; names = refl }) (Written.Text Asciz (quoted text h))

abbrev piece_statement : Style → (p : Piece) → IsPiece p → StatementText 8 Literals
piece_statement style (pieces.Word a w) is = statement_in (shown style w) w (name_of (w / 2 ^ 27)) refl
piece_statement style (pieces.Zeros a n) is = block_statement n
piece_statement style (pieces.Text a text) is = asciz_statement text is.0

abbrev piece_text_line : Style → (p : Piece) → IsPiece p → LineText 8
piece_text_line style p is =
    line_with (labels_if (style.marked (address_of p)) (address_of p)) (piece_statement style p is) (style.comment (first p))

abbrev loc_statement : ℕ → StatementText 8 Literals
loc_statement p = Written.Formed (record { text = codes "LOC"; characters = refl; names = refl }) (Written.Loc (expression one (number_term p)))

abbrev end_statement : (ℕ → Bool) → ℕ → StatementText 8 Literals
end_statement marked start =
    Written.Formed (record { text = codes "END"; characters = refl; names = refl }) (Written.End (Some (expression one (address_term (marked start) start))))

labels_are : (b : Bool) (p : ℕ) (rest : List ℕ) → Written.labels_before (labels_if b p) rest ≡ mark_text b p ++ rest
unfolding labels_before
labels_are true p rest = simp append_assoc
labels_are false p rest = refl

comment_is : (comment : Option (List ℕ)) → (blanks_of comment).text ++ Written.comment_text comment ≡ behind_text comment
comment_is None = refl
comment_is (Some comment) = refl

block_before : (n : ℕ) (rest : List ℕ) → statement_before literal_text (block_statement n) rest ≡ block_text n ++ rest
unfolding more_before
block_before n rest = simp append_assoc

asciz_before : (text : List ℕ) (h : list_all is_text_character text ≡ true) (rest : List ℕ)
    → statement_before literal_text (asciz_statement text h) rest ≡ asciz_text text ++ rest
asciz_before text h rest = simp append_assoc

piece_before : (style : Style) (p : Piece) (is : IsPiece p) (rest : List ℕ)
    → statement_before literal_text (piece_statement style p is) rest ≡ piece_text style p ++ rest
piece_before style (pieces.Word a w) is rest = statement_text_is (shown style w) w (name_of (w / 2 ^ 27)) refl rest
piece_before style (pieces.Zeros a n) is rest = block_before n rest
piece_before style (pieces.Text a text) is rest = asciz_before text is.0 rest

abbrev bare_piece : Style → Piece → List ℕ
bare_piece style p =
    mark_text (style.marked (address_of p)) (address_of p) ++ (32 ∷ (piece_text style p ++ behind_text (style.comment (first p))))

piece_text_is : (style : Style) (p : Piece) (is : IsPiece p) → line_text (piece_text_line style p is) ≡ bare_piece style p
piece_text_is style p is =
    let comment = style.comment (first p) in
    let tail = (blanks_of comment).text ++ Written.comment_text comment in
    labels_are (style.marked (address_of p)) (address_of p) (32 ∷ statement_before literal_text (piece_statement style p is) tail)
    ∙ ap (λ t. mark_text (style.marked (address_of p)) (address_of p) ++ (32 ∷ t))
    (piece_before style p is tail ∙ ap (λ t. piece_text style p ++ t) (comment_is comment))

printing_is_printed : (c : ℕ) → is_printing c ≡ true → is_printed c ≡ true
printing_is_printed c h = grind (arith, nat_tests)

all_printed : (text : List ℕ) → list_all is_printing text ≡ true → list_all is_printed text ≡ true
all_printed = all_so is_printing is_printed printing_is_printed

comment_printed : (comment : Option (List ℕ)) → IsPrinting comment → list_all is_printed (behind_text comment) ≡ true
comment_printed None h = refl
comment_printed (Some comment) h = behind 32 (59 ∷ comment) refl (behind 59 comment refl (all_printed comment h))

label_printed : (b : Bool) (p : ℕ) → list_all is_printed (mark_text b p) ≡ true
label_printed true p = both (label_text p) (58 ∷ []) (word_is_printed (label_text p) (label_characters p)) refl
label_printed false p = refl

block_printed : (n : ℕ) → list_all is_printed (block_text n) ≡ true
block_printed n = both (codes "BLOCK ") (octal_text n) refl (octal_is_printed n)

character_printed : (c : ℕ) → is_text_character c ≡ true → is_printed c ≡ true
character_printed c h = grind (arith, nat_tests)

characters_printed : (text : List ℕ) → list_all is_text_character text ≡ true → list_all is_printed text ≡ true
characters_printed = all_so is_text_character is_printed character_printed

delimiter_printed : (slash quote : Bool) → is_printed (delimiter_if slash quote) ≡ true
delimiter_printed false quote = refl
delimiter_printed true false = refl
delimiter_printed true true = refl

asciz_printed : (text : List ℕ) → list_all is_text_character text ≡ true → list_all is_printed (asciz_text text) ≡ true
asciz_printed text h =
    let d = delimiter_of text in
    let firm : is_printed d ≡ true = delimiter_printed (contains 47 text) (contains 34 text) in
    both (codes "ASCIZ ") (d ∷ (text ++ d ∷ [])) refl
    (behind d (text ++ d ∷ []) firm (both text (d ∷ []) (characters_printed text h) (behind d [] firm refl)))

statement_text_printed : (style : Style) (p : Piece) → IsPiece p → list_all is_printed (piece_text style p) ≡ true
statement_text_printed style (pieces.Word a w) is = statement_printed (shown style w) w (name_of (w / 2 ^ 27)) refl
statement_text_printed style (pieces.Zeros a n) is = block_printed n
statement_text_printed style (pieces.Text a text) is = asciz_printed text is.0

piece_printed : (style : Style) (p : Piece) → IsPiece p → IsPrinting (style.comment (first p)) → list_all is_printed (bare_piece style p) ≡ true
piece_printed style p is ok =
    let rest = piece_text style p ++ behind_text (style.comment (first p)) in
    both (mark_text (style.marked (address_of p)) (address_of p)) (32 ∷ rest) (label_printed (style.marked (address_of p)) (address_of p))
    (behind 32 rest refl
    (both (piece_text style p) (behind_text (style.comment (first p))) (statement_text_printed style p is)
    (comment_printed (style.comment (first p)) ok)))

abbrev bare_loc : ℕ → List ℕ
bare_loc p = codes " LOC " ++ octal_text p

abbrev bare_end : (ℕ → Bool) → ℕ → List ℕ
bare_end marked start = codes " END " ++ address_text marked start

loc_text_is : (p : ℕ) → line_text (line_with [] (loc_statement p) None) ≡ bare_loc p
unfolding labels_before more_before
loc_text_is p = ap (λ t. codes " LOC " ++ t) (append-nil (octal_text p))

end_text_is : (marked : ℕ → Bool) (start : ℕ) → line_text (line_with [] (end_statement marked start) None) ≡ bare_end marked start
unfolding labels_before more_before
end_text_is marked start =
    ap (λ t. codes " END " ++ t) (address_before (marked start) start [] ∙ append-nil (address_text marked start))

loc_legal : (p : ℕ) → IsStatement false literal_text (loc_statement p)
unfolding form_of
loc_legal p = (refl, refl)

end_legal : (marked : ℕ → Bool) (start : ℕ) → IsStatement false literal_text (end_statement marked start)
unfolding form_of
end_legal marked start = (refl, refl)

loc_printed : (p : ℕ) → list_all is_printed (bare_loc p) ≡ true
loc_printed p = both (codes " LOC ") (octal_text p) refl (octal_is_printed p)

end_printed : (marked : ℕ → Bool) (start : ℕ) → list_all is_printed (bare_end marked start) ≡ true
end_printed marked start = both (codes " END ") (address_text marked start) refl (address_printed (marked start) start)

-- ---- the lines with their ends

block_legal : (n : ℕ) → IsStatement false literal_text (block_statement n)
unfolding form_of
block_legal n = (refl, refl)

asciz_legal : (text : List ℕ) (h : list_all is_text_character text ≡ true) → IsStatement false literal_text (asciz_statement text h)
unfolding form_of
asciz_legal text h = (refl, refl)

piece_legal : (style : Style) (p : Piece) (is : IsPiece p) → IsStatement false literal_text (piece_statement style p is)
piece_legal style (pieces.Word a w) is = statement_legal (shown style w) w (name_of (w / 2 ^ 27)) refl
piece_legal style (pieces.Zeros a n) is = block_legal n
piece_legal style (pieces.Text a text) is = asciz_legal text is.0

pub piece_source : (style : Style) → ArePrinting style → (p : Piece) → IsPiece p → SourceLine
piece_source style ok p is =
    source_line (piece_text_line style p is) (piece_legal style p is)
    (ap (list_all is_printed) (piece_text_is style p is) ∙ piece_printed style p is (ok (first p)))

pub loc_source : ℕ → SourceLine
loc_source p = source_line (line_with [] (loc_statement p) None) (loc_legal p) (ap (list_all is_printed) (loc_text_is p) ∙ loc_printed p)

pub end_source : (ℕ → Bool) → ℕ → SourceLine
end_source marked start =
    source_line (line_with [] (end_statement marked start) None) (end_legal marked start)
    (ap (list_all is_printed) (end_text_is marked start) ∙ end_printed marked start)

-- what stands on a line with its end, before what stands behind it
pub record Stands (l : SourceLine) (text : List ℕ) (given : Line) : Type 0 where
  pub radix : l.radix ≡ 8
  pub before : (rest : List ℕ) → source_line_text l ++ end_before l.end rest ≡ text ++ rest
  pub means : source_line_given l ≡ given

fed : (xs rest : List ℕ) → xs ++ 10 ∷ rest ≡ (xs ++ 10 ∷ []) ++ rest
fed xs rest = simp append_assoc

symbols_are : (b : Bool) (p : ℕ) → map (λ l. symbol_of l.name.text) (labels_if b p) ≡ symbols_if b p
symbols_are true p = refl
symbols_are false p = refl

block_means : (n : ℕ) → statement_given (block_statement n) ≡ statements.Data (data_of.Block (number_alone (read_number n)))
unfolding more_given
block_means n = refl

block_holds : (n : ℕ) → statement_literals (block_statement n) ≡ []
unfolding more_literals
block_holds n = refl

given_means : (style : Style) (p : Piece) (is : IsPiece p) → statement_given (piece_statement style p is) ≡ statements.Data (piece_data style p)
given_means style (pieces.Word a w) is = statement_means (shown style w) w (name_of (w / 2 ^ 27)) refl
given_means style (pieces.Zeros a n) is = block_means n
given_means style (pieces.Text a text) is = refl

given_holds : (style : Style) (p : Piece) (is : IsPiece p) → statement_literals (piece_statement style p is) ≡ []
given_holds style (pieces.Word a w) is = statement_holds (shown style w) w (name_of (w / 2 ^ 27)) refl
given_holds style (pieces.Zeros a n) is = block_holds n
given_holds style (pieces.Text a text) is = refl

piece_means : (style : Style) (p : Piece) (is : IsPiece p) → line_given (piece_text_line style p is) ≡ piece_given style p
piece_means style p is =
    ap (λ ls. record {
      labels = ls;
      statement = Some (statement_given (piece_statement style p is));
      literals = map (λ l. l.given) (statement_literals (piece_statement style p is));
    }) (symbols_are (style.marked (address_of p)) (address_of p))
    ∙ (ap (λ s. record {
      labels = symbols_if (style.marked (address_of p)) (address_of p);
      statement = Some s;
      literals = map (λ l. l.given) (statement_literals (piece_statement style p is));
    }) (given_means style p is)
    ∙ ap (λ ls. record {
      labels = symbols_if (style.marked (address_of p)) (address_of p);
      statement = Some (statements.Data (piece_data style p));
      literals = map (λ l. l.given) ls;
    }) (given_holds style p is))

pub piece_stands : (style : Style) (ok : ArePrinting style) (p : Piece) (is : IsPiece p) → Stands (piece_source style ok p is) (piece_line style p) (piece_given style p)
unfolding piece_source source_line
piece_stands style ok p is =
    record {
      radix = refl;
      before = λ rest. ap (λ t. t ++ 10 ∷ rest) (piece_text_is style p is) ∙ simp append_assoc;
      means = piece_means style p is;
    }

loc_means : (p : ℕ) → line_given (line_with [] (loc_statement p) None) ≡ loc_given p
unfolding more_given more_literals
loc_means p = refl

pub loc_stands : (p : ℕ) → Stands (loc_source p) (loc_text p) (loc_given p)
unfolding loc_source source_line
loc_stands p =
    record {
      radix = refl;
      before = λ rest. ap (λ t. t ++ 10 ∷ rest) (loc_text_is p) ∙ simp append_assoc;
      means = loc_means p;
    }

end_means : (marked : ℕ → Bool) (start : ℕ) → line_given (line_with [] (end_statement marked start) None) ≡ end_given marked start
unfolding more_given more_literals
end_means marked start =
    ap (λ e. record { labels = []; statement = Some (statements.End (Some e)); literals = map (λ l. l.given) (statement_literals (end_statement marked start)) })
    (address_given (marked start) one start)
    ∙ ap (λ ls. record { labels = []; statement = Some (statements.End (Some (address_alone (marked start) start))); literals = map (λ l. l.given) ls })
    (address_literals (marked start) one start)

pub end_stands : (marked : ℕ → Bool) (start : ℕ) → Stands (end_source marked start) (end_line marked start) (end_given marked start)
unfolding end_source source_line
end_stands marked start =
    record {
      radix = refl;
      before = λ rest. ap (λ t. t ++ 10 ∷ rest) (end_text_is marked start) ∙ simp append_assoc;
      means = end_means marked start;
    }
