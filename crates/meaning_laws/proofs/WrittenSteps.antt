-- The steps over the lines that `macro` writes.
use Rattle.std.proofs.Common.{◌≡◌, ℕ, ℤ, zero, suc, ◌+◌, ◌^◌, ◌<◌, ◌≤◌, ◌==◌, List, [], ◌∷◌, ◌++◌, Option, Some, None, Result, Ok}
use Rattle.std.proofs.Common.{Bool, true, false, length, drop, replicate, refl, sym, ap, ◌∙◌, arith}
use Rattle.std.specs.Prelude.{codes, is_some}
use Rattle.ka_isa.specs.Operations.{operations, calls, meanings, named_of, name_of}
use Rattle.mac_text.specs.Names.{symbol_of}
use Rattle.mac_text.specs.Scan.{word_of}
use Rattle.macro_expressions.specs.declared.fault.Stop.{Stop}
use Rattle.macro_expressions.specs.declared.symbols.Defined.{Defined}
use Rattle.macro_expressions.specs.Operations.{other_words, operation_of}
use Rattle.macro_expressions.specs.Reading.{◌>>=◌, Front, across_lines, between, begins_name}
use Rattle.macro_statements.specs.declared.forms.Form.{Form}
use Rattle.macro_statements.specs.declared.forms.Form.TheVariants as forms
use Rattle.macro_statements.specs.declared.forms.Meant.TheVariants.{Pseudo}
use Rattle.macro_statements.specs.Forms.{form_names}
use Rattle.macro_statements.specs.Words.{meant_at}
use Rattle.macro_meaning.specs.Meaning.{Walk, Left, begun, put_all, scope_of, opens, form_step, is_label, is_assignment, is_call}
use Rattle.macro_meaning.specs.Meaning.{step, unlabelled_step, named_step, next_step, entered, walked}
use Rattle.meaning_laws.specs.Written.{front, argument}
use Rattle.meaning_laws.proofs.WrittenNumbers.{numbers_taken}
use Rattle.meaning_laws.proofs.WrittenSurvey.{no_equals}

-- what lines have left: the symbols, the place that is next, and the words
abbrev pub so_far : List (ℕ × Defined) → ℕ → List (ℕ × ℕ) → Walk
so_far defined place words = record (begun [] []) { defined = defined; place = place; words = words }

-- ---- a line that begins with the name of a pseudo-operation

-- which one it is
record Names (text after : List ℕ) (form : Form) : Type 0 where
  label : is_label text ≡ false
  assigned : is_assignment text ≡ false
  call : (w : Walk) → w.callable ≡ [] → is_call w text ≡ false
  meant : meant_at text ≡ Some (Pseudo form)
  opens : opens form ≡ false
  behind : drop (length (word_of text)) text ≡ after

no_call : (w : Walk) (text : List ℕ) → w.callable ≡ [] → begins_name text ≡ true → is_call w text ≡ false
no_call w text a b = rw (b, a) refl

by_name : (table : List (ℕ × ℤ)) (w left : Walk) (text behind rest : List ℕ) (form : Form) → opens form ≡ false
    → drop (length (word_of text)) text ≡ behind → form_step (scope_of table w) form w (front behind) ≡ Ok (left, front (10 ∷ rest))
    → named_step table (Some (Pseudo form)) w (front text) ≡ Ok (None, (left, front (10 ∷ rest)))
unfolding named_step
by_name table w left text behind rest form a b c = rw (a, b, c, named_step) refl

form_taken : (table : List (ℕ × ℤ)) (w left : Walk) (text behind rest : List ℕ) (form : Form) → w.callable ≡ [] → Names text behind form
    → form_step (scope_of table w) form w (front behind) ≡ Ok (left, front (10 ∷ rest))
    → step table w (front text) ≡ Ok (None, (left, front (10 ∷ rest)))
unfolding step unlabelled_step
form_taken table w left text behind rest form plain names taken =
    rw (names.label, names.assigned, names.call w plain)
    (ap (λ m. named_step table m w (front text)) names.meant ∙ by_name table w left text behind rest form names.opens names.behind taken)

loc_names : (n : ℕ) (rest : List ℕ) → Names (codes "LOC" ++ argument n rest) (argument n rest) forms.Loc
unfolding operations calls meanings named_of name_of symbol_of other_words operation_of form_names
loc_names n rest =
    record {
      label = refl;
      assigned = no_equals n rest;
      call = λ w plain. no_call w (codes "LOC" ++ argument n rest) plain refl;
      meant = refl;
      opens = refl;
      behind = refl;
    }

block_names : (n : ℕ) (rest : List ℕ) → Names (codes "BLOCK" ++ argument n rest) (argument n rest) forms.Block
unfolding operations calls meanings named_of name_of symbol_of other_words operation_of form_names
block_names n rest =
    record {
      label = refl;
      assigned = no_equals n rest;
      call = λ w plain. no_call w (codes "BLOCK" ++ argument n rest) plain refl;
      meant = refl;
      opens = refl;
      behind = refl;
    }

end_names : (n : ℕ) (rest : List ℕ) → Names (codes "END" ++ argument n rest) (argument n rest) forms.End
unfolding operations calls meanings named_of name_of symbol_of other_words operation_of form_names
end_names n rest =
    record {
      label = refl;
      assigned = no_equals n rest;
      call = λ w plain. no_call w (codes "END" ++ argument n rest) plain refl;
      meant = refl;
      opens = refl;
      behind = refl;
    }

-- LOC sets the place
pub loc_taken : (table : List (ℕ × ℤ)) (w : Walk) (n : ℕ) (rest : List ℕ) → w.callable ≡ [] → n ≤ 2 ^ 18
    → step table w (front (codes "LOC" ++ argument n rest)) ≡ Ok (None, (record w { place = n }, front (10 ∷ rest)))
loc_taken table w n rest plain fits =
    form_taken table w (record w { place = n }) (codes "LOC" ++ argument n rest) (argument n rest) rest forms.Loc plain (loc_names n rest)
    ((numbers_taken (scope_of table w) w n rest).loc fits)

-- BLOCK puts words of 0
pub block_taken : (table : List (ℕ × ℤ)) (w : Walk) (n : ℕ) (rest : List ℕ) → w.callable ≡ [] → n ≤ 2 ^ 18 → w.place + n ≤ 2 ^ 18
    → step table w (front (codes "BLOCK" ++ argument n rest)) ≡ Ok (None, (put_all (replicate n 0) w, front (10 ∷ rest)))
block_taken table w n rest plain fits within =
    form_taken table w (put_all (replicate n 0) w) (codes "BLOCK" ++ argument n rest) (argument n rest) rest forms.Block plain
    (block_names n rest)
    ((numbers_taken (scope_of table w) w n rest).block fits within)

-- END names the start
pub end_taken : (table : List (ℕ × ℤ)) (w : Walk) (n : ℕ) (rest : List ℕ) → w.callable ≡ [] → n < 2 ^ 18
    → step table w (front (codes "END" ++ argument n rest)) ≡ Ok
    (None, (record w { pools = drop 1 w.pools; start = Some n }, front (10 ∷ rest)))
end_taken table w n rest plain fits =
    form_taken table w (record w { pools = drop 1 w.pools; start = Some n }) (codes "END" ++ argument n rest)
    (argument n rest) rest forms.End plain
    (end_names n rest) ((numbers_taken (scope_of table w) w n rest).end fits)

-- ---- one step after another

abbrev pub Deeper : Type 0
Deeper = Walk → Front → Result Left Stop

-- a text is read to its end, if there may be more steps than it has characters
abbrev pub IsRead : List (ℕ × ℤ) → Deeper → Walk → List ℕ → Left → Type 0
IsRead table deeper w text left = (n : ℕ) → length text < n → walked (next_step table deeper) n w (front text) ≡ Ok left

-- the next step, from the first character of a label or statement on
next_from : List (ℕ × ℤ) → Deeper → Walk → Front → Result (Bool × Left) Stop
next_from table deeper w t =
    elim (length t.rest == 0) [
      | true ↦ Ok (true, (w, t))
      | false ↦ step table w t >>= λ x. entered deeper x.0 (x.1).0 (x.1).1 >>= λ y. Ok (is_some (y.0).start, y)
    ]

next_is : (table : List (ℕ × ℤ)) (deeper : Deeper) (w : Walk) (s : Front)
    → next_step table deeper w s ≡ next_from table deeper w (across_lines s)
unfolding next_step next_from
next_is table deeper w s = refl

next_step_by : (table : List (ℕ × ℤ)) (deeper : Deeper) (w v : Walk) (inner : List ℕ) (s : Front) → (length inner == 0) ≡ false
    → step table w (front inner) ≡ Ok (None, (v, s)) → next_from table deeper w (front inner) ≡ Ok (is_some v.start, (v, s))
unfolding next_from
next_step_by table deeper w v inner s a b = rw (a, b, next_from) refl

next_by : (table : List (ℕ × ℤ)) (deeper : Deeper) (w v : Walk) (text inner : List ℕ) (s : Front) → between false text ≡ inner
    → (length inner == 0) ≡ false → step table w (front inner) ≡ Ok (None, (v, s))
    → next_step table deeper w (front text) ≡ Ok (is_some v.start, (v, s))
next_by table deeper w v text inner s a b c =
    next_is table deeper w (front text) ∙ (ap (λ t. next_from table deeper w (front t)) a ∙ next_step_by table deeper w v inner s b c)

walk_on : (next : Walk → Front → Result (Bool × Left) Stop) (w v : Walk) (s t : Front) (n : ℕ) → next w s ≡ Ok (false, (v, t))
    → walked next (suc n) w s ≡ walked next n v t
unfolding walked
walk_on next w v s t n a = rw a refl

walk_end : (next : Walk → Front → Result (Bool × Left) Stop) (w v : Walk) (s t : Front) (n : ℕ) → next w s ≡ Ok (true, (v, t))
    → walked next (suc n) w s ≡ Ok (v, t)
unfolding walked
walk_end next w v s t n a = rw a refl

-- a step after which more is read
pub read_on : (table : List (ℕ × ℤ)) (deeper : Deeper) (w v : Walk) (text inner rest : List ℕ) (left : Left) → between false text ≡ inner
    → (length inner == 0) ≡ false → step table w (front inner) ≡ Ok (None, (v, front rest)) → v.start ≡ None → length rest < length text
    → IsRead table deeper v rest left → IsRead table deeper w text left
read_on table deeper w v text inner rest left a b c open_ shorter later zero h = absurd (omega (arith, h))
read_on table deeper w v text inner rest left a b c open_ shorter later (suc n) h =
    walk_on (next_step table deeper) w v (front text) (front rest) n
    (next_by table deeper w v text inner (front rest) a b c ∙ ap (λ (o : Option ℕ). Ok (is_some o, (v, front rest))) open_)
    ∙ later n (omega (arith, h, shorter))

-- a step that ends the source
pub read_end : (table : List (ℕ × ℤ)) (deeper : Deeper) (w v : Walk) (text inner : List ℕ) (s : Front) (start : ℕ)
    → between false text ≡ inner
    → (length inner == 0) ≡ false → step table w (front inner) ≡ Ok (None, (v, s)) → v.start ≡ Some start
    → IsRead table deeper w text (v, s)
read_end table deeper w v text inner s start a b c ended zero h = absurd (omega (arith, h))
read_end table deeper w v text inner s start a b c ended (suc n) h =
    walk_end (next_step table deeper) w v (front text) s n
    (next_by table deeper w v text inner s a b c ∙ ap (λ (o : Option ℕ). Ok (is_some o, (v, s))) ended)

-- the end of a line is passed over
same_next : (table : List (ℕ × ℤ)) (deeper : Deeper) (w : Walk) (text text' : List ℕ) → between false text ≡ between false text'
    → next_step table deeper w (front text) ≡ next_step table deeper w (front text')
same_next table deeper w text text' a =
    next_is table deeper w (front text)
    ∙ (ap (λ t. next_from table deeper w (front t)) a ∙ sym (next_is table deeper w (front text')))

same_walk : (next : Walk → Front → Result (Bool × Left) Stop) (w : Walk) (s t : Front) (n : ℕ) → next w s ≡ next w t
    → walked next (suc n) w s ≡ walked next (suc n) w t
unfolding walked
same_walk next w s t n a = rw a refl

pub read_past : (table : List (ℕ × ℤ)) (deeper : Deeper) (w : Walk) (rest : List ℕ) (left : Left) → IsRead table deeper w rest left
    → IsRead table deeper w (10 ∷ rest) left
read_past table deeper w rest left later zero h = absurd (omega (arith, h))
read_past table deeper w rest left later (suc n) h =
    same_walk (next_step table deeper) w (front (10 ∷ rest)) (front rest) n (same_next table deeper w (10 ∷ rest) rest refl)
    ∙ later (suc n) (omega (arith, h))
