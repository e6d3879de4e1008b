-- The words of all lines, line by line, are those of the statements and then of the literals, in another order.
use Rattle.std.proofs.Common.{◌≡◌, ◌∙◌, sym, ap, subst, ℕ, ◌+◌, Bool, true, false, ◌&&◌, List, [], ◌∷◌, ◌++◌, zip, is_some}
use Rattle.std.proofs.Common.{Option, Some, None, Result, Ok, Err, unwrap_or, refl, append_assoc}
use Rattle.std.specs.Prelude.{if◌then◌else◌}
use Rattle.std.specs.List.{list_all}
use Rattle.std.specs.List.Sorted.{IsPermutation}
use Rattle.std.proofs.lemmas.List.Sorted.{IsPermutation-refl, IsPermutation-trans, IsPermutation-append}
use Rattle.std.proofs.lemmas.List.Sorted.{IsPermutation-append_comm, IsPermutation-append_left, IsPermutation-append_right}
use Rattle.std.proofs.lemmas.Bool.{and_parts, and_from}
use Rattle.mac_layout.specs.declared.error.AsmCode.{AsmCode}
use Rattle.mac_layout.specs.Addresses.{Placed}
use Rattle.mac_asm.specs.Assembly.{statement_words, literal_words, all_statement_words, all_literal_words}
use Rattle.mac_layout.specs.Faults.{Fault, unless_fault}
use Rattle.mac_asm.specs.Outcome.{line_words, has_start, value_code, and_words, words_given}
use Rattle.asm_laws.proofs.Options.{some_parts, bind_some, bind_at, known-some}

abbrev Words : Type 0
Words = List (ℕ × ℕ)

-- the words of a line go to those of the statements and of the literals
regroup : (o1 l1 o2 l2 more : Words) → IsPermutation more (o2 ++ l2)
    → IsPermutation ((l1 ++ o1) ++ more) ((o1 ++ o2) ++ (l1 ++ l2))
regroup o1 l1 o2 l2 more h =
    let first : IsPermutation ((l1 ++ o1) ++ more) ((o1 ++ l1) ++ (o2 ++ l2)) =
    IsPermutation-append (l1 ++ o1) (o1 ++ l1) more (o2 ++ l2) (IsPermutation-append_comm l1 o1) h in
    let inner : IsPermutation ((l1 ++ o2) ++ l2) ((o2 ++ l1) ++ l2) =
    IsPermutation-append_left l2 (l1 ++ o2) (o2 ++ l1) (IsPermutation-append_comm l1 o2) in
    let moved : IsPermutation (o1 ++ ((l1 ++ o2) ++ l2)) (o1 ++ ((o2 ++ l1) ++ l2)) =
    IsPermutation-append_right o1 ((l1 ++ o2) ++ l2) ((o2 ++ l1) ++ l2) inner in
    let before : o1 ++ ((l1 ++ o2) ++ l2) ≡ (o1 ++ l1) ++ (o2 ++ l2) =
    ap (λ x. o1 ++ x) (append_assoc l1 o2 l2) ∙ sym (append_assoc o1 l1 (o2 ++ l2)) in
    let behind : o1 ++ ((o2 ++ l1) ++ l2) ≡ (o1 ++ o2) ++ (l1 ++ l2) =
    ap (λ x. o1 ++ x) (append_assoc o2 l1 l2) ∙ sym (append_assoc o1 o2 (l1 ++ l2)) in
    IsPermutation-trans ((l1 ++ o1) ++ more) ((o1 ++ l1) ++ (o2 ++ l2)) ((o1 ++ o2) ++ (l1 ++ l2)) first
    (subst (λ x. IsPermutation x ((o1 ++ o2) ++ (l1 ++ l2))) before (subst (λ x. IsPermutation (o1 ++ ((l1 ++ o2) ++ l2)) x) behind moved))

abbrev pub starts : Placed → Bool
starts at = has_start at.names at.line.statement

told-none : (a b : Bool) (code : AsmCode) → (if a && b then None else Some code) ≡ None → (a ≡ true) × (b ≡ true)
told-none true true code h = (refl, refl)
told-none true false code h = absurd (cc)
told-none false b code h = absurd (cc)

none-told : (a b : Bool) (code : AsmCode) → a ≡ true → b ≡ true → (if a && b then None else Some code) ≡ None
none-told true true code h k = refl
none-told true false code h k = absurd (cc)
none-told false b code h k = absurd (cc)

unless-ok : (n : ℕ) (o : Option AsmCode) (r : Result Words Fault) (ws : Words) → unless_fault n o r ≡ Ok ws → (o ≡ None) × (r ≡ Ok ws)
unless-ok n None r ws h = (refl, h)
unless-ok n (Some code) r ws h = absurd (cc)

and-ok : (first : Words) (r : Result Words Fault) (ws : Words) → and_words first r ≡ Ok ws
    → (more : Words) × (r ≡ Ok more) × (first ++ more ≡ ws)
and-ok first (Ok more) ws h = (more, refl, cc)
and-ok first (Err fault) ws h = absurd (cc)

-- what the words that are given are
pub record Gathers (lines : List Placed) (ws : Words) : Type 0 where
  pub own : Words
  pub literals : Words
  pub gives_own : all_statement_words lines ≡ Some own
  pub gives_literals : all_literal_words lines ≡ Some literals
  pub same : IsPermutation ws (own ++ literals)

line-parts : (at : Placed) (ws : Words) → line_words at ≡ Some ws
    → (l : Words) × (o : Words) × (literal_words at.names (zip at.names.literals at.line.literals) ≡ Some l)
    × (statement_words at.names at.line.statement ≡ Some o) × (l ++ o ≡ ws)
unfolding line_words
line-parts at ws h =
    let f = bind_some (literal_words at.names (zip at.names.literals at.line.literals)) _ ws h in
    let m = bind_some (statement_words at.names at.line.statement) _ ws f.2 in
    (f.0, m.0, f.1, m.1, some_parts (f.0 ++ m.0) ws m.2)

pub words-gather : (lines : List Placed) (n : ℕ) (ws : Words) → words_given n lines ≡ Ok ws
    → Gathers lines ws × (list_all starts lines ≡ true)
unfolding words_given value_code all_statement_words all_literal_words
words-gather [] n ws h =
    let none : ws ≡ [] = cc in (
      record {
        own = [];
        literals = [];
        gives_own = refl;
        gives_literals = refl;
        same = subst (λ w. IsPermutation w []) (sym none) (IsPermutation-refl []);
      },
      refl,
    )
words-gather (at ∷ later) n ws h =
    let u = unless-ok n (value_code at) _ ws h in
    let t = told-none (is_some (line_words at)) (starts at) _ u.0 in
    let a = and-ok (unwrap_or (line_words at) []) (words_given (n + 1) later) ws u.1 in
    let w = known-some (line_words at) t.0 in
    let p = line-parts at w.0 w.1 in
    let l1 = p.0 in
    let o1 = p.1 in
    let i = words-gather later (n + 1) a.0 a.1 in
    let g = i.0 in
    let o2 = g.own in
    let l2 = g.literals in
    let all : (l1 ++ o1) ++ a.0 ≡ ws =
    ap (λ x. x ++ a.0) p.4 ∙ ap (λ o. unwrap_or o [] ++ a.0) (sym w.1) ∙ a.2 in (
      record {
        own = o1 ++ o2;
        literals = l1 ++ l2;
        gives_own = bind_at (statement_words at.names at.line.statement) _ o1 p.3
            ∙ bind_at (all_statement_words later) _ o2 g.gives_own;
        gives_literals = bind_at (literal_words at.names (zip at.names.literals at.line.literals)) _ l1 p.2
            ∙ bind_at (all_literal_words later) _ l2 g.gives_literals;
        same = subst (λ x. IsPermutation x ((o1 ++ o2) ++ (l1 ++ l2))) all (regroup o1 l1 o2 l2 a.0 g.same);
      },
      and_from _ _ t.1 i.1,
    )

pub gather-words : (lines : List Placed) (n : ℕ) (own literals : Words) → all_statement_words lines ≡ Some own
    → all_literal_words lines ≡ Some literals → list_all starts lines ≡ true
    → (ws : Words) × (words_given n lines ≡ Ok ws) × IsPermutation ws (own ++ literals)
unfolding words_given value_code line_words all_statement_words all_literal_words
gather-words [] n own literals f g s =
    let none : own ++ literals ≡ [] = ap (λ x. x ++ literals) (sym (some_parts [] own f)) ∙ sym (some_parts [] literals g) in
    ([], refl, subst (λ w. IsPermutation [] w) (sym none) (IsPermutation-refl []))
gather-words (at ∷ later) n own literals f g s =
    let b = and_parts (starts at) (list_all starts later) s in
    let o = bind_some (statement_words at.names at.line.statement) _ own f in
    let os = bind_some (all_statement_words later) _ own o.2 in
    let l = bind_some (literal_words at.names (zip at.names.literals at.line.literals)) _ literals g in
    let ls = bind_some (all_literal_words later) _ literals l.2 in
    let i = gather-words later (n + 1) os.0 ls.0 os.1 ls.1 b.1 in
    let line : line_words at ≡ Some (l.0 ++ o.0) =
    bind_at (literal_words at.names (zip at.names.literals at.line.literals)) _ l.0 l.1
    ∙ bind_at (statement_words at.names at.line.statement) _ o.0 o.1 in
    let right : value_code at ≡ None = none-told (is_some (line_words at)) (starts at) _ (ap is_some line) b.0 in
    let all : (o.0 ++ os.0) ++ (l.0 ++ ls.0) ≡ own ++ literals =
    ap (λ x. x ++ (l.0 ++ ls.0)) (some_parts (o.0 ++ os.0) own os.2) ∙ ap (λ x. own ++ x) (some_parts (l.0 ++ ls.0) literals ls.2) in (
      (l.0 ++ o.0) ++ i.0,
      ap (λ c. unless_fault n c (and_words (unwrap_or (line_words at) []) (words_given (n + 1) later))) right
          ∙ ap (λ r. and_words (unwrap_or (line_words at) []) r) i.1
          ∙ ap (λ w. let x : Result Words Fault = Ok (unwrap_or w [] ++ i.0) in x) line,
      subst (λ x. IsPermutation ((l.0 ++ o.0) ++ i.0) x) all (regroup o.0 l.0 os.0 ls.0 i.0 i.2),
    )
