-- Runs of characters of names, and what the survey of a source makes of them.
use Rattle.std.proofs.Common.{◌≡◌, ℕ, ◌<◌, ◌==◌, List, [], ◌∷◌, ◌++◌, ◌||◌, ◌&&◌, length, map, take, drop, refl, ap, ◌∙◌, arith}
use Rattle.std.proofs.Common.{Bool, true, false}
use Rattle.std.specs.Prelude.{codes, is_some}
use Rattle.std.specs.List.{list_all, list_any, prefix_len}
use Rattle.std.specs.Str.{bytes_eq}
use Rattle.std.proofs.lemmas.Bool.{and_parts, ne_eqb}
use Rattle.std.proofs.lemmas.Bool.Decides.{nat_tests}
use Rattle.std.proofs.Math.Seq.{take-append_seam, drop-append_seam}
use Rattle.mac_text.specs.Characters.{is_name_character, upper_case}
use Rattle.mac_text.specs.Names.{folded}
use Rattle.mac_text.specs.Numbers.{is_digit_of}
use Rattle.mac_text.specs.Scan.{word_of}
use Rattle.macro_statements.specs.Forms.{built_in}
use Rattle.macro_statements.specs.Mentions.{behind_word, far_names, defines, is_far, is_define, mentions, defined_names}
use Rattle.meaning_laws.proofs.Written.{digit_between, digit_is_name_character}

-- ---- a run of characters, and the text after it

pub run_length : (p : ℕ → Bool) (ds tail : List ℕ) → list_all p ds ≡ true → prefix_len p tail ≡ 0 → prefix_len p (ds ++ tail) ≡ length ds
run_length p [] tail h z = z
run_length p (d ∷ ds) tail h z =
    let parts = and_parts (p d) (list_all p ds) h in
    rw parts.0 (omega (arith, run_length p ds tail parts.1 z))

pub run_word : (ds tail : List ℕ) → list_all is_name_character ds ≡ true → prefix_len is_name_character tail ≡ 0 → word_of (ds ++ tail) ≡ ds
run_word ds tail h z = ap (λ n. take n (ds ++ tail)) (run_length is_name_character ds tail h z) ∙ take-append_seam ds tail

pub run_behind : (ds tail : List ℕ) → list_all is_name_character ds ≡ true → prefix_len is_name_character tail ≡ 0
    → behind_word (ds ++ tail) ≡ tail
run_behind ds tail h z =
    ap (λ word. drop (length word) (ds ++ tail)) (run_word ds tail h z) ∙ drop-append_seam ds tail

pub digits_are_names : (ds : List ℕ) → list_all (is_digit_of 8) ds ≡ true → list_all is_name_character ds ≡ true
digits_are_names [] h = refl
digits_are_names (d ∷ ds) h =
    let parts = and_parts (is_digit_of 8 d) (list_all (is_digit_of 8) ds) h in
    rw (digit_is_name_character d parts.0, digits_are_names ds parts.1) refl

-- ---- what the survey notes

-- a word that says nothing of what comes before it, and is not DEFINE
pub record IsQuiet (text : List ℕ) : Type 0 where
  pub far : is_far text ≡ false
  pub define : is_define text ≡ false

-- the survey of a text notes what that of a later text notes
pub record Notes (text rest : List ℕ) : Type 0 where
  pub mentioned : mentions false false text ≡ mentions false false rest
  pub defined : defined_names false false false [] text ≡ defined_names false false false [] rest

pub on_and_on : (a b c : List ℕ) → Notes a b → Notes b c → Notes a c
on_and_on a b c x y = record { mentioned = x.mentioned ∙ y.mentioned; defined = x.defined ∙ y.defined }

-- a character that is in no name, and begins no comment
pub record IsApart (c : ℕ) : Type 0 where
  pub name : is_name_character c ≡ false
  pub comment : (c == 59) ≡ false

pub past : (c : ℕ) (cs : List ℕ) → IsApart c → Notes (c ∷ cs) cs
unfolding mentions defined_names
past c cs is = record { mentioned = rw (is.name, mentions, is.comment) refl; defined = rw (is.name, defined_names, is.comment) refl }

mentioned_within : (ds : List ℕ) (c : ℕ) (cs : List ℕ) → list_all is_name_character ds ≡ true → IsApart c
    → mentions false true (ds ++ c ∷ cs) ≡ mentions false false cs
unfolding mentions
mentioned_within [] c cs h is = rw (is.name, mentions, is.comment) refl
mentioned_within (d ∷ ds) c cs h is =
    let parts = and_parts (is_name_character d) (list_all is_name_character ds) h in
    rw (parts.0, mentions) (mentioned_within ds c cs parts.1 is)

defined_within : (ds : List ℕ) (c : ℕ) (cs : List ℕ) → list_all is_name_character ds ≡ true → IsApart c
    → defined_names false false true [] (ds ++ c ∷ cs) ≡ defined_names false false false [] cs
unfolding defined_names
defined_within [] c cs h is = rw (is.name, defined_names, is.comment) refl
defined_within (d ∷ ds) c cs h is =
    let parts = and_parts (is_name_character d) (list_all is_name_character ds) h in
    rw (parts.0, defined_names) (defined_within ds c cs parts.1 is)

-- past a quiet word, and the character after it
quiet_first : (d : ℕ) (ds : List ℕ) (c : ℕ) (cs : List ℕ) → list_all is_name_character (d ∷ ds) ≡ true → IsApart c
    → IsQuiet (d ∷ (ds ++ c ∷ cs))
    → Notes (d ∷ (ds ++ c ∷ cs)) cs
unfolding mentions defined_names
quiet_first d ds c cs h is quiet =
    let parts = and_parts (is_name_character d) (list_all is_name_character ds) h in
    record {
      mentioned = rw (parts.0, quiet.far, mentions) (mentioned_within ds c cs parts.1 is);
      defined = rw (parts.0, quiet.define, defined_names) (defined_within ds c cs parts.1 is);
    }

pub quiet_past : (ds : List ℕ) (c : ℕ) (cs : List ℕ) → 0 < length ds → list_all is_name_character ds ≡ true → IsApart c
    → IsQuiet (ds ++ c ∷ cs)
    → Notes (ds ++ c ∷ cs) cs
quiet_past [] c cs some h is quiet = absurd (omega arith)
quiet_past (d ∷ ds) c cs some h is quiet = quiet_first d ds c cs h is quiet

-- ---- digits are quiet

digit_stays : (d : ℕ) → is_digit_of 8 d ≡ true → upper_case d ≡ d
digit_stays d h = grind (arith, nat_tests)

not_far : (u : ℕ) (us : List ℕ) → u < 56 → list_any (bytes_eq (u ∷ us)) far_names ≡ false
not_far u us h =
    rw (
      ne_eqb u 79 (λ e. omega (arith, h)),
      ne_eqb u 83 (λ e. omega (arith, h)),
      ne_eqb u 80 (λ e. omega (arith, h)),
      ne_eqb u 84 (λ e. omega (arith, h)),
      ne_eqb u 72 (λ e. omega (arith, h)),
      ne_eqb u 73 (λ e. omega (arith, h)),
    )
    refl

not_define : (u : ℕ) (us : List ℕ) → u < 56 → bytes_eq (u ∷ us) (codes "DEFINE") ≡ false
not_define u us h = rw (ne_eqb u 68 (λ e. omega (arith, h))) refl

pub far_of : (a b c : Bool) → a ≡ false → (b && c) ≡ false → (a || (b && c)) ≡ false
far_of a b c h k = rw (h, k) refl

and_first : (b c : Bool) → b ≡ false → (b && c) ≡ false
and_first b c h = rw h refl

quiet_by : (text word : List ℕ) → word_of text ≡ word → list_any (bytes_eq (folded word)) far_names ≡ false
    → bytes_eq (folded word) (codes "DEFINE") ≡ false → defines (behind_word text) ≡ false → IsQuiet text
quiet_by text word is far define ends =
    record {
      far =
          far_of (list_any (bytes_eq (folded (word_of text))) far_names) (defines (behind_word text)) (is_some (built_in (word_of text)))
          (ap (λ w. list_any (bytes_eq (folded w)) far_names) is ∙ far)
          (and_first (defines (behind_word text)) (is_some (built_in (word_of text))) ends);
      define = rw is define;
    }

digits_quiet : (d : ℕ) (ds tail : List ℕ) → list_all (is_digit_of 8) (d ∷ ds) ≡ true → prefix_len is_name_character tail ≡ 0
    → defines tail ≡ false
    → IsQuiet (d ∷ (ds ++ tail))
digits_quiet d ds tail h z ends =
    let is = (and_parts (is_digit_of 8 d) (list_all (is_digit_of 8) ds) h).0 in
    let names = digits_are_names (d ∷ ds) h in
    let low : upper_case d < 56 = rw (digit_stays d is) (digit_between d is).1 in
    quiet_by (d ∷ (ds ++ tail)) (d ∷ ds) (run_word (d ∷ ds) tail names z) (not_far (upper_case d) (map upper_case (take 5 ds)) low)
    (not_define (upper_case d) (map upper_case (take 5 ds)) low) (ap defines (run_behind (d ∷ ds) tail names z) ∙ ends)

-- digits in octal, and the character after them
pub digits_past : (ds : List ℕ) (c : ℕ) (cs : List ℕ) → 0 < length ds → list_all (is_digit_of 8) ds ≡ true → IsApart c
    → defines (c ∷ cs) ≡ false
    → Notes (ds ++ c ∷ cs) cs
digits_past [] c cs some h is ends = absurd (omega arith)
digits_past (d ∷ ds) c cs some h is ends =
    let none : prefix_len is_name_character (c ∷ cs) ≡ 0 = rw is.name refl in
    quiet_past (d ∷ ds) c cs some (digits_are_names (d ∷ ds) h) is (digits_quiet d ds (c ∷ cs) h none ends)
