-- The rounds of IRP and IRPC (MACRO-10 Assembler Manual).
use Rattle.std.specs.Prelude.{ℕ, ◌+◌, ◌-◌, Result, Ok, Err, Bool, true, false, ◌==◌, ◌||◌, ◌&&◌, nat_le}
use Rattle.std.specs.Prelude.{List, [], ◌∷◌, ◌++◌, length, take, Option, Some, None, if◌then◌else◌}
use Rattle.mac_text.specs.Texts.{up_to_next}
use Rattle.macro_expressions.specs.declared.fault.Stop.{Stop}
use Rattle.macro_expressions.specs.declared.fault.Stop.TheVariants.{Beyond}
use Rattle.macro_expressions.specs.Reading.{◌>>=◌, or_stop}
use Rattle.macro_expansion.specs.Brackets.{bracketed, lined, is_space}
use Rattle.macro_expansion.specs.Macros.{Bound, unfilled, filled, less_rest, no_dummies, dummies_at}

-- a text whose first dummy is another thing in each round
pub record Round : Type 0 where
  pub bound : Bound
  pub body : List ℕ

abbrev pub with_first : List ℕ → Bound → Bound
with_first element b = record b { given = element ++ (255 ∷ b.given) }

-- a round begins with a line that has only 253, which is a mark
abbrev pub round_text : Round → List ℕ → List ℕ
round_text r element = 253 ∷ 10 ∷ lined (filled (with_first element r.bound) unfilled r.body)

-- more than 1000000 characters of rounds are not judged, so that no more are added then
abbrev pub with_round : Round → List ℕ → List ℕ → List ℕ
with_round r element all = if nat_le (length all) 1000000 then all ++ round_text r element else all

-- a list as it is parted: how many `<`, and how many `(` and `[`, are open; the characters of its element so far, and how many of them are
-- before the blanks and ends of lines at its end; whether something is not judged: CR, or a bracket that closes nothing; and the
-- rounds so far
pub record Parting : Type 0 where
  pub angles : ℕ
  pub others : ℕ
  pub text : List ℕ
  pub kept : ℕ
  pub is_odd : Bool
  pub all : List ℕ

abbrev pub unparted : Parting
unparted = record { angles = 0; others = 0; text = []; kept = 0; is_odd = false; all = [] }

-- one pair of brackets around all of an element goes
abbrev pub unwrapped : List ℕ → List ℕ
unwrapped text = elim (bracketed text) [ None ↦ text | Some x ↦ if length x.1 == 0 then x.0 else text ]

abbrev pub ending : Round → Parting → Parting
ending r p = record p { text = []; kept = 0; all = with_round r (unwrapped (take p.kept p.text)) p.all }

abbrev pub counting : ℕ → Parting → Parting
counting c p =
    if c == 60 then record p { angles = p.angles + 1 }
    else if c == 62 then record p { angles = p.angles - 1; is_odd = p.is_odd || p.angles == 0 }
    else if c == 40 || c == 91 then record p { others = p.others + 1 }
    else if c == 41 || c == 93 then record p { others = p.others - 1; is_odd = p.is_odd || p.others == 0 }
    else record p { is_odd = p.is_odd || c == 13 }

abbrev pub adding : ℕ → Parting → Parting
adding c p = counting c (record p { text = p.text ++ c ∷ []; kept = length p.text + 1 })

-- blanks and ends of lines before an element go
abbrev pub spacing : ℕ → Parting → Parting
spacing c p = if length p.text == 0 then p else record p { text = p.text ++ c ∷ [] }

-- IRP: commas outside of brackets part
abbrev pub parting : Round → ℕ → Parting → Parting
parting r c p =
    if c == 44 && (p.angles == 0 && p.others == 0) then ending r p else if is_space c then spacing c p else adding c p

-- IRPC: each character is an element; CR and brackets that would be alone are not judged
abbrev pub spelling : Round → ℕ → Parting → Parting
spelling r c p = record p { is_odd = p.is_odd || (c == 13 || (c == 60 || c == 62)); all = with_round r (c ∷ []) p.all }

abbrev pub parted_next : Bool → Round → ℕ → Parting → Parting
parted_next true r c p = spelling r c p
parted_next false r c p = parting r c p

unfoldable pub parted : Bool → Round → Parting → List ℕ → Parting
parted by_character r p [] = p
parted by_character r p (c ∷ cs) = parted by_character r (parted_next by_character r c p) cs

-- the last element of a list that is not empty has no comma after it
abbrev pub parted_all : Bool → Round → List ℕ → Parting
parted_all by_character r list =
    if by_character || length list == 0 then parted by_character r unparted list else ending r (parted by_character r unparted list)

abbrev pub rounds_in : Parting → Result (List ℕ) Stop
rounds_in p = if p.is_odd then Err Beyond else Ok p.all

-- after IRP or IRPC in a body with arguments: its text in brackets, and what comes after
abbrev pub block_next : List ℕ → Option (List ℕ × List ℕ)
block_next [] = None
block_next (c ∷ cs) = if c == 254 then bracketed cs else None

-- a round for each element, or each character, of the list; and what comes after
unfoldable pub rounds_at : Bool → List ℕ → Result (List ℕ × List ℕ) Stop
rounds_at by_character text = do
  block ← or_stop Beyond (block_next text)
  list ← or_stop Beyond (up_to_next 254 block.0)
  given ← or_stop Beyond (up_to_next 254 list.1)
  dummies ← dummies_at 100 no_dummies given.1
  all ← rounds_in
      (parted_all by_character
      (record {
        bound = record { head = less_rest given.1 dummies.1; names = (dummies.0).names; given = given.0 };
        body = dummies.1;
      })
      list.0)
  Ok (all, block.1)
