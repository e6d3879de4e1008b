-- Events that join a piece.
use Rattle.std.proofs.Common.{◌≡◌, ◌≤◌, ◌+◌, ◌-◌, ◌++◌, ◌∙◌, ℕ, zero, suc, Bool, true, false, List, [], ◌∷◌, refl, ap, sym, arith, append_assoc, append-nil, map}
use Rattle.std.proofs.lemmas.Grind.{replicate_next, flat_map-append}
use Rattle.std.proofs.lemmas.List.{map-append}
use Rattle.run_record.specs.Pieces.{rounds, last_step, events_of, events_in}
use Rattle.run_record.specs.declared.happened.RunEvent.TheVariants as event
use Rattle.run_record.specs.declared.pieces.Piece.{Piece}
use Rattle.run_record.specs.declared.pieces.Piece.TheVariants as piece

rounds_last : (n : ℕ) → rounds (suc n) ≡ rounds n ++ (event.Step ∷ event.Tick ∷ [])
rounds_last zero = refl
rounds_last (suc n) = ap (λ l. event.Step ∷ event.Tick ∷ l) (rounds_last n)

round_more : (n : ℕ) → rounds (n + 1) ++ last_step false ≡ (rounds n ++ last_step true) ++ event.Tick ∷ []
round_more n =
    append-nil (rounds (n + 1)) ∙ ap rounds (let e : n + 1 ≡ suc n = omega arith in e) ∙ rounds_last n
    ∙ sym (append_assoc (rounds n) (event.Step ∷ []) (event.Tick ∷ []))

-- a tick behind rounds and a step is a round more
pub tick_joins : (n : ℕ) (stepped : Bool) → stepped ≡ true
    → events_of (piece.Rounds (n + 1) false) ≡ events_of (piece.Rounds n stepped) ++ event.Tick ∷ []
tick_joins n true is = round_more n
tick_joins n false is = absurd (cc)

-- a step behind rounds
pub step_joins : (n : ℕ) (stepped : Bool) → stepped ≡ false
    → events_of (piece.Rounds n true) ≡ events_of (piece.Rounds n stepped) ++ event.Step ∷ []
step_joins n false is = sym (ap (λ l. l ++ event.Step ∷ []) (append-nil (rounds n)))
step_joins n true is = absurd (cc)

rounds_further : (n m : ℕ) → rounds (n + m) ≡ rounds n ++ rounds m
rounds_further zero m = ap rounds (let e : 0 + m ≡ m = omega arith in e)
rounds_further (suc n) m =
    ap rounds (let e : suc n + m ≡ suc (n + m) = omega arith in e) ∙ ap (λ l. event.Step ∷ event.Tick ∷ l) (rounds_further n m)

-- some of so many rounds, and those behind them
pub rounds_part : (n m : ℕ) → m ≤ n → rounds n ≡ rounds m ++ rounds (n - m)
rounds_part n m few = ap rounds (let e : n ≡ m + (n - m) = omega (arith, few) in e) ∙ rounds_further m (n - m)

-- rounds behind rounds
pub rounds_join : (n m : ℕ) (stepped : Bool) → stepped ≡ false
    → events_of (piece.Rounds (n + m) stepped) ≡ events_of (piece.Rounds n stepped) ++ rounds m
rounds_join n m false is =
    append-nil (rounds (n + m)) ∙ rounds_further n m ∙ ap (λ l. l ++ rounds m) (sym (append-nil (rounds n)))
rounds_join n m true is = absurd (cc)

-- rounds that stand for themselves
pub rounds_alone : (n : ℕ) → events_of (piece.Rounds n false) ≡ rounds n
rounds_alone n = append-nil (rounds n)

-- a tick behind ticks
pub ticks_join : (n : ℕ) → events_of (piece.Ticks (n + 1)) ≡ events_of (piece.Ticks n) ++ event.Tick ∷ []
ticks_join n = replicate_next n event.Tick

-- a character behind others that were typed at the same line
pub typed_joins : (line at c : ℕ) (old new : List ℕ) → line ≡ at → new ≡ old ++ c ∷ []
    → map (event.Typed line) new ≡ map (event.Typed line) old ++ event.Typed at c ∷ []
typed_joins line at c old new same is =
    ap (map (event.Typed line)) is ∙ map-append (event.Typed line) old (c ∷ []) ∙ ap (λ l. map (event.Typed line) old ++ event.Typed l c ∷ []) same

-- a piece behind others
pub events_more : (pieces : List Piece) (p : Piece) → events_in (pieces ++ p ∷ []) ≡ events_in pieces ++ events_of p
events_more pieces p = flat_map-append events_of pieces (p ∷ []) ∙ ap (λ l. events_in pieces ++ l) (append-nil (events_of p))
