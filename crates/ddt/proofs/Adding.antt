-- Texts that are added to an answer, one after the other.
use Rattle.std.proofs.Common.{◌≡◌, ◌∙◌, ◌+◌, ℕ, List, [], ◌∷◌, ◌++◌, true, false, refl, sym, ap, subst, append_assoc, append-nil, arith}
use Rattle.std.proofs.lemmas.Bool.{false≢true}
use Rattle.std.specs.Prelude.{Option, Some, None, Result, Ok, Err, IfOk, IfErr, IfSome}
use Rattle.ddt_timeline.specs.Timelines.{steps_in}
use Rattle.ddt_timeline.specs.declared.entries.Entry.{Entry}
use Rattle.program_shell.specs.Texts.{Adds}
use Rattle.program_shell.specs.declared.pending_text.PendingText.{PendingText}
use Rattle.ddt.specs.Showing.{AddsSome}

pub adds_both : (a b c : PendingText) (x y : List ℕ) → Adds a b x → Adds b c y → Adds a c (x ++ y)
adds_both a b c x y f g = λ w.
    let later = g w in
    let before = f later.0 in
    (before.0, later.1 ∙ ap (λ l. l ++ y) before.1 ∙ append_assoc a.bytes.items x y)

pub adds_none : (a : PendingText) → Adds a a []
adds_none a = λ w. (w, sym (append-nil a.bytes.items))

-- nothing is said of a text that is not whole
pub adds_lost : (a b : PendingText) (x : List ℕ) → b.is_whole ≡ false → Adds a b x
adds_lost a b x lost = λ w. absurd (false≢true (sym lost ∙ w))

pub some_lost : (a b : PendingText) (P : List ℕ → Type 0) → b.is_whole ≡ false → AddsSome a b P
some_lost a b P lost = λ w. absurd (false≢true (sym lost ∙ w))

-- a text that was made, if there was memory for it
pub made_so : {X E : Type 0} (made : Result X E) (text_of : X → List ℕ) (a b : PendingText) (P : List ℕ → Type 0)
    → IfOk made (λ t. P (text_of t)) → IfOk made (λ t. Adds a b (text_of t)) → IfErr made (λ e. b.is_whole ≡ false) → AddsSome a b P
made_so (Ok t) text_of a b P so added lost = λ w. ((added w).0, (text_of t, (added w).1, so))
made_so (Err e) text_of a b P so added lost = some_lost a b P lost

-- and one that is known
pub made_as : {X E : Type 0} (made : Result X E) (text_of : X → List ℕ) (a b : PendingText) (words : List ℕ)
    → IfOk made (λ t. text_of t ≡ words) → IfOk made (λ t. Adds a b (text_of t)) → IfErr made (λ e. b.is_whole ≡ false) → Adds a b words
made_as (Ok t) text_of a b words so added lost = λ w. ((added w).0, (added w).1 ∙ ap (λ l. a.bytes.items ++ l) so)
made_as (Err e) text_of a b words so added lost = adds_lost a b words lost

-- and one that is known by words, if those are known
pub made_if : {X E : Type 0} (made : Result X E) (text_of : X → List ℕ) (a b : PendingText) (words : Option (List ℕ)) (f : List ℕ → List ℕ)
    → IfOk made (λ t. IfSome words (λ w. text_of t ≡ f w)) → IfOk made (λ t. Adds a b (text_of t)) → IfErr made (λ e. b.is_whole ≡ false)
    → IfSome words (λ w. Adds a b (f w))
made_if made text_of a b (Some w) f so added lost = made_as made text_of a b (f w) so added lost
made_if made text_of a b None f so added lost = tt

-- with another text after it
pub if_both : (a b c : PendingText) (words : Option (List ℕ)) (y : List ℕ)
    → IfSome words (λ w. Adds a b w) → Adds b c y → IfSome words (λ w. Adds a c (w ++ y))
if_both a b c (Some w) y first second = adds_both a b c w y first second
if_both a b c None y first second = tt

-- what holds of a value that there is
pub at_some : {A : Type 0} (o : Option A) (x : A) (P : A → Type 0) → o ≡ Some x → P x → IfSome o P
at_some {A} o x P is h = subst (λ (p : Option A). IfSome p P) (sym is) h

-- the steps of some entries and of others after them
pub steps_append : (a b : List Entry) → steps_in (a ++ b) ≡ steps_in a + steps_in b
steps_append [] b = omega arith
steps_append (e ∷ a) b = let rest = steps_append a b in omega (arith, rest)
