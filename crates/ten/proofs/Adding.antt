-- Texts that are added to what is not written yet, one after the other.
use Rattle.std.proofs.Common.{◌≡◌, ◌∙◌, ℕ, List, ◌++◌, false, sym, ap, subst, append_assoc}
use Rattle.std.proofs.lemmas.Bool.{false≢true}
use Rattle.std.specs.Prelude.{Option, Some, None, Result, Ok, Err, IfOk, IfErr, IfSome}
use Rattle.program_shell.specs.Texts.{Adds}
use Rattle.program_shell.specs.declared.pending_text.PendingText.{PendingText}
use Rattle.ten.specs.Reports.{AddsSome}

pub adds_both : (a b c : PendingText) (x y : List ℕ) → Adds a b x → Adds b c y → Adds a c (x ++ y)
adds_both a b c x y f g = λ w.
    let later = g w in
    let before = f later.0 in
    (before.0, later.1 ∙ ap (λ l. l ++ y) before.1 ∙ append_assoc a.bytes.items x y)

pub some_of : (a b : PendingText) (x : List ℕ) (Is : List ℕ → Type 0) → Adds a b x → Is x → AddsSome a b Is
some_of a b x Is f so = λ w. ((f w).0, (x, (f w).1, so))

pub some_weaker : (a b : PendingText) (P Q : List ℕ → Type 0) → ((t : List ℕ) → P t → Q t) → AddsSome a b P → AddsSome a b Q
some_weaker a b P Q weaker f = λ w. let all = f w in (all.0, (all.1.0, all.1.1, weaker all.1.0 all.1.2))

-- a text after another, of which something follows
pub some_both : (a b c : PendingText) (P Q R : List ℕ → Type 0) → ((x y : List ℕ) → P x → Q y → R (x ++ y))
    → AddsSome a b P → AddsSome b c Q → AddsSome a c R
some_both a b c P Q R joined f g = λ w.
    let later = g w in
    let before = f later.0 in
    let x = before.1.0 in
    let y = later.1.0 in
    (before.0, (x ++ y, later.1.1 ∙ ap (λ l. l ++ y) before.1.1 ∙ append_assoc a.bytes.items x y, joined x y before.1.2 later.1.2))

-- a text that was made, if there was memory for it
pub made_so : {X E : Type 0} (made : Result X E) (text_of : X → List ℕ) (a b : PendingText) (P : List ℕ → Type 0)
    → IfOk made (λ t. P (text_of t)) → IfOk made (λ t. Adds a b (text_of t)) → IfErr made (λ e. b.is_whole ≡ false) → AddsSome a b P
made_so (Ok t) text_of a b P so added lost = some_of a b (text_of t) P added so
made_so (Err e) text_of a b P so added lost = λ w. absurd (false≢true (sym lost ∙ w))

-- four texts one after the other
pub four_parts : (head programs pieces end a b d e : List ℕ) → a ≡ head → b ≡ a ++ programs → d ≡ b ++ pieces → e ≡ d ++ end
    → e ≡ head ++ (programs ++ (pieces ++ end))
four_parts head programs pieces end a b d e first second third fourth =
    fourth ∙ ap (λ l. l ++ end) (third ∙ ap (λ l. l ++ pieces) (second ∙ ap (λ l. l ++ programs) first))
    ∙ append_assoc (head ++ programs) pieces end ∙ append_assoc head programs (pieces ++ end)

-- what is executed in the end, by what is there
pub executed_so : (there : Option ℕ) (executed : ℕ → Option ℕ) (first word : ℕ)
    → IfSome there (λ w. first ≡ w) → IfSome (executed first) (λ w. word ≡ w)
    → IfSome there (λ w. IfSome (executed w) (λ last. word ≡ last))
executed_so (Some w) executed first word is so = subst (λ (k : ℕ). IfSome (executed k) (λ last. word ≡ last)) is so
executed_so None executed first word is so = tt
