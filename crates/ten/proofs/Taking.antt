-- Takes at a line one after the other, and what is written of them.
use Rattle.std.proofs.Common.{◌≡◌, ◌∙◌, ℕ, ◌+◌, ◌-◌, zero, suc, true, cond, arith, rules, List, [], ◌++◌, ap, sym, refl, append_assoc, append-nil}
use Rattle.std.proofs.Math.Numerals.{add-one}
use Rattle.std.specs.Prelude.{◌==◌}
use Rattle.machine.specs.declared.event.Answer.{Answer}
use Rattle.machine.specs.Alone.{taken_by, taken_from, text_in}
use Rattle.machine.specs.Machine.{S, after, happens}
use Rattle.machine.specs.declared.event.Event.TheVariants.{Take}
use Rattle.word36.specs.declared.sizes.TheConstants.{TAKEN_AT_ONCE}
use Rattle.program_shell.specs.declared.pending_text.PendingText.{PendingText}
use Rattle.ten.specs.Events.{takes}
use Rattle.ten.specs.Terminals.{held_by, written_by}
use Rattle.ten.specs.Writing.{Writes}
use Rattle.ten.specs.declared.terminal.Terminal.{Terminal}
use Rattle.ten.proofs.Adding.{adds_both}
use Rattle.ten.proofs.Terminals.{held_more, writes_more}

pub after_more : (line n : ℕ) (s : S) → after (takes line (suc n)) s ≡ (happens (after (takes line n) s) (Take line TAKEN_AT_ONCE)).state
after_more line zero s = refl
after_more line (suc n) s = after_more line n (happens s (Take line TAKEN_AT_ONCE)).state

pub taken_more : (line n : ℕ) (s : S) → taken_from line s (takes line (suc n))
    ≡ taken_from line s (takes line n)
    ++ taken_by line (Take line TAKEN_AT_ONCE) (happens (after (takes line n) s) (Take line TAKEN_AT_ONCE)).answer
taken_more line zero s = append-nil (taken_by line (Take line TAKEN_AT_ONCE) (happens s (Take line TAKEN_AT_ONCE)).answer)
taken_more line (suc n) s =
    let t : S = (happens s (Take line TAKEN_AT_ONCE)).state in
    let first : List ℕ = taken_by line (Take line TAKEN_AT_ONCE) (happens s (Take line TAKEN_AT_ONCE)).answer in
    ap (λ l. first ++ l) (taken_more line n t)
    ∙ sym (append_assoc first (taken_from line t (takes line n))
    (taken_by line (Take line TAKEN_AT_ONCE) (happens (after (takes line n) t) (Take line TAKEN_AT_ONCE)).answer))

pub writes_none : (a : Terminal) (o : PendingText) → Writes a a o o []
writes_none a o = record {
  line = refl;
  numbered = refl;
  several = λ yes. λ w. (w, sym (append-nil o.bytes.items));
  held = λ yes. refl;
  alone = λ one empty. λ w. (w, sym (append-nil o.bytes.items));
  empty = λ one empty. empty;
}

pub writes_both : (a b c : Terminal) (o p q : PendingText) (x y : List ℕ) → Writes a b o p x → Writes b c p q y → Writes a c o q (x ++ y)
writes_both a b c o p q x y f g = record {
  line = g.line ∙ f.line;
  numbered = g.numbered ∙ f.numbered;
  several = λ yes. λ w.
      let first : List ℕ = written_by true a.line a.partial.items x in
      let second : List ℕ = written_by true b.line b.partial.items y in
      let both = adds_both o p q first second (f.several yes) (g.several (f.numbered ∙ yes)) w in
      let same : first ++ second ≡ written_by true a.line a.partial.items (x ++ y) =
      ap (λ n. first ++ written_by true n b.partial.items y) f.line
      ∙ ap (λ h. first ++ written_by true a.line h y) (f.held yes)
      ∙ sym (writes_more true a.line a.partial.items x y) in
      (both.0, both.1 ∙ ap (λ l. o.bytes.items ++ l) same);
  held = λ yes. g.held (f.numbered ∙ yes) ∙ ap (λ h. held_by true h y) (f.held yes) ∙ sym (held_more true a.partial.items x y);
  alone = λ one empty. adds_both o p q x y (f.alone one empty) (g.alone (f.numbered ∙ one) (f.empty one empty));
  empty = λ one empty. g.empty (f.numbered ∙ one) (f.empty one empty);
}

-- the same, if a text is known by another name
pub writes_as : (a b : Terminal) (o p : PendingText) (x y : List ℕ) → x ≡ y → Writes a b o p x → Writes a b o p y
writes_as a b o p x y e w = record {
  line = w.line;
  numbered = w.numbered;
  several = λ yes. λ h. let g = w.several yes h in (g.0, g.1 ∙ ap (λ t. o.bytes.items ++ written_by true a.line a.partial.items t) e);
  held = λ yes. w.held yes ∙ ap (λ t. held_by true a.partial.items t) e;
  alone = λ one empty. λ h. let g = w.alone one empty h in (g.0, g.1 ∙ ap (λ t. o.bytes.items ++ t) e);
  empty = w.empty;
}

taken_here : (line : ℕ) (a : Answer) → taken_by line (Take line TAKEN_AT_ONCE) a ≡ text_in a
taken_here line a =
    let same : (line == line) ≡ true = search rules in
    ap (λ b. cond b (text_in a) []) same

-- n takes, and one more: at the terminal's own line
pub one_further : (line own n : ℕ) (s t u : S) → own ≡ line → t ≡ after (takes line n) s → u ≡ (happens t (Take own TAKEN_AT_ONCE)).state
    → u ≡ after (takes line (n + 1)) s
one_further line own n s t u same before next =
    next ∙ ap (λ m. (happens m (Take own TAKEN_AT_ONCE)).state) before
    ∙ ap (λ l. (happens (after (takes line n) s) (Take l TAKEN_AT_ONCE)).state) same
    ∙ sym (after_more line n s) ∙ ap (λ m. after (takes line m) s) (sym (add-one n))

pub text_further : (line own n : ℕ) (s t : S) → own ≡ line → t ≡ after (takes line n) s
    → taken_from line s (takes line n) ++ text_in (happens t (Take own TAKEN_AT_ONCE)).answer ≡ taken_from line s (takes line (n + 1))
text_further line own n s t same before =
    ap (λ m. taken_from line s (takes line n) ++ text_in (happens m (Take own TAKEN_AT_ONCE)).answer) before
    ∙ ap (λ l. taken_from line s (takes line n) ++ text_in (happens (after (takes line n) s) (Take l TAKEN_AT_ONCE)).answer) same
    ∙ ap (λ x. taken_from line s (takes line n) ++ x)
    (sym (taken_here line (happens (after (takes line n) s) (Take line TAKEN_AT_ONCE)).answer))
    ∙ sym (taken_more line n s) ∙ ap (λ m. taken_from line s (takes line m)) (sym (add-one n))

-- the last of n + 1 takes found nothing
pub last_empty : (line own n : ℕ) (s t : S) → own ≡ line → t ≡ after (takes line n) s
    → text_in (happens t (Take own TAKEN_AT_ONCE)).answer ≡ []
    → text_in (happens (after (takes line (n + 1 - 1)) s) (Take line TAKEN_AT_ONCE)).answer ≡ []
last_empty line own n s t same before none =
    let back : n + 1 - 1 ≡ n = omega arith in
    ap (λ m. text_in (happens (after (takes line m) s) (Take line TAKEN_AT_ONCE)).answer) back
    ∙ ap (λ l. text_in (happens (after (takes line n) s) (Take l TAKEN_AT_ONCE)).answer) (sym same)
    ∙ ap (λ m. text_in (happens m (Take own TAKEN_AT_ONCE)).answer) (sym before) ∙ none
