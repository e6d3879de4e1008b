-- Lemmas on events that happen several times.
use Rattle.std.proofs.Common.{◌≡◌, ◌<◌, ◌≤◌, ◌+◌, ◌-◌, ◌++◌, ◌∙◌, ℕ, suc, cond, List, [], ◌∷◌, Option, Some, None, length}
use Rattle.std.proofs.Common.{drop, replicate, refl, ap, sym, arith, append_assoc, append-nil, get_or}
use Rattle.std.proofs.lemmas.List.{drop_more, drop_all}
use Rattle.std.proofs.lemmas.Bool.{lt-ltb, le-ltb}
use Rattle.word36.specs.declared.sizes.TheConstants.{TAKEN_AT_ONCE}
use Rattle.machine.specs.Machine.{S, happens, after}
use Rattle.machine.specs.declared.event.Answer.{Answer}
use Rattle.machine.specs.declared.event.Answer.TheVariants.{Ran, Idle, Done, Text, JobNumber, Refused}
use Rattle.machine.specs.declared.event.Event.{Event}
use Rattle.machine.specs.declared.event.Event.TheVariants as event
use Rattle.machine.specs.declared.event.RefusedEvent.{RefusedEvent}
use Rattle.op_script.specs.Events.{Typing, refusal_in, typed_with, typed_by, Taking, taken_with, taken_by}

-- ---- one event again and again

one-more : (k n : ℕ) → k < n → n - k ≡ suc (n - (k + 1))
one-more k n h = omega arith

none-left : (k n : ℕ) → n ≤ k → n - k ≡ 0
none-left k n h = omega arith

pub repeat-start : (n : ℕ) (e : Event) (s : S) → after (replicate (n - 0) e) s ≡ after (replicate n e) s
repeat-start n e s = ap (λ m. after (replicate m e) s) (let h : n - 0 ≡ n = omega arith in h)

pub repeat-step : (k n : ℕ) (e : Event) (s t w : S) → k < n → t ≡ (happens s e).state → after (replicate (n - k) e) s ≡ w
    → after (replicate (n - (k + 1)) e) t ≡ w
repeat-step k n e s t w within happened before =
    ap (after (replicate (n - (k + 1)) e)) happened ∙ sym (ap (λ m. after (replicate m e) s) (one-more k n within)) ∙ before

pub repeat-end : (k n : ℕ) (e : Event) (s w : S) → n ≤ k → after (replicate (n - k) e) s ≡ w → s ≡ w
repeat-end k n e s w end before = sym (ap (λ m. after (replicate m e) s) (none-left k n end)) ∙ before

-- ---- characters that are typed

typed_by-first : (c : ℕ) (more : List ℕ) (s : S) (line : ℕ)
    → typed_by (c ∷ more) s line
    ≡ typed_with (happens s (event.Typed line c)).state (refusal_in (happens s (event.Typed line c)).answer)
    (typed_by more (happens s (event.Typed line c)).state line)
unfolding typed_by
typed_by-first c more s line = refl

module _ (text : List ℕ) (i line c : ℕ) (s t : S) (w : Typing) (within : i < length text) (here : c ≡ get_or text i c)
    (happened : t ≡ (happens s (event.Typed line c)).state) (before : typed_by (drop i text) s line ≡ w) where
  typed-now : (r : Option RefusedEvent) → r ≡ refusal_in (happens s (event.Typed line c)).answer → typed_with t r (typed_by (drop (i + 1) text) t line) ≡ w
  typed-now r refused =
      ap (λ u. typed_with u r (typed_by (drop (i + 1) text) u line)) happened
      ∙ ap (λ o. typed_with (happens s (event.Typed line c)).state o (typed_by (drop (i + 1) text) (happens s (event.Typed line c)).state line)) refused
      ∙ sym (typed_by-first c (drop (i + 1) text) s line)
      ∙ ap (λ d. typed_by (d ∷ drop (i + 1) text) s line) here
      ∙ sym (ap (λ l. typed_by l s line) (drop_more text i c within)) ∙ before

  pub typed-more : None ≡ refusal_in (happens s (event.Typed line c)).answer → typed_by (drop (i + 1) text) t line ≡ w
  typed-more refused = typed-now None refused

  pub typed-refused : (r : RefusedEvent) → Some r ≡ refusal_in (happens s (event.Typed line c)).answer → record { machine = t; refusal = Some r } ≡ w
  typed-refused r refused = typed-now (Some r) refused

pub typed-end : (text : List ℕ) (i line : ℕ) (s : S) (w : Typing) → length text ≤ i → typed_by (drop i text) s line ≡ w
    → record { machine = s; refusal = None } ≡ w
unfolding typed_by
typed-end text i line s w end before = sym (ap (λ l. typed_by l s line) (drop_all i text end)) ∙ before

-- ---- characters that are taken

-- what was taken already stands before what is still taken
abbrev pub behind : List ℕ → Taking → Taking
behind text t = record t { text = text ++ t.text }

taken_by-first : (n : ℕ) (e : Event) (s : S) → taken_by (suc n) e s ≡ taken_with (happens s e).state (happens s e).answer (taken_by n e (happens s e).state)
unfolding taken_by
taken_by-first n e s = refl

pub taken-start : (n : ℕ) (e : Event) (s : S) (text : List ℕ) → text ≡ [] → behind text (taken_by (n - 0) e s) ≡ taken_by n e s
taken-start n e s text empty = ap (λ l. behind l (taken_by (n - 0) e s)) empty ∙ ap (λ m. taken_by m e s) (let h : n - 0 ≡ n = omega arith in h)

module _ (k n : ℕ) (e : Event) (s t : S) (text : List ℕ) (w : Taking) (within : k < n) (happened : t ≡ (happens s e).state)
    (before : behind text (taken_by (n - k) e s) ≡ w) where
  taken-now : (a : Answer) → a ≡ (happens s e).answer → behind text (taken_with t a (taken_by (n - (k + 1)) e t)) ≡ w
  taken-now a answered =
      ap (λ u. behind text (taken_with u a (taken_by (n - (k + 1)) e u))) happened
      ∙ ap (λ b. behind text (taken_with (happens s e).state b (taken_by (n - (k + 1)) e (happens s e).state))) answered
      ∙ ap (behind text) (sym (taken_by-first (n - (k + 1)) e s) ∙ sym (ap (λ m. taken_by m e s) (one-more k n within))) ∙ before

  pub taken-last : (taken text' : List ℕ) → Text taken ≡ (happens s e).answer → length taken < TAKEN_AT_ONCE → text' ≡ text ++ taken
      → record { machine = t; text = text'; refusal = None } ≡ w
  taken-last taken text' answered short pushed =
      ap (λ l. record { machine = t; text = l; refusal = None }) pushed
      ∙ sym
      (ap
      (λ b. behind text
      (cond b (record { machine = t; text = taken; refusal = None }) (behind taken (taken_by (n - (k + 1)) e t))))
      (lt-ltb (length taken) TAKEN_AT_ONCE short))
      ∙ taken-now (Text taken) answered

  pub taken-more : (taken text' : List ℕ) → Text taken ≡ (happens s e).answer → TAKEN_AT_ONCE ≤ length taken → text' ≡ text ++ taken
      → behind text' (taken_by (n - (k + 1)) e t) ≡ w
  taken-more taken text' answered long pushed =
      ap (λ l. behind l (taken_by (n - (k + 1)) e t)) pushed
      ∙ ap
      (λ l.
      record { machine = (taken_by (n - (k + 1)) e t).machine; text = l; refusal = (taken_by (n - (k + 1)) e t).refusal })
      (append_assoc text taken (taken_by (n - (k + 1)) e t).text)
      ∙ sym
      (ap
      (λ b. behind text
      (cond b (record { machine = t; text = taken; refusal = None }) (behind taken (taken_by (n - (k + 1)) e t))))
      (le-ltb (length taken) TAKEN_AT_ONCE long))
      ∙ taken-now (Text taken) answered

  pub taken-refused : (r : RefusedEvent) → Refused r ≡ (happens s e).answer → record { machine = t; text = text; refusal = Some r } ≡ w
  taken-refused r answered =
      ap (λ l. record { machine = t; text = l; refusal = Some r }) (sym (append-nil text)) ∙ taken-now (Refused r) answered

  pub taken-other : (a : Answer) → a ≡ (happens s e).answer → ((text : List ℕ) → a ≡ Text text → ⊥) → ((r : RefusedEvent) → a ≡ Refused r → ⊥)
      → record { machine = t; text = text; refusal = None } ≡ w
  taken-other a answered no_text no_refusal =
      ap (λ l. record { machine = t; text = l; refusal = None }) (sym (append-nil text))
      ∙ ap (behind text) (other a no_text no_refusal) ∙ taken-now a answered
    where
      other : (a : Answer) → ((text : List ℕ) → a ≡ Text text → ⊥) → ((r : RefusedEvent) → a ≡ Refused r → ⊥)
          → record { machine = t; text = []; refusal = None } ≡ taken_with t a (taken_by (n - (k + 1)) e t)
      other (Ran j) no_text no_refusal = refl
      other Idle no_text no_refusal = refl
      other Done no_text no_refusal = refl
      other (Text l) no_text no_refusal = absurd (no_text l refl)
      other (JobNumber j) no_text no_refusal = refl
      other (Refused r) no_text no_refusal = absurd (no_refusal r refl)

pub taken-end : (k n : ℕ) (e : Event) (s : S) (text : List ℕ) (w : Taking) → n ≤ k → behind text (taken_by (n - k) e s) ≡ w
    → record { machine = s; text = text; refusal = None } ≡ w
unfolding taken_by
taken-end k n e s text w end before =
    ap (λ l. record { machine = s; text = l; refusal = None }) (sym (append-nil text))
    ∙ sym (ap (λ m. behind text (taken_by m e s)) (none-left k n end)) ∙ before
