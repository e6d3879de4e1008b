-- The steps of a stack of texts, each as one event that is passed.
use Rattle.std.proofs.Common.{◌≡◌, ◌↔◌, ℕ, ◌+◌, ◌-◌, ◌<◌, ◌≤◌, Bool, true, false, List, [], ◌∷◌, ◌++◌, length, reverse, Option, Some, None, Ok, Err, inl, inr, refl, sym, ◌∙◌, ap, subst, append_assoc, arith, if◌then◌else◌}
use Rattle.std.proofs.lemmas.Bool.{lt-ltb, le-ltb, cases_lt, cases_Bool, iff_false}
use Rattle.std.proofs.lemmas.List.{append-nil, reverse-append, length-append, length-reverse}
use Rattle.macro_stream.specs.Standing.{Store, Text, Event, Gives, Opens, Skips, Begins, Goes}
use Rattle.macro_stream.specs.Standing.{argument_of, argument_text, item_of, item_events, store_of, standing, in_front, argument_events, plain_events}
use Rattle.macro_stream.specs.Standing.{round_of, text_events, below_events, standing_in, text_at, next_of}
use Rattle.macro_stream.specs.Steps.{Passes, Stands}
use Rattle.macro_stream.proofs.Standing.{behind, items_events-plain, text_events-item, text_events-due, text_events-round, text_events-over}
use Rattle.macro_stream.specs.declared.texts.Range.{Range}
use Rattle.macro_stream.specs.declared.frames.Frame.{Frame}
use Rattle.macro_stream.specs.declared.stream.Stream.{Stream}
use Rattle.macro_stream.specs.declared.stops.Stop.TheVariants as stops
use Rattle.macro_stream.specs.declared.stops.Limit.TheVariants as limits

pass_skipped : (c : ℕ) (a b : List Event) → a ≡ Skips ∷ b → Passes c a c b
pass_skipped c a b e =
    subst (λ (x : List Event). Passes c x c b) (sym e) (record { told = refl; left = refl; counted = refl; shorter = omega arith })

pass_gone : (c : ℕ) (a b : List Event) → a ≡ Goes ∷ b → Passes c a c b
pass_gone c a b e =
    subst (λ (x : List Event). Passes c x c b) (sym e) (record { told = refl; left = refl; counted = refl; shorter = omega arith })

pass_opened : (c depth : ℕ) (a b : List Event) → depth < 200 → a ≡ Opens depth ∷ b → Passes c a c b
pass_opened c depth a b h e =
    subst (λ (x : List Event). Passes c x c b) (sym e) (record {
      told = ap (λ t. if t then next_of c b else Err (stops.Limit limits.Depth)) (lt-ltb depth 200 h);
      left = refl;
      counted = refl;
      shorter = omega arith;
    })

pass_begun : (c : ℕ) (a b : List Event) → c < 50000 → a ≡ Begins ∷ b → Passes c a (c + 1) b
pass_begun c a b h e =
    subst (λ (x : List Event). Passes c x (c + 1) b) (sym e) (record {
      told = ap (λ t. if t then next_of (c + 1) b else Err (stops.Limit limits.Calls)) (lt-ltb c 50000 h);
      left = refl;
      counted = omega arith;
      shorter = omega arith;
    })

stand_given : (c k : ℕ) (a b : List Event) → k < 128 → a ≡ Gives k ∷ b → Stands c a c a (Some k)
stand_given c k a b h e =
    subst (λ (x : List Event). Stands c x c x (Some k)) (sym e) (record {
      told = ap (λ t. if t then Ok (Some k) else Err stops.NotAscii) (lt-ltb k 128 h);
      left = refl;
      counted = omega arith;
    })

-- what stands in a stack whose highest text begins so
standing-in : (m : Store) (top : Frame) (below : List Frame) (es : List Event) →
    text_events m (length below + 1) (text_at top) ≡ es → standing_in m top below ≡ es ++ below_events m (reverse below)
standing-in m top below es e = ap (λ x. x ++ below_events m (reverse below)) e

given_item : (m : Store) (depth : ℕ) (t : Text) → item_of m.items t.position < 256 →
    item_events m depth t.arguments (item_of m.items t.position) ≡ Gives (item_of m.items t.position) ∷ []
given_item m depth t h =
    ap (λ b. if b then Gives (item_of m.items t.position) ∷ [] else argument_events m.items depth (argument_of m t.arguments (item_of m.items t.position - 256)))
    (lt-ltb (item_of m.items t.position) 256 h)

marked_item : (m : Store) (depth : ℕ) (t : Text) → 256 ≤ item_of m.items t.position →
    item_events m depth t.arguments (item_of m.items t.position)
    ≡ argument_events m.items depth (argument_of m t.arguments (item_of m.items t.position - 256))
marked_item m depth t h =
    ap (λ b. if b then Gives (item_of m.items t.position) ∷ [] else argument_events m.items depth (argument_of m t.arguments (item_of m.items t.position - 256)))
    (le-ltb (item_of m.items t.position) 256 h)

empty_mark : (items : List ℕ) (depth : ℕ) (r : Range) → r.end ≤ r.start → argument_events items depth r ≡ Skips ∷ []
empty_mark items depth r h =
    ap (λ b. if b then Opens depth ∷ (plain_events items (r.end - r.start) r.start ++ Goes ∷ []) else Skips ∷ []) (le-ltb r.start r.end h)

full_mark : (items : List ℕ) (depth : ℕ) (r : Range) → r.start < r.end →
    argument_events items depth r ≡ Opens depth ∷ (plain_events items (r.end - r.start) r.start ++ Goes ∷ [])
full_mark items depth r h =
    ap (λ b. if b then Opens depth ∷ (plain_events items (r.end - r.start) r.start ++ Goes ∷ []) else Skips ∷ []) (lt-ltb r.start r.end h)

-- a character of a text
pub standing-character : (m : Store) (top : Frame) (below : List Frame) → top.position < top.range.end → item_of m.items top.position < 256 →
    standing_in m top below
    ≡ Gives (item_of m.items top.position) ∷ (text_events m (length below + 1) (behind (text_at top)) ++ below_events m (reverse below))
standing-character m top below h k =
    standing-in m top below _ (text_events-item m (length below + 1) (text_at top) h
    ∙ ap (λ es. es ++ text_events m (length below + 1) (behind (text_at top))) (given_item m (length below + 1) (text_at top) k))

-- the line end behind a text
pub standing-due : (m : Store) (top : Frame) (below : List Frame) → top.range.end ≤ top.position → top.end_due ≡ true →
    standing_in m top below
    ≡ Gives 10 ∷ (text_events m (length below + 1) (record (text_at top) { end_due = false }) ++ below_events m (reverse below))
standing-due m top below h due = standing-in m top below _ (text_events-due m (length below + 1) (text_at top) h due)

pub stands-character : (c : ℕ) (m : Store) (top : Frame) (below : List Frame) → top.position < top.range.end → item_of m.items top.position < 128 →
    Stands c (standing_in m top below) c (standing_in m top below) (Some (item_of m.items top.position))
stands-character c m top below h k =
    stand_given c (item_of m.items top.position) (standing_in m top below) _ k (standing-character m top below h (omega arith))

pub stands-due : (c : ℕ) (m : Store) (top : Frame) (below : List Frame) → top.range.end ≤ top.position → top.end_due ≡ true →
    Stands c (standing_in m top below) c (standing_in m top below) (Some 10)
stands-due c m top below h due = stand_given c 10 (standing_in m top below) _ (omega arith) (standing-due m top below h due)

pub refused-byte : (c : ℕ) (m : Store) (top : Frame) (below : List Frame) → top.position < top.range.end →
    128 ≤ item_of m.items top.position → item_of m.items top.position < 256 → next_of c (standing_in m top below) ≡ Err stops.NotAscii
refused-byte c m top below h k l =
    ap (λ es. next_of c es) (standing-character m top below h l)
    ∙ ap (λ b. if b then Ok (Some (item_of m.items top.position)) else Err stops.NotAscii) (le-ltb (item_of m.items top.position) 128 k)

-- a mark of nothing
skipped : (m : Store) (top next : Frame) (below : List Frame) → top.position < top.range.end → 256 ≤ item_of m.items top.position →
    text_at next ≡ behind (text_at top) →
    (argument_of m top.arguments (item_of m.items top.position - 256)).end ≤ (argument_of m top.arguments (item_of m.items top.position - 256)).start →
    standing_in m top below ≡ Skips ∷ standing_in m next below
skipped m top next below h k e n =
    let depth : ℕ = length below + 1 in
    let item : item_events m depth top.arguments (item_of m.items top.position) ≡ Skips ∷ [] =
    marked_item m depth (text_at top) k ∙ empty_mark m.items depth (argument_of m top.arguments (item_of m.items top.position - 256)) n in
    standing-in m top below (Skips ∷ text_events m depth (text_at next))
    (text_events-item m depth (text_at top) h
    ∙ (ap (λ es. es ++ text_events m depth (behind (text_at top))) item
    ∙ ap (λ t. Skips ∷ text_events m depth t) (sym e)))

pub passes-skipped : (c : ℕ) (m : Store) (top next : Frame) (below : List Frame) → top.position < top.range.end → 256 ≤ item_of m.items top.position →
    text_at next ≡ behind (text_at top) →
    (argument_of m top.arguments (item_of m.items top.position - 256)).end ≤ (argument_of m top.arguments (item_of m.items top.position - 256)).start →
    Passes c (standing_in m top below) c (standing_in m next below)
passes-skipped c m top next below h k e n =
    pass_skipped c (standing_in m top below) (standing_in m next below) (skipped m top next below h k e n)

-- a mark whose text is put in front
opened : (m : Store) (top next : Frame) (below : List Frame) → top.position < top.range.end → 256 ≤ item_of m.items top.position →
    text_at next ≡ behind (text_at top) →
    (r : Range) → argument_of m top.arguments (item_of m.items top.position - 256) ≡ r → r.start < r.end →
    standing_in m top below
    ≡ Opens (length below + 1) ∷ (((plain_events m.items (r.end - r.start) r.start ++ Goes ∷ []) ++ text_events m (length below + 1) (text_at next)) ++ below_events m (reverse below))
opened m top next below h k e r found full =
    let depth : ℕ = length below + 1 in
    standing-in m top below _
    (text_events-item m depth (text_at top) h
    ∙ (ap (λ es. es ++ text_events m depth (behind (text_at top)))
    (marked_item m depth (text_at top) k ∙ (ap (λ x. argument_events m.items depth x) found ∙ full_mark m.items depth r full))
    ∙ ap (λ t. (Opens depth ∷ (plain_events m.items (r.end - r.start) r.start ++ Goes ∷ [])) ++ text_events m depth t) (sym e)))

argument_events-text : (m : Store) (depth : ℕ) (r : Range) →
    text_events m depth (argument_text r) ≡ plain_events m.items (r.end - r.start) r.start
argument_events-text m depth r =
    ap (λ es. (es ++ []) ++ []) (items_events-plain m depth (r.end - r.start) r.start)
    ∙ simp append-nil

pub passes-opened : (c : ℕ) (m : Store) (top next argument : Frame) (below : List Frame) → top.position < top.range.end →
    256 ≤ item_of m.items top.position → text_at next ≡ behind (text_at top) → (r : Range) →
    argument_of m top.arguments (item_of m.items top.position - 256) ≡ r → r.start < r.end → text_at argument ≡ argument_text r →
    length below + 1 < 200 → Passes c (standing_in m top below) c (standing_in m argument (below ++ next ∷ []))
passes-opened c m top next argument below h k e r found full shown low =
    let depth : ℕ = length below + 1 in
    let back : reverse (below ++ next ∷ []) ≡ next ∷ reverse below = reverse-append below (next ∷ []) in
    let high : List Event = plain_events m.items (r.end - r.start) r.start in
    let rest : List Event = text_events m depth (text_at next) in
    let low_events : List Event = below_events m (reverse below) in
    let new : standing_in m argument (below ++ next ∷ []) ≡ ((high ++ Goes ∷ []) ++ rest) ++ low_events =
    ap (λ t. text_events m (length (below ++ next ∷ []) + 1) t ++ below_events m (reverse (below ++ next ∷ []))) shown
    ∙ (ap (λ es. es ++ below_events m (reverse (below ++ next ∷ []))) (argument_events-text m (length (below ++ next ∷ []) + 1) r)
    ∙ (ap (λ fs. high ++ below_events m fs) back
    ∙ (ap (λ n. high ++ (Goes ∷ (text_events m (n + 1) (text_at next) ++ low_events))) (length-reverse below)
    ∙ (sym (append_assoc high (Goes ∷ []) (rest ++ low_events)) ∙ sym (append_assoc (high ++ Goes ∷ []) rest low_events))))) in
    pass_opened c depth (standing_in m top below) (standing_in m argument (below ++ next ∷ [])) low
    (opened m top next below h k e r found full ∙ ap (λ es. Opens depth ∷ es) (sym new))

pub refused-depth : (c : ℕ) (m : Store) (top next : Frame) (below : List Frame) → top.position < top.range.end →
    256 ≤ item_of m.items top.position → text_at next ≡ behind (text_at top) → (r : Range) →
    argument_of m top.arguments (item_of m.items top.position - 256) ≡ r → r.start < r.end → 200 ≤ length below + 1 →
    next_of c (standing_in m top below) ≡ Err (stops.Limit limits.Depth)
refused-depth c m top next below h k e r found full high =
    ap (λ es. next_of c es) (opened m top next below h k e r found full)
    ∙ ap (λ b. if b
    then next_of c (((plain_events m.items (r.end - r.start) r.start ++ Goes ∷ []) ++ text_events m (length below + 1) (text_at next)) ++ below_events m (reverse below))
    else Err (stops.Limit limits.Depth)) (le-ltb (length below + 1) 200 high)

-- a round that begins
begun : (m : Store) (top : Frame) (below : List Frame) (u : Text) → top.range.end ≤ top.position → top.end_due ≡ false →
    round_of m (text_at top) ≡ Some u →
    standing_in m top below ≡ Begins ∷ (text_events m (length below + 1) u ++ below_events m (reverse below))
begun m top below u h due e = standing-in m top below _ (text_events-round m (length below + 1) (text_at top) u h due e)

pub passes-begun : (c : ℕ) (m : Store) (top next : Frame) (below : List Frame) → top.range.end ≤ top.position → top.end_due ≡ false →
    round_of m (text_at top) ≡ Some (text_at next) → c < 50000 → Passes c (standing_in m top below) (c + 1) (standing_in m next below)
passes-begun c m top next below h due e low =
    pass_begun c (standing_in m top below) (standing_in m next below) low (begun m top below (text_at next) h due e)

pub refused-calls : (c : ℕ) (m : Store) (top : Frame) (below : List Frame) (u : Text) → top.range.end ≤ top.position → top.end_due ≡ false →
    round_of m (text_at top) ≡ Some u → 50000 ≤ c → next_of c (standing_in m top below) ≡ Err (stops.Limit limits.Calls)
refused-calls c m top below u h due e high =
    ap (λ es. next_of c es) (begun m top below u h due e)
    ∙ ap (λ b. if b then next_of (c + 1) (text_events m (length below + 1) u ++ below_events m (reverse below)) else Err (stops.Limit limits.Calls))
    (le-ltb c 50000 high)

-- a text that goes
pub passes-gone : (c : ℕ) (m : Store) (top next : Frame) (below : List Frame) → top.range.end ≤ top.position → top.end_due ≡ false →
    round_of m (text_at top) ≡ None → Passes c (standing_in m top (below ++ next ∷ [])) c (standing_in m next below)
passes-gone c m top next below h due e =
    pass_gone c (standing_in m top (below ++ next ∷ [])) (standing_in m next below)
    (ap (λ es. es ++ below_events m (reverse (below ++ next ∷ []))) (text_events-over m (length (below ++ next ∷ []) + 1) (text_at top) h due e)
    ∙ (ap (λ fs. below_events m fs) (reverse-append below (next ∷ []))
    ∙ ap (λ n. Goes ∷ (text_events m (n + 1) (text_at next) ++ below_events m (reverse below))) (length-reverse below)))

pub stands-ended : (c : ℕ) (m : Store) (top : Frame) → top.range.end ≤ top.position → top.end_due ≡ false →
    round_of m (text_at top) ≡ None → Stands c (standing_in m top []) c (standing_in m top []) None
stands-ended c m top h due e =
    let none : standing_in m top [] ≡ [] = ap (λ es. es ++ []) (text_events-over m 1 (text_at top) h due e) in
    subst (λ (x : List Event). Stands c x c x None) (sym none) (record { told = refl; left = refl; counted = omega arith })

-- what is left behind a character that was read
behind_item : (m : Store) (top next : Frame) (below : List Frame) → top.position < top.range.end → item_of m.items top.position < 256 →
    text_at next ≡ behind (text_at top) → standing_in m top below ≡ Gives (item_of m.items top.position) ∷ standing_in m next below
behind_item m top next below h k e =
    standing-character m top below h k
    ∙ ap (λ t. Gives (item_of m.items top.position) ∷ (text_events m (length below + 1) t ++ below_events m (reverse below))) (sym e)

read_mark : (m : Store) (top next : Frame) (below : List Frame) (k : ℕ) (rest : List Event) → top.position < top.range.end →
    text_at next ≡ behind (text_at top) → standing_in m top below ≡ Gives k ∷ rest → 256 ≤ item_of m.items top.position →
    standing_in m next below ≡ rest
read_mark m top next below k rest h e given high =
    let r : Range = argument_of m top.arguments (item_of m.items top.position - 256) in
    elim (cases_lt r.start r.end) [
      | inl full ↦
          let is : standing_in m top below
          ≡ Opens (length below + 1) ∷ (((plain_events m.items (r.end - r.start) r.start ++ Goes ∷ []) ++ text_events m (length below + 1) (text_at next)) ++ below_events m (reverse below)) =
          opened m top next below h high e r refl full in
          cc (is, given)
      | inr empty ↦
          let is : standing_in m top below ≡ Skips ∷ standing_in m next below = skipped m top next below h high e empty in
          cc (is, given)
    ]

pub read-item : (m : Store) (top next : Frame) (below : List Frame) (k : ℕ) (rest : List Event) → top.position < top.range.end →
    text_at next ≡ behind (text_at top) → standing_in m top below ≡ Gives k ∷ rest → standing_in m next below ≡ rest
read-item m top next below k rest h e given =
    elim (cases_lt (item_of m.items top.position) 256) [
      | inl low ↦
          let is : standing_in m top below ≡ Gives (item_of m.items top.position) ∷ standing_in m next below =
          behind_item m top next below h low e in
          cc (is, given)
      | inr high ↦ read_mark m top next below k rest h e given high
    ]

abbrev pub ended : Text → Text
ended t = record t { end_due = false }

behind_due : (m : Store) (top next : Frame) (below : List Frame) → top.range.end ≤ top.position → top.end_due ≡ true →
    text_at next ≡ ended (text_at top) → standing_in m top below ≡ Gives 10 ∷ standing_in m next below
behind_due m top next below h due e =
    standing-due m top below h due
    ∙ ap (λ t. Gives 10 ∷ (text_events m (length below + 1) t ++ below_events m (reverse below))) (sym e)

over_gives : (m : Store) (below : List Frame) (k : ℕ) (rest : List Event) → below_events m below ≡ Gives k ∷ rest → ⊥
over_gives m [] k rest e = cc
over_gives m (f ∷ fs) k rest e = cc

not_over : (m : Store) (top : Frame) (below : List Frame) (k : ℕ) (rest : List Event) → top.range.end ≤ top.position → top.end_due ≡ false →
    (found : Option Text) → round_of m (text_at top) ≡ found → standing_in m top below ≡ Gives k ∷ rest → ⊥
not_over m top below k rest h due None e given =
    over_gives m (reverse below) k rest
    (sym (standing-in m top below [] (text_events-over m (length below + 1) (text_at top) h due e)) ∙ given)
not_over m top below k rest h due (Some u) e given =
    let is : standing_in m top below ≡ Begins ∷ (text_events m (length below + 1) u ++ below_events m (reverse below)) = begun m top below u h due e in
    cc (is, given)

pub read-end : (m : Store) (top next : Frame) (below : List Frame) (k : ℕ) (rest : List Event) → top.range.end ≤ top.position →
    text_at next ≡ ended (text_at top) → standing_in m top below ≡ Gives k ∷ rest → standing_in m next below ≡ rest
read-end m top next below k rest h e given =
    elim (cases_Bool top.end_due) [
      | inl due ↦
          let is : standing_in m top below ≡ Gives 10 ∷ standing_in m next below = behind_due m top next below h due e in
          cc (is, given)
      | inr none ↦ absurd (not_over m top below k rest h none (round_of m (text_at top)) refl given)
    ]

-- the steps, as the functions take them
pub not_empty : (b : Bool) (r : Range) → ((b ≡ true) ↔ (r.end ≤ r.start)) → b ≡ false → r.start < r.end
not_empty b r iff e = elim (cases_lt r.start r.end) [ inl h ↦ h | inr h ↦ absurd (iff_false iff e h) ]

abbrev pub past : Frame → Frame
past f = record f { position = f.position + 1 }

argument_found : (s : Stream) (item : ℕ) (r : Range) → item ≡ item_of s.items.items s.top.position →
    r ≡ argument_of (store_of s) s.top.arguments (item - 256) →
    argument_of (store_of s) s.top.arguments (item_of s.items.items s.top.position - 256) ≡ r
argument_found s item r e f = sym (f ∙ ap (λ n. argument_of (store_of s) s.top.arguments (n - 256)) e)

pub inside-skipped : (s : Stream) (item : ℕ) (r : Range) → s.top.position < s.top.range.end → item ≡ item_of s.items.items s.top.position →
    256 ≤ item → r ≡ argument_of (store_of s) s.top.arguments (item - 256) → r.end ≤ r.start →
    Passes s.calls (standing s) s.calls (standing_in (store_of s) (past s.top) s.lower.items)
inside-skipped s item r h e k f n =
    passes-skipped s.calls (store_of s) s.top (past s.top) s.lower.items h (subst (λ (x : ℕ). 256 ≤ x) e k) refl
    (subst (λ (x : Range). x.end ≤ x.start) (sym (argument_found s item r e f)) n)

pub inside-refused : (s : Stream) (item : ℕ) (r : Range) → s.top.position < s.top.range.end → item ≡ item_of s.items.items s.top.position →
    256 ≤ item → r ≡ argument_of (store_of s) s.top.arguments (item - 256) → r.start < r.end → 200 ≤ length s.lower.items + 1 →
    next_of s.calls (standing s) ≡ Err (stops.Limit limits.Depth)
inside-refused s item r h e k f n high =
    refused-depth s.calls (store_of s) s.top (past s.top) s.lower.items h (subst (λ (x : ℕ). 256 ≤ x) e k) refl r (argument_found s item r e f) n high

low_depth : (n : ℕ) → (200 ≤ n → ⊥) → n < 200
low_depth n h = elim (cases_lt n 200) [ inl low ↦ low | inr high ↦ absurd (h high) ]

pub inside-opened : (s new : Stream) (item : ℕ) (r : Range) → s.top.position < s.top.range.end → item ≡ item_of s.items.items s.top.position →
    256 ≤ item → r ≡ argument_of (store_of s) s.top.arguments (item - 256) → r.start < r.end → (200 ≤ length s.lower.items + 1 → ⊥) →
    new.lower.items ≡ s.lower.items ++ past s.top ∷ [] → new ≡ record s { lower = new.lower; top = new.top } → text_at new.top ≡ argument_text r →
    Passes s.calls (standing s) new.calls (standing new)
inside-opened s new item r h e k f n low lower rest shown =
    let calls : new.calls ≡ s.calls = ap (λ (x : Stream). x.calls) rest in
    let stands : standing new ≡ standing_in (store_of s) new.top (s.lower.items ++ past s.top ∷ []) =
    ap (λ (x : Stream). standing_in (store_of x) new.top new.lower.items) rest
    ∙ ap (λ (l : List Frame). standing_in (store_of s) new.top l) lower in
    subst (λ (x : ℕ). Passes s.calls (standing s) x (standing new)) (sym calls)
    (subst (λ (x : List Event). Passes s.calls (standing s) s.calls x) (sym stands)
    (passes-opened s.calls (store_of s) s.top (past s.top) new.top s.lower.items h (subst (λ (x : ℕ). 256 ≤ x) e k) refl r
    (argument_found s item r e f) n shown (low_depth (length s.lower.items + 1) low)))

pub round-begun : (s new : Stream) → s.top.range.end ≤ s.top.position → s.top.end_due ≡ false →
    round_of (store_of s) (text_at s.top) ≡ Some (text_at new.top) → s.calls < 50000 →
    new ≡ record s { top = new.top; calls = s.calls + 1 } → Passes s.calls (standing s) new.calls (standing new)
round-begun s new h due e low rest =
    let calls : new.calls ≡ s.calls + 1 = ap (λ (x : Stream). x.calls) rest in
    let stands : standing new ≡ standing_in (store_of s) new.top s.lower.items =
    ap (λ (x : Stream). standing_in (store_of x) new.top x.lower.items) rest in
    subst (λ (x : ℕ). Passes s.calls (standing s) x (standing new)) (sym calls)
    (subst (λ (x : List Event). Passes s.calls (standing s) (s.calls + 1) x) (sym stands)
    (passes-begun s.calls (store_of s) s.top new.top s.lower.items h due e low))

pub round-refused : (s : Stream) → s.top.range.end ≤ s.top.position → s.top.end_due ≡ false → (found : Option Text) →
    round_of (store_of s) (text_at s.top) ≡ found → (found ≡ None → ⊥) → 50000 ≤ s.calls →
    next_of s.calls (standing s) ≡ Err (stops.Limit limits.Calls)
round-refused s h due None e some high = absurd (some refl)
round-refused s h due (Some u) e some high = refused-calls s.calls (store_of s) s.top s.lower.items u h due e high

pub popped : (s after : Stream) (next : Frame) (below : List Frame) → s.top.range.end ≤ s.top.position → s.top.end_due ≡ false →
    round_of (store_of s) (text_at s.top) ≡ None → after ≡ s → after.lower.items ≡ below ++ next ∷ [] →
    Passes s.calls (standing s) after.calls (standing_in (store_of after) next below)
popped s after next below h due e same lower =
    let low : s.lower.items ≡ below ++ next ∷ [] = ap (λ (x : Stream). x.lower.items) (sym same) ∙ lower in
    subst (λ (x : Stream). Passes s.calls (standing s) x.calls (standing_in (store_of x) next below)) (sym same)
    (subst (λ (l : List Frame). Passes s.calls (standing_in (store_of s) s.top l) s.calls (standing_in (store_of s) next below)) (sym low)
    (passes-gone s.calls (store_of s) s.top next below h due e))

pushed : (m : Store) (top next : Frame) (below : List Frame) →
    standing_in m next (below ++ top ∷ []) ≡ text_events m (length below + 2) (text_at next) ++ Goes ∷ standing_in m top below
pushed m top next below =
    let long : length (below ++ top ∷ []) + 1 ≡ length below + 2 = omega (arith, length-append below (top ∷ [])) in
    ap (λ fs. text_events m (length (below ++ top ∷ []) + 1) (text_at next) ++ below_events m fs) (reverse-append below (top ∷ []))
    ∙ (ap (λ n. text_events m n (text_at next) ++ (Goes ∷ (text_events m (length (reverse below) + 1) (text_at top) ++ below_events m (reverse below)))) long
    ∙ ap (λ n. text_events m (length below + 2) (text_at next) ++ (Goes ∷ (text_events m (n + 1) (text_at top) ++ below_events m (reverse below)))) (length-reverse below))

pub put_in_front : (old new : Stream) (t : Text) → new.lower.items ≡ old.lower.items ++ old.top ∷ [] →
    new ≡ record old { lower = new.lower; top = new.top } → text_at new.top ≡ t → standing new ≡ in_front old t
put_in_front old new t lower rest shown =
    ap (λ (x : Stream). standing_in (store_of x) new.top new.lower.items) rest
    ∙ (ap (λ (l : List Frame). standing_in (store_of old) new.top l) lower
    ∙ (pushed (store_of old) old.top new.top old.lower.items
    ∙ ap (λ x. text_events (store_of old) (length old.lower.items + 2) x ++ Goes ∷ standing old) shown))

pub ruleset reads = (read-item, read-end)
