-- Lemmas on the items of a line that spell locks.
use Rattle.std.proofs.Common.{◌≡◌, ◌<◌, ◌≤◌, ◌+◌, ◌-◌, ◌++◌, ◌∙◌, ◌==◌, ℕ, Bool, true, false, List, [], ◌∷◌, Some, None, refl, length, take, drop}
use Rattle.std.proofs.Common.{get_or, take-append-drop, length-take-le, take_all, arith, ap, sym, eq-eqb, All, cond}
use Rattle.std.proofs.lemmas.Bool.Decides.{nat_tests}
use Rattle.std.proofs.lemmas.List.{drop_more, take_rest}
use Rattle.std.proofs.lemmas.List.Elements.{All-nil, All-cons, All-head, All-tail}
use Rattle.std.proofs.lemmas.List.Splits.{slice_split-cons_no, slice_split_at, slice_split_none}
use Rattle.std.specs.List.{list_all, slice_split, onto_first}
use Rattle.queue_script.proofs.LockLemmas.{and_parts, both}
use Rattle.std.specs.Prelude.{Option, IfSome, option_map, option_and_then}
use Rattle.std.specs.Borrow.{Bor}
use Rattle.queue_script.specs.declared.locks.LockName.{LockName}
use Rattle.queue_script.specs.declared.locks.LockName.TheVariants.{Spelled, Coded}
use Rattle.queue_script.specs.Options.{no_options, options_from, option_of, with_option, is_option_character, SpellsOptions}
use Rattle.queue_script.specs.declared.options.LockOption.{LockOption}
use Rattle.queue_script.specs.declared.options.Options.{Options}
use Rattle.queue_script.specs.Locks.{is_name_character, IsFirstLock, user_code, name_of_characters, name_of, lock_of_parts}
use Rattle.script_io.specs.Numbers.{parts, texts_in}

-- the first item of some has this name, these options, and these items behind it
abbrev SplitsLock : List ℕ → List ℕ → List (List ℕ) → List (List ℕ) → Type 0
SplitsLock items name options others =
    (item : List ℕ) × (parts 32 items ≡ item ∷ others) × (parts 47 item ≡ name ∷ options)

-- ---- characters that end neither a name nor an option

option-no_blank : (c : ℕ) → is_option_character c ≡ true → (c == 32) ≡ false
option-no_blank c h = grind (arith, nat_tests)

option-no_slash : (c : ℕ) → is_option_character c ≡ true → (c == 47) ≡ false
option-no_slash c h = grind (arith, nat_tests)

-- characters of some kind do not have a character that is not of the kind
unlike : (kind : ℕ → Bool) (s : ℕ) (text : List ℕ) → ((c : ℕ) → kind c ≡ true → (c == s) ≡ false) → list_all kind text ≡ true → All (λ b. (b == s) ≡ false) text
unlike kind s [] differs h = All-nil (λ b. (b == s) ≡ false)
unlike kind s (c ∷ cs) differs h =
    let p = and_parts (kind c) (list_all kind cs) h in
    All-cons (λ b. (b == s) ≡ false) c cs (differs c p.0) (unlike kind s cs differs p.1)

no_blank : (text : List ℕ) → list_all is_option_character text ≡ true → All (λ b. (b == 32) ≡ false) text
no_blank text h = unlike is_option_character 32 text option-no_blank h

no_slash : (text : List ℕ) → list_all is_option_character text ≡ true → All (λ b. (b == 47) ≡ false) text
no_slash text h = unlike is_option_character 47 text option-no_slash h

-- characters that are no separators stand in front of the first part
in_front : (s : ℕ) (front text first : List ℕ) (more : List (List ℕ)) → All (λ b. (b == s) ≡ false) front
    → parts s text ≡ first ∷ more
    → parts s (front ++ text) ≡ (front ++ first) ∷ more
unfolding parts
in_front s [] text first more differ e = e
in_front s (c ∷ cs) text first more differ e =
    slice_split-cons_no (λ b. b == s) c (cs ++ text) (All-head (λ b. (b == s) ≡ false) c cs differ)
    ∙ ap (onto_first c) (in_front s cs text first more (All-tail (λ b. (b == s) ≡ false) c cs differ) e)

-- a text at a place
at : (text : List ℕ) (n : ℕ) → n < length text → text ≡ take n text ++ get_or text n 0 ∷ drop (n + 1) text
at text n within = sym (take-append-drop n text) ∙ ap (λ l. take n text ++ l) (drop_more text n 0 within)

alone-blank : (name : List ℕ) → list_all is_option_character name ≡ true → parts 32 name ≡ name ∷ []
unfolding parts
alone-blank name apart = slice_split_none (λ b. b == 32) name (no_blank name apart)

alone-slash : (name : List ℕ) → list_all is_option_character name ≡ true → parts 47 name ≡ name ∷ []
unfolding parts
alone-slash name apart = slice_split_none (λ b. b == 47) name (no_slash name apart)

splits-end : (items : List ℕ) (n : ℕ) → n ≡ length items → list_all is_option_character (take n items) ≡ true
    → SplitsLock items (take n items) [] []
splits-end items n end apart =
    let whole : take n items ≡ items = take_all n items (omega arith) in
    (take n items, ap (parts 32) (sym whole) ∙ alone-blank (take n items) apart, alone-slash (take n items) apart)

splits-blank : (items : List ℕ) (n : ℕ) → n < length items → get_or items n 0 ≡ 32 → list_all is_option_character (take n items) ≡ true
    → SplitsLock items (take n items) [] (parts 32 (take (length items - (n + 1)) (drop (n + 1) items)))
unfolding parts
splits-blank items n within here apart = (
  take n items,
  ap (slice_split (λ b. b == 32)) (at items n within)
      ∙ slice_split_at (λ b. b == 32) (take n items) (get_or items n 0) (drop (n + 1) items) (no_blank (take n items) apart) (eq-eqb _ _ here)
      ∙ ap (λ l. take n items ∷ parts 32 l) (sym (take_rest items (n + 1))),
  alone-slash (take n items) apart,
)

behind-slash : (rest first : List ℕ) (more : List (List ℕ)) (c : ℕ) → c ≡ 47 → parts 32 rest ≡ first ∷ more → parts 32 (c ∷ rest) ≡ (c ∷ first) ∷ more
behind-slash rest first more c is e =
    in_front 32 (c ∷ []) rest first more
    (All-cons (λ b. (b == 32) ≡ false) c [] (grind (arith, nat_tests)) (All-nil (λ b. (b == 32) ≡ false))) e

splits-slash : (items options : List ℕ) (others : List (List ℕ)) (n : ℕ) → n < length items → get_or items n 0 ≡ 47
    → list_all is_option_character (take n items) ≡ true
    → parts 32 (take (length items - (n + 1)) (drop (n + 1) items)) ≡ options ∷ others
    → SplitsLock items (take n items) (parts 47 options) others
unfolding parts
splits-slash items options others n within here apart split =
    let rest : parts 32 (drop (n + 1) items) ≡ options ∷ others = ap (parts 32) (sym (take_rest items (n + 1))) ∙ split in (
      take n items ++ get_or items n 0 ∷ options,
      ap (parts 32) (at items n within)
          ∙ in_front 32 (take n items) (get_or items n 0 ∷ drop (n + 1) items) (get_or items n 0 ∷ options) others
          (no_blank (take n items) apart)
          (behind-slash (drop (n + 1) items) options others (get_or items n 0) here rest),
      slice_split_at (λ b. b == 47) (take n items) (get_or items n 0) options (no_slash (take n items) apart) (eq-eqb _ _ here),
    )

-- ---- the name of a lock

lock_named : (text : List ℕ) (options : List (List ℕ)) (name : LockName) → name_of text ≡ Some name
    → lock_of_parts (text ∷ options) ≡ option_map (λ o. record { name = name; options = o }) (options_from no_options options)
lock_named text options name is =
    ap (option_and_then (λ n. option_map (λ o. record { name = n; options = o }) (options_from no_options options))) is

name-no_code : (c : ℕ) → is_name_character c ≡ true → (c == 35) ≡ false
name-no_code c h = grind (arith, nat_tests)

name-apart : (c : ℕ) → is_name_character c ≡ true → is_option_character c ≡ true
name-apart c h = grind (arith, nat_tests)

named : (name : List ℕ) → list_all is_name_character name ≡ true → 0 < length name → name_of name ≡ Some (Spelled name)
named [] h some = absurd (omega arith)
named (c ∷ cs) h some =
    let p = and_parts (is_name_character c) (list_all is_name_character cs) h in
    ap (λ b. cond b (option_map Coded (user_code cs)) (name_of_characters (c ∷ cs))) (name-no_code c p.0)
    ∙ ap (λ b. cond b (Some (Spelled (c ∷ cs))) None) h

-- the characters in front of a text are a name
pub characters-name : (text : List ℕ) (n : ℕ) → (n ≡ 0 → ⊥) → n ≤ length text → list_all is_name_character (take n text) ≡ true
    → name_of (take n text) ≡ Some (Spelled (take n text))
characters-name text n some within h = let e = length-take-le n text within in named (take n text) h (omega arith)

-- and none of them ends it
pub characters-apart : (name : List ℕ) → list_all is_name_character name ≡ true → list_all is_option_character name ≡ true
characters-apart [] h = refl
characters-apart (c ∷ cs) h =
    let p = and_parts (is_name_character c) (list_all is_name_character cs) h in
    both (is_option_character c) (list_all is_option_character cs) (name-apart c p.0) (characters-apart cs p.1)

-- ---- the first lock of some items

pub alone-end : (items : List ℕ) (n : ℕ) (name : LockName) → n ≡ length items → list_all is_option_character (take n items) ≡ true
    → name_of (take n items) ≡ Some name
    → IsFirstLock (parts 32 items) (Some (record { name = name; options = no_options })) []
alone-end items n name end apart is =
    let s = splits-end items n end apart in
    (s.0, s.1, ap lock_of_parts s.2 ∙ lock_named (take n items) [] name is)

pub alone-more : (items : List ℕ) (n : ℕ) (name : LockName) → n < length items → get_or items n 0 ≡ 32 → list_all is_option_character (take n items) ≡ true
    → name_of (take n items) ≡ Some name
    → IsFirstLock (parts 32 items) (Some (record { name = name; options = no_options }))
    (parts 32 (take (length items - (n + 1)) (drop (n + 1) items)))
alone-more items n name within here apart is =
    let s = splits-blank items n within here apart in
    (s.0, s.1, ap lock_of_parts s.2 ∙ lock_named (take n items) [] name is)

-- a name in characters alone
pub plain-end : (items : List ℕ) (n : ℕ) → (n ≡ 0 → ⊥) → n ≡ length items → list_all is_name_character (take n items) ≡ true
    → IsFirstLock (parts 32 items) (Some (record { name = Spelled (take n items); options = no_options })) []
plain-end items n some end named =
    alone-end items n (Spelled (take n items)) end (characters-apart (take n items) named) (characters-name items n some (omega arith) named)

pub plain-all : (items : List ℕ) → 0 < length items → list_all is_name_character items ≡ true
    → IsFirstLock (parts 32 items) (Some (record { name = Spelled items; options = no_options })) []
plain-all items some named =
    let whole : take (length items) items ≡ items = take_all (length items) items (omega arith) in
    rw whole at (plain-end items (length items) (λ e. omega arith) refl (rw whole named))

pub plain-more : (items : List ℕ) (n : ℕ) → (n ≡ 0 → ⊥) → n < length items → get_or items n 0 ≡ 32 → list_all is_name_character (take n items) ≡ true
    → IsFirstLock (parts 32 items) (Some (record { name = Spelled (take n items); options = no_options }))
    (parts 32 (take (length items - (n + 1)) (drop (n + 1) items)))
plain-more items n some within here named =
    alone-more items n (Spelled (take n items)) within here (characters-apart (take n items) named) (characters-name items n some (omega arith) named)

pub with_options : (items : List ℕ) (others : List (List ℕ)) (o : Options) (n : ℕ) (name : LockName) → n < length items
    → get_or items n 0 ≡ 47
    → list_all is_option_character (take n items) ≡ true
    → SpellsOptions no_options (take (length items - (n + 1)) (drop (n + 1) items)) o others
    → name_of (take n items) ≡ Some name
    → IsFirstLock (parts 32 items) (Some (record { name = name; options = o })) others
with_options items others o n name within here apart spells is =
    let s = splits-slash items spells.0 others n within here apart spells.1 in (
      s.0,
      s.1,
      ap lock_of_parts s.2 ∙ lock_named (take n items) (parts 47 spells.0) name is
          ∙ ap (option_map (λ os. record { name = name; options = os })) spells.2,
    )

-- the options behind a name, where they are right
pub all-behind : (text : List ℕ) (n : ℕ) (o : Option (Options × Option (Bor (List ℕ)))) → n < length text → get_or text n 0 ≡ 47
    → list_all is_option_character (take n text) ≡ true
    → IfSome o (λ r. SpellsOptions no_options (take (length text - (n + 1)) (drop (n + 1) text)) r.0 (texts_in 32 r.1))
    → IfSome o
    (λ r. (name : LockName) → name_of (take n text) ≡ Some name → IsFirstLock (parts 32 text) (Some (record { name = name; options = r.0 })) (texts_in 32 r.1))
all-behind text n None within here apart h = h
all-behind text n (Some r) within here apart spells = λ name is. with_options text (texts_in 32 r.1) r.0 n name within here apart spells is

-- ---- the options in front of some items

one_more : (before next : Options) (text : List ℕ) (more : List (List ℕ)) (option : LockOption) → option_of text ≡ Some option
    → with_option before option ≡ Some next
    → options_from before (text ∷ more) ≡ options_from next more
one_more before next text more option read fits =
    ap (option_and_then (λ o. option_and_then (λ n. options_from n more) (with_option before o))) read ∙ ap (option_and_then (λ n. options_from n more)) fits

pub options-end : (before next : Options) (text : List ℕ) (n : ℕ) (option : LockOption) → n ≡ length text → list_all is_option_character (take n text) ≡ true
    → option_of (take n text) ≡ Some option → with_option before option ≡ Some next → SpellsOptions before text next []
unfolding parts
options-end before next text n option end apart read fits =
    let whole : take n text ≡ text = take_all n text (omega arith) in (
      take n text,
      ap (parts 32) (sym whole) ∙ slice_split_none (λ b. b == 32) (take n text) (no_blank (take n text) apart),
      ap (options_from before) (slice_split_none (λ b. b == 47) (take n text) (no_slash (take n text) apart))
          ∙ one_more before next (take n text) [] option read fits,
    )

pub options-blank : (before next : Options) (text : List ℕ) (n : ℕ) (option : LockOption) → n < length text → get_or text n 0 ≡ 32
    → list_all is_option_character (take n text) ≡ true
    → option_of (take n text) ≡ Some option → with_option before option ≡ Some next
    → SpellsOptions before text next (parts 32 (take (length text - (n + 1)) (drop (n + 1) text)))
unfolding parts
options-blank before next text n option within here apart read fits = (
  take n text,
  ap (slice_split (λ b. b == 32)) (at text n within)
      ∙ slice_split_at (λ b. b == 32) (take n text) (get_or text n 0) (drop (n + 1) text) (no_blank (take n text) apart) (eq-eqb _ _ here)
      ∙ ap (λ l. take n text ∷ parts 32 l) (sym (take_rest text (n + 1))),
  ap (options_from before) (slice_split_none (λ b. b == 47) (take n text) (no_slash (take n text) apart))
      ∙ one_more before next (take n text) [] option read fits,
)

pub options-slash : (before next last : Options) (text : List ℕ) (others : List (List ℕ)) (n : ℕ) (option : LockOption)
    → n < length text → get_or text n 0 ≡ 47
    → list_all is_option_character (take n text) ≡ true
    → option_of (take n text) ≡ Some option → with_option before option ≡ Some next
    → SpellsOptions next (take (length text - (n + 1)) (drop (n + 1) text)) last others → SpellsOptions before text last others
unfolding parts
options-slash before next last text others n option within here apart read fits spells =
    let rest : parts 32 (drop (n + 1) text) ≡ spells.0 ∷ others = ap (parts 32) (sym (take_rest text (n + 1))) ∙ spells.1 in (
      take n text ++ get_or text n 0 ∷ spells.0,
      ap (parts 32) (at text n within)
          ∙ in_front 32 (take n text) (get_or text n 0 ∷ drop (n + 1) text) (get_or text n 0 ∷ spells.0) others (no_blank (take n text) apart)
          (behind-slash (drop (n + 1) text) spells.0 others (get_or text n 0) here rest),
      ap (options_from before) (slice_split_at (λ b. b == 47) (take n text) (get_or text n 0) spells.0 (no_slash (take n text) apart) (eq-eqb _ _ here))
          ∙ one_more before next (take n text) (parts 47 spells.0) option read fits ∙ spells.2,
    )
