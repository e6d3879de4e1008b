-- A name, character by character.
use Rattle.std.proofs.Common.{◌≡◌, ◌≢◌, ℕ, suc, ◌+◌, ◌-◌, ◌<◌, ◌≤◌, List, [], ◌∷◌, ◌++◌, length, map, true, false, cond}
use Rattle.std.proofs.Common.{arith, refl, sym, ap, ◌∙◌, Option, Some, None, append_assoc}
use Rattle.std.proofs.lemmas.List.{map-append, append-nil}
use Rattle.std.specs.Prelude.{Err, filter_map, is_none, not, IsSome, IfSome, ◌↔◌}
use Rattle.std.specs.Option.{ok_or, option_map}
use Rattle.std.specs.List.{list_any}
use Rattle.std.proofs.lemmas.List.Sums.{take_while-cons}
use Rattle.std.proofs.lemmas.List.Folds.{list_any-append}
use Rattle.std.proofs.lemmas.Bool.Decides.{nat_tests}
use Rattle.lock_queue.specs.declared.refusal.Refusal.TheVariants.{BadPointer, BadName}
use Rattle.word36.specs.Words.{right_half}
use Rattle.ka_word.specs.Bytes.{byte_of, incremented}
use Rattle.ka_state.specs.Memory.{word_at}
use Rattle.call_block.specs.Names.{pointers_from, character_at, characters, is_zero, text_of, name_text}

-- one more character
pub characters-suc : (ac core : List ℕ) (p : ℕ) (n : ℕ) →
    characters ac core p (suc n) ≡ cond (not (is_zero (character_at ac core (incremented p))))
    (character_at ac core (incremented p) ∷ characters ac core (incremented p) n) []
unfolding characters pointers_from
characters-suc ac core p n = take_while-cons (λ c. not (is_zero c))
    (character_at ac core (incremented p)) (map (character_at ac core) (pointers_from n (incremented p)))

-- where so many are read: a step by what the next pointer points to
characters-next : (ac core : List ℕ) (p q : ℕ) (n k : ℕ) (x : Option ℕ) → k < n → q ≡ incremented p → character_at ac core q ≡ x →
    characters ac core p (n - k) ≡ cond (not (is_zero x)) (x ∷ characters ac core q (n - (k + 1))) []
characters-next ac core p q n k x h next at =
    let e : n - k ≡ suc (n - (k + 1)) = omega arith in
    let rest = characters ac core q (n - (k + 1)) in
    ap (characters ac core p) e
    ∙ characters-suc ac core p (n - (k + 1))
    ∙ ap (λ (r : ℕ). cond (not (is_zero (character_at ac core r))) (character_at ac core r ∷ characters ac core r (n - (k + 1))) []) (sym next)
    ∙ ap (λ (y : Option ℕ). cond (not (is_zero y)) (y ∷ rest) []) at

-- the character of the next pointer, where its word is known
pub character_in : (ac core : List ℕ) (p q : ℕ) (word known : Option ℕ) →
    word ≡ word_at ac core (right_half (incremented p)) → q ≡ incremented p → word ≡ known →
    character_at ac core q ≡ option_map (byte_of q) known
character_in ac core p q word known is next was =
    ap (λ (r : ℕ). option_map (byte_of q) (word_at ac core (right_half r))) next ∙ ap (option_map (byte_of q)) (sym is ∙ was)

pub not_zero : (c : ℕ) → c ≢ 0 → not (is_zero (Some c)) ≡ true
not_zero c ne = grind (arith, nat_tests)

pub more : (ac core : List ℕ) (p q : ℕ) (n k c : ℕ) (text : List ℕ) (all : List (Option ℕ)) → k < n →
    all ≡ map Some text ++ characters ac core p (n - k) → q ≡ incremented p → character_at ac core q ≡ Some c → c ≢ 0 →
    all ≡ map Some (text ++ c ∷ []) ++ characters ac core q (n - (k + 1))
more ac core p q n k c text all h e next at ne =
    let rest = characters ac core q (n - (k + 1)) in
    let step = characters-next ac core p q n k (Some c) h next at in
    let go = ap (λ b. cond b (Some c ∷ rest) []) (not_zero c ne) in
    e ∙ ap (λ t. map Some text ++ t) (step ∙ go) ∙ simp (map-append, append_assoc)

pub zero_ends : (ac core : List ℕ) (p q : ℕ) (n k : ℕ) (text : List ℕ) (all : List (Option ℕ)) → k < n →
    all ≡ map Some text ++ characters ac core p (n - k) → q ≡ incremented p → character_at ac core q ≡ Some 0 →
    all ≡ map Some text
zero_ends ac core p q n k text all h e next at =
    e ∙ ap (λ t. map Some text ++ t) (characters-next ac core p q n k (Some 0) h next at) ∙ append-nil (map Some text)

pub none_left : (ac core : List ℕ) (p : ℕ) → characters ac core p 0 ≡ []
unfolding characters pointers_from
none_left ac core p = refl

pub enough : (ac core : List ℕ) (p : ℕ) (n k : ℕ) (text : List ℕ) (all : List (Option ℕ)) → n ≤ k →
    all ≡ map Some text ++ characters ac core p (n - k) → all ≡ map Some text
enough ac core p n k text all h e =
    let none : n - k ≡ 0 = omega arith in
    e ∙ ap (λ t. map Some text ++ t) (ap (characters ac core p) none ∙ none_left ac core p) ∙ append-nil (map Some text)

pub illegal : (ac core : List ℕ) (p q : ℕ) (n k : ℕ) (text : List ℕ) (all : List (Option ℕ)) → k < n →
    all ≡ map Some text ++ characters ac core p (n - k) → q ≡ incremented p → character_at ac core q ≡ None →
    list_any is_none all ≡ true
illegal ac core p q n k text all h e next at =
    let rest = characters ac core q (n - (k + 1)) in
    let whole : all ≡ map Some text ++ None ∷ rest = e ∙ ap (λ t. map Some text ++ t) (characters-next ac core p q n k None h next at) in
    rw (whole, list_any-append is_none (map Some text) (None ∷ rest)) (grind arith)

pub text_of-illegal : (read : List (Option ℕ)) → list_any is_none read ≡ true → text_of read ≡ Err BadPointer
text_of-illegal read h = rw h

pub list_any-legal : (text : List ℕ) → list_any is_none (map Some text) ≡ false
list_any-legal [] = refl
list_any-legal (c ∷ text) = list_any-legal text

pub filter_map-legal : (text : List ℕ) → filter_map (λ c. c) (map Some text) ≡ text
filter_map-legal [] = refl
filter_map-legal (c ∷ text) = ap (λ rest. c ∷ rest) (filter_map-legal text)

pub text_of-legal : (text : List ℕ) (read : List (Option ℕ)) → read ≡ map Some text → text_of read ≡ name_text text
text_of-legal text read e = rw (e, list_any-legal text, filter_map-legal text)

-- what a name of this text is, where there is one
pub name_text-new : (o : Option (List ℕ)) (text : List ℕ) → (IsSome o ↔ (1 ≤ length text) × (length text ≤ 30)) → IfSome o (λ name. name ≡ text) →
    ok_or o BadName ≡ name_text text
name_text-new None text variant value = grind (arith, nat_tests)
name_text-new (Some name) text variant value = grind (arith, nat_tests)
