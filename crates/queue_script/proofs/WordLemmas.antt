-- Lemmas on the first words of a line.
use Rattle.std.proofs.Common.{◌≡◌, ◌∙◌, ◌-◌, ◌≤◌, [], ◌∷◌, ℕ, List, refl, ap, take, drop, length, slice_index_or, arith}
use Rattle.std.proofs.lemmas.List.{take_all}
use Rattle.queue_script.specs.Commands.{enqueue_of, dequeue_of, status_of_items, command_of_items}
use Rattle.script_io.specs.Numbers.{parts}

-- the items behind `ENQ `, `DEQ ` and `STAT `
words-enqueue : (items : List ℕ) → enqueue_of (parts 32 items) ≡ command_of_items (parts 32 (69 ∷ 78 ∷ 81 ∷ 32 ∷ items))
unfolding parts
words-enqueue items = refl

words-dequeue : (items : List ℕ) → dequeue_of (parts 32 items) ≡ command_of_items (parts 32 (68 ∷ 69 ∷ 81 ∷ 32 ∷ items))
unfolding parts
words-dequeue items = refl

words-status : (items : List ℕ) → status_of_items (parts 32 items) ≡ command_of_items (parts 32 (83 ∷ 84 ∷ 65 ∷ 84 ∷ 32 ∷ items))
unfolding parts
words-status items = refl

-- where a line begins so
pub words_enqueue_at : (line : List ℕ) → 4 ≤ length line → slice_index_or line 0 0 ≡ 69 → slice_index_or line 1 0 ≡ 78
    → slice_index_or line 2 0 ≡ 81
    → slice_index_or line 3 0 ≡ 32
    → enqueue_of (parts 32 (take (length line - 4) (drop 4 line))) ≡ command_of_items (parts 32 line)
words_enqueue_at [] h a b c d = absurd (omega arith)
words_enqueue_at (v ∷ []) h a b c d = absurd (omega arith)
words_enqueue_at (v ∷ w ∷ []) h a b c d = absurd (omega arith)
words_enqueue_at (v ∷ w ∷ x ∷ []) h a b c d = absurd (omega arith)
words_enqueue_at (v ∷ w ∷ x ∷ y ∷ items) h a b c d =
    rw (a, b, c, d) (ap (λ l. enqueue_of (parts 32 l)) (take_all (length (v ∷ w ∷ x ∷ y ∷ items) - 4) items (omega arith)) ∙ words-enqueue items)

pub words_dequeue_at : (line : List ℕ) → 4 ≤ length line → slice_index_or line 0 0 ≡ 68 → slice_index_or line 1 0 ≡ 69
    → slice_index_or line 2 0 ≡ 81
    → slice_index_or line 3 0 ≡ 32
    → dequeue_of (parts 32 (take (length line - 4) (drop 4 line))) ≡ command_of_items (parts 32 line)
words_dequeue_at [] h a b c d = absurd (omega arith)
words_dequeue_at (v ∷ []) h a b c d = absurd (omega arith)
words_dequeue_at (v ∷ w ∷ []) h a b c d = absurd (omega arith)
words_dequeue_at (v ∷ w ∷ x ∷ []) h a b c d = absurd (omega arith)
words_dequeue_at (v ∷ w ∷ x ∷ y ∷ items) h a b c d =
    rw (a, b, c, d) (ap (λ l. dequeue_of (parts 32 l)) (take_all (length (v ∷ w ∷ x ∷ y ∷ items) - 4) items (omega arith)) ∙ words-dequeue items)

pub words_status_at : (line : List ℕ) → 5 ≤ length line → slice_index_or line 0 0 ≡ 83 → slice_index_or line 1 0 ≡ 84
    → slice_index_or line 2 0 ≡ 65 → slice_index_or line 3 0 ≡ 84
    → slice_index_or line 4 0 ≡ 32
    → status_of_items (parts 32 (take (length line - 5) (drop 5 line))) ≡ command_of_items (parts 32 line)
words_status_at [] h a b c d e = absurd (omega arith)
words_status_at (v ∷ []) h a b c d e = absurd (omega arith)
words_status_at (v ∷ w ∷ []) h a b c d e = absurd (omega arith)
words_status_at (v ∷ w ∷ x ∷ []) h a b c d e = absurd (omega arith)
words_status_at (v ∷ w ∷ x ∷ y ∷ []) h a b c d e = absurd (omega arith)
words_status_at (v ∷ w ∷ x ∷ y ∷ z ∷ items) h a b c d e =
    rw (a, b, c, d, e) (ap (λ l. status_of_items (parts 32 l)) (take_all (length (v ∷ w ∷ x ∷ y ∷ z ∷ items) - 5) items (omega arith)) ∙ words-status items)

-- the first words of commands, each by its characters
pub ruleset command_words = (words_enqueue_at, words_dequeue_at, words_status_at)
