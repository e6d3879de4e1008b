-- A transfer of words that do not overlap copies them.
use Rattle.std.proofs.Common.{◌≡◌, ◌≢◌, ◌⊎◌, ◌∙◌, ℕ, zero, suc, ◌+◌, ◌-◌, ◌<◌, ◌≤◌, ◌^◌, inl, inr, true, List, length, slice_set, refl, ap, arith}
use Rattle.std.specs.Prelude.{slice_index}
use Rattle.std.proofs.lemmas.Bool.Decides.{nat_tests}
use Rattle.std.proofs.lemmas.List.{get_or-set_same, get_or-set_other}
use Rattle.std.proofs.Math.ListN.{length-set}
use Rattle.word36.specs.Words.{left_half, right_half}
use Rattle.ka_state.specs.Memory.{is_legal}
use Rattle.ka_cpu.specs.Effects.{a_of}
use Rattle.ka_state.specs.Registers.{next_pc}
use Rattle.ka_cpu.specs.Blocks.{IsCopied, all_legal, blt_after, word_count}
use Rattle.ka_state.specs.Copies.{copied}
use Rattle.ka_state.specs.declared.registers.Regs.{Regs}
use Rattle.ka_cpu.specs.Instructions.{Instruction}
use Rattle.ka_state.specs.declared.outcome.Outcome.TheVariants.{Done}
use Rattle.ka_cpu.proofs.BlockLegal.{near}
use Rattle.ka_cpu.proofs.BlockSteps.{moved_core}

copied_outside : (k : ℕ) (ws : List ℕ) (s d j : ℕ) → (j < d) ⊎ (d + k ≤ j) → slice_index (copied k ws s d) j ≡ slice_index ws j
unfolding copied
copied_outside zero ws s d j h = refl
copied_outside (suc k) ws s d j (inl h) =
    copied_outside k (slice_set ws d (slice_index ws s)) (s + 1) (d + 1) j (inl (omega arith))
    ∙ get_or-set_other ws d j (slice_index ws s) 0 (λ e. omega (arith, e))
copied_outside (suc k) ws s d j (inr h) =
    copied_outside k (slice_set ws d (slice_index ws s)) (s + 1) (d + 1) j (inr (omega arith))
    ∙ get_or-set_other ws d j (slice_index ws s) 0 (λ e. omega (arith, e))

apart_next : (s d k i : ℕ) → i < k → (s + suc k ≤ d) ⊎ (d + suc k ≤ s) → s + 1 + i ≢ d
apart_next s d k i h (inl o) = λ e. omega (arith, e)
apart_next s d k i h (inr o) = λ e. omega (arith, e)

apart_rest : (s d k : ℕ) → (s + suc k ≤ d) ⊎ (d + suc k ≤ s) → (s + 1 + k ≤ d + 1) ⊎ (d + 1 + k ≤ s + 1)
apart_rest s d k (inl o) = inl (omega arith)
apart_rest s d k (inr o) = inr (omega arith)

copied_inside : (k i : ℕ) (ws : List ℕ) (s d : ℕ) → i < k → (s + k ≤ d) ⊎ (d + k ≤ s) → d + k ≤ length ws
    → slice_index (copied k ws s d) (d + i) ≡ slice_index ws (s + i)
unfolding copied
copied_inside zero i ws s d h o l = absurd (omega arith)
copied_inside (suc k) zero ws s d h o l =
    let e : d + 0 ≡ d = omega arith in
    let f : s + 0 ≡ s = omega arith in
    rw (e, f)
    (copied_outside k (slice_set ws d (slice_index ws s)) (s + 1) (d + 1) d (inl (omega arith))
    ∙ get_or-set_same ws d (slice_index ws s) 0 (omega arith))
copied_inside (suc k) (suc i) ws s d h o l =
    let e : d + suc i ≡ d + 1 + i = omega arith in
    let f : s + 1 + i ≡ s + suc i = omega arith in
    let us : List ℕ = slice_set ws d (slice_index ws s) in
    let n : length (slice_set ws d (slice_index ws s)) ≡ length ws = length-set ws d (slice_index ws s) in
    ap (slice_index (copied k us (s + 1) (d + 1))) e
    ∙ (copied_inside k i (slice_set ws d (slice_index ws s)) (s + 1) (d + 1) (omega arith) (apart_rest s d k o) (omega arith)
    ∙ (get_or-set_other ws d (s + 1 + i) (slice_index ws s) 0 (apart_next s d k i (omega arith) o)
    ∙ ap (slice_index ws) f))

legal_core : (core : List ℕ) (a : ℕ) → a < length core → is_legal core a ≡ true
legal_core core a h = grind (arith, nat_tests)

block_legal : (k : ℕ) (core : List ℕ) (s d : ℕ) → 1 ≤ k → s + k ≤ 2 ^ 18 → s + k ≤ length core → d + k ≤ length core → all_legal k core s d ≡ true
block_legal k core s d h t a b =
    near k core s d h (omega arith) ∙ rw (legal_core core (s + (k - 1)) (omega arith), legal_core core (d + (k - 1)) (omega arith)) refl

blt_is : (g : Regs) (core : List ℕ) (n : Instruction) (s d k : ℕ) → left_half (a_of g n) ≡ s → right_half (a_of g n) ≡ d → word_count d n.e ≡ k
    → 16 ≤ s → 16 ≤ d → s + k ≤ 2 ^ 18 → s + k ≤ length core → d + k ≤ length core
    → blt_after g core n ≡ record { regs = record g { pc = next_pc g }; core = copied k core s d; outcome = Done }
unfolding blt_after
blt_is g core n s d k es ed ek a b t ls ld =
    let some : 1 ≤ k = omega arith in
    rw (es, ed, ek, block_legal k core s d some t ls ld, moved_core k g.ac core s d a b t ls) refl

pub copy_law : (g : Regs) (core : List ℕ) (n : Instruction) (s d k : ℕ) → left_half (a_of g n) ≡ s → right_half (a_of g n) ≡ d → word_count d n.e ≡ k
    → 16 ≤ s → 16 ≤ d → s + k ≤ 2 ^ 18 → s + k ≤ length core → d + k ≤ length core → (s + k ≤ d) ⊎ (d + k ≤ s)
    → ((blt_after g core n).outcome ≡ Done) × ((blt_after g core n).regs ≡ record g { pc = next_pc g }) × IsCopied core (blt_after g core n).core s d k
copy_law g core n s d k es ed ek a b t ls ld o =
    rw (blt_is g core n s d k es ed ek a b t ls ld) (refl, refl, (λ i h. copied_inside k i core s d h o ld, λ j h. copied_outside k core s d j h))
