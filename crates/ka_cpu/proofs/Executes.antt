use Rattle.std.proofs.Common.{◌≡◌, ℕ, ◌+◌, ◌-◌, ◌<◌, ◌≤◌, suc, zero, Some, None, Ok, Err, Result, List, Bool, true}
use Rattle.std.proofs.Common.{false, refl, arith, ap, subst, sym, ◌∙◌, if◌then◌else◌}
use Rattle.ka_isa.specs.Families.{family_of}
use Rattle.ka_isa.specs.declared.Family.{Family}
use Rattle.ka_cpu.specs.declared.limits.TheConstants.{MOST_EXECUTES}
use Rattle.ka_state.specs.Memory.{word_at}
use Rattle.ka_cpu.specs.Addresses.{Target, target_of, reading, at_target, address_in, used_in}
use Rattle.ka_cpu.specs.Effects.{stopped}
use Rattle.ka_isa.specs.declared.Family.TheVariants.{Xct}
use Rattle.ka_cpu.specs.Turns.{refusal_of}
use Rattle.ka_cpu.specs.Exec.{word_behind, word_performed, performed, is_listed, is_execute, is_xct, op_of, ac_field, at_address, carried_out}
use Rattle.ka_state.specs.declared.registers.Regs.{Regs}
use Rattle.ka_state.specs.declared.outcome.StopReason.{StopReason}
use Rattle.ka_state.specs.declared.outcome.StopReason.TheVariants.{IllegalAddress, IllegalInstruction, AddressChain}

pub behind_plain : (k : ℕ) (ac core : List ℕ) (w : ℕ) → is_xct w ≡ false → word_behind k ac core w ≡ Ok w
unfolding word_behind
behind_plain zero ac core w x = rw x refl
behind_plain (suc k) ac core w x = rw x refl

end_at : (k : ℕ) (ac core : List ℕ) (w : ℕ) → k ≡ 0 → is_xct w ≡ true → word_behind k ac core w ≡ Err AddressChain
unfolding word_behind
end_at k ac core w e x = rw e (rw x refl)

pub behind_end : (i : ℕ) (ac core : List ℕ) (w : ℕ) → MOST_EXECUTES ≤ i → is_xct w ≡ true → word_behind (MOST_EXECUTES - i) ac core w ≡ Err AddressChain
behind_end i ac core w b x = end_at (MOST_EXECUTES - i) ac core w (omega arith) x

refused_at : (t : Result Target StopReason) (r : StopReason) (f : Target → Result ℕ StopReason) → Err r ≡ address_in t → at_target t f ≡ Err r
refused_at (Err s) r f h = cc
refused_at (Ok t) r f h = cc

reached_at : (t : Result Target StopReason) (e : ℕ) (f : ℕ → Result ℕ StopReason) → Ok e ≡ address_in t → at_target t (λ u. f u.e) ≡ f e
reached_at (Err s) e f h = cc
reached_at (Ok t) e f h = let q : t.e ≡ e = cc in rw q refl

unfold_at : (m k : ℕ) (ac core : List ℕ) (w : ℕ) → k ≡ suc m → is_xct w ≡ true
    → word_behind k ac core w
    ≡ at_target (target_of ac core w) (λ t. reading (word_at ac core t.e) (λ v. word_behind m ac core v))
unfolding word_behind
unfold_at m k ac core w e x = rw e (rw x refl)

pub behind_refused : (i : ℕ) (ac core : List ℕ) (w : ℕ) (r : StopReason) → i < MOST_EXECUTES → is_xct w ≡ true
    → Err r ≡ address_in (target_of ac core w)
    → word_behind (MOST_EXECUTES - i) ac core w ≡ Err r
behind_refused i ac core w r b x h =
    rw (unfold_at (MOST_EXECUTES - (i + 1)) (MOST_EXECUTES - i) ac core w (omega arith) x)
    (refused_at (target_of ac core w) r
    (λ t. reading (word_at ac core t.e) (λ v. word_behind (MOST_EXECUTES - (i + 1)) ac core v)) h)

turned_at : (i : ℕ) (ac core : List ℕ) (w e : ℕ) → i < MOST_EXECUTES → is_xct w ≡ true → Ok e ≡ address_in (target_of ac core w)
    → word_behind (MOST_EXECUTES - i) ac core w
    ≡ reading (word_at ac core e) (λ v. word_behind (MOST_EXECUTES - (i + 1)) ac core v)
turned_at i ac core w e b x h =
    rw (unfold_at (MOST_EXECUTES - (i + 1)) (MOST_EXECUTES - i) ac core w (omega arith) x)
    (reached_at (target_of ac core w) e
    (λ (e : ℕ). reading (word_at ac core e) (λ v. word_behind (MOST_EXECUTES - (i + 1)) ac core v)) h)

pub behind_illegal : (i : ℕ) (ac core : List ℕ) (w e : ℕ) → i < MOST_EXECUTES → is_xct w ≡ true
    → Ok e ≡ address_in (target_of ac core w) → word_at ac core e ≡ None
    → word_behind (MOST_EXECUTES - i) ac core w ≡ Err IllegalAddress
behind_illegal i ac core w e b x h p = rw (turned_at i ac core w e b x h) (rw p refl)

pub behind_turn : (i : ℕ) (ac core : List ℕ) (w e v : ℕ) → i < MOST_EXECUTES → is_xct w ≡ true
    → Ok e ≡ address_in (target_of ac core w) → word_at ac core e ≡ Some v
    → word_behind (MOST_EXECUTES - i) ac core w ≡ word_behind (MOST_EXECUTES - (i + 1)) ac core v
behind_turn i ac core w e v b x h p = rw (turned_at i ac core w e b x h) (rw p refl)

pub ruleset xct_steps = (behind_plain, behind_end, behind_refused, behind_illegal, behind_turn)

-- the word that an XCT executes, by its address
pub first_turn : (ac core : List ℕ) (w e : ℕ) → is_xct w ≡ true → Ok e ≡ address_in (target_of ac core w)
    → word_behind MOST_EXECUTES ac core w ≡ reading (word_at ac core e) (λ v. word_behind (MOST_EXECUTES - 1) ac core v)
first_turn ac core w e x h = let b : 0 < MOST_EXECUTES = omega arith in turned_at 0 ac core w e b x h

pub first_refused : (ac core : List ℕ) (w : ℕ) (r : StopReason) → is_xct w ≡ true → Err r ≡ address_in (target_of ac core w)
    → word_behind MOST_EXECUTES ac core w ≡ Err r
first_refused ac core w r x h = let b : 0 < MOST_EXECUTES = omega arith in behind_refused 0 ac core w r b x h

pub ruleset executed_words = (behind_plain, first_turn, first_refused)

-- an instruction by the address of its word
refused_by : (t : Result Target StopReason) (g : Regs) (core : List ℕ) (w : ℕ) (r : StopReason) → Err r ≡ address_in t
    → at_address g core w t ≡ stopped g core r
refused_by (Err s) g core w r h = let q : s ≡ r = cc in rw q refl
refused_by (Ok t) g core w r h = cc

pub at_refused : (g : Regs) (core : List ℕ) (w : ℕ) (r : StopReason) → Err r ≡ address_in (target_of g.ac core w)
    → at_address g core w (target_of g.ac core w) ≡ stopped g core r
at_refused g core w r h = refused_by (target_of g.ac core w) g core w r h

done_by : (t : Result Target StopReason) (g : Regs) (core : List ℕ) (w e : ℕ) → Ok e ≡ address_in t
    → at_address g core w t
    ≡ carried_out (family_of (op_of w)) g core (record { op = op_of w; ac = ac_field w; e = e }) (used_in t)
done_by (Err s) g core w e h = cc
done_by (Ok t) g core w e h = let q : t.e ≡ e = cc in rw q refl

pub at_done : (g : Regs) (core : List ℕ) (w e : ℕ) → Ok e ≡ address_in (target_of g.ac core w)
    → at_address g core w (target_of g.ac core w)
    ≡ carried_out (family_of (op_of w)) g core (record { op = op_of w; ac = ac_field w; e = e }) (used_in (target_of g.ac core w))
at_done g core w e h = done_by (target_of g.ac core w) g core w e h

pub ruleset performances = (at_refused, at_done)

-- a word that is executed, an XCT or not, by its address
not_execute : (f : Family) → (f ≡ Xct → ⊥) → is_execute f ≡ false
not_execute Xct h = absurd (h refl)
not_execute _ h = refl

-- a word that is executed is no XCT
pub no_xct : (w : ℕ) → (family_of (op_of w) ≡ Xct → ⊥) → is_xct w ≡ false
unfolding is_xct
no_xct w h = not_execute (family_of (op_of w)) h

pub xct : (w : ℕ) → family_of (op_of w) ≡ Xct → is_xct w ≡ true
unfolding is_xct
xct w h = ap is_execute h

unlisted_execute : (f : Family) (ac : ℕ) → is_listed f ac ≡ false → is_execute f ≡ false
unlisted_execute Xct ac h = cc
unlisted_execute _ ac h = refl

unlisted_xct : (w : ℕ) → is_listed (family_of (op_of w)) (ac_field w) ≡ false → is_xct w ≡ false
unfolding is_xct
unlisted_xct w h = unlisted_execute (family_of (op_of w)) (ac_field w) h

plain_performed : (k : ℕ) (g : Regs) (core : List ℕ) (w : ℕ) → is_xct w ≡ false → word_performed g core (word_behind k g.ac core w) ≡ performed g core w
plain_performed k g core w h = ap (λ (x : Result ℕ StopReason). word_performed g core x) (behind_plain k g.ac core w h)

pub performed_by : (b : Bool) (g : Regs) (core : List ℕ) (w : ℕ) → is_listed (family_of (op_of w)) (ac_field w) ≡ b
    → performed g core w ≡ (if b then at_address g core w (target_of g.ac core w) else stopped g core IllegalInstruction)
unfolding performed
performed_by b g core w h = rw h refl

-- the address is not found
refused_listed : (c : Bool) (g : Regs) (core : List ℕ) (w : ℕ) (r : StopReason) → is_xct w ≡ c
    → is_listed (family_of (op_of w)) (ac_field w) ≡ true → Err r ≡ address_in (target_of g.ac core w)
    → word_performed g core (word_behind MOST_EXECUTES g.ac core w) ≡ stopped g core r
refused_listed true g core w r x l h = let b : 0 < MOST_EXECUTES = omega arith in
    ap (λ (y : Result ℕ StopReason). word_performed g core y) (behind_refused 0 g.ac core w r b x h)
refused_listed false g core w r x l h = plain_performed MOST_EXECUTES g core w x ∙ (performed_by true g core w l ∙ at_refused g core w r h)

refused_either : (b : Bool) (g : Regs) (core : List ℕ) (w : ℕ) (r : StopReason) → is_listed (family_of (op_of w)) (ac_field w) ≡ b
    → Err r ≡ address_in (target_of g.ac core w)
    → word_performed g core (word_behind MOST_EXECUTES g.ac core w) ≡ stopped g core (if b then r else IllegalInstruction)
refused_either true g core w r l h = refused_listed (is_xct w) g core w r refl l h
refused_either false g core w r l h = plain_performed MOST_EXECUTES g core w (unlisted_xct w l) ∙ performed_by false g core w l

pub executed_refused : (g : Regs) (core : List ℕ) (w : ℕ) (r : StopReason) → Err r ≡ address_in (target_of g.ac core w)
    → word_performed g core (word_behind MOST_EXECUTES g.ac core w)
    ≡ stopped g core (refusal_of (family_of (op_of w)) (ac_field w) r)
executed_refused g core w r h = refused_either (is_listed (family_of (op_of w)) (ac_field w)) g core w r refl h

-- an instruction that is no XCT
done_either : (k : ℕ) (b : Bool) (g : Regs) (core : List ℕ) (w e : ℕ) → is_listed (family_of (op_of w)) (ac_field w) ≡ b
    → is_xct w ≡ false → Ok e ≡ address_in (target_of g.ac core w)
    → word_performed g core (word_behind k g.ac core w)
    ≡ (if b
    then carried_out (family_of (op_of w)) g core (record { op = op_of w; ac = ac_field w; e = e })
    (used_in (target_of g.ac core w)) else stopped g core IllegalInstruction)
done_either k true g core w e l x h = plain_performed k g core w x ∙ (performed_by true g core w l ∙ at_done g core w e h)
done_either k false g core w e l x h = plain_performed k g core w x ∙ performed_by false g core w l

pub executed_done : (k : ℕ) (g : Regs) (core : List ℕ) (w e : ℕ) → (family_of (op_of w) ≡ Xct → ⊥)
    → Ok e ≡ address_in (target_of g.ac core w)
    → word_performed g core (word_behind k g.ac core w)
    ≡ (if is_listed (family_of (op_of w)) (ac_field w)
    then carried_out (family_of (op_of w)) g core (record { op = op_of w; ac = ac_field w; e = e })
    (used_in (target_of g.ac core w)) else stopped g core IllegalInstruction)
executed_done k g core w e f h = done_either k (is_listed (family_of (op_of w)) (ac_field w)) g core w e refl (no_xct w f) h

pub executed_by : (k : ℕ) (g : Regs) (core : List ℕ) (w op ac e : ℕ) → op ≡ op_of w → ac ≡ ac_field w → (family_of op ≡ Xct → ⊥)
    → Ok e ≡ address_in (target_of g.ac core w)
    → word_performed g core (word_behind k g.ac core w)
    ≡ (if is_listed (family_of op) ac
    then carried_out (family_of op) g core (record { op = op; ac = ac; e = e }) (used_in (target_of g.ac core w))
    else stopped g core IllegalInstruction)
executed_by k g core w op ac e p q f h = rw (p, q) (executed_done k g core w e (λ x. f (ap family_of p ∙ x)) h)

-- an XCT by its address
pub xct_turn : (ac core : List ℕ) (w op e : ℕ) → op ≡ op_of w → family_of op ≡ Xct → Ok e ≡ address_in (target_of ac core w)
    → word_behind MOST_EXECUTES ac core w ≡ reading (word_at ac core e) (λ v. word_behind (MOST_EXECUTES - 1) ac core v)
xct_turn ac core w op e p f h =
    let q : family_of (op_of w) ≡ Xct = ap family_of (sym p) ∙ f in
    let b : 0 < MOST_EXECUTES = omega arith in
    turned_at 0 ac core w e b (xct w q) h

-- what it executes is found in the state h, rest, which is that of g, core, and that of k, start
xct_found : (g k : Regs) (core start : List ℕ) (w op e : ℕ) (x : Result ℕ StopReason) → g ≡ k → core ≡ start → op ≡ op_of w → family_of op ≡ Xct
    → Ok e ≡ address_in (target_of g.ac core w)
    → x ≡ reading (word_at g.ac core e) (λ v. word_behind (MOST_EXECUTES - 1) g.ac core v)
    → word_behind MOST_EXECUTES k.ac start w ≡ x
xct_found g k core start w op e x i j p f h q =
    let P : Regs → Type 0 = λ r. word_behind MOST_EXECUTES r.ac start w ≡ x in
    let Q : List ℕ → Type 0 = λ m. word_behind MOST_EXECUTES g.ac m w ≡ x in
    subst P i (subst Q j (xct_turn g.ac core w op e p f h ∙ sym q))

xct_here : (g h : Regs) (core rest : List ℕ) (e : ℕ) (x : Result ℕ StopReason) → h ≡ g → rest ≡ core
    → x ≡ reading (word_at h.ac rest e) (λ v. word_behind (MOST_EXECUTES - 1) h.ac rest v)
    → x ≡ reading (word_at g.ac core e) (λ v. word_behind (MOST_EXECUTES - 1) g.ac core v)
xct_here g h core rest e x i j q =
    let P : Regs → Type 0 = λ r. x ≡ reading (word_at r.ac core e) (λ v. word_behind (MOST_EXECUTES - 1) r.ac core v) in
    let Q : List ℕ → Type 0 = λ m. x ≡ reading (word_at h.ac m e) (λ v. word_behind (MOST_EXECUTES - 1) h.ac m v) in
    subst P i (subst Q j q)

pub xct_refused : (g h k : Regs) (core rest start : List ℕ) (w u op e : ℕ) (r : StopReason) → h ≡ g → rest ≡ core → g ≡ k → core ≡ start
    → word_behind MOST_EXECUTES k.ac start w ≡ word_behind MOST_EXECUTES k.ac start u → op ≡ op_of w → family_of op ≡ Xct
    → Ok e ≡ address_in (target_of g.ac core w)
    → Err r ≡ reading (word_at h.ac rest e) (λ v. word_behind (MOST_EXECUTES - 1) h.ac rest v)
    → stopped h rest r ≡ word_performed k start (word_behind MOST_EXECUTES k.ac start u)
xct_refused g h k core rest start w u op e r a b i j n p f x q =
    ap (λ (s : Regs). stopped s rest r) (a ∙ i) ∙ ap (λ (m : List ℕ). stopped k m r) (b ∙ j)
    ∙ sym
    (ap (λ (y : Result ℕ StopReason). word_performed k start y)
    (sym n ∙ xct_found g k core start w op e (Err r) i j p f x (xct_here g h core rest e (Err r) a b q)))

pub xct_next : (g h k : Regs) (core rest start : List ℕ) (w u op e v : ℕ) → h ≡ g → rest ≡ core → g ≡ k → core ≡ start
    → word_behind MOST_EXECUTES k.ac start w ≡ word_behind MOST_EXECUTES k.ac start u → op ≡ op_of w → family_of op ≡ Xct
    → Ok e ≡ address_in (target_of g.ac core w)
    → Ok v ≡ reading (word_at h.ac rest e) (λ v. word_behind (MOST_EXECUTES - 1) h.ac rest v) → is_xct v ≡ false
    → word_behind MOST_EXECUTES k.ac start v ≡ word_behind MOST_EXECUTES k.ac start u
xct_next g h k core rest start w u op e v a b i j n p f x q y =
    behind_plain MOST_EXECUTES k.ac start v y ∙ (sym (xct_found g k core start w op e (Ok v) i j p f x (xct_here g h core rest e (Ok v) a b q)) ∙ n)

pub ruleset executions = (executed_refused, executed_by, behind_plain, xct, no_xct)
