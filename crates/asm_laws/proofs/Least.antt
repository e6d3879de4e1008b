-- The least of four codes is told.
use Rattle.std.proofs.Common.{◌≡◌, ◌∙◌, ap, subst, ◌<◌, Bool, true, false, Option, Some, None, refl, arith}
use Rattle.std.specs.Prelude.{◌||◌}
use Rattle.mac_layout.specs.declared.error.AsmCode.{AsmCode}
use Rattle.mac_layout.specs.declared.error.AsmCode.TheVariants.{Syntax, UnknownName, DefinedTwice, DoesNotFit, NotYetDefined, AddressTooHigh, NoEnd}
use Rattle.mac_layout.specs.Faults.{number_of, least, code_if}
use Rattle.asm_laws.specs.Codes.{IsLeast}

-- the first of the codes of laying out that is so
abbrev pub told : Bool → Bool → Bool → Bool → Option AsmCode
told true unfit early high = Some DefinedTwice
told false true early high = Some DoesNotFit
told false false true high = Some NotYetDefined
told false false false true = Some AddressTooHigh
told false false false false = None

abbrev pub so : Bool → Bool → Bool → Bool → AsmCode → Bool
so twice unfit early high DefinedTwice = twice
so twice unfit early high DoesNotFit = unfit
so twice unfit early high NotYetDefined = early
so twice unfit early high AddressTooHigh = high
so twice unfit early high _ = false

pub least-told : (a b c d a' b' c' d' : Bool) → least (told a b c d) (told a' b' c' d') ≡ told (a || a') (b || b') (c || c') (d || d')
unfolding least
least-told true b c d true b' c' d' = refl
least-told true b c d false true c' d' = refl
least-told true b c d false false true d' = refl
least-told true b c d false false false true = refl
least-told true b c d false false false false = refl
least-told false true c d true b' c' d' = refl
least-told false true c d false true c' d' = refl
least-told false true c d false false true d' = refl
least-told false true c d false false false true = refl
least-told false true c d false false false false = refl
least-told false false true d true b' c' d' = refl
least-told false false true d false true c' d' = refl
least-told false false true d false false true d' = refl
least-told false false true d false false false true = refl
least-told false false true d false false false false = refl
least-told false false false true true b' c' d' = refl
least-told false false false true false true c' d' = refl
least-told false false false true false false true d' = refl
least-told false false false true false false false true = refl
least-told false false false true false false false false = refl
least-told false false false false true b' c' d' = refl
least-told false false false false false true c' d' = refl
least-told false false false false false false true d' = refl
least-told false false false false false false false true = refl
least-told false false false false false false false false = refl

-- the same for addresses alone
pub addresses-told : (a d : Bool) → least (code_if a DefinedTwice) (code_if d AddressTooHigh) ≡ told a false false d
unfolding least
addresses-told true true = refl
addresses-told true false = refl
addresses-told false true = refl
addresses-told false false = refl

pub high-told : (d : Bool) → code_if d AddressTooHigh ≡ told false false false d
high-told true = refl
high-told false = refl

pub unfit-told : (b : Bool) → code_if b DoesNotFit ≡ told false b false false
unfit-told true = refl
unfit-told false = refl

pub told-same : (a b c d a' b' c' d' : Bool) → a ≡ a' → b ≡ b' → c ≡ c' → d ≡ d' → told a b c d ≡ told a' b' c' d'
told-same a b c d a' b' c' d' h k l m =
    ap (λ x. told x b c d) h ∙ ap (λ x. told a' x c d) k ∙ ap (λ x. told a' b' x d) l ∙ ap (λ x. told a' b' c' x) m

-- nothing is told where no code is so
pub told-none : (a b c d : Bool) → told a b c d ≡ None → (code : AsmCode) → so a b c d code ≡ false
told-none true b c d h code = absurd (cc)
told-none false true c d h code = absurd (cc)
told-none false false true d h code = absurd (cc)
told-none false false false true h code = absurd (cc)
told-none false false false false h Syntax = refl
told-none false false false false h UnknownName = refl
told-none false false false false h DefinedTwice = refl
told-none false false false false h DoesNotFit = refl
told-none false false false false h NotYetDefined = refl
told-none false false false false h AddressTooHigh = refl
told-none false false false false h NoEnd = refl

pub none-told : (a b c d : Bool) → ((code : AsmCode) → so a b c d code ≡ false) → told a b c d ≡ None
none-told a b c d h =
    told-same a b c d false false false false (h DefinedTwice) (h DoesNotFit) (h NotYetDefined) (h AddressTooHigh)

-- what is told is the least
least-at : (b c d : Bool) (code : AsmCode) (a : Bool) → told a b c d ≡ Some code → IsLeast (so a b c d) code
least-at b c d code true h =
    subst (IsLeast (so true b c d)) (same h) (record { so = refl; least = low b c d })
  where
    same : Some DefinedTwice ≡ Some code → DefinedTwice ≡ code
    same h = cc

    low : (b c d : Bool) (other : AsmCode) → number_of other < number_of DefinedTwice → so true b c d other ≡ false
    low b c d Syntax k = refl
    low b c d UnknownName k = refl
    low b c d DefinedTwice k = absurd (omega (arith, k))
    low b c d DoesNotFit k = absurd (omega (arith, k))
    low b c d NotYetDefined k = absurd (omega (arith, k))
    low b c d AddressTooHigh k = absurd (omega (arith, k))
    low b c d NoEnd k = refl
least-at true c d code false h =
    subst (IsLeast (so false true c d)) (same h) (record { so = refl; least = low c d })
  where
    same : Some DoesNotFit ≡ Some code → DoesNotFit ≡ code
    same h = cc

    low : (c d : Bool) (other : AsmCode) → number_of other < number_of DoesNotFit → so false true c d other ≡ false
    low c d Syntax k = refl
    low c d UnknownName k = refl
    low c d DefinedTwice k = refl
    low c d DoesNotFit k = absurd (omega (arith, k))
    low c d NotYetDefined k = absurd (omega (arith, k))
    low c d AddressTooHigh k = absurd (omega (arith, k))
    low c d NoEnd k = refl
least-at false true d code false h =
    subst (IsLeast (so false false true d)) (same h) (record { so = refl; least = low d })
  where
    same : Some NotYetDefined ≡ Some code → NotYetDefined ≡ code
    same h = cc

    low : (d : Bool) (other : AsmCode) → number_of other < number_of NotYetDefined → so false false true d other ≡ false
    low d Syntax k = refl
    low d UnknownName k = refl
    low d DefinedTwice k = refl
    low d DoesNotFit k = refl
    low d NotYetDefined k = absurd (omega (arith, k))
    low d AddressTooHigh k = absurd (omega (arith, k))
    low d NoEnd k = refl
least-at false false true code false h =
    subst (IsLeast (so false false false true)) (same h) (record { so = refl; least = low })
  where
    same : Some AddressTooHigh ≡ Some code → AddressTooHigh ≡ code
    same h = cc

    low : (other : AsmCode) → number_of other < number_of AddressTooHigh → so false false false true other ≡ false
    low Syntax k = refl
    low UnknownName k = refl
    low DefinedTwice k = refl
    low DoesNotFit k = refl
    low NotYetDefined k = refl
    low AddressTooHigh k = absurd (omega (arith, k))
    low NoEnd k = refl
least-at false false false code false h = absurd (cc)

pub told-least : (a b c d : Bool) (code : AsmCode) → told a b c d ≡ Some code → IsLeast (so a b c d) code
told-least a b c d code h = least-at b c d code a h

-- and the least is told
false-so : {A : Type 0} → false ≡ true → A
false-so h = absurd (cc)

pub least-is_told : (a b c d : Bool) (code : AsmCode) → IsLeast (so a b c d) code → told a b c d ≡ Some code
least-is_told a b c d Syntax h = false-so h.so
least-is_told a b c d UnknownName h = false-so h.so
least-is_told a b c d NoEnd h = false-so h.so
least-is_told a b c d DefinedTwice h = ap (λ x. told x b c d) h.so
least-is_told a b c d DoesNotFit h =
    told-same a b c d false true c d (h.least DefinedTwice (grind arith)) h.so refl refl
least-is_told a b c d NotYetDefined h =
    told-same a b c d false false true d (h.least DefinedTwice (grind arith)) (h.least DoesNotFit (grind arith)) h.so refl
least-is_told a b c d AddressTooHigh h =
    told-same a b c d false false false true (h.least DefinedTwice (grind arith)) (h.least DoesNotFit (grind arith)) (h.least NotYetDefined (grind arith)) h.so
