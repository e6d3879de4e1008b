-- Where a line gives its words, all its names are known.
use Rattle.std.proofs.Common.{◌≡◌, ◌∙◌, ap, subst, ℕ, suc, ◌+◌, ◌-◌, ◌≤◌, Bool, true, false, ◌&&◌, List, [], ◌∷◌, ◌++◌}
use Rattle.std.proofs.Common.{length, drop, zip, is_some, Option, Some, None, option_map, refl, arith}
use Rattle.std.specs.Prelude.{ℤ, pos, not, is_none, if◌then◌else◌}
use Rattle.std.specs.List.{list_all}
use Rattle.std.proofs.lemmas.List.{length-take-le, length-drop, length-map, length-append}
use Rattle.std.proofs.lemmas.Bool.{and_parts, and_from}
use Rattle.ka_isa.specs.declared.Fields.{Fields}
use Rattle.ka_isa.specs.Fields.{fields_of}
use Rattle.mac_text.specs.declared.syntax.SignedTerm.{SignedTerm}
use Rattle.mac_text.specs.declared.syntax.Operand.{Operand}
use Rattle.mac_text.specs.declared.syntax.Instruction.{Instruction}
use Rattle.mac_text.specs.declared.syntax.Data.{Data}
use Rattle.mac_text.specs.declared.syntax.Data.TheVariants as data_of
use Rattle.mac_text.specs.declared.syntax.Statement.{Statement}
use Rattle.mac_text.specs.declared.syntax.Statement.TheVariants as statements
use Rattle.mac_text.specs.declared.syntax.Line.{Line}
use Rattle.mac_layout.specs.Values.{◌>>=◌, Names, term_value, signed, value_onto, value_of, is_known}
use Rattle.mac_asm.specs.Words.{fitted, word_of, half_of, register_of, or_zero, operand_of, is_missing, with_accumulator, with_operand, instruction_of}
use Rattle.mac_asm.specs.Words.{at_most, position_of, pointer_of, halves_of, iowd_of, words_of_all, words_of, is_known_if, is_operand_known, are_known}
use Rattle.mac_layout.specs.Addresses.{Labels, size_of, address_after, Located, sizes_at, literal_sizes, addresses_from, Placed, placed, first_address}
use Rattle.mac_asm.specs.Assembly.{lines_at, literal_addresses, lines_placed, all_words_of, words_from, statement_words, literal_words, start_by}
use Rattle.mac_asm.specs.Outcome.{line_words, has_start, is_statement_known, is_line_known}
use Rattle.asm_laws.specs.Codes.{is_given}

bound : {A B : Type 0} (o : Option A) (f : A → Option B) → is_some (o >>= f) ≡ true → (x : A) × (o ≡ Some x) × (is_some (f x) ≡ true)
bound None f h = absurd (cc)
bound (Some x) f h = (x, refl, h)

is-there : {A : Type 0} (o : Option A) (x : A) → o ≡ Some x → is_some o ≡ true
is-there o x h = ap is_some h

mapped : {A B : Type 0} (f : A → B) (o : Option A) → is_some (option_map f o) ≡ true → is_some o ≡ true
mapped f None h = absurd (cc)
mapped f (Some x) h = refl

known-onto : (e : List SignedTerm) (names : Names) (value : ℤ) → is_some (value_onto names value e) ≡ true
    → list_all (λ t. is_some (term_value names t.term)) e ≡ true
known-onto [] names value h = refl
known-onto (t ∷ e) names value h =
    let b = bound (term_value names t.term) (λ n. value_onto names (signed t.sign n value) e) h in
    and_from _ _ (is-there (term_value names t.term) b.0 b.1) (known-onto e names (signed t.sign b.0 value) b.2)

known-value : (names : Names) (e : List SignedTerm) → is_some (value_of names e) ≡ true → is_known names e ≡ true
unfolding value_of is_known
known-value names e h = known-onto e names (pos 0) h

known-fitted : (names : Names) (l m s : ℕ) (e : List SignedTerm) → is_some (fitted names l m s e) ≡ true → is_known names e ≡ true
unfolding fitted
known-fitted names l m s e h =
    let b = bound (value_of names e) _ h in
    known-value names e (is-there (value_of names e) b.0 b.1)

known-or : (names : Names) (f : List SignedTerm → Option ℕ) (e : Option (List SignedTerm))
    → ((e : List SignedTerm) → is_some (f e) ≡ true → is_known names e ≡ true)
    → is_some (or_zero f e) ≡ true
    → is_known_if names e ≡ true
known-or names f None g h = refl
known-or names f (Some e) g h = g e h

known-operand : (names : Names) (o : Operand) → is_some (operand_of names o) ≡ true → is_operand_known names o ≡ true
unfolding operand_of
known-operand names o h =
    let x = bound (or_zero (register_of names) o.index) _ h in
    let y = bound (or_zero (half_of names) o.address) _ x.2 in
    and_from _ _
    (known-or names (half_of names) o.address (known-fitted names 262143 262143 262144) (is-there (or_zero (half_of names) o.address) y.0 y.1))
    (known-or names (register_of names) o.index (known-fitted names 0 15 16) (is-there (or_zero (register_of names) o.index) x.0 x.1))

known-accumulator : (names : Names) (f : Fields) (e : Option (List SignedTerm)) → is_some (with_accumulator names f e) ≡ true
    → is_known_if names e ≡ true
unfolding with_accumulator
known-accumulator names f None h = refl
known-accumulator names f (Some e) h =
    let b = bound (register_of names e) _ h in
    known-fitted names 0 15 16 e (is-there (register_of names e) b.0 b.1)

none-known : (names : Names) (e : Option (List SignedTerm)) → is_none e ≡ true → is_known_if names e ≡ true
none-known names None h = refl
none-known names (Some e) h = absurd (cc)

missing-known : (names : Names) (o : Operand) → is_missing o ≡ true → is_operand_known names o ≡ true
missing-known names o h =
    let b = and_parts (is_none o.address) (is_none o.index) (and_parts (not o.indirect) (is_none o.address && is_none o.index) h).1 in
    and_from _ _ (none-known names o.address b.0) (none-known names o.index b.1)

known-if : {A : Type 0} (b k : Bool) (x : A) (o : Option A) → is_some (if b then Some x else o) ≡ true
    → (b ≡ true → k ≡ true) → (is_some o ≡ true → k ≡ true)
    → k ≡ true
known-if true k x o h f g = f refl
known-if false k x o h f g = g h

known-with_operand : (names : Names) (f : Fields) (o : Operand) → is_some (with_operand names f o) ≡ true → is_operand_known names o ≡ true
unfolding with_operand
known-with_operand names f o h =
    known-if (is_missing o) (is_operand_known names o) f _ h (missing-known names o)
    (λ k. (let b = bound (operand_of names o) _ k in known-operand names o (is-there (operand_of names o) b.0 b.1)))

known-instruction : (names : Names) (given : Instruction) → is_some (instruction_of names given) ≡ true
    → (is_known_if names given.accumulator && is_operand_known names given.operand) ≡ true
unfolding instruction_of
known-instruction names given h =
    let f = bound (with_accumulator names (fields_of given.word) given.accumulator) _ h in
    let g = bound (with_operand names f.0 given.operand) _ f.2 in
    and_from _ _
    (known-accumulator names (fields_of given.word) given.accumulator (is-there (with_accumulator names (fields_of given.word) given.accumulator) f.0 f.1))
    (known-with_operand names f.0 given.operand (is-there (with_operand names f.0 given.operand) g.0 g.1))

known-pointer : (names : Names) (size : ℕ) (o : Operand) (position : Option ℕ) → is_some (pointer_of names size o position) ≡ true
    → is_operand_known names o ≡ true
unfolding pointer_of
known-pointer names size o position h =
    let s = bound (at_most 36 size) _ h in
    let p = bound (position_of position) _ s.2 in
    let f = bound (operand_of names o) _ p.2 in
    known-operand names o (is-there (operand_of names o) f.0 f.1)

known-halves : (names : Names) (l r : List SignedTerm) → is_some (halves_of names l r) ≡ true → (is_known names l && is_known names r) ≡ true
unfolding halves_of
known-halves names l r h =
    let a = bound (half_of names l) _ h in
    let b = bound (half_of names r) _ a.2 in
    and_from _ _ (known-fitted names 262143 262143 262144 l (is-there (half_of names l) a.0 a.1))
    (known-fitted names 262143 262143 262144 r (is-there (half_of names r) b.0 b.1))

known-iowd : (names : Names) (c a : List SignedTerm) → is_some (iowd_of names c a) ≡ true → (is_known names c && is_known names a) ≡ true
unfolding iowd_of
known-iowd names c a h =
    let x = bound (value_of names c) _ h in
    let y = bound (value_of names a) _ x.2 in
    and_from _ _ (known-value names c (is-there (value_of names c) x.0 x.1)) (known-value names a (is-there (value_of names a) y.0 y.1))

known-all : (es : List (List SignedTerm)) (names : Names) → is_some (words_of_all (word_of names) es) ≡ true → list_all (is_known names) es ≡ true
known-all [] names h = refl
known-all (e ∷ es) names h =
    let w = bound (word_of names e) _ h in
    let ws = bound (words_of_all (word_of names) es) _ w.2 in
    and_from _ _ (known-fitted names 34359738368 68719476735 68719476736 e (is-there (word_of names e) w.0 w.1))
    (known-all es names (is-there (words_of_all (word_of names) es) ws.0 ws.1))

known-data : (names : Names) (given : Data) → is_some (all_words_of names given) ≡ true → are_known names given ≡ true
unfolding all_words_of words_of are_known
known-data names (data_of.Value e) h = known-fitted names 34359738368 68719476735 68719476736 e (mapped _ (word_of names e) h)
known-data names (data_of.Halves l r) h = known-halves names l r (mapped _ (halves_of names l r) h)
known-data names (data_of.Iowd c a) h = known-iowd names c a (mapped _ (iowd_of names c a) h)
known-data names (data_of.Exp es) h = known-all es names h
known-data names (data_of.Point n o p) h = known-pointer names n o p (mapped _ (pointer_of names n o p) h)
known-data names (data_of.Text form text) h = refl
known-data names (data_of.Block count) h = refl
known-data names (data_of.Instruction given) h = known-instruction names given (mapped _ (instruction_of names given) h)

known-from : (names : Names) (p : ℕ) (given : Data) → is_some (words_from names p given) ≡ true → are_known names given ≡ true
unfolding words_from
known-from names p given h = known-data names given (mapped _ (all_words_of names given) h)

known-literals : (given : List Data) (addresses : List ℕ) (names : Names) → length addresses ≡ length given
    → is_some (literal_words names (zip addresses given)) ≡ true
    → list_all (are_known names) given ≡ true
unfolding literal_words
known-literals [] addresses names e h = refl
known-literals (d ∷ given) [] names e h = absurd (cc)
known-literals (d ∷ given) (p ∷ addresses) names e h =
    let first = bound (words_from names p d) _ h in
    let later = bound (literal_words names (zip addresses given)) _ first.2 in
    let less : length addresses ≡ length given = omega (arith, e) in
    and_from _ _ (known-from names p d (is-there (words_from names p d) first.0 first.1))
    (known-literals given addresses names less (is-there (literal_words names (zip addresses given)) later.0 later.1))

known-start : (names : Names) (e : Option (List SignedTerm)) → is_some (start_by names (Some (statements.End e))) ≡ true
    → is_known_if names e ≡ true
known-start names None h = refl
known-start names (Some e) h = known-fitted names 0 262143 262144 e h

known-statement : (names : Names) (s : Option Statement) → is_some (statement_words names s) ≡ true → has_start names s ≡ true
    → is_statement_known names s ≡ true
unfolding statement_words has_start
known-statement names None h k = refl
known-statement names (Some (statements.Data given)) h k = known-from names names.here given h
known-statement names (Some (statements.Loc e)) h k = refl
known-statement names (Some (statements.End e)) h k = known-start names e k
known-statement names (Some (statements.Radix n)) h k = refl
known-statement names (Some statements.Title) h k = refl

-- each literal of a line has an address
abbrev pub HasAddresses : Placed → Type 0
HasAddresses at = length at.names.literals ≡ length at.line.literals

pub given-known : (at : Placed) → HasAddresses at → is_given at ≡ true → is_line_known at ≡ true
unfolding line_words
given-known at e h =
    let b = and_parts (is_some (line_words at)) (has_start at.names at.line.statement) h in
    let l = bound (literal_words at.names (zip at.names.literals at.line.literals)) _ b.0 in
    let o = bound (statement_words at.names at.line.statement) _ l.2 in
    and_from _ _
    (known-literals at.line.literals at.names.literals at.names e (is-there (literal_words at.names (zip at.names.literals at.line.literals)) l.0 l.1))
    (known-statement at.names at.line.statement (is-there (statement_words at.names at.line.statement) o.0 o.1) b.1)

length-addresses : (sizes : List ℕ) (p : ℕ) → length (addresses_from p sizes) ≡ length sizes
unfolding addresses_from
length-addresses [] p = refl
length-addresses (z ∷ sizes) p = ap suc (length-addresses sizes (p + z))

-- the lines as they are placed, each with an address for each literal
abbrev AllHave : List Placed → Type 0
AllHave [] = Unit {0}
AllHave (at ∷ later) = HasAddresses at × AllHave later

all-have : (ats : List Located) (m : Labels) (addresses : List ℕ) → length addresses ≡ length (literal_sizes m ats) → AllHave (placed m ats addresses)
unfolding placed
all-have [] m addresses e = tt
all-have (at ∷ later) m addresses e =
    let n = length at.line.literals in
    let sizes = sizes_at m at in
    let more = literal_sizes m later in
    let all : length addresses ≡ length sizes + length more = e ∙ length-append sizes more in
    let mine : length sizes ≡ n = length-map at.line.literals (size_of m at.address) in
    let enough : n ≤ length addresses = omega (arith, all, mine) in
    let rest : length addresses - n ≡ length more = omega (arith, all, mine) in
    (length-take-le n addresses enough, all-have later m (drop n addresses) (length-drop n addresses ∙ rest))

in-all : (above : List Placed) (at : Placed) (below : List Placed) → AllHave (above ++ (at ∷ below)) → HasAddresses at
in-all [] at below h = h.0
in-all (first ∷ above) at below h = in-all above at below h.1

pub placed-have : (lines : List Line) (m : Labels) (above : List Placed) (at : Placed) (below : List Placed)
    → lines_placed m lines ≡ above ++ (at ∷ below)
    → HasAddresses at
placed-have lines m above at below e =
    let all : AllHave (lines_placed m lines) =
    all-have (lines_at m lines) m (literal_addresses m lines) (length-addresses (literal_sizes m (lines_at m lines)) (address_after m first_address lines)) in
    in-all above at below (subst AllHave e all)
