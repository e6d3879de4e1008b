-- At most one map gives each label the address of its line.
use Rattle.std.proofs.Common.{◌≡◌, ◌∙◌, sym, ap, subst, ℕ, true, ◌&&◌, List, [], ◌∷◌, ◌++◌, map, flat_map, refl, append_assoc}
use Rattle.std.specs.List.{list_all}
use Rattle.std.specs.Map.{keys_of}
use Rattle.std.proofs.lemmas.List.{map-append}
use Rattle.std.proofs.lemmas.Bool.{and_parts}
use Rattle.mac_text.specs.declared.syntax.Line.{Line}
use Rattle.mac_text.specs.Lines.{program_of}
use Rattle.mac_layout.specs.Addresses.{Labels, address_behind, located, labels_at, is_settled, is_count_settled, are_settled}
use Rattle.mac_asm.specs.Assembly.{Assembled, IsAssembly, lines_at, lines_placed, words_at, start_at, by_address}
use Rattle.asm_laws.proofs.Options.{some_same, ok_same}
use Rattle.asm_laws.proofs.Maps.{address-settled}

-- the labels of one line at an address
abbrev pub own : ℕ → Line → Labels
own address line = map (λ name. (name, address)) line.labels

names-own : (address : ℕ) (names : List ℕ) → keys_of (map (λ name. (name, address)) names) ≡ names
names-own address [] = refl
names-own address (n ∷ names) = ap (λ l. n ∷ l) (names-own address names)

pub keys-grow : (xs : Labels) (address : ℕ) (line : Line) → keys_of (xs ++ own address line) ≡ keys_of xs ++ line.labels
keys-grow xs address line =
    map-append (λ e. e.0) xs (own address line) ∙ ap (λ l. keys_of xs ++ l) (names-own address line.labels)

-- the labels that some lines bear, from an address on
abbrev pub labels_in : Labels → ℕ → List Line → Labels
labels_in labels address lines = flat_map labels_at (located labels address lines)

-- what is settled for a line and those behind it
pub record Settled (xs : Labels) (address : ℕ) (line : Line) (lines : List Line) : Type 0 where
  pub statement : is_settled (keys_of (xs ++ own address line)) line.statement ≡ true
  pub literals : list_all (is_count_settled (keys_of (xs ++ own address line))) line.literals ≡ true
  pub later : are_settled (keys_of (xs ++ own address line)) lines ≡ true

pub settled_parts : (xs : Labels) (address : ℕ) (line : Line) (lines : List Line)
    → are_settled (keys_of xs) (line ∷ lines) ≡ true
    → Settled xs address line lines
unfolding are_settled
settled_parts xs address line lines h =
    let names = keys_of xs ++ line.labels in
    let e : names ≡ keys_of (xs ++ own address line) = sym (keys-grow xs address line) in
    let p = and_parts (is_settled names line.statement) (list_all (is_count_settled names) line.literals && are_settled names lines) h in
    let q = and_parts (list_all (is_count_settled names) line.literals) (are_settled names lines) p.1 in
    record {
      statement = subst (λ l. is_settled l line.statement ≡ true) e p.0;
      literals = subst (λ l. list_all (is_count_settled l) line.literals ≡ true) e q.0;
      later = subst (λ l. are_settled l lines ≡ true) e q.1;
    }

-- a map is in parts: the labels above, those of the line, and those behind it
in_parts : (la xs a a' : Labels) (address : ℕ) (line : Line) → la ≡ xs ++ a → a ≡ own address line ++ a'
    → la ≡ (xs ++ own address line) ++ a'
in_parts la xs a a' address line e f = e ∙ ap (λ l. xs ++ l) f ∙ sym (append_assoc xs (own address line) a')

pub unique_from : (lines : List Line) (address : ℕ) (xs la lb a b : Labels) → are_settled (keys_of xs) lines ≡ true
    → la ≡ xs ++ a → lb ≡ xs ++ b
    → a ≡ labels_in la address lines → b ≡ labels_in lb address lines
    → a ≡ b
unfolding located
unique_from [] address xs la lb a b h ea eb fa fb = fa ∙ sym fb
unique_from (line ∷ lines) address xs la lb a b h ea eb fa fb =
    let s = settled_parts xs address line lines h in
    let a' = labels_in la (address_behind la address line.statement) lines in
    let b' = labels_in lb (address_behind lb address line.statement) lines in
    let ga : la ≡ (xs ++ own address line) ++ a' = in_parts la xs a a' address line ea fa in
    let gb : lb ≡ (xs ++ own address line) ++ b' = in_parts lb xs b b' address line eb fb in
    let pa : address_behind la address line.statement ≡ address_behind (xs ++ own address line) address line.statement =
    ap (λ l. address_behind l address line.statement) ga ∙ address-settled (xs ++ own address line) a' address line.statement s.statement in
    let pb : address_behind lb address line.statement ≡ address_behind (xs ++ own address line) address line.statement =
    ap (λ l. address_behind l address line.statement) gb ∙ address-settled (xs ++ own address line) b' address line.statement s.statement in
    let same : a' ≡ b' =
    unique_from lines (address_behind la address line.statement) (xs ++ own address line) la lb a' b' s.later ga gb refl
    (ap (λ p. labels_in lb p lines) (pb ∙ sym pa)) in
    fa ∙ ap (λ l. own address line ++ l) same ∙ sym fb

pub unique_map : (lines : List Line) (la lb : Labels) → are_settled [] lines ≡ true
    → la ≡ flat_map labels_at (lines_at la lines) → lb ≡ flat_map labels_at (lines_at lb lines)
    → la ≡ lb
unique_map lines la lb h fa fb = unique_from lines 0o140 [] la lb la lb h refl refl fa fb

pub unique_image : (source : List ℕ) (a b : Assembled) → IsAssembly source a → IsAssembly source b → a ≡ b
unique_image source a b h k =
    let lines : k.lines ≡ h.lines = ok_same (program_of source) k.lines h.lines k.reads h.reads in
    let is_map : k.labels ≡ flat_map labels_at (lines_at k.labels h.lines) =
    subst (λ l. k.labels ≡ flat_map labels_at (lines_at k.labels l)) lines k.is_map in
    let labels : k.labels ≡ h.labels = unique_map h.lines k.labels h.labels h.settled is_map h.is_map in
    let placed : lines_placed k.labels k.lines ≡ lines_placed h.labels h.lines =
    ap (λ l. lines_placed k.labels l) lines ∙ ap (λ m. lines_placed m h.lines) labels in
    let words : h.words ≡ k.words =
    some_same (words_at (lines_placed h.labels h.lines)) h.words k.words h.gives (ap words_at (sym placed) ∙ k.gives) in
    let start : a.start ≡ b.start =
    some_same (start_at (lines_placed h.labels h.lines)) a.start b.start h.start_is (ap start_at (sym placed) ∙ k.start_is) in
    let same : a.words ≡ b.words = h.words_are ∙ ap by_address words ∙ sym k.words_are in
    ap (λ w. let x : Assembled = record { words = w; start = a.start } in x) same
    ∙ ap (λ s. let x : Assembled = record { words = b.words; start = s } in x) start
