-- Lines can stand one behind the other exactly where all that is asked of an image's addresses holds of them at once.
use Rattle.std.proofs.Common.{◌≡◌, ◌∙◌, sym, ap, subst, ℕ, true, ◌&&◌, List, [], ◌∷◌, ◌++◌, map, length, take, drop}
use Rattle.std.proofs.Common.{flat_map, is_some, Option, Some, None, option_map, refl, append_assoc}
use Rattle.std.specs.Prelude.{nat_lt, replicate}
use Rattle.std.specs.List.{range_with_len}
use Rattle.std.specs.Map.{keys_of, values_of}
use Rattle.std.proofs.lemmas.List.{append-nil, map-append}
use Rattle.std.proofs.lemmas.List.Folds.{list_all-append}
use Rattle.std.proofs.lemmas.Bool.{and_parts, and_from}
use Rattle.mac_text.specs.declared.syntax.SignedTerm.{SignedTerm}
use Rattle.mac_text.specs.declared.syntax.Data.{Data}
use Rattle.mac_text.specs.declared.syntax.Data.TheVariants as data_of
use Rattle.mac_text.specs.declared.syntax.Statement.{Statement}
use Rattle.mac_text.specs.declared.syntax.Statement.TheVariants as statements
use Rattle.mac_text.specs.declared.syntax.Line.{Line}
use Rattle.mac_layout.specs.Addresses.{Labels, names_at, count_of, size_of, address_behind, Located, located, literal_sizes, placed}
use Rattle.mac_layout.specs.Addresses.{are_among, is_count_settled, is_settled, are_settled, are_apart}
use Rattle.mac_asm.specs.Assembly.{all_words_of, words_from, statement_words, all_statement_words, allows, are_allowed, have_words, are_below}
use Rattle.asm_laws.specs.Found.{labels_from_above}
use Rattle.asm_laws.specs.Laws.{addresses_of}
use Rattle.asm_laws.proofs.Options.{bind_some}
use Rattle.asm_laws.proofs.Unique.{own, labels_in, Settled, settled_parts}
use Rattle.asm_laws.proofs.Maps.{count-settled}
use Rattle.asm_laws.proofs.Sizes.{count-free}
use Rattle.asm_laws.proofs.Found.{met}
use Rattle.asm_laws.proofs.Apart.{apart-parts}
use Rattle.asm_laws.proofs.Counts.{data_counts, counts}
use Rattle.asm_laws.proofs.Fits.{range_of}
use Rattle.asm_laws.proofs.Layouts.{Fits, fits-settled, fits-kept, Kept, kept}

-- all that is asked of lines and their addresses under a map, behind labels and addresses above them
pub record Whole (m xs : Labels) (t lits : List ℕ) (lines : List Line) (ats : List Located) : Type 0 where
  pub settled : are_settled (keys_of xs) lines ≡ true
  pub once : are_apart (keys_of m) ≡ true
  pub low : are_below (values_of m) ≡ true
  pub sized : have_words (literal_sizes m ats) ≡ true
  pub allowed : are_allowed (placed m ats lits) ≡ true
  pub words_once : are_apart (t ++ flat_map (addresses_of m) ats) ≡ true
  pub words_low : are_below (flat_map (addresses_of m) ats) ≡ true

-- the count of LOC and BLOCK is the same under all labels
count-same : (m xs ys : Labels) (p : ℕ) (l : List ℕ) (e : List SignedTerm) → m ≡ xs ++ ys → are_among (keys_of xs) e ≡ true
    → count_of (names_at m p l) e ≡ count_of (names_at xs p []) e
count-same m xs ys p l e same h =
    count-free m p l (keys_of xs) e h ∙ ap (λ n. count_of (names_at n p []) e) same ∙ count-settled xs ys p e h

counted-allows : (m xs ys : Labels) (p : ℕ) (l : List ℕ) (s : Option Statement) → m ≡ xs ++ ys → is_settled (keys_of xs) s ≡ true
    → counts xs p s ≡ true
    → allows (names_at m p l) s ≡ true
counted-allows m xs ys p l None same h c = refl
counted-allows m xs ys p l (Some (statements.Data given)) same h c = refl
counted-allows m xs ys p l (Some (statements.Loc e)) same h c = ap is_some (count-same m xs ys p l e same h) ∙ c
counted-allows m xs ys p l (Some (statements.End e)) same h c = refl
counted-allows m xs ys p l (Some (statements.Radix n)) same h c = c
counted-allows m xs ys p l (Some statements.Title) same h c = refl

map-known : {A B : Type 0} (f : A → B) (o : Option A) (y : B) → option_map f o ≡ Some y → is_some o ≡ true
map-known f None y h = absurd (cc)
map-known f (Some x) y h = refl

data-counted : (m xs ys : Labels) (p : ℕ) (l : List ℕ) (given : Data) (words : List (ℕ × ℕ)) → m ≡ xs ++ ys
    → is_count_settled (keys_of xs) given ≡ true
    → words_from (names_at m p l) p given ≡ Some words
    → data_counts xs p given ≡ true
unfolding words_from all_words_of
data-counted m xs ys p l (data_of.Value e) words same h g = refl
data-counted m xs ys p l (data_of.Halves a b) words same h g = refl
data-counted m xs ys p l (data_of.Iowd a b) words same h g = refl
data-counted m xs ys p l (data_of.Exp es) words same h g = refl
data-counted m xs ys p l (data_of.Point n o q) words same h g = refl
data-counted m xs ys p l (data_of.Text form text) words same h g = refl
data-counted m xs ys p l (data_of.Block count) words same h g =
    ap is_some (sym (count-same m xs ys p l count same h))
    ∙ map-known (λ n. replicate n 0) (count_of (names_at m p l) count) _
    (some-of (map-known _ (option_map (λ n. replicate n 0) (count_of (names_at m p l) count)) words g)).1
  where
    some-of : {A : Type 0} {o : Option A} → is_some o ≡ true → (x : A) × (o ≡ Some x)
    some-of {o = None} h = absurd (cc)
    some-of {o = Some x} h = (x, refl)
data-counted m xs ys p l (data_of.Instruction given) words same h g = refl

pub statement-counted : (m xs ys : Labels) (p : ℕ) (l : List ℕ) (s : Option Statement) (words : List (ℕ × ℕ)) → m ≡ xs ++ ys
    → is_settled (keys_of xs) s ≡ true
    → allows (names_at m p l) s ≡ true
    → statement_words (names_at m p l) s ≡ Some words
    → counts xs p s ≡ true
unfolding statement_words
statement-counted m xs ys p l None words same h a g = refl
statement-counted m xs ys p l (Some (statements.Data given)) words same h a g = data-counted m xs ys p l given words same h g
statement-counted m xs ys p l (Some (statements.Loc e)) words same h a g = ap is_some (sym (count-same m xs ys p l e same h)) ∙ a
statement-counted m xs ys p l (Some (statements.End e)) words same h a g = refl
statement-counted m xs ys p l (Some (statements.Radix n)) words same h a g = a
statement-counted m xs ys p l (Some statements.Title) words same h a g = refl

pub all-append : (xs ys : List ℕ) → are_below (xs ++ ys) ≡ (are_below xs && are_below ys)
all-append xs ys = list_all-append (λ n. nat_lt n 262144) xs ys

pub words-append : (xs ys : List ℕ) → have_words (xs ++ ys) ≡ (have_words xs && have_words ys)
words-append xs ys = list_all-append (λ n. nat_lt 0 n) xs ys

pub fits-whole : (lines : List Line) (xs : Labels) (p : ℕ) (t lits : List ℕ) → Fits xs p t lines
    → are_apart (keys_of xs) ≡ true → are_below (values_of xs) ≡ true → are_apart t ≡ true
    → Whole (labels_from_above xs p lines) xs t lits lines (located (labels_from_above xs p lines) p lines)
unfolding labels_from_above located placed are_settled
fits-whole [] xs p t lits f o b a = record {
  settled = refl;
  once = o;
  low = b;
  sized = refl;
  allowed = refl;
  words_once = ap are_apart (append-nil t) ∙ a;
  words_low = refl;
}
fits-whole (line ∷ lines) xs p t lits f o b a =
    let xs' = xs ++ own p line in
    let p' = address_behind xs' p line.statement in
    let m = labels_from_above xs' p' lines in
    let t' = t ++ range_of xs' p line.statement in
    let n = length line.literals in
    let k : Kept m xs' p line = fits-kept line lines xs p t f in
    let e : m ≡ xs' ++ labels_in m p' lines = met lines p' xs' (fits-settled lines xs' p' t' f.1) in
    let rest = located m p' lines in
    let w : Whole m xs' t' (drop n lits) lines rest = fits-whole lines xs' p' t' (drop n lits) f.1 f.0.once f.0.low f.0.statement.once in
    subst (λ q. Whole m xs t lits (line ∷ lines) (record { address = p; line = line } ∷ located m q lines)) (sym k.address)
    (record {
      settled = fits-settled (line ∷ lines) xs p t f;
      once = w.once;
      low = w.low;
      sized = words-append (map (size_of m p) line.literals) (literal_sizes m rest)
          ∙ and_from _ _ (ap have_words k.sizes ∙ f.0.sized) w.sized;
      allowed =
          and_from _ _
          (counted-allows m xs' (labels_in m p' lines) p (take n lits) line.statement e f.0.statement.settled
          f.0.statement.counted) w.allowed;
      words_once = ap (λ s. are_apart (t ++ (range_with_len p s ++ flat_map (addresses_of m) rest))) k.size
          ∙ ap are_apart (sym (append_assoc t (range_of xs' p line.statement) (flat_map (addresses_of m) rest))) ∙ w.words_once;
      words_low = all-append (range_of m p line.statement) (flat_map (addresses_of m) rest)
          ∙ and_from _ _ (ap (λ s. are_below (range_with_len p s)) k.size ∙ f.0.statement.low) w.words_low;
    })

pub whole-fits : (lines : List Line) (xs : Labels) (p : ℕ) (t lits : List ℕ) (words : List (ℕ × ℕ))
    → Whole (labels_from_above xs p lines) xs t lits lines (located (labels_from_above xs p lines) p lines)
    → all_statement_words (placed (labels_from_above xs p lines) (located (labels_from_above xs p lines) p lines) lits) ≡ Some words
    → Fits xs p t lines
unfolding labels_from_above located placed all_statement_words
whole-fits [] xs p t lits words w g = tt
whole-fits (line ∷ lines) xs p t lits words w g =
    let xs' = xs ++ own p line in
    let p' = address_behind xs' p line.statement in
    let m = labels_from_above xs' p' lines in
    let n = length line.literals in
    let s : Settled xs p line lines = settled_parts xs p line lines w.settled in
    let ys = labels_in m p' lines in
    let e : m ≡ xs' ++ ys = met lines p' xs' s.later in
    let k : Kept m xs' p line = kept m xs' ys p line e s.statement s.literals in
    let rest = located m p' lines in
    let v = subst (λ q. Whole m xs t lits (line ∷ lines) (record { address = p; line = line } ∷ located m q lines)) k.address w in
    let h = subst (λ q. all_statement_words (placed m (record { address = p; line = line } ∷ located m q lines) lits) ≡ Some words) k.address g in
    let f = bind_some (statement_words (names_at m p (take n lits)) line.statement) _ words h in
    let l = bind_some (all_statement_words (placed m rest (drop n lits))) _ words f.2 in
    let keys : are_apart (keys_of xs' ++ keys_of ys) ≡ true =
    ap are_apart (sym (ap keys_of e ∙ map-append (λ x. x.0) xs' ys)) ∙ v.once in
    let values : are_below (values_of xs' ++ values_of ys) ≡ true =
    ap are_below (sym (ap values_of e ∙ map-append (λ x. x.1) xs' ys)) ∙ v.low in
    let sized = and_parts (have_words (map (size_of m p) line.literals)) _
    (sym (words-append (map (size_of m p) line.literals) (literal_sizes m rest)) ∙ v.sized) in
    let allowed = and_parts (allows (names_at m p (take n lits)) line.statement) _ v.allowed in
    let low = and_parts (are_below (range_of m p line.statement)) _
    (sym (all-append (range_of m p line.statement) (flat_map (addresses_of m) rest)) ∙ v.words_low) in
    let once : are_apart ((t ++ range_of xs' p line.statement) ++ flat_map (addresses_of m) rest) ≡ true =
    ap are_apart (append_assoc t (range_of xs' p line.statement) (flat_map (addresses_of m) rest))
    ∙ ap (λ z. are_apart (t ++ (range_with_len p z ++ flat_map (addresses_of m) rest))) (sym k.size) ∙ v.words_once in (
      record {
        once = (apart-parts (keys_of xs') (keys_of ys) keys).0;
        low = (and_parts (are_below (values_of xs')) _ (sym (all-append (values_of xs') (values_of ys)) ∙ values)).0;
        settled = s.literals;
        sized = ap have_words (sym k.sizes) ∙ sized.0;
        statement = record {
          settled = s.statement;
          counted = statement-counted m xs' ys p (take n lits) line.statement f.0 e s.statement allowed.0 f.1;
          once = (apart-parts (t ++ range_of xs' p line.statement) (flat_map (addresses_of m) rest) once).0;
          low = ap (λ z. are_below (range_with_len p z)) (sym k.size) ∙ low.0;
        };
      },
      whole-fits lines xs' p' (t ++ range_of xs' p line.statement) (drop n lits) l.0
          (record {
            settled = s.later;
            once = v.once;
            low = v.low;
            sized = sized.1;
            allowed = allowed.1;
            words_once = once;
            words_low = low.1;
          })
          l.1,
    )
