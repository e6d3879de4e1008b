-- The words stand where the sizes of the statements put them.
use Rattle.std.proofs.Common.{◌≡◌, ◌∙◌, sym, ap, subst, ℕ, ◌+◌, true, ◌&&◌, List, [], ◌∷◌, ◌++◌, length, map, take, drop}
use Rattle.std.proofs.Common.{zip, flat_map, Option, Some, None, option_map, refl, append_assoc}
use Rattle.std.specs.List.{list_all, range_with_len}
use Rattle.std.specs.Map.{keys_of}
use Rattle.std.proofs.lemmas.List.{map-append}
use Rattle.std.proofs.lemmas.Bool.{and_parts}
use Rattle.mac_text.specs.declared.syntax.Data.{Data}
use Rattle.mac_text.specs.declared.syntax.Statement.{Statement}
use Rattle.mac_text.specs.declared.syntax.Statement.TheVariants as statements
use Rattle.mac_text.specs.declared.syntax.Line.{Line}
use Rattle.mac_layout.specs.Addresses.{Labels, names_at, size_of, address_behind, address_after, located, literal_sizes, addresses_from}
use Rattle.mac_layout.specs.Addresses.{placed, is_count_settled, is_settled, are_settled, first_address}
use Rattle.mac_asm.specs.Assembly.{all_words_of, words_from, statement_words, literal_words, all_statement_words, all_literal_words, words_at, lines_placed}
use Rattle.asm_laws.specs.Laws.{statement_size, addresses_of, ranges_from, TakesItsAddresses}
use Rattle.asm_laws.proofs.Options.{some_parts, bind_some}
use Rattle.asm_laws.proofs.Sizes.{sizes_fit}

map_some : {A B : Type 0} (f : A → B) (o : Option A) (y : B) → option_map f o ≡ Some y
    → (x : A) × (o ≡ Some x) × (f x ≡ y)
map_some f None y h = absurd (cc)
map_some f (Some x) y h = (x, refl, some_parts (f x) y h)

keys_range : (address : ℕ) (words : List ℕ)
    → keys_of (zip (range_with_len address (length words)) words) ≡ range_with_len address (length words)
keys_range address [] = refl
keys_range address (w ∷ words) = ap (λ l. address ∷ l) (keys_range (address + 1) words)

from_keys : (labels : Labels) (here : ℕ) (literals above : List ℕ) (address : ℕ) (given : Data) (words : List (ℕ × ℕ))
    → is_count_settled above given ≡ true
    → words_from (names_at labels here literals) address given ≡ Some words
    → keys_of words ≡ range_with_len address (size_of labels here given)
unfolding words_from
from_keys labels here literals above address given words s h =
    let m = map_some (λ ws. zip (range_with_len address (length ws)) ws) (all_words_of (names_at labels here literals) given) words h in
    ap keys_of (sym m.2) ∙ keys_range address m.0
    ∙ ap (λ n. range_with_len address n) (sizes_fit labels here literals above given m.0 s m.1)

no_keys : (words : List (ℕ × ℕ)) → Some [] ≡ Some words → keys_of words ≡ []
no_keys words h = subst (λ l. keys_of l ≡ []) (some_parts [] words h) refl

statement_keys : (labels : Labels) (address : ℕ) (literals above : List ℕ) (s : Option Statement) (words : List (ℕ × ℕ))
    → is_settled above s ≡ true
    → statement_words (names_at labels address literals) s ≡ Some words
    → keys_of words ≡ range_with_len address (statement_size labels address s)
unfolding statement_words
statement_keys labels address literals above None words h g = no_keys words g
statement_keys labels address literals above (Some (statements.Data given)) words h g =
    from_keys labels address literals above address given words h g
statement_keys labels address literals above (Some (statements.Loc e)) words h g = no_keys words g
statement_keys labels address literals above (Some (statements.End e)) words h g = no_keys words g
statement_keys labels address literals above (Some (statements.Radix n)) words h g = no_keys words g
statement_keys labels address literals above (Some statements.Title) words h g = no_keys words g

joined_keys : (first more words : List (ℕ × ℕ)) (a b : List ℕ) → Some (first ++ more) ≡ Some words
    → keys_of first ≡ a → keys_of more ≡ b
    → keys_of words ≡ a ++ b
joined_keys first more words a b h f g =
    ap keys_of (sym (some_parts (first ++ more) words h)) ∙ map-append (λ e. e.0) first more
    ∙ ap (λ l. l ++ keys_of more) f ∙ ap (λ l. a ++ l) g

all_statement_keys : (lines : List Line) (labels : Labels) (address : ℕ) (above addresses : List ℕ) (words : List (ℕ × ℕ))
    → are_settled above lines ≡ true
    → all_statement_words (placed labels (located labels address lines) addresses) ≡ Some words
    → keys_of words ≡ flat_map (addresses_of labels) (located labels address lines)
unfolding are_settled all_statement_words placed located
all_statement_keys [] labels address above addresses words h g = no_keys words g
all_statement_keys (line ∷ lines) labels address above addresses words h g =
    let names = above ++ line.labels in
    let p = and_parts (is_settled names line.statement) (list_all (is_count_settled names) line.literals && are_settled names lines) h in
    let q = and_parts (list_all (is_count_settled names) line.literals) (are_settled names lines) p.1 in
    let next = address_behind labels address line.statement in
    let own = take (length line.literals) addresses in
    let f = bind_some (statement_words (names_at labels address own) line.statement) _ words g in
    let m = bind_some (all_statement_words (placed labels (located labels next lines) (drop (length line.literals) addresses))) _ words f.2 in
    joined_keys f.0 m.0 words _ _ m.2
    (statement_keys labels address own names line.statement f.0 p.0 f.1)
    (all_statement_keys lines labels next names (drop (length line.literals) addresses) m.0 q.1 m.1)

-- the address behind so many words
after : ℕ → List ℕ → ℕ
after address [] = address
after address (size ∷ sizes) = after (address + size) sizes

take-none : (l : List ℕ) → take 0 l ≡ []
take-none [] = refl
take-none (x ∷ l) = refl

drop-none : (l : List ℕ) → drop 0 l ≡ l
drop-none [] = refl
drop-none (x ∷ l) = refl

own_addresses : (f : Data → ℕ) (given : List Data) (more : List ℕ) (address : ℕ)
    → take (length given) (addresses_from address (map f given ++ more)) ≡ addresses_from address (map f given)
unfolding addresses_from
own_addresses f [] more address = take-none (addresses_from address more)
own_addresses f (d ∷ given) more address = ap (λ l. address ∷ l) (own_addresses f given more (address + f d))

later_addresses : (f : Data → ℕ) (given : List Data) (more : List ℕ) (address : ℕ)
    → drop (length given) (addresses_from address (map f given ++ more)) ≡ addresses_from (after address (map f given)) more
unfolding addresses_from after
later_addresses f [] more address = drop-none (addresses_from address more)
later_addresses f (d ∷ given) more address = later_addresses f given more (address + f d)

ranges-append : (xs ys : List ℕ) (address : ℕ)
    → ranges_from address (xs ++ ys) ≡ ranges_from address xs ++ ranges_from (after address xs) ys
unfolding ranges_from after
ranges-append [] ys address = refl
ranges-append (x ∷ xs) ys address =
    ap (λ l. range_with_len address x ++ l) (ranges-append xs ys (address + x))
    ∙ sym (append_assoc (range_with_len address x) (ranges_from (address + x) xs) (ranges_from (after (address + x) xs) ys))

literal_keys : (labels : Labels) (here : ℕ) (literals above : List ℕ) (given : List Data) (address : ℕ) (words : List (ℕ × ℕ))
    → list_all (is_count_settled above) given ≡ true
    → literal_words (names_at labels here literals) (zip (addresses_from address (map (size_of labels here) given)) given) ≡ Some words
    → keys_of words ≡ ranges_from address (map (size_of labels here) given)
unfolding literal_words addresses_from ranges_from
literal_keys labels here literals above [] address words s g = no_keys words g
literal_keys labels here literals above (d ∷ given) address words s g =
    let names = names_at labels here literals in
    let p = and_parts (is_count_settled above d) (list_all (is_count_settled above) given) s in
    let next = address + size_of labels here d in
    let f = bind_some (words_from names address d) _ words g in
    let m = bind_some (literal_words names (zip (addresses_from next (map (size_of labels here) given)) given)) _ words f.2 in
    joined_keys f.0 m.0 words _ _ m.2
    (from_keys labels here literals above address d f.0 p.0 f.1)
    (literal_keys labels here literals above given next m.0 p.1 m.1)

all_literal_keys : (lines : List Line) (labels : Labels) (address : ℕ) (above : List ℕ) (first : ℕ) (words : List (ℕ × ℕ))
    → are_settled above lines ≡ true
    → all_literal_words (placed labels (located labels address lines) (addresses_from first (literal_sizes labels (located labels address lines)))) ≡ Some words
    → keys_of words ≡ ranges_from first (literal_sizes labels (located labels address lines))
unfolding are_settled all_literal_words placed located ranges_from
all_literal_keys [] labels address above first words h g = no_keys words g
all_literal_keys (line ∷ lines) labels address above first words h g =
    let names = above ++ line.labels in
    let p = and_parts (is_settled names line.statement) (list_all (is_count_settled names) line.literals && are_settled names lines) h in
    let q = and_parts (list_all (is_count_settled names) line.literals) (are_settled names lines) p.1 in
    let next = address_behind labels address line.statement in
    let size = size_of labels address in
    let more = literal_sizes labels (located labels next lines) in
    let all = addresses_from first (map size line.literals ++ more) in
    let n = length line.literals in
    let f = bind_some (literal_words (names_at labels address (take n all)) (zip (take n all) line.literals)) _ words g in
    let m = bind_some (all_literal_words (placed labels (located labels next lines) (drop n all))) _ words f.2 in
    let own : literal_words (names_at labels address (take n all)) (zip (addresses_from first (map size line.literals)) line.literals) ≡ Some f.0 =
    subst (λ l. literal_words (names_at labels address (take n all)) (zip l line.literals) ≡ Some f.0) (own_addresses size line.literals more first) f.1 in
    let later : all_literal_words (placed labels (located labels next lines) (addresses_from (after first (map size line.literals)) more)) ≡ Some m.0 =
    subst (λ l. all_literal_words (placed labels (located labels next lines) l) ≡ Some m.0) (later_addresses size line.literals more first) m.1 in
    joined_keys f.0 m.0 words _ _ m.2
    (literal_keys labels address (take n all) names line.literals first f.0 q.0 own)
    (all_literal_keys lines labels next names (after first (map size line.literals)) m.0 q.1 later)
    ∙ sym (ranges-append (map size line.literals) more first)

pub takes_its_addresses : (labels : Labels) (lines : List Line) (words : List (ℕ × ℕ)) → TakesItsAddresses labels lines words
unfolding words_at
takes_its_addresses labels lines words h g =
    let at = lines_placed labels lines in
    let f = bind_some (all_statement_words at) _ words g in
    let m = bind_some (all_literal_words at) _ words f.2 in
    joined_keys f.0 m.0 words _ _ m.2
    (all_statement_keys lines labels first_address [] _ f.0 h f.1)
    (all_literal_keys lines labels first_address [] (address_after labels first_address lines) m.0 h m.1)
