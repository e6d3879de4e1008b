-- Lines as they are met from above are those that stand under the map of their labels.
use Rattle.std.proofs.Common.{◌≡◌, ◌∙◌, sym, ap, ℕ, true, List, [], ◌∷◌, ◌++◌, map, flat_map, refl, append_assoc}
use Rattle.std.specs.List.{range_with_len}
use Rattle.std.specs.Map.{keys_of}
use Rattle.std.proofs.lemmas.List.{append-nil}
use Rattle.mac_text.specs.declared.syntax.Line.{Line}
use Rattle.mac_layout.specs.Addresses.{Labels, size_of, address_behind, address_after, Located, located, literal_sizes, are_settled, first_address}
use Rattle.asm_laws.specs.Found.{labels_from_above}
use Rattle.asm_laws.specs.Laws.{addresses_of}
use Rattle.asm_laws.specs.Codes.{located_at, lines_from_above, address_from_above, statement_addresses, sizes_of_literals, AgreesFromAbove}
use Rattle.asm_laws.proofs.Unique.{own, keys-grow, labels_in, Settled, settled_parts}
use Rattle.asm_laws.proofs.Found.{met}
use Rattle.asm_laws.proofs.Fits.{range_of}
use Rattle.asm_laws.proofs.Layouts.{Kept, kept}

labels-borne : (lines : List Line) (xs : Labels) (p : ℕ) → keys_of (labels_from_above xs p lines) ≡ keys_of xs ++ flat_map (λ line. line.labels) lines
unfolding labels_from_above
labels-borne [] xs p = sym (append-nil (keys_of xs))
labels-borne (line ∷ lines) xs p =
    let xs' = xs ++ own p line in
    let more = flat_map (λ line. line.labels) lines in
    labels-borne lines xs' (address_behind xs' p line.statement)
    ∙ ap (λ l. l ++ more) (keys-grow xs p line)
    ∙ append_assoc (keys_of xs) line.labels more

-- the same from any address on, under a map
record MetUnder (m xs : Labels) (p : ℕ) (lines : List Line) : Type 0 where
  addresses : map located_at (lines_from_above xs p lines) ≡ located m p lines
  behind : address_from_above xs p lines ≡ address_after m p lines
  taken : flat_map statement_addresses (lines_from_above xs p lines) ≡ flat_map (addresses_of m) (located m p lines)
  sizes : flat_map sizes_of_literals (lines_from_above xs p lines) ≡ literal_sizes m (located m p lines)

met-under : (lines : List Line) (xs : Labels) (p : ℕ) → are_settled (keys_of xs) lines ≡ true → MetUnder (labels_from_above xs p lines) xs p lines
unfolding labels_from_above lines_from_above address_from_above located address_after
met-under [] xs p h = record { addresses = refl; behind = refl; taken = refl; sizes = refl }
met-under (line ∷ lines) xs p h =
    let s : Settled xs p line lines = settled_parts xs p line lines h in
    let xs' = xs ++ own p line in
    let p' = address_behind xs' p line.statement in
    let m = labels_from_above xs' p' lines in
    let e : m ≡ xs' ++ labels_in m p' lines = met lines p' xs' s.later in
    let k : Kept m xs' p line = kept m xs' (labels_in m p' lines) p line e s.statement s.literals in
    let i : MetUnder m xs' p' lines = met-under lines xs' p' s.later in
    let here : Located = record { address = p; line = line } in
    let own_addresses = range_of xs' p line.statement in
    let own_sizes = map (size_of xs' p) line.literals in
    record {
      addresses = ap (λ l. here ∷ l) i.addresses ∙ ap (λ q. here ∷ located m q lines) (sym k.address);
      behind = i.behind ∙ ap (λ q. address_after m q lines) (sym k.address);
      taken = ap (λ l. own_addresses ++ l) i.taken
          ∙ ap (λ n. range_with_len p n ++ flat_map (addresses_of m) (located m p' lines)) (sym k.size)
          ∙ ap (λ q. range_of m p line.statement ++ flat_map (addresses_of m) (located m q lines)) (sym k.address);
      sizes = ap (λ l. own_sizes ++ l) i.sizes
          ∙ ap (λ l. l ++ literal_sizes m (located m p' lines)) (sym k.sizes)
          ∙ ap (λ q. map (size_of m p) line.literals ++ literal_sizes m (located m q lines)) (sym k.address);
    }

pub lines-met : (lines : List Line) → AgreesFromAbove lines
lines-met lines = record {
  labelled = labels-borne lines [] first_address;
  addresses = λ h. (met-under lines [] first_address h).addresses;
  behind = λ h. (met-under lines [] first_address h).behind;
  taken = λ h. (met-under lines [] first_address h).taken;
  sizes = λ h. (met-under lines [] first_address h).sizes;
}
