-- The labels as they are met are the one map; so an image is found exactly where there is one.
use Rattle.std.proofs.Common.{◌≡◌, ◌∙◌, sym, ap, ℕ, true, ◌&&◌, List, [], ◌∷◌, ◌++◌, Option, Some, Result, Ok, Err, refl, append_assoc}
use Rattle.std.specs.Map.{keys_of, values_of}
use Rattle.std.proofs.lemmas.List.{append-nil}
use Rattle.std.proofs.lemmas.Bool.{and_parts, and_from}
use Rattle.mac_text.specs.Lines.{program_of}
use Rattle.mac_text.specs.declared.syntax.Line.{Line}
use Rattle.mac_layout.specs.Addresses.{Labels, address_behind, located, literal_sizes, are_settled, first_address, are_apart}
use Rattle.mac_asm.specs.Assembly.{Assembled, IsAssembly, lines_at, lines_placed, words_at, have_words, are_allowed, are_below, start_at, by_address}
use Rattle.asm_laws.specs.Found.{labels_from_above, map_of, are_placed, image_under, image_of, image_of_lines}
use Rattle.asm_laws.proofs.Maps.{address-settled}
use Rattle.asm_laws.proofs.Options.{some_parts, if_some, if_true, bind_some, bind_at}
use Rattle.asm_laws.proofs.Unique.{own, labels_in, settled_parts, unique_map}

pub met : (lines : List Line) (address : ℕ) (xs : Labels) → are_settled (keys_of xs) lines ≡ true
    → labels_from_above xs address lines ≡ xs ++ labels_in (labels_from_above xs address lines) address lines
unfolding labels_from_above located
met [] address xs h = sym (append-nil xs)
met (line ∷ lines) address xs h =
    let s = settled_parts xs address line lines h in
    let xs' = xs ++ own address line in
    let p' = address_behind xs' address line.statement in
    let m = labels_from_above xs' p' lines in
    let ih : m ≡ xs' ++ labels_in m p' lines = met lines p' xs' s.later in
    let p : address_behind m address line.statement ≡ p' =
    ap (λ l. address_behind l address line.statement) ih ∙ address-settled xs' (labels_in m p' lines) address line.statement s.statement in
    ih ∙ append_assoc xs (own address line) (labels_in m p' lines)
    ∙ ap (λ q. xs ++ (own address line ++ labels_in m q lines)) (sym p)

-- the map that is found satisfies all lines
pub map_is_met : (lines : List Line) → are_settled [] lines ≡ true
    → map_of lines ≡ labels_in (map_of lines) first_address lines
map_is_met lines h = met lines first_address [] h

-- and it is the only one
pub met_only : (lines : List Line) (labels : Labels) → are_settled [] lines ≡ true
    → labels ≡ labels_in labels first_address lines
    → labels ≡ map_of lines
met_only lines labels h e = unique_map lines labels (map_of lines) h e (map_is_met lines h)

pub image_found : (source : List ℕ) (image : Assembled) → IsAssembly source image → image_of source ≡ Some image
unfolding image_of image_under
image_found source image h =
    let m : h.labels ≡ map_of h.lines = met_only h.lines h.labels h.settled h.is_map in
    let placed : are_placed h.labels h.lines ≡ true =
    and_from _ _ h.settled (and_from _ _ h.once (and_from _ _ h.literals (and_from _ _ h.allowed h.labels_below))) in
    let fits : (are_below (keys_of h.words) && are_apart (keys_of h.words)) ≡ true = and_from _ _ h.words_below h.words_apart in
    let made : Option Assembled = Some (record { words = by_address h.words; start = image.start }) in
    let all : image_under h.labels h.lines ≡ made =
    if_true (are_placed h.labels h.lines) _ placed
    ∙ bind_at (words_at (lines_placed h.labels h.lines)) _ h.words h.gives
    ∙ bind_at (start_at (lines_placed h.labels h.lines)) _ image.start h.start_is
    ∙ if_true (are_below (keys_of h.words) && are_apart (keys_of h.words)) made fits in
    ap image_of_lines h.reads ∙ ap (λ l. image_under l h.lines) (sym m) ∙ all
    ∙ ap (λ w. let x : Assembled = record { words = w; start = image.start } in Some x) (sym h.words_are)

lines_of : (r : Result (List Line) ℕ) (image : Assembled) → image_of_lines r ≡ Some image
    → (lines : List Line) × (r ≡ Ok lines) × (image_under (map_of lines) lines ≡ Some image)
lines_of (Ok lines) image h = (lines, refl, h)
lines_of (Err n) image h = absurd (cc)

pub found_image : (source : List ℕ) (image : Assembled) → image_of source ≡ Some image → IsAssembly source image
unfolding image_of image_under
found_image source image h =
    let l = lines_of (program_of source) image h in
    let lines = l.0 in
    let labels = map_of lines in
    let c = if_some (are_placed labels lines) _ image l.2 in
    let w = bind_some (words_at (lines_placed labels lines)) _ image c.1 in
    let s = bind_some (start_at (lines_placed labels lines)) _ image w.2 in
    let i =
    if_some (are_below (keys_of w.0) && are_apart (keys_of w.0))
    (let x : Assembled = record { words = by_address w.0; start = s.0 } in Some x) image s.2 in
    let p = and_parts (are_settled [] lines) _ c.0 in
    let q = and_parts (are_apart (keys_of labels)) _ p.1 in
    let r = and_parts (have_words (literal_sizes labels (lines_at labels lines))) _ q.1 in
    let t = and_parts (are_allowed (lines_placed labels lines)) (are_below (values_of labels)) r.1 in
    let u = and_parts (are_below (keys_of w.0)) (are_apart (keys_of w.0)) i.0 in
    let made : Assembled = record { words = by_address w.0; start = s.0 } in
    let same : made ≡ image = some_parts made image i.1 in
    record {
      lines = lines;
      labels = labels;
      words = w.0;
      reads = l.1;
      is_map = map_is_met lines p.0;
      once = q.0;
      settled = p.0;
      literals = r.0;
      allowed = t.0;
      gives = w.1;
      labels_below = t.1;
      words_below = u.0;
      words_apart = u.1;
      words_are = ap (λ x. x.words) (sym same);
      start_is = s.1 ∙ ap (λ x. Some x.start) same;
    }
