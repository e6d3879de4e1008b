-- Requests that are set out one after the other.
use Rattle.std.proofs.Common.{◌≡◌, ◌<◌, ◌+◌, ◌++◌, ◌∷◌, ◌∙◌, [], ℕ, zero, suc, List, Some, true, length, take, get_or, slice_get, sym, ap, arith}
use Rattle.std.proofs.lemmas.Bool.{and_parts}
use Rattle.std.proofs.lemmas.List.{get_or-map, length-map, map-append, take_more}
use Rattle.lock_queue.specs.Unused.{unused_request}
use Rattle.lock_queue.specs.WellFormed.{are_well_formed, is_well_formed}
use Rattle.lock_queue.specs.declared.request.Request.{Request}
use Rattle.state_search.specs.Parts.{AreNumbers, part_of}
use Rattle.job_orders.specs.Tables.{requests_in}
use Rattle.job_orders.proofs.Filling.{part-is}

well-at : (rs : List Request) (i : ℕ) → are_well_formed rs ≡ true → i < length rs → is_well_formed (get_or rs i unused_request) ≡ true
well-at [] i h low = absurd (omega (arith, low))
well-at (r ∷ rs) zero h low = (and_parts (is_well_formed r) (are_well_formed rs) h).0
well-at (r ∷ rs) (suc i) h low = well-at rs i (and_parts (is_well_formed r) (are_well_formed rs) h).1 (omega (arith, low))

module _ (parts : List Request) (ns : List ℕ) (i : ℕ) (r : Request) (low : i < length ns) (all : AreNumbers parts ns)
    (got : slice_get parts (get_or ns i 0) ≡ Some r) where
  asked-is : r ≡ part_of (λ (q : Request). q) unused_request parts (get_or ns i 0)
  asked-is = part-is (λ (q : Request). q) unused_request parts (get_or ns i 0) r (all i 0 low) got

  pub asked-well : are_well_formed (requests_in parts ns) ≡ true → is_well_formed r ≡ true
  asked-well h =
      let long : length (requests_in parts ns) ≡ length ns = length-map ns (part_of (λ (q : Request). q) unused_request parts) in
      ap is_well_formed (asked-is ∙ sym (get_or-map (part_of (λ (q : Request). q) unused_request parts) ns i 0 unused_request low))
      ∙ well-at (requests_in parts ns) i h (omega (arith, long, low))

  pub asked-more : (old new : List Request) → new ≡ old ++ r ∷ [] → old ≡ requests_in parts (take i ns) → new ≡ requests_in parts (take (i + 1) ns)
  asked-more old new e before =
      e ∙ ap (λ l. l ++ r ∷ []) before ∙ ap (λ q. requests_in parts (take i ns) ++ q ∷ []) asked-is
      ∙ sym (map-append (part_of (λ (q : Request). q) unused_request parts) (take i ns) (get_or ns i 0 ∷ []))
      ∙ ap (requests_in parts) (sym (take_more ns i 0 low))
