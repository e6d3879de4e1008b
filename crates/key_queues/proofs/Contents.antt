-- What the slots of a slab hold.
use Rattle.std.proofs.Common.{◌≡◌, ◌≤◌, ◌<◌, ◌∙◌, sym, ap, ℕ, Bool, true, false, List, [], length, Option, Some, None, is_some, inl, inr, refl, arith, IsSome, IsTrue, zero-add, cond, ◌+◌}
use Rattle.std.proofs.lemmas.Bool.{cases_eq}
use Rattle.std.proofs.lemmas.List.{get_or_past, get_or-set_same, get_or-set_other, length-set}
use Rattle.std.proofs.lemmas.List.Sums.{sum_by-set}
use Rattle.std.proofs.lemmas.List.FromFn.{length-map-range_with_len, get_or-map-range_with_len, fill_by_all}
use Rattle.std.specs.Global.{Global}
use Rattle.std.specs.declared.boxed.Box.{Box}
use Rattle.slab.specs.Slab.{Slab, get, slab_len, Updates, with_value}
use Rattle.slab.proofs.SlabLemmas.{ContainsKey-within, Updates-with_value}
use Rattle.key_queues.specs.declared.entry.Entry.{Entry}
use Rattle.key_queues.specs.Stores.{entry_or}
use Rattle.key_queues.specs.EntrySlabs.{SlabContents, unboxed, contents_in, content_at, is_filled, with_request, with_content}

pub long : (n : ℕ) (slab : Slab (Box Entry Global)) → length (contents_in n slab) ≡ n
long n slab = length-map-range_with_len (λ p. unboxed (get slab p)) 0 n

pub content_is : (n : ℕ) (slab : Slab (Box Entry Global)) (p : ℕ) → p < n → content_at (contents_in n slab) p ≡ unboxed (get slab p)
content_is n slab p lt = get_or-map-range_with_len (λ p. unboxed (get slab p)) 0 n p p None lt (zero-add p)

pub within : (n : ℕ) (contents : List (Option Entry)) (p : ℕ) → length contents ≡ n → is_filled contents p ≡ true → p < n
within n contents p is h = grind (arith, get_or_past contents p None, is, h)

some_unboxed : (o : Option (Box Entry Global)) → is_some (unboxed o) ≡ is_some o
some_unboxed (Some b) = refl
some_unboxed None = refl

pub filled_is : (n : ℕ) (slab : Slab (Box Entry Global)) (p : ℕ) → p < n → is_filled (contents_in n slab) p ≡ is_some (get slab p)
filled_is n slab p lt = ap is_some (content_is n slab p lt) ∙ some_unboxed (get slab p)

-- a change of one key
updated : (n : ℕ) (old new : Slab (Box Entry Global)) (p : ℕ) (o : Option (Box Entry Global)) → p < n → Updates old new p o
    → contents_in n new ≡ with_content (contents_in n old) p (unboxed o)
updated n old new p o lt u =
    let here : p < length (contents_in n old) = omega (arith, long n old) in
    sym (fill_by_all (λ q. unboxed (get new q)) (with_content (contents_in n old) p (unboxed o)) n None
    (length-set (contents_in n old) p (unboxed o) ∙ long n old)
    (λ q h. elim (cases_eq q p) [
      | inl same ↦
          ap (λ x. content_at (with_content (contents_in n old) p (unboxed o)) x) same
          ∙ get_or-set_same (contents_in n old) p (unboxed o) None here
          ∙ ap unboxed (sym u.changed ∙ ap (get new) (sym same))
      | inr other ↦
          get_or-set_other (contents_in n old) p q (unboxed o) None other
          ∙ content_is n old q h
          ∙ ap unboxed (sym (u.others q other))
    ]))

-- the same for a slab of entries that is seen so
module _ (n : ℕ) (slab : Slab (Box Entry Global)) (s : SlabContents) (view : record { contents = contents_in n slab; len = slab_len slab } ≡ s) (p : ℕ) where
  seen : contents_in n slab ≡ s.contents
  seen = ap (λ (t : SlabContents). t.contents) view

  long_seen : length s.contents ≡ n
  long_seen = ap length (sym seen) ∙ long n slab

  pub seen_at : p < n → content_at s.contents p ≡ unboxed (get slab p)
  seen_at lt = ap (λ l. content_at l p) (sym seen) ∙ content_is n slab p lt

  pub filled_seen : p < n → is_filled s.contents p ≡ is_some (get slab p)
  filled_seen lt = ap (λ l. is_filled l p) (sym seen) ∙ filled_is n slab p lt

  pub seen_below : is_filled s.contents p ≡ true → p < n
  seen_below h = within n s.contents p long_seen h

  pub key_there : is_filled s.contents p ≡ true → IsSome (get slab p)
  key_there h = sym (filled_seen (seen_below h)) ∙ h

  pub updates_seen : (new : Slab (Box Entry Global)) (o : Option (Box Entry Global)) → p < n → Updates slab new p o
      → contents_in n new ≡ with_content s.contents p (unboxed o)
  updates_seen new o lt u = updated n slab new p o lt u ∙ ap (λ l. with_content l p (unboxed o)) seen

  pub past_seen : n ≤ p → is_filled s.contents p ≡ false
  past_seen le = ap is_some (get_or_past s.contents p None (omega (arith, long_seen)))

  -- a box that is lent
  module _ (h : is_filled s.contents p ≡ true) (b : Box Entry Global) where
    pub was : get slab p ≡ Some b → b.value ≡ entry_or (content_at s.contents p)
    was at = sym (ap entry_or (seen_at (seen_below h) ∙ ap unboxed at))

    pub written : record { contents = contents_in n (with_value slab p b); len = slab_len (with_value slab p b) } ≡ with_request s p b.value
    written =
        let contents = updates_seen (with_value slab p b) (Some b) (seen_below h) (Updates-with_value slab p b (key_there h)) in
        let counted : slab_len (with_value slab p b) + cond (is_some (get slab p)) 1 0 ≡ slab_len slab + 1 =
        sum_by-set (λ o. cond (is_some o) 1 0) slab.slots p (Some b) None (ContainsKey-within slab p (key_there h)) in
        let one : cond (is_some (get slab p)) 1 0 ≡ 1 = ap (λ x. cond {A = ℕ} x 1 0) (key_there h) in
        let len : slab_len (with_value slab p b) ≡ s.len = omega (arith, counted, one, ap (λ (t : SlabContents). t.len) view) in
        λ i. record { contents = contents i; len = len i }

pub no_content : (n : ℕ) (slab : Slab (Box Entry Global)) (p : ℕ) → slab.slots ≡ [] → content_at (contents_in n slab) p ≡ None
no_content n slab p e = grind (arith, content_is n slab p, get_or_past (contents_in n slab) p None, long n slab, e)

pub same_truth : (a b : Bool) → (IsTrue a → b ≡ true) → (b ≡ true → IsTrue a) → a ≡ b
same_truth true b f h = sym (f refl)
same_truth false true f h = h refl
same_truth false false f h = refl
