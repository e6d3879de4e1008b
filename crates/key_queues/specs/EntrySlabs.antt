-- Entries in the slots of a slab, and spare boxes (this project's profile).
use Rattle.std.specs.Prelude.{◌≡◌, ◌≤◌, ◌+◌, ℕ, Bool, List, map, Option, Some, None, is_some, slice_index_or, slice_set}
use Rattle.std.specs.Global.{Global}
use Rattle.std.specs.List.{range_with_len}
use Rattle.std.specs.declared.boxed.Box.{Box}
use Rattle.slab.specs.Slab.{Slab, get, slab_len}
use Rattle.word36.specs.declared.sizes.TheConstants.{MOST_REQUESTS}
use Rattle.key_queues.specs.declared.entry.Entry.{Entry}

abbrev pub unboxed : Option (Box Entry Global) → Option Entry
unboxed (Some b) = Some b.value
unboxed None = None

-- what each of the first n slots holds
abbrev pub contents_in : ℕ → Slab (Box Entry Global) → List (Option Entry)
contents_in n slab = map (λ p. unboxed (get slab p)) (range_with_len 0 n)

-- what each slot holds, and how many hold an entry
pub record SlabContents : Type 0 where
  pub contents : List (Option Entry)
  pub len : ℕ

abbrev pub content_at : List (Option Entry) → ℕ → Option Entry
content_at contents p = slice_index_or contents p None

abbrev pub is_filled : List (Option Entry) → ℕ → Bool
is_filled contents p = is_some (content_at contents p)

-- with this in a slot
abbrev pub with_content : List (Option Entry) → ℕ → Option Entry → List (Option Entry)
with_content contents p f = slice_set contents p f

-- with another entry in a slot
abbrev pub with_request : SlabContents → ℕ → Entry → SlabContents
with_request s p f = record s { contents = with_content s.contents p (Some f) }

-- there is a box for each slot, and room for each spare one
pub record IsEntrySlab (n : ℕ) (slab : Slab (Box Entry Global)) (spare most_spare : ℕ) : Type 0 where
  pub capacity : slab.capacity ≡ n
  pub most : n ≤ MOST_REQUESTS
  pub boxes : slab_len slab + spare ≡ n
  pub room : n ≤ most_spare
