-- Words of core that are copied one after another.
use Rattle.std.specs.Prelude.{ℕ, zero, suc, ◌+◌, List, slice_index, slice_set}

-- k words are moved in core alone, where no register is touched and no address wraps
unfoldable pub copied : ℕ → List ℕ → ℕ → ℕ → List ℕ
copied zero words s d = words
copied (suc k) words s d = copied k (slice_set words d (slice_index words s)) (s + 1) (d + 1)
