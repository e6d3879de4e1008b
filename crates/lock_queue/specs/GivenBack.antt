-- The bytes and the length of a name follow from its text.
use Rattle.std.proofs.Common.{◌≡◌, ◌∙◌, ap, ℕ, ◌+◌, ◌-◌, ◌≤◌, List, length, take, arith}
use Rattle.std.specs.Prelude.{replicate}
use Rattle.std.proofs.lemmas.List.{length-append, length-replicate, length-take}
use Rattle.lock_queue.specs.Names.{filled_up}

-- bytes that are filled up behind so many have so many in front
pub count-kept : (bytes : List ℕ) (n : ℕ) → n ≤ 30 → bytes ≡ filled_up (take n bytes) → length (take n bytes) ≡ n
count-kept bytes n few is =
    let zeros = 32 - length (take n bytes) in
    let all : length bytes ≡ length (take n bytes) + zeros =
    ap length is ∙ length-append (take n bytes) (replicate zeros 0) ∙ ap (λ k. length (take n bytes) + k) (length-replicate zeros 0) in
    grind (arith, all, length-take n bytes, few)
