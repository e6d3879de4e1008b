-- Vectors, seen as the lists of their words.
use Rattle.std.proofs.Common.{◌≡◌, ℕ, ◌+◌, ◌*◌, ◌<◌, ◌∙◌, sym, ap, refl, List, [], ◌∷◌, length, map, Vec, Global, get_or, arith, replicate}
use Rattle.std.proofs.lemmas.Grind.{common_steps}
use Rattle.std.specs.Prelude.{fold}
use Rattle.std.proofs.lemmas.List.{get_or-map, length-map}
use Rattle.std.proofs.lemmas.List.Elements.{All-map}
use Rattle.word36.specs.declared.sizes.TheConstants.{BLOCK_WORDS}
use Rattle.core_store.specs.Plain.{IsPlain}
use Rattle.core_store.specs.Cores.{IsWhole, IsStore, resized_words}

-- the words of the vector at an address
pub viewed : (vs : List (Vec ℕ Global)) (i : ℕ) (v : Vec ℕ Global) → i < length vs → v ≡ get_or vs i v → get_or (map (λ v. v.items) vs) i [] ≡ v.items
viewed vs i v within at = get_or-map (λ v. v.items) vs i v [] within ∙ ap (λ v. v.items) (sym at)

-- all words together are as many
total-viewed : (n : ℕ) (vs : List (Vec ℕ Global)) → fold (λ a words. a + length words) n (map (λ v. v.items) vs) ≡ fold (λ a v. a + length v.items) n vs
total-viewed n [] = refl
total-viewed n (v ∷ vs) = total-viewed (n + length v.items) vs

-- the vectors are a store
pub IsStore-viewed : (vs : List (Vec ℕ Global)) (blocks free : ℕ) → IsPlain vs blocks free
    → IsStore (record { cores = map (λ v. v.items) vs; free = free })
IsStore-viewed vs blocks free plain =
    record {
      jobs = length-map vs (λ v. v.items) ∙ plain.jobs;
      whole = All-map IsWhole (λ v. v.items) vs plain.whole;
      most = rw total-viewed (omega arith);
    }

-- no words, made so many blocks long
pub resized_words-none : (blocks : ℕ) → resized_words [] blocks ≡ replicate (blocks * BLOCK_WORDS) 0
resized_words-none blocks = grind (arith, common_steps)
