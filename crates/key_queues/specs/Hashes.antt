-- A number below 8,192, made of a key's scope and name (this project's profile).
use Rattle.std.specs.Prelude.{ℕ, ◌+◌, ◌*◌, ◌/◌, ◌%◌, ◌^◌, List, slice_index}
use Rattle.lock_queue.specs.declared.key.Key.{Key}
use Rattle.lock_queue.specs.declared.key.Scope.{Scope}
use Rattle.lock_queue.specs.declared.key.Scope.TheVariants.{All, Job}
use Rattle.lock_queue.specs.declared.name.Name.{Name}
use Rattle.lock_queue.specs.declared.name.Name.TheVariants.{Text, Code}
use Rattle.lock_queue.specs.Names.{numbers_of}
use Rattle.key_queues.specs.declared.hash.TheConstants.{FACTORS, HASHES}

-- a sum of 64 bits
abbrev pub wrapped_sum : ℕ → ℕ → ℕ
wrapped_sum a b = (a + b) % 2 ^ 64

-- the i-th number of a text times the i-th factor, in 64 bits
abbrev pub product_at : List ℕ → ℕ → ℕ
product_at numbers i = (slice_index numbers i * slice_index FACTORS i) % 2 ^ 64

abbrev pub hash_numbers : List ℕ → ℕ
hash_numbers numbers =
    wrapped_sum (wrapped_sum (wrapped_sum (product_at numbers 0) (product_at numbers 1)) (product_at numbers 2)) (product_at numbers 3)
    / 2 ^ 51

-- the highest thirteen bits of the sum of the products
unfoldable pub hash_text : List ℕ → ℕ
hash_text text = hash_numbers (numbers_of text)

abbrev pub start_of : Scope → ℕ
start_of All = 0
start_of (Job job) = job

abbrev pub hash_name : Name → ℕ
hash_name (Text text) = hash_text text
hash_name (Code code) = code

abbrev pub hash_of : Key → ℕ
hash_of key = (hash_name key.name + start_of key.scope) % HASHES
