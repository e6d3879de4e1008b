-- The loop that reads words which have bytes of their own.
use Rattle.std.proofs.Common.{◌≡◌, sym, subst, ℕ, ◌+◌, ◌-◌, ◌<◌, ◌≤◌, Bool, true, false, List, [], ◌∷◌, ◌++◌, length, take, drop}
use Rattle.std.proofs.Common.{Some, None, Ok, Err, refl, if◌then◌else◌}
use Rattle.image_files.specs.declared.packings.PackErrorKind.TheVariants.{CutShort}
use Rattle.image_files.specs.declared.word_forms.WordForm.{WordForm}
use Rattle.image_files.specs.declared.word_forms.WordForm.TheVariants.{CoreDump, AnsiAscii, Simh, Octal}
use Rattle.image_files.specs.Packings.{Words}
use Rattle.image_files.specs.Unpacks.{with_words}
use Rattle.image_files.specs.WordForms.{fault_in, fits_in, size_in, value_in, word_in, numbered_words}
use Rattle.image_files.proofs.UnpackLemmas.{ReadsEach, stepped, ended, short, extra, core_each, ascii_each, simh_each}
use Rattle.image_files.proofs.OctalLines.{octal_each}

each_word : (form : WordForm) → ReadsEach (fault_in form) (numbered_words form) (size_in form) (fits_in form) (value_in form)
each_word CoreDump = core_each
each_word AnsiAscii = ascii_each
each_word Simh = simh_each
each_word Octal = octal_each

of_size : (form : WordForm) (size : ℕ) → size ≡ size_in form → ReadsEach (fault_in form) (numbered_words form) size (fits_in form) (value_in form)
of_size form size e = subst (λ n. ReadsEach (fault_in form) (numbered_words form) n (fits_in form) (value_in form)) (sym e) (each_word form)

found : (t : Bool) (v w : ℕ) → Some v ≡ (if t then Some w else None) → (t ≡ true) × (v ≡ w)
found true v w e = (refl, cc)
found false v w e = absurd (cc)

not_found : (t : Bool) (w : ℕ) → None ≡ (if t then Some w else None) → t ≡ false
not_found true w e = absurd (cc)
not_found false w e = refl

pub form_stepped : (form : WordForm) (size : ℕ) (ws vs rest : List ℕ) (n m k v : ℕ) (all : Words) → size ≡ size_in form
    → Some v ≡ word_in form rest → vs ≡ ws ++ v ∷ []
    → n ≡ length ws + 1 → m ≡ length vs + 1 → size ≤ length rest → k ≡ length rest - size
    → with_words ws (numbered_words form n rest) ≡ all → with_words vs (numbered_words form m (take k (drop size rest))) ≡ all
form_stepped form size ws vs rest n m k v all sized read push =
    let f = found (fits_in form rest) v (value_in form rest) read in
    stepped (fault_in form) (numbered_words form) size (fits_in form) (value_in form) (of_size form size sized) ws vs rest n m k v all push f.1 f.0

pub form_ended : (form : WordForm) (ws rest : List ℕ) (n : ℕ) (all : Words) → length rest ≡ 0 → with_words ws (numbered_words form n rest) ≡ all → all ≡ Ok ws
form_ended form = ended (fault_in form) (numbered_words form) (size_in form) (fits_in form) (value_in form) (each_word form)

pub form_short : (form : WordForm) (size : ℕ) (ws rest : List ℕ) (n : ℕ) (all : Words) → size ≡ size_in form
    → with_words ws (numbered_words form n rest) ≡ all → 0 < length rest → length rest < size
    → all ≡ Err (record { number = n; kind = CutShort })
form_short form size ws rest n all sized =
    short (fault_in form) (numbered_words form) size (fits_in form) (value_in form) (of_size form size sized) ws rest n all

pub form_wrong : (form : WordForm) (size : ℕ) (ws rest : List ℕ) (n : ℕ) (all : Words) → size ≡ size_in form
    → with_words ws (numbered_words form n rest) ≡ all → size ≤ length rest → None ≡ word_in form rest
    → all ≡ Err (record { number = n; kind = fault_in form })
form_wrong form size ws rest n all sized h l read =
    extra (fault_in form) (numbered_words form) size (fits_in form) (value_in form) (of_size form size sized) ws rest n all h l
    (not_found (fits_in form rest) (value_in form rest) read)
