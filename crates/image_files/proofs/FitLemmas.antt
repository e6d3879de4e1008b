-- The packing that fits, and what is said of it.
use Rattle.std.proofs.Common.{◌≡◌, ◌∙◌, ap, ℕ, Bool, List, [], ◌∷◌, ◌++◌, append_assoc}
use Rattle.std.specs.Prelude.{Option, Some, codes}
use Rattle.image_files.specs.declared.packings.Packing.{Packing}
use Rattle.image_files.specs.declared.packings.Packing.TheVariants.{CoreDump, HighDensity, AnsiAscii, Simh, Octal}
use Rattle.image_files.specs.declared.fits.Wanted.{Wanted}
use Rattle.image_files.specs.Fits.{fits, if_fits, only_one, packing_that_fits}
use Rattle.image_files.specs.Names.{packing_name}
use Rattle.image_files.specs.Texts.{advice_text}

abbrev pub chosen : Bool → Bool → Bool → Bool → Bool → List Packing
chosen core dense ascii simh octal =
    if_fits core CoreDump (if_fits dense HighDensity (if_fits ascii AnsiAscii (if_fits simh Simh (if_fits octal Octal []))))

pub fitting : (wanted : Wanted) (bytes : List ℕ) (core dense ascii simh octal : Bool) (found : Option Packing)
    → core ≡ fits wanted CoreDump bytes → dense ≡ fits wanted HighDensity bytes → ascii ≡ fits wanted AnsiAscii bytes
    → simh ≡ fits wanted Simh bytes → octal ≡ fits wanted Octal bytes → found ≡ only_one (chosen core dense ascii simh octal)
    → found ≡ packing_that_fits wanted bytes
unfolding packing_that_fits
fitting wanted bytes core dense ascii simh octal found e f g h i is =
    is
    ∙ (ap (λ b. only_one (chosen b dense ascii simh octal)) e
    ∙ (ap (λ b. only_one (chosen (fits wanted CoreDump bytes) b ascii simh octal)) f
    ∙ (ap (λ b. only_one (chosen (fits wanted CoreDump bytes) (fits wanted HighDensity bytes) b simh octal)) g
    ∙ (ap (λ b. only_one (chosen (fits wanted CoreDump bytes) (fits wanted HighDensity bytes) (fits wanted AnsiAscii bytes) b octal)) h
    ∙ ap (λ b. only_one (chosen (fits wanted CoreDump bytes) (fits wanted HighDensity bytes) (fits wanted AnsiAscii bytes) (fits wanted Simh bytes) b)) i))))

pub advised : (packing : Packing) (old one two three name : List ℕ) → one ≡ old ++ codes "\n    it can be read by --from " → two ≡ one ++ name
    → three ≡ two ++ 10 ∷ [] → name ≡ packing_name packing → three ≡ old ++ advice_text (Some packing)
advised packing old one two three name e f g h =
    let text = codes "\n    it can be read by --from " in
    g
    ∙ (ap (λ l. l ++ 10 ∷ []) (f ∙ (ap (λ l. l ++ name) e ∙ append_assoc old text name))
    ∙ (append_assoc old (text ++ name) (10 ∷ [])
    ∙ (ap (λ l. old ++ l) (append_assoc text name (10 ∷ [])) ∙ ap (λ n. old ++ (text ++ (n ++ 10 ∷ []))) h)))
