-- Lemmas on images by name.
use Rattle.std.proofs.Common.{◌≡◌, ◌∙◌, ℕ, Bool, true, false, List, [], ◌∷◌, Option, Some, None, cond, map, refl, ap, Bor}
use Rattle.std.specs.Prelude.{bytes_eq, option_map}
use Rattle.std.specs.Option.{option_copied}
use Rattle.std.specs.Map.{lookup}
use Rattle.indexmap.specs.IndexMap.{insert_entry}
use Rattle.word36.specs.declared.image.Image.{Image}
use Rattle.op_script.specs.Images.{Named, assembled_in, image_of, with_image}

-- entries as they are seen
abbrev pub seen : List (List ℕ × Image) → Named
seen entries = map (λ e. (e.0, assembled_in e.1)) entries

chosen : (b : Bool) (image : Image) (rest : Option Image)
    → option_map assembled_in (cond b (Some image) rest) ≡ cond b (Some (assembled_in image)) (option_map assembled_in rest)
chosen true image rest = refl
chosen false image rest = refl

pub image_of-seen : (name : List ℕ) (entries : List (List ℕ × Image)) → option_map assembled_in (lookup (bytes_eq name) entries) ≡ image_of (seen entries) name
image_of-seen name [] = refl
image_of-seen name (e ∷ more) =
    chosen (bytes_eq name e.0) e.1 (lookup (bytes_eq name) more)
    ∙ ap (λ rest. cond (bytes_eq name e.0) (Some (assembled_in e.1)) rest) (image_of-seen name more)

put : (b : Bool) (name : List ℕ) (image : Image) (e : List ℕ × Image) (more rest : List (List ℕ × Image))
    → seen (cond b ((e.0, image) ∷ more) (e ∷ rest))
    ≡ cond b ((e.0, assembled_in image) ∷ seen more) ((e.0, assembled_in e.1) ∷ seen rest)
put true name image e more rest = refl
put false name image e more rest = refl

pub with_image-seen : (name : List ℕ) (image : Image) (entries : List (List ℕ × Image))
    → seen (insert_entry bytes_eq entries name image) ≡ with_image (seen entries) name (assembled_in image)
with_image-seen name image [] = refl
with_image-seen name image (e ∷ more) =
    put (bytes_eq name e.0) name image e more (insert_entry bytes_eq more name image)
    ∙ ap (λ rest. cond (bytes_eq name e.0) ((e.0, assembled_in image) ∷ seen more) ((e.0, assembled_in e.1) ∷ rest)) (with_image-seen name image more)

-- an image that is lent
pub assembled_in-lent : (lent : Option (Bor Image)) → option_map (λ image. assembled_in image.now) lent ≡ option_map assembled_in (option_copied lent)
assembled_in-lent None = refl
assembled_in-lent (Some image) = refl
