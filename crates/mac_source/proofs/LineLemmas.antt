-- Lines one after another, and that of the labels only those of addresses matter.
use Rattle.std.proofs.Common.{◌≡◌, ◌∙◌, sym, ap, ℕ, zero, suc, ◌+◌, ◌/◌, ◌^◌, ◌<◌, ◌≤◌, ◌==◌, Bool, ◌&&◌, not, List, [], ◌∷◌, ◌++◌}
use Rattle.std.proofs.Common.{length, drop, get_or, Option, Some, None, Ok, refl, arith, if◌then◌else◌, append_assoc}
use Rattle.std.specs.Prelude.{codes, Result, Err, OnOk}
use Rattle.std.proofs.Math.Seq.{drop-cons}
use Rattle.word36.specs.Octal.{octal_text}
use Rattle.word36.specs.Words.{left_half, right_half}
use Rattle.ka_isa.specs.Fields.{fields_of}
use Rattle.ka_isa.specs.Operations.{Name, name_of}
use Rattle.ka_isa.specs.Text.{accumulator_text, index_text}
use Rattle.mac_layout.specs.Addresses.{first_address}
use Rattle.mac_asm.specs.Assembly.{Assembled}
use Rattle.mac_asm.specs.Outcome.{outcome_of}
use Rattle.image_files.specs.Images.{IsImage, Rises, WordsFit}
use Rattle.mac_source.specs.Marks.{marked_by}
use Rattle.mac_source.specs.Sources.{Style, shown, style_with, comment_if, mark_text, behind_text, is_reaching, is_referred, label_text, address_text}
use Rattle.mac_source.specs.Sources.{named_text, loc_text, piece_text, piece_line, end_line, lines_text, source_with, source_of}
use Rattle.mac_source.specs.declared.shown.Shown.{Shown}
use Rattle.mac_source.specs.declared.pieces.Piece.{Piece}
use Rattle.mac_source.specs.declared.pieces.Piece.TheVariants as pieces
use Rattle.mac_source.specs.Pieces.{first, address_of, count, behind, join_if, with_word, pieces_of, ArePlaced}
use Rattle.mac_source.proofs.PieceLemmas.{are_placed}
use Rattle.mac_source.proofs.Assemblies.{source_comes_to}

-- ---- the marks alone matter

address_same : (f g : ℕ → Bool) (y : ℕ) → f y ≡ g y → address_text f y ≡ address_text g y
address_same f g y e = ap (λ b. if b then label_text y else octal_text y) e

abbrev pub SameMarks : (ℕ → Bool) → (ℕ → Bool) → Type 0
SameMarks f g = (p : ℕ) → p < 2 ^ 18 → f p ≡ g p

named_same : (f g : ℕ → Bool) (o : Option Name) (w : ℕ) → SameMarks f g → named_text f o w ≡ named_text g o w
named_same f g (Some name) w same =
    let k = fields_of w in
    let small : k.y < 2 ^ 18 = omega arith in
    ap (λ t. name ++ 32 ∷ (accumulator_text k.ac ++ ((if k.i then codes "@" else []) ++ (t ++ index_text k.x)))) (address_same f g k.y (same k.y small))
named_same f g None w same =
    let small : right_half w < 2 ^ 18 = omega arith in
    ap (λ t. codes "XWD " ++ (octal_text (left_half w) ++ 44 ∷ t)) (address_same f g (right_half w) (same (right_half w) small))

shown_same : (f g : ℕ → Bool) (how : Shown) (w : ℕ) → SameMarks f g → SameMarks (shown (style_with f how) w) (shown (style_with g how) w)
shown_same f g how w same = λ p h. ap (λ b. is_reaching w && b) (same p h)

piece_same : (f g : ℕ → Bool) (how : Shown) (p : Piece) → SameMarks f g → piece_text (style_with f how) p ≡ piece_text (style_with g how) p
piece_same f g how (pieces.Word a w) same =
    named_same (shown (style_with f how) w) (shown (style_with g how) w) (name_of (w / 2 ^ 27)) w (shown_same f g how w same)
piece_same f g how (pieces.Zeros a n) same = refl
piece_same f g how (pieces.Text a text) same = refl

line_same : (f g : ℕ → Bool) (how : Shown) (p : Piece) → address_of p < 2 ^ 18 → SameMarks f g
    → piece_line (style_with f how) p ≡ piece_line (style_with g how) p
line_same f g how p h same =
    let tail = behind_text (comment_if how.comments (first p)) ++ 10 ∷ [] in
    ap (λ b. mark_text b (address_of p) ++ (32 ∷ (piece_text (style_with f how) p ++ tail))) (same (address_of p) h)
    ∙ ap (λ t. mark_text (g (address_of p)) (address_of p) ++ (32 ∷ (t ++ tail))) (piece_same f g how p same)

lines_same : (f g : ℕ → Bool) (how : Shown) (start here : ℕ) (ps : List Piece) → SameMarks f g → start < 2 ^ 18 → ArePlaced ps
    → lines_text (style_with f how) start here ps ≡ lines_text (style_with g how) start here ps
unfolding lines_text
lines_same f g how start here [] same h r = ap (λ t. codes " END " ++ (t ++ 10 ∷ [])) (address_same f g start (same start h))
lines_same f g how start here (p ∷ ps) same h r =
    let loc = if address_of p == here then [] else loc_text (address_of p) in
    ap (λ l. loc ++ (l ++ lines_text (style_with f how) start (behind p) ps)) (line_same f g how p r.0.0 same)
    ∙ ap (λ l. loc ++ (piece_line (style_with g how) p ++ l)) (lines_same f g how start (behind p) ps same h r.1)

with_same : (f g : ℕ → Bool) (blocks texts : Bool) (x : ℕ × ℕ) (ps : List Piece) → SameMarks f g → ArePlaced ps
    → with_word blocks texts f x ps ≡ with_word blocks texts g x ps
with_same f g blocks texts x [] same h = refl
with_same f g blocks texts x (p ∷ ps) same h =
    ap (λ b. join_if (address_of p == x.0 + 1 && not b) blocks texts x p ps) (same (address_of p) h.0.0)

pieces_same : (f g : ℕ → Bool) (blocks texts : Bool) (least : ℕ) (xs : List (ℕ × ℕ)) → SameMarks f g → Rises least xs
    → pieces_of blocks texts f xs ≡ pieces_of blocks texts g xs
unfolding pieces_of
pieces_same f g blocks texts least [] same r = refl
pieces_same f g blocks texts least (x ∷ xs) same r =
    ap (with_word blocks texts f x) (pieces_same f g blocks texts (x.0 + 1) xs same r.2)
    ∙ with_same f g blocks texts x (pieces_of blocks texts g xs) same (are_placed blocks texts g (x.0 + 1) xs r.2)

pub sources_same : (f g : ℕ → Bool) (how : Shown) (image : Assembled) → SameMarks f g → IsImage image.words image.start
    → source_with (style_with f how) image ≡ source_with (style_with g how) image
sources_same f g how image same is =
    lines_same f g how image.start first_address (pieces_of how.blocks how.texts f image.words) same is.start_fits
    (are_placed how.blocks how.texts f 0 image.words is.rises)
    ∙ ap (lines_text (style_with g how) image.start first_address) (pieces_same f g how.blocks how.texts 0 image.words same is.rises)

-- ---- the lines so far, and those to come

pub lines_end : (style : Style) (start here : ℕ) (ps : List Piece) (i : ℕ) → length ps ≤ i → lines_text style start here (drop i ps) ≡ end_line style.marked start
unfolding lines_text
lines_end style start here [] zero h = refl
lines_end style start here [] (suc i) h = refl
lines_end style start here (p ∷ ps) zero h = absurd (omega arith)
lines_end style start here (p ∷ ps) (suc i) h = lines_end style start here ps i (omega arith)

lines_first : (style : Style) (start here : ℕ) (p : Piece) (ps : List Piece)
    → lines_text style start here (p ∷ ps) ≡ (if address_of p == here then [] else loc_text (address_of p)) ++ (piece_line style p ++ lines_text style start (behind p) ps)
unfolding lines_text
lines_first style start here p ps = refl

pub lines_next : (style : Style) (start here : ℕ) (ps : List Piece) (i : ℕ) (d : Piece) → i < length ps
    → lines_text style start here (drop i ps)
    ≡ (if address_of (get_or ps i d) == here then [] else loc_text (address_of (get_or ps i d))) ++ (piece_line style (get_or ps i d) ++ lines_text style start (behind (get_or ps i d)) (drop (i + 1) ps))
lines_next style start here ps i d h =
    let more : i + 1 ≡ suc i = omega arith in
    ap (lines_text style start here) (drop-cons ps i d h)
    ∙ (lines_first style start here (get_or ps i d) (drop (suc i) ps)
    ∙ ap (λ k. (if address_of (get_or ps i d) == here then [] else loc_text (address_of (get_or ps i d))) ++ (piece_line style (get_or ps i d) ++ lines_text style start (behind (get_or ps i d)) (drop k ps))) (sym more))

pub lines_step : (style : Style) (start here : ℕ) (ps : List Piece) (i : ℕ) (p : Piece) (out mid new all : List ℕ) → p ≡ get_or ps i p → i < length ps
    → mid ≡ out ++ (if address_of p == here then [] else loc_text (address_of p)) → new ≡ mid ++ piece_line style p
    → out ++ lines_text style start here (drop i ps) ≡ all
    → new ++ lines_text style start (behind p) (drop (i + 1) ps) ≡ all
lines_step style start here ps i p out mid new all e h a b inv =
    let loc = if address_of p == here then [] else loc_text (address_of p) in
    let later = lines_text style start (behind p) (drop (i + 1) ps) in
    let next : lines_text style start here (drop i ps) ≡ loc ++ (piece_line style p ++ later) =
    lines_next style start here ps i p h
    ∙ ap (λ (q : Piece). (if address_of q == here then [] else loc_text (address_of q)) ++ (piece_line style q ++ lines_text style start (behind q) (drop (i + 1) ps))) (sym e) in
    ap (λ l. l ++ later) (b ∙ ap (λ l. l ++ piece_line style p) a)
    ∙ (append_assoc (out ++ loc) (piece_line style p) later
    ∙ (append_assoc out loc (piece_line style p ++ later)
    ∙ (ap (λ l. out ++ l) (sym next) ∙ inv)))

pub lines_go : (style : Style) (start here : ℕ) (ps : List Piece) (i : ℕ) (p : Piece) (address number : ℕ) (out mid new all : List ℕ)
    → address ≡ address_of p → number ≡ count p → p ≡ get_or ps i p → i < length ps
    → mid ≡ out ++ (if address == here then [] else loc_text address) → new ≡ mid ++ piece_line style p
    → out ++ lines_text style start here (drop i ps) ≡ all
    → new ++ lines_text style start (address + number) (drop (i + 1) ps) ≡ all
lines_go style start here ps i p address number out mid new all at many e h a b inv =
    let ends : address + number ≡ behind p = ap (λ n. n + number) at ∙ ap (λ n. address_of p + n) many in
    ap (λ n. new ++ lines_text style start n (drop (i + 1) ps)) ends
    ∙ lines_step style start here ps i p out mid new all e h (a ∙ ap (λ n. out ++ (if n == here then [] else loc_text n)) at) b inv

pub on_ok : {A E : Type 0} (r : Result A E) (P Q : Type 0) → (P → Q) → OnOk r P → OnOk r Q
on_ok (Ok x) P Q f h = f h
on_ok (Err e) P Q f h = h

-- ---- the whole

abbrev pub own_marks : Bool → Assembled → ℕ → Bool
own_marks labels image address = labels && is_referred image address

pub text_is : (how : Shown) (image : Assembled) (marks : List Bool) (text : List ℕ) → IsImage image.words image.start
    → ((p : ℕ) → p < 2 ^ 18 → marked_by marks p ≡ own_marks how.labels image p)
    → text ≡ source_with (style_with (marked_by marks) how) image
    → text ≡ source_of how image
text_is how image marks text is same e = e ∙ sources_same (marked_by marks) (own_marks how.labels image) how image same is

pub text_assembles : (how : Shown) (image : Assembled) (text : List ℕ) → IsImage image.words image.start → WordsFit image.words
    → text ≡ source_of how image → outcome_of text ≡ Ok image
text_assembles how image text is fit e = ap outcome_of e ∙ source_comes_to how image is fit
