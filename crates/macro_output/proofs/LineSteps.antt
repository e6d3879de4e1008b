-- The lines of a listing, step by step.
use Rattle.std.proofs.Common.{◌≡◌, ◌∙◌, ap, subst, ℕ, ◌+◌, Bool, true, false, List, [], ◌∷◌, ◌++◌, take, drop, append_assoc, add-one, Some, nat_eq, arith, map}
use Rattle.std.proofs.lemmas.Bool.Decides.{nat_tests}
use Rattle.std.proofs.Math.Seq.{take-nil}
use Rattle.std.specs.Prelude.{if◌then◌else◌}
use Rattle.macro_state.specs.declared.listing.Row.{Row}
use Rattle.macro_state.specs.declared.listing.Listing.{Listing}
use Rattle.macro_output.specs.declared.listings.Remark.{Remark}
use Rattle.joined_files.specs.declared.joined.Part.{Part}
use Rattle.macro_output.specs.Rows.{rows_text}
use Rattle.macro_output.specs.Listings.{is_hidden, rows_to, texts_to, texts_behind, all_texts, source_line, lines_text, lines_of, mark_of, files_text, expanded_from, source_rows, expanded_rows, without_last_end, listing_text, remark_text}

-- the first of some lines apart
take-first : (n m : ℕ) (text : List ℕ) (lines : List (List ℕ)) → n ≡ m + 1 → take n (text ∷ lines) ≡ text ∷ take m lines
take-first n m text lines e = rw (e, add-one)

-- what a line adds: those of the files that begin with it, its own line, and its expanded lines
line-added : (h : Bool) (files : List ℕ) (number mark : ℕ) (text : List ℕ) (rows : List Row) (expanded out own middle : List ℕ)
    → own ≡ out ++ (files ++ (if h then [] else rows_text (Some number) mark rows 0 text)) → middle ≡ own ++ (if h then [] else expanded)
    → middle ≡ out ++ source_line files h number mark text rows expanded
line-added true files number mark text rows expanded out own middle e f = grind (arith, append_assoc, e, f)
line-added false files number mark text rows expanded out own middle e f = grind (arith, append_assoc, e, f)

-- after a line of the source, its expanded lines and what is wrong with it, the rest is left to be added
pub line-step : (listing : Listing) (files : List Part) (number n m : ℕ) (text : List ℕ) (lines others : List (List ℕ)) (rows own : List Row)
    → (expanded remarks : List (ℕ × List ℕ)) (h : Bool) (out first middle new whole : List ℕ)
    → n ≡ m + 1 → lines ≡ text ∷ others → h ≡ is_hidden listing.hidden.items number → own ≡ take (rows_to number rows) rows
    → first ≡ out ++ (files_text files number ++ (if h then [] else rows_text (Some number) (mark_of listing.floats.items number) own 0 text))
    → middle ≡ first ++ (if h then [] else texts_to number expanded)
    → new ≡ middle ++ texts_to number remarks
    → out ++ lines_text listing files number (take n lines) rows expanded remarks ≡ whole
    → new ++ (if nat_eq number listing.last then all_texts (texts_behind number remarks)
    else lines_text listing files (number + 1) (take m others) (drop (rows_to number rows) rows) (texts_behind number expanded) (texts_behind number remarks)) ≡ whole
line-step listing files number n m text lines others rows own expanded remarks h out first middle new whole count is hidden owned e f g all =
    let apart : take n lines ≡ text ∷ take m others = ap (take n) is ∙ take-first n m text others count in
    let unfolded = subst (λ l. out ++ lines_text listing files number l rows expanded remarks ≡ whole) apart all in
    let added : middle ≡ out ++ source_line (files_text files number) h number (mark_of listing.floats.items number) text own (texts_to number expanded) =
    line-added h (files_text files number) number (mark_of listing.floats.items number) text own (texts_to number expanded) out first middle e f in
    let same : middle ≡ out ++ source_line (files_text files number) (is_hidden listing.hidden.items number) number (mark_of listing.floats.items number) text (take (rows_to number rows) rows) (texts_to number expanded) =
    subst (λ o. middle ≡ out ++ source_line (files_text files number) (is_hidden listing.hidden.items number) number (mark_of listing.floats.items number) text o (texts_to number expanded)) owned
    (subst (λ b. middle ≡ out ++ source_line (files_text files number) b number (mark_of listing.floats.items number) text own (texts_to number expanded)) hidden added) in
    rw (g, same, append_assoc, append_assoc) unfolded

-- the same where the line is not the last
pub line-next : (listing : Listing) (files : List Part) (number : ℕ) (lines : List (List ℕ)) (rows later : List Row) (expanded behind remarks left : List (ℕ × List ℕ)) (new whole : List ℕ)
    → (number ≡ listing.last → ⊥) → later ≡ drop (rows_to number rows) rows → behind ≡ texts_behind number expanded → left ≡ texts_behind number remarks
    → new ++ (if nat_eq number listing.last then all_texts (texts_behind number remarks)
    else lines_text listing files (number + 1) lines (drop (rows_to number rows) rows) (texts_behind number expanded) (texts_behind number remarks)) ≡ whole
    → new ++ lines_text listing files (number + 1) lines later behind left ≡ whole
line-next listing files number lines rows later expanded behind remarks left new whole other e f g step =
    rw (e, f, g) (grind (arith, nat_tests, step, other))

-- the same where it is
pub line-last : (listing : Listing) (files : List Part) (number : ℕ) (lines : List (List ℕ)) (rows : List Row) (expanded remarks left : List (ℕ × List ℕ)) (new whole : List ℕ)
    → number ≡ listing.last → left ≡ texts_behind number remarks
    → new ++ (if nat_eq number listing.last then all_texts (texts_behind number remarks)
    else lines_text listing files (number + 1) lines (drop (rows_to number rows) rows) (texts_behind number expanded) (texts_behind number remarks)) ≡ whole
    → new ++ all_texts left ≡ whole
line-last listing files number lines rows expanded remarks left new whole same g step = rw g (grind (arith, nat_tests, step, same))

-- where no line is left
pub lines-end : (listing : Listing) (files : List Part) (number n : ℕ) (lines : List (List ℕ)) (rows : List Row) (expanded remarks : List (ℕ × List ℕ)) (out whole : List ℕ)
    → take n lines ≡ [] → out ++ lines_text listing files number (take n lines) rows expanded remarks ≡ whole → out ++ all_texts remarks ≡ whole
lines-end listing files number n lines rows expanded remarks out whole none all =
    subst (λ l. out ++ lines_text listing files number l rows expanded remarks ≡ whole) none all

-- none is taken of no lines, and where as many are listed as there can be
pub take-of-none : (n : ℕ) (lines : List (List ℕ)) → lines ≡ [] → take n lines ≡ []
take-of-none n lines e = rw e (take-nil n)

pub take-no-more : (n : ℕ) (lines : List (List ℕ)) → n ≡ 0 → take n lines ≡ []
take-no-more n lines e = rw e

-- the lines, rows and texts that a listing is made of
pub listing-is : (listing : Listing) (files : List Part) (source lines : List ℕ) (own expanded : List Row) (items remarks : List Remark) (out new : List ℕ)
    → lines ≡ without_last_end source → own ≡ source_rows listing.rows.items → expanded ≡ expanded_rows listing.rows.items → items ≡ remarks
    → new ≡ out ++ lines_text listing files 1 (take 4294967294 (lines_of lines)) own (expanded_from listing 0 expanded) (map remark_text items)
    → new ≡ out ++ listing_text listing files source (map remark_text remarks)
listing-is listing files source lines own expanded items remarks out new e f g h all =
    subst (λ l. new ≡ out ++ lines_text listing files 1 (take 4294967294 (lines_of l)) (source_rows listing.rows.items) (expanded_from listing 0 (expanded_rows listing.rows.items)) (map remark_text remarks)) e
    (subst (λ r. new ≡ out ++ lines_text listing files 1 (take 4294967294 (lines_of lines)) r (expanded_from listing 0 (expanded_rows listing.rows.items)) (map remark_text remarks)) f
    (subst (λ r. new ≡ out ++ lines_text listing files 1 (take 4294967294 (lines_of lines)) own (expanded_from listing 0 r) (map remark_text remarks)) g
    (subst (λ r. new ≡ out ++ lines_text listing files 1 (take 4294967294 (lines_of lines)) own (expanded_from listing 0 expanded) (map remark_text r)) h all)))
