-- Lemmas on scripts of lines.
use Rattle.std.proofs.Common.{◌≡◌, ◌<◌, ◌+◌, ◌-◌, ◌==◌, ◌++◌, ℕ, List, [], ◌∷◌, Option, None, Some, length, take, arith, sym, ap, ◌∙◌, subst, true}
use Rattle.std.proofs.Common.{false, Bool, refl, cond, append_assoc, append-nil, length-take, length-append, Result, IfOk}
use Rattle.std.proofs.lemmas.Result.{IfOk-weaker}
use Rattle.std.proofs.lemmas.Bool.{ne_eqb}
use Rattle.std.specs.List.{All, slice_split, onto_first}
use Rattle.std.specs.Str.Lines.{lines, lines_of_parts, strip_carriage_return}
use Rattle.std.proofs.lemmas.List.Splits.{slice_split_at, slice_split_none, slice_split-cons_no, length-slice_split}
use Rattle.std.proofs.lemmas.List.Elements.{All-append, All-head, All-tail}
use Rattle.script_io.specs.Transcripts.{Transcript, after, closed, unless_ended}

abbrev newline : ℕ → Bool
newline b = b == 10

-- the parts are never none
parts_some : (bytes : List ℕ) → 0 < length (slice_split newline bytes)
parts_some bytes = omega (arith, length-slice_split newline bytes)

parts_more : (x : List ℕ) (ys : List (List ℕ)) → 0 < length ys → lines_of_parts (x ∷ ys) ≡ strip_carriage_return x ∷ lines_of_parts ys
parts_more x [] h = absurd (omega arith)
parts_more x (y ∷ ys) h = refl

-- a line ends at its LF
lines-at : (line more : List ℕ) → All (λ b. newline b ≡ false) line → lines (line ++ 10 ∷ more) ≡ strip_carriage_return line ∷ lines more
lines-at line more none =
    ap lines_of_parts (slice_split_at newline line 10 more none refl) ∙ parts_more line (slice_split newline more) (parts_some more)

-- the last line has no LF
lines-last : (line : List ℕ) → All (λ b. newline b ≡ false) line → lines line ≡ cond (length line == 0) [] (line ∷ [])
lines-last line none = ap lines_of_parts (slice_split_none newline line none)

-- bytes without LF stand in front of the first part
split_front : (front more h : List ℕ) (t : List (List ℕ)) → All (λ b. newline b ≡ false) front → slice_split newline more ≡ h ∷ t
    → slice_split newline (front ++ more) ≡ (front ++ h) ∷ t
split_front [] more h t none e = e
split_front (x ∷ xs) more h t none e =
    slice_split-cons_no newline x (xs ++ more) (All-head (λ b. newline b ≡ false) x xs none)
    ∙ ap (onto_first x) (split_front xs more h t (All-tail (λ b. newline b ≡ false) x xs none) e)

strip_long : (x : List ℕ) (b : Bool) → 257 < length x → 256 < length (cond b (take (length x - 1) x) x)
strip_long x true h = omega (arith, length-take (length x - 1) x)
strip_long x false h = omega arith

-- a first part that is too long gives a line that is too long
first_long : (x : List ℕ) (t : List (List ℕ)) → 257 < length x
    → (long : List ℕ) × (rest : List (List ℕ)) × (lines_of_parts (x ∷ t) ≡ long ∷ rest) × (256 < length long)
first_long x [] h = (x, [], ap (λ b. cond b [] (x ∷ [])) (ne_eqb (length x) 0 (λ e. omega arith)), omega arith)
first_long x (y ∷ ys) h = (strip_carriage_return x, lines_of_parts (y ∷ ys), refl, strip_long x _ h)

long_parts : (front more : List ℕ) (parts : List (List ℕ)) → All (λ b. newline b ≡ false) front → 257 < length front → slice_split newline more ≡ parts
    → (long : List ℕ) × (rest : List (List ℕ)) × (lines (front ++ more) ≡ long ∷ rest) × (256 < length long)
long_parts front more [] none h e = let z : 0 < 0 = subst (λ l. 0 < length l) e (parts_some more) in absurd (omega arith)
long_parts front more (x ∷ t) none h e =
    let f = first_long (front ++ x) t (omega (arith, length-append front x)) in
    (f.0, f.1, ap lines_of_parts (split_front front more x t none e) ∙ f.2, f.3)

-- ---- steps of a session

-- LF comes
pub line_ended : {E : Type 0} (rest rest' : ℕ → List (List ℕ) → Transcript E) (old new line line' given more : List ℕ) (n m : ℕ) (o ending : Option E)
    → All (λ b. newline b ≡ false) line → o ≡ None → m ≡ n + 1 → given ≡ strip_carriage_return line → line' ≡ []
    → ((ls : List (List ℕ)) → after old (rest (m - 1) (given ∷ ls)) ≡ after new (unless_ended ending (rest' m ls)))
    → after old (unless_ended o (rest n (lines (line ++ 10 ∷ more)))) ≡ after new (unless_ended ending (rest' m (lines (line' ++ more))))
line_ended rest rest' old new line line' given more n m o ending none unended number is empty taken =
    let before : n ≡ m - 1 = omega arith in
    ap (λ x. after old (unless_ended x (rest n (lines (line ++ 10 ∷ more))))) unended
    ∙ ap (λ ls. after old (rest n ls)) (lines-at line more none ∙ ap (λ l. l ∷ lines more) (sym is))
    ∙ ap (λ k. after old (rest k (given ∷ lines more))) before
    ∙ taken (lines more)
    ∙ ap (λ l. after new (unless_ended ending (rest' m (lines (l ++ more))))) (sym empty)

-- a whole line comes where nothing was kept
pub line_came : {E : Type 0} (rest rest' : ℕ → List (List ℕ) → Transcript E) (old new kept line given more : List ℕ) (n m : ℕ) (o ending : Option E)
    → kept ≡ [] → All (λ b. newline b ≡ false) line → o ≡ None → m ≡ n + 1 → given ≡ strip_carriage_return line
    → ((ls : List (List ℕ)) → after old (rest (m - 1) (given ∷ ls)) ≡ after new (unless_ended ending (rest' m ls)))
    → after old (unless_ended o (rest n (lines (kept ++ (line ++ 10 ∷ more))))) ≡ after new (unless_ended ending (rest' m (lines (kept ++ more))))
line_came rest rest' old new kept line given more n m o ending empty none unended number is taken =
    ap (λ k. after old (unless_ended o (rest n (lines (k ++ (line ++ 10 ∷ more)))))) empty
    ∙ line_ended rest rest' old new line kept given more n m o ending none unended number is empty taken

-- bytes come without LF that have no room
pub line_refused : {E : Type 0} (rest : ℕ → List (List ℕ) → Transcript E) (old new line bytes more : List ℕ) (n m : ℕ) (o : Option E) (e : E)
    → All (λ b. newline b ≡ false) line → All (λ b. newline b ≡ false) bytes → 257 < length line + length bytes → o ≡ None → m ≡ n + 1
    → ((first : List ℕ) (ls : List (List ℕ)) → 256 < length first → after old (rest (m - 1) (first ∷ ls)) ≡ closed new e)
    → after old (unless_ended o (rest n (lines (line ++ (bytes ++ more))))) ≡ after new (closed [] e)
line_refused rest old new line bytes more n m o e none other long unended number refused =
    let none' = All-append (λ b. newline b ≡ false) line bytes none other in
    let l = long_parts (line ++ bytes) more (slice_split newline more) none' (omega (arith, length-append line bytes)) refl in
    let before : n ≡ m - 1 = omega arith in
    ap (λ x. after old (unless_ended x (rest n (lines (line ++ (bytes ++ more)))))) unended
    ∙ ap (λ b. after old (rest n (lines b))) (sym (append_assoc line bytes more))
    ∙ ap (λ ls. after old (rest n ls)) l.2
    ∙ ap (λ k. after old (rest k (l.0 ∷ l.1))) before
    ∙ refused l.0 l.1 l.3
    ∙ ap (λ t. closed t e) (sym (append-nil new))

-- ---- the end of the input

-- the last line has no LF
pub finished_line : {E : Type 0} (rest rest' : ℕ → List (List ℕ) → Transcript E) (old new given line : List ℕ) (n m : ℕ) (o ending : Option E)
    → All (λ b. newline b ≡ false) line → o ≡ None → (length line ≡ 0 → ⊥) → m ≡ n + 1 → given ≡ line
    → ((ls : List (List ℕ)) → after old (rest (m - 1) (given ∷ ls)) ≡ after new (unless_ended ending (rest' m ls)))
    → after old (unless_ended o (rest n (lines (line ++ [])))) ≡ after new (unless_ended ending (rest' m []))
finished_line rest rest' old new given line n m o ending none unended some number is taken =
    let before : n ≡ m - 1 = omega arith in
    ap (λ x. after old (unless_ended x (rest n (lines (line ++ []))))) unended
    ∙ ap (λ l. after old (rest n (lines l))) (append-nil line)
    ∙ ap (λ ls. after old (rest n ls)) (lines-last line none ∙ ap (λ b. cond b [] (line ∷ [])) (ne_eqb (length line) 0 some) ∙ ap (λ l. l ∷ []) (sym is))
    ∙ ap (λ k. after old (rest k (given ∷ []))) before
    ∙ taken []

-- the last line ends the script
pub finished_with : {E : Type 0} (rest rest' : ℕ → List (List ℕ) → Transcript E) (old new given line : List ℕ) (n m : ℕ) (o : Option E) (e : E)
    → All (λ b. newline b ≡ false) line → o ≡ None → (length line ≡ 0 → ⊥) → m ≡ n + 1 → given ≡ line
    → ((ls : List (List ℕ)) → after old (rest (m - 1) (given ∷ ls)) ≡ after new (unless_ended (Some e) (rest' m ls)))
    → after old (unless_ended o (rest n (lines (line ++ [])))) ≡ closed new e
finished_with rest rest' old new given line n m o e none unended some number is taken =
    finished_line rest rest' old new given line n m o (Some e) none unended some number is taken ∙ ap (λ l. closed l e) (append-nil new)

-- the last line does not
pub finished_after : {E F : Type 0} (rest rest' : ℕ → List (List ℕ) → Transcript E) (r : Result E F) (old new out given line : List ℕ) (n m : ℕ) (o : Option E)
    → All (λ b. newline b ≡ false) line → o ≡ None → (length line ≡ 0 → ⊥) → m ≡ n + 1 → given ≡ line
    → ((ls : List (List ℕ)) → after old (rest (m - 1) (given ∷ ls)) ≡ after new (unless_ended None (rest' m ls)))
    → IfOk r (λ e. after new (rest' m []) ≡ closed out e)
    → IfOk r (λ e. after old (unless_ended o (rest n (lines (line ++ [])))) ≡ closed out e)
finished_after rest rest' r old new out given line n m o none unended some number is taken ends =
    IfOk-weaker r (λ e. after new (rest' m []) ≡ closed out e) (λ e. after old (unless_ended o (rest n (lines (line ++ [])))) ≡ closed out e)
    (λ e end. finished_line rest rest' old new given line n m o None none unended some number is taken ∙ end) ends
