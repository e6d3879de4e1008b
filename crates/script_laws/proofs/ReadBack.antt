-- The lines of pieces, read by the grammar of `lockmon run`.
use Rattle.std.proofs.Common.{nat_lt, ◌||◌, ◌≡◌, ◌==◌, ◌<◌, ◌≤◌, ◌^◌, ◌++◌, ◌∙◌, ◌≢◌, ℕ, Bool, true, false, List, [], ◌∷◌, refl, ap, sym, arith, length, decimal, Some, map, codes, nat_eq}
use Rattle.std.specs.Prelude.{All, option_and_then, option_map}
use Rattle.std.specs.List.{after_first, starts_with}
use Rattle.std.proofs.lemmas.Bool.{le-leb, ne_eqb}
use Rattle.std.proofs.lemmas.Fmt.{length-decimal-le}
use Rattle.std.proofs.lemmas.List.{map-append}
use Rattle.script_io.specs.Lines.{is_silent}
use Rattle.script_io.specs.Numbers.{number, parts}
use Rattle.run_commands.specs.Commands.{byte_of, command_of, command_of_items, in_one, is_space, shown_by, text_of, typed_of}
use Rattle.run_commands.specs.Names.{name_of}
use Rattle.run_commands.specs.Texts.{characters_of}
use Rattle.run_commands.specs.declared.commands.Command.{Command}
use Rattle.run_commands.specs.declared.commands.Command.TheVariants as command
use Rattle.run_record.specs.Scripts.{lines_of, counted, program_name, run_lines, step_lines}
use Rattle.script_io.specs.Printing.{printed, printed_character}
use Rattle.script_laws.specs.ReadBack.{commands_of, run_commands, step_commands, IsPlain, OthersReadBack, ReadsBack}
use Rattle.run_record.specs.declared.pieces.Piece.{Piece}
use Rattle.run_record.specs.declared.pieces.Piece.TheVariants as piece
use Rattle.script_laws.proofs.TextLemmas.{chosen, text_read}
use Rattle.script_laws.proofs.WordsBack.{all_digits, decimal_word, front_of, is_word, name_digits, number_back, one_back, one_word, rest_of, three_words, two_words}

loud : (c : ℕ) (more : List ℕ) → (c == 59) ≡ false → is_silent (c ∷ more) ≡ false
loud c more h = rw (ne_eqb (length (c ∷ more)) 0 (λ e. omega (arith, e)), h) refl

-- a line that is no comment and does not begin with TYPE is read by its items
by_items : (c : ℕ) (more : List ℕ) → (c == 59) ≡ false → starts_with nat_eq (c ∷ more) (codes "TYPE ") ≡ false
    → command_of (c ∷ more) ≡ command_of_items (parts 32 (c ∷ more))
unfolding command_of
by_items c more h t = rw (loud c more h, t) refl

small : (most n : ℕ) → n ≤ most → most ≤ 1000000 → n < 2 ^ 64
small most n h k = omega (arith, h, k)

start_back : (n : ℕ) → n ≤ 255 → command_of (counted (codes "START ") n) ≡ Some (command.Start n)
start_back n h =
    let s = small 255 n h (omega arith) in
    by_items 83 _ refl refl ∙ ap command_of_items (two_words (codes "START") (decimal n) refl (decimal_word n s))
    ∙ ap (option_map command.Start) (number_back 255 n h s)

continue_back : (n : ℕ) → n ≤ 255 → command_of (counted (codes "CONTINUE ") n) ≡ Some (command.Continue n)
continue_back n h =
    let s = small 255 n h (omega arith) in
    by_items 67 _ refl refl ∙ ap command_of_items (two_words (codes "CONTINUE") (decimal n) refl (decimal_word n s))
    ∙ ap (option_map command.Continue) (number_back 255 n h s)

kill_back : (n : ℕ) → n ≤ 255 → command_of (counted (codes "KILL ") n) ≡ Some (command.Kill n)
kill_back n h =
    let s = small 255 n h (omega arith) in
    by_items 75 _ refl refl ∙ ap command_of_items (two_words (codes "KILL") (decimal n) refl (decimal_word n s))
    ∙ ap (option_map command.Kill) (number_back 255 n h s)

take_back : (n : ℕ) → n ≤ 255 → command_of (counted (codes "TAKE ") n) ≡ Some (command.Take n)
take_back n h =
    let s = small 255 n h (omega arith) in
    by_items 84 _ refl refl ∙ ap command_of_items (two_words (codes "TAKE") (decimal n) refl (decimal_word n s))
    ∙ ap (option_map command.Take) (number_back 255 n h s)

tick_back : (n : ℕ) → n ≤ 1000000 → command_of (counted (codes "TICK ") n) ≡ Some (command.Tick n)
tick_back n h =
    let s = small 1000000 n h (omega arith) in
    by_items 84 _ refl refl ∙ ap command_of_items (two_words (codes "TICK") (decimal n) refl (decimal_word n s))
    ∙ ap (option_map command.Tick) (number_back 1000000 n h s)

run_back : (n : ℕ) → n ≤ 1000000 → command_of (counted (codes "RUN ") n) ≡ Some (command.Run n)
run_back n h =
    let s = small 1000000 n h (omega arith) in
    by_items 82 _ refl refl ∙ ap command_of_items (two_words (codes "RUN") (decimal n) refl (decimal_word n s))
    ∙ ap (option_map command.Run) (number_back 1000000 n h s)

step_back : command_of (codes "STEP 1") ≡ Some (command.Step 1)
step_back =
    by_items 83 _ refl refl ∙ ap command_of_items (two_words (codes "STEP") (49 ∷ []) refl refl) ∙ ap (option_map command.Step) one_back

restart_back : command_of (codes "RESTART") ≡ Some command.Restart
restart_back = by_items 82 _ refl refl ∙ ap command_of_items (one_word (codes "RESTART") refl)

steps_back : (stepped : Bool) → map command_of (step_lines stepped) ≡ map Some (step_commands stepped)
steps_back true = ap (λ c. c ∷ []) step_back
steps_back false = refl

runs_by : (b : Bool) (n : ℕ) → (n == 0) ≡ b → n ≤ 1000000 → map command_of (run_lines n) ≡ map Some (run_commands n)
runs_by true n e h = rw e refl
runs_by false n e h = rw e (ap (λ c. c ∷ []) (run_back n h))

rounds_back : (n : ℕ) (stepped : Bool) → n ≤ 1000000
    → map command_of (run_lines n ++ step_lines stepped) ≡ map Some (run_commands n ++ step_commands stepped)
rounds_back n stepped h =
    map-append command_of (run_lines n) (step_lines stepped)
    ∙ ap (λ l. l ++ map command_of (step_lines stepped)) (runs_by (n == 0) n refl h)
    ∙ ap (λ l. map Some (run_commands n) ++ l) (steps_back stepped)
    ∙ sym (map-append Some (run_commands n) (step_commands stepped))

-- the name of a program
name_back : (program : ℕ) → program ≤ 255 → name_of (program_name program) ≡ Some (program_name program)
name_back program h =
    let s = small 255 program h (omega arith) in
    let few : length (decimal program) ≤ 3 = length-decimal-le 3 program (omega arith) (omega (arith, h)) s in
    rw (le-leb 1 (length (program_name program)) (omega arith), le-leb (length (program_name program)) 6 (omega (arith, few)), name_digits (decimal program) (all_digits program s)) refl

-- a blank between two texts
spaced : (word rest : List ℕ) → word ++ codes " " ++ rest ≡ word ++ 32 ∷ rest
spaced [] rest = refl
spaced (c ∷ cs) rest = ap (λ l. c ∷ l) (spaced cs rest)

login_back : (line program : ℕ) → line ≤ 255 → program ≤ 255
    → command_of (counted (codes "LOGIN ") line ++ codes " " ++ program_name program) ≡ Some (command.Login line (program_name program))
login_back line program h k =
    let s = small 255 line h (omega arith) in
    let t = small 255 program k (omega arith) in
    ap command_of (spaced (codes "LOGIN " ++ decimal line) (program_name program))
    ∙ by_items 76 _ refl refl
    ∙ ap command_of_items (three_words (codes "LOGIN") (decimal line) (program_name program) refl (decimal_word line s) (decimal_word program t))
    ∙ ap (λ o. option_and_then (λ l. option_map (λ n. command.Login l n) (name_of (program_name program))) o) (number_back 255 line h s)
    ∙ ap (option_map (λ n. command.Login line n)) (name_back program k)

-- a line that begins with TYPE is read by what follows
by_type : (rest : List ℕ) → command_of (codes "TYPE " ++ rest) ≡ typed_of rest
unfolding command_of
by_type rest = rw (loud 84 (89 ∷ 80 ∷ 69 ∷ 32 ∷ rest) refl) refl

no_cons : (c : ℕ) (cs : List ℕ) → c ∷ cs ≢ []
no_cons c cs e = cc

-- each character is printed as something
printed-some : (c : ℕ) (rest : List ℕ) → printed_character c ++ rest ≢ []
printed-some c rest =
    chosen (λ l. l ++ rest ≢ []) (c == 10) _ _ (λ _. no_cons 92 (110 ∷ rest)) (λ _.
    chosen (λ l. l ++ rest ≢ []) (c == 13) _ _ (λ _. no_cons 92 (114 ∷ rest)) (λ _.
    chosen (λ l. l ++ rest ≢ []) (c == 27) _ _ (λ _. no_cons 92 (101 ∷ rest)) (λ _.
    chosen (λ l. l ++ rest ≢ []) (c == 92) _ _ (λ _. no_cons 92 (92 ∷ rest)) (λ _.
    chosen (λ l. l ++ rest ≢ []) (nat_lt c 32 || c == 127) _ _ (λ _. no_cons _ _) (λ _. no_cons c rest)))))

no_text : (text : List ℕ) → text ≢ [] → printed text ≢ []
no_text [] some e = some refl
no_text (c ∷ cs) some e = printed-some c (printed cs) e

spelled : (text read : List ℕ) → text ≢ [] → text_of text ≡ characters_of text
spelled [] read some = absurd (some refl)
spelled (c ∷ cs) read some = refl

typed_back : (line : ℕ) (text : List ℕ) → line ≤ 255 → text ≢ [] → All (λ c. c < 128) text
    → command_of (counted (codes "TYPE ") line ++ codes " " ++ printed text) ≡ Some (command.Typed line text)
typed_back line text h some low =
    let s = small 255 line h (omega arith) in
    ap command_of (spaced (codes "TYPE " ++ decimal line) (printed text))
    ∙ by_type (decimal line ++ 32 ∷ printed text)
    ∙ ap (λ front. option_and_then (λ n. option_map (λ t. command.Typed n t) (text_of (after_first is_space (decimal line ++ 32 ∷ printed text))))
    (byte_of front)) (front_of (decimal line) (printed text) (decimal_word line s))
    ∙ ap (λ rest. option_and_then (λ n. option_map (λ t. command.Typed n t) (text_of rest)) (byte_of (decimal line)))
    (rest_of (decimal line) (printed text) (decimal_word line s))
    ∙ ap (λ o. option_and_then (λ n. option_map (λ t. command.Typed n t) (text_of (printed text))) o) (number_back 255 line h s)
    ∙ ap (option_map (λ t. command.Typed line t)) (spelled (printed text) text (no_text text some) ∙ text_read text low)

assemble_back : (program : ℕ) → program ≤ 255
    → command_of (codes "ASSEMBLE " ++ program_name program) ≡ Some (command.Assemble (program_name program))
assemble_back program h =
    let s = small 255 program h (omega arith) in
    by_items 65 _ refl refl
    ∙ ap command_of_items (two_words (codes "ASSEMBLE") (program_name program) refl (decimal_word program s))
    ∙ ap (option_map command.Assemble) (name_back program h)

show_back : (what : List ℕ) → is_word what ≡ true → command_of (codes "SHOW " ++ what) ≡ in_one shown_by (what ∷ [])
show_back what h = by_items 83 _ refl refl ∙ ap command_of_items (two_words (codes "SHOW") what refl h)

remark_back : (rest : List ℕ) → command_of (codes "; " ++ rest) ≡ Some command.Nothing
unfolding command_of
remark_back rest = rw (ne_eqb (length (59 ∷ 32 ∷ rest)) 0 (λ e. omega (arith, e))) refl

pub others_read_back : OthersReadBack
others_read_back = (
  remark_back,
  assemble_back,
  ap (λ o. o ∷ map command_of (codes "SHOW LOCKS" ∷ codes "SHOW WAITS" ∷ [])) (show_back (codes "JOBS") refl)
      ∙ ap (λ o. Some command.ShowJobs ∷ o ∷ map command_of (codes "SHOW WAITS" ∷ [])) (show_back (codes "LOCKS") refl)
      ∙ ap (λ o. Some command.ShowJobs ∷ Some command.ShowLocks ∷ o ∷ []) (show_back (codes "WAITS") refl),
)

pub reads_back : ReadsBack
reads_back (piece.Login line program) h = ap (λ c. c ∷ []) (login_back line program h.0 h.1)
reads_back (piece.Start job) h = ap (λ c. c ∷ []) (start_back job h)
reads_back (piece.Continue job) h = ap (λ c. c ∷ []) (continue_back job h)
reads_back (piece.Kill job) h = ap (λ c. c ∷ []) (kill_back job h)
reads_back piece.Restart h = ap (λ c. c ∷ []) restart_back
reads_back (piece.Rounds n stepped) h = rounds_back n stepped h
reads_back (piece.Ticks n) h = ap (λ c. c ∷ []) (tick_back n h)
reads_back (piece.Typed line text) h = ap (λ c. c ∷ []) (typed_back line text.items h.0 h.1 h.2)
reads_back (piece.Take line) h = ap (λ c. c ∷ []) (take_back line h)
