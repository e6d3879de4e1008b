-- The files that a program writes, by their names (this project's profile).
use Rattle.std.specs.Prelude.{◌≡◌, ℕ, ◌-◌, Bool, ◌==◌, ◌&&◌, ◌||◌, not, List, [], ◌∷◌, codes, length, drop, true, false, Option, None, Some, IfSome, bytes_eq, if◌then◌else◌}
use Rattle.std.specs.Borrow.{Bor}
use Rattle.std.specs.List.{list_any, ends_with}
use Rattle.std.specs.Str.{str_eq_ignore_ascii_case}
use Rattle.program_shell.specs.declared.outputs.NameEnd.{NameEnd}
use Rattle.program_shell.specs.declared.outputs.NameEnd.TheVariants as ends
use Rattle.program_shell.specs.declared.outputs.OutputFault.{OutputFault}
use Rattle.program_shell.specs.declared.outputs.OutputFault.TheVariants as faults

-- a name without each `./` before it
abbrev pub plain_name : List ℕ → List ℕ
plain_name [] = []
plain_name (a ∷ []) = a ∷ []
plain_name (a ∷ (b ∷ rest)) = if a == 46 && b == 47 then plain_name rest else a ∷ (b ∷ rest)

-- the names are the same but for `./` before them
abbrev pub is_same_file : List ℕ → List ℕ → Bool
is_same_file a b = bytes_eq (plain_name a) (plain_name b)

-- one of these names is that of the file
abbrev pub is_file_of : List ℕ → List (Bor (List ℕ)) → Bool
is_file_of file files = list_any (λ other. is_same_file other.now file) files

-- the name ends so, in letters of any case
abbrev pub ends_so : List ℕ → List ℕ → Bool
ends_so name end = str_eq_ignore_ascii_case (drop (length name - length end) name) end

abbrev pub is_script_name : List ℕ → Bool
is_script_name name = ends_so name (codes ".run") || (ends_so name (codes ".queue") || ends_so name (codes ".ddt"))

abbrev pub is_source_name : List ℕ → Bool
is_source_name name = ends_so name (codes ".mac") || is_script_name name

-- the name ends so
abbrev pub ends_in : List ℕ → List ℕ → Bool
ends_in name end = ends_with (λ a b. a == b) name end

abbrev pub is_right_end : NameEnd → List ℕ → Bool
is_right_end (ends.With end) name = ends_in name end.now
is_right_end ends.NoSource name = not (is_source_name name)
is_right_end ends.NoScript name = not (is_script_name name)

-- why a program with these inputs may not write a file, if there is a reason by its name
abbrev pub output_fault : NameEnd → List ℕ → List (Bor (List ℕ)) → Option OutputFault
output_fault end file inputs =
    if not (is_right_end end file) then Some (faults.Ending end)
    else (if is_file_of file inputs then Some faults.Input else None)

-- the inputs of a program that reads a file or standard input
abbrev pub inputs_of : Option (Bor (List ℕ)) → List (Bor (List ℕ))
inputs_of None = []
inputs_of (Some file) = file ∷ []

-- the name, if it is given, ends as it has to, and is that of no input
abbrev pub IsOutput : NameEnd → Option (Bor (List ℕ)) → List (Bor (List ℕ)) → Type 0
IsOutput end given inputs = IfSome given (λ file. (is_right_end end file.now ≡ true) × (is_file_of file.now inputs ≡ false))
