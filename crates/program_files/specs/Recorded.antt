-- Programs in a recorded script (this project's profile).
use Rattle.std.specs.Prelude.{ℕ, ◌+◌, ◌++◌, min, List, [], ◌∷◌}
use Rattle.run_record.specs.Scripts.{program_text}
use Rattle.source_labels.specs.Programs.{source_for}
use Rattle.source_labels.specs.declared.sources.Program.{Program}
use Rattle.program_files.specs.declared.files.ProgramFile.{ProgramFile}

-- the sources that programs stand for, numbered on from this number
abbrev pub programs_text : ℕ → List ProgramFile → List Program → List ℕ
programs_text n [] ps = []
programs_text n (f ∷ fs) [] = []
programs_text n (f ∷ fs) (p ∷ ps) =
    program_text n f.source.file.now (source_for p f.source.text.items) ++ programs_text (min 255 (n + 1)) fs ps
