-- The flags of a job in words, by the names of the DECsystem-10 Processor Reference Manual.
use Rattle.std.specs.Prelude.{◌||◌, ◌++◌, Bool, true, not, if◌then◌else◌, ℕ, List, [], codes}
use Rattle.ka_state.specs.declared.registers.Flags.{Flags}

-- a name, if it is said, after a comma unless it is the first
abbrev pub list_words : Bool → Bool → List ℕ → List ℕ
list_words is_said is_first name = if is_said then (if is_first then name else codes ", " ++ name) else []

-- the flags that are set, one after the other, or that none is
abbrev pub flag_words : Flags → List ℕ
flag_words f =
    list_words f.overflow true (codes "Overflow")
    ++ (list_words f.carry0 (not f.overflow) (codes "Carry 0")
    ++ (list_words f.carry1 (not (f.overflow || f.carry0)) (codes "Carry 1")
    ++ (list_words f.no_divide (not (f.overflow || (f.carry0 || f.carry1))) (codes "No Divide")
    ++ list_words (not (f.overflow || (f.carry0 || (f.carry1 || f.no_divide)))) true (codes "none"))))
