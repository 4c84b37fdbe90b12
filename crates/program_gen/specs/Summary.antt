-- The one line about the run of a made workload. Its form is this project's own.
use Rattle.std.specs.Prelude.{ℕ, Bool, true, false, List, ◌++◌, codes, count_by}
use Rattle.std.specs.Fmt.{decimal}
use Rattle.machine_events.specs.declared.event.Event.{Event}
use Rattle.machine_events.specs.declared.event.Event.TheVariants as e
use Rattle.machine_events.specs.declared.event.Entry.{Entry}

-- a module is made and its body begins; lazy modules, reloads and the module that runs as a program do not count
abbrev pub adds : Event → Bool
adds (e.Add spec text) = true
adds event = false

-- a text is printed
abbrev pub prints : Event → Bool
prints (e.Print text) = true
prints event = false

-- the entry adds a module, which is then loaded
abbrev pub is_load : Entry → Bool
is_load entry = adds entry.event

-- the entry prints, whatever the reply
abbrev pub is_print : Entry → Bool
is_print entry = prints entry.event

-- how many entries add a module
abbrev pub loads_in : List Entry → ℕ
loads_in history = count_by is_load history

-- how many entries print
abbrev pub prints_in : List Entry → ℕ
prints_in history = count_by is_print history

-- `modules M scripts S loads L prints P status X`, ended by LF, each number in decimal
abbrev pub line_of : ℕ → ℕ → ℕ → ℕ → ℕ → List ℕ
line_of modules scripts loads prints status =
    codes "modules " ++ (decimal modules ++ (codes " scripts " ++ (decimal scripts ++ (codes " loads " ++ (decimal loads
    ++ (codes " prints " ++ (decimal prints ++ (codes " status " ++ (decimal status ++ codes "\n")))))))))

-- the line about the run of so many scripts over so many modules, by its history and the status of that
abbrev pub summary : ℕ → ℕ → List Entry → ℕ → List ℕ
summary modules scripts history status = line_of modules scripts (loads_in history) (prints_in history) status
