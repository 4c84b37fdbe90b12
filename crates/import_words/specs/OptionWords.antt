-- The words of a command line, each as its bytes, and the options among them. The rules are this project's own. Options
-- stand before the other words, in any order, each at most once, and none is shortened.
use Rattle.std.specs.Prelude.{ℕ, Bool, true, false, ◌==◌, nat_eq, List, [], ◌∷◌, take, drop, length, codes, Option, Some, None, is_some, if◌then◌else◌}
use Rattle.std.specs.List.{list_any}
use Rattle.std.specs.Option.{option_map, option_or, option_and_then}
use Rattle.std.specs.Cmp.Lexicographic.{pointwise}
use Rattle.import_words.specs.Setting.{Setting}
use Rattle.import_words.specs.Setting as setting
use Rattle.import_words.specs.declared.found.Settings.{Settings}
use Rattle.import_words.specs.declared.found.Front.{Front}

-- a word is its bytes
abbrev pub Word : Type 0
Word = List ℕ

-- two words are the same where they have the same bytes in the same order
abbrev pub same_text : Word → Word → Bool
same_text = pointwise nat_eq

-- refused wherever they stand
abbrev pub refused_words : List Word
refused_words = [] ∷ codes "-" ∷ codes "--" ∷ codes "--path=" ∷ codes "--fuel=" ∷ codes "--rounds=" ∷ []

-- the word as a whole is one of these
abbrev pub is_refused : Word → Bool
is_refused word = list_any (same_text word) refused_words

-- the word begins with `-` (45)
abbrev pub is_dashed : Word → Bool
is_dashed [] = false
is_dashed (b ∷ bs) = b == 45

-- what a word has behind this beginning
abbrev pub behind : Word → Word → Option Word
behind front word = if same_text front (take (length front) word) then Some (drop (length front) word) else None

-- the option that one word spells by itself, with its value behind a `=` where it takes one
abbrev pub joined : Word → Option Setting
joined word =
    if same_text word (codes "--bundles") then Some setting.Bundles
    else if same_text word (codes "--trace") then Some setting.Trace
    else option_or (option_map setting.Path (behind (codes "--path=") word))
    (option_or (option_map setting.Fuel (behind (codes "--fuel=") word)) (option_map setting.Rounds (behind (codes "--rounds=") word)))

-- the option that a word spells with its value in the next word, which does not begin with `-`
abbrev pub apart : Word → Word → Option Setting
apart word value =
    if is_dashed value then None
    else if same_text word (codes "--path") then Some (setting.Path value)
    else if same_text word (codes "--fuel") then Some (setting.Fuel value)
    else if same_text word (codes "--rounds") then Some (setting.Rounds value)
    else None

-- no option stood
abbrev pub no_settings : Settings
no_settings = record { path = None; fuel = None; rounds = None; bundles = false; trace = false }

-- the settings with one option more, which must not have stood before
abbrev pub added : Setting → Settings → Option Settings
added (setting.Path list) s = if is_some s.path then None else Some (record s { path = Some list })
added (setting.Fuel digits) s = if is_some s.fuel then None else Some (record s { fuel = Some digits })
added (setting.Rounds file) s = if is_some s.rounds then None else Some (record s { rounds = Some file })
added setting.Bundles s = if s.bundles then None else Some (record s { bundles = true })
added setting.Trace s = if s.trace then None else Some (record s { trace = true })

-- the options are at their end: those that stood, and the words that are left
abbrev pub front : List Word → Settings → Option Front
front rest settings = Some (record { settings = settings; rest = rest })

-- goes on with an option, where there is one
abbrev pub goes_on : Option Setting → Settings → (Settings → Option Front) → Option Front
goes_on found s next = option_and_then next (option_and_then (λ it. added it s) found)

-- the options at the beginning of the words, added to the settings,
-- and the words from the first on that does not begin with `-`
abbrev pub options : Settings → List Word → Option Front
options s [] = front [] s
options s (word ∷ []) = if is_dashed word then goes_on (joined word) s (front []) else front (word ∷ []) s
options s (word ∷ next ∷ words) =
    if is_dashed word then
    (if is_some (joined word) then goes_on (joined word) s (λ t. options t (next ∷ words)) else goes_on (apart word next) s (λ t. options t words))
    else front (word ∷ next ∷ words) s
