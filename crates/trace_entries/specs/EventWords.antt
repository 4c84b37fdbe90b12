-- The words of events, by what stands behind them.
use Rattle.std.specs.Prelude.{ℕ, List, [], ◌∷◌, map, codes, Bool, true, false, Option, Some, None, if◌then◌else◌}
use Rattle.std.specs.Option.{option_and_then}
use Rattle.trace_fields.specs.Fields.{lookup}
use Rattle.trace_entries.specs.declared.event_words.BareEvent.{BareEvent}
use Rattle.trace_entries.specs.declared.event_words.BareEvent.TheVariants as bare
use Rattle.trace_entries.specs.declared.event_words.NamedEvent.{NamedEvent}
use Rattle.trace_entries.specs.declared.event_words.NamedEvent.TheVariants as named
use Rattle.trace_entries.specs.declared.event_words.NumberedEvent.{NumberedEvent}
use Rattle.trace_entries.specs.declared.event_words.NumberedEvent.TheVariants as numbered
use Rattle.trace_entries.specs.declared.event_words.MadeEvent.{MadeEvent}
use Rattle.trace_entries.specs.declared.event_words.MadeEvent.TheVariants as made
use Rattle.trace_entries.specs.declared.event_words.EventWord.{EventWord}
use Rattle.trace_entries.specs.declared.event_words.EventWord.TheVariants as words

-- nothing stands behind these words
abbrev pub bare_word : BareEvent → List ℕ
bare_word bare.Wake = codes "wake"
bare_word bare.PathGet = codes "pathget"
bare_word bare.Invalidate = codes "invalidate"

-- a dotted name stands behind these
abbrev pub named_word : NamedEvent → List ℕ
named_word named.Ask = codes "ask"
named_word named.Take = codes "take"
named_word named.Release = codes "release"
named_word named.TabGet = codes "tabget"
named_word named.TabDel = codes "tabdel"

-- the number of a module stands behind these, and behind `source` that of a load
abbrev pub numbered_word : NumberedEvent → List ℕ
numbered_word numbered.Names = codes "names"
numbered_word numbered.Source = codes "source"
numbered_word numbered.NsGet = codes "nsget"
numbered_word numbered.Rouse = codes "rouse"

-- a spec and a source stand behind these
abbrev pub made_word : MadeEvent → List ℕ
made_word made.Add = codes "add"
made_word made.AddLazy = codes "addlazy"
made_word made.Main = codes "main"

-- an event begins with its word, which no other event has
abbrev pub event_word : EventWord → List ℕ
event_word (words.Bare w) = bare_word w
event_word (words.Named w) = named_word w
event_word (words.Numbered w) = numbered_word w
event_word (words.Made w) = made_word w
event_word words.Finish = codes "finish"
event_word words.Get = codes "get"
event_word words.Set = codes "set"
event_word words.Del = codes "del"
event_word words.Print = codes "print"
event_word words.PathAdd = codes "pathadd"
event_word words.DirGet = codes "dirget"
event_word words.DirSet = codes "dirset"
event_word words.NsSet = codes "nsset"
event_word words.TabSet = codes "tabset"
event_word words.ReloadBegin = codes "reloadbegin"
event_word words.ReloadTake = codes "reloadtake"
event_word words.ReloadEnd = codes "reloadend"
event_word words.End = codes "end"

-- the words of all events of format 2, each once
abbrev pub all_event_words : List EventWord
all_event_words =
    words.Named named.Ask ∷ words.Named named.Take ∷ words.Bare bare.Wake ∷ words.Made made.Add ∷ words.Finish ∷ words.Named named.Release ∷ words.Get ∷ words.Set ∷ words.Del
    ∷ words.Numbered numbered.Names ∷ words.Numbered numbered.Source ∷ words.Print ∷ words.Bare bare.PathGet ∷ words.PathAdd ∷ words.DirGet ∷ words.DirSet ∷ words.Bare bare.Invalidate
    ∷ words.Numbered numbered.NsGet ∷ words.NsSet ∷ words.Named named.TabGet ∷ words.TabSet ∷ words.Named named.TabDel ∷ words.ReloadBegin ∷ words.ReloadTake ∷ words.ReloadEnd
    ∷ words.Made made.AddLazy ∷ words.Numbered numbered.Rouse ∷ words.Made made.Main ∷ words.End ∷ []

-- format 1 lacks these
abbrev pub is_new_event : EventWord → Bool
is_new_event (words.Made made.Main) = true
is_new_event words.DirGet = true
is_new_event words.DirSet = true
is_new_event _ = false

-- `old` is format 1
abbrev pub if_known : Bool → EventWord → Option EventWord
if_known false word = Some word
if_known true word = if is_new_event word then None else Some word

-- a field is the word of an event where it is spelled so, byte by byte
unfoldable pub any_event_word : List ℕ → Option EventWord
any_event_word field = lookup field (map (λ word. (event_word word, word)) all_event_words)

-- the word of an event in one of the two formats; what format 1 lacks is no word there
unfoldable pub event_word_in : Bool → List ℕ → Option EventWord
event_word_in old field = option_and_then (if_known old) (any_event_word field)
