-- The words of replies, by what stands behind them.
use Rattle.std.specs.Prelude.{ℕ, List, [], ◌∷◌, map, codes, Bool, true, false, Option, Some, None, if◌then◌else◌}
use Rattle.std.specs.Option.{option_and_then}
use Rattle.trace_fields.specs.Fields.{lookup}
use Rattle.trace_entries.specs.declared.reply_words.BareReply.{BareReply}
use Rattle.trace_entries.specs.declared.reply_words.BareReply.TheVariants as bare
use Rattle.trace_entries.specs.declared.reply_words.ModuleReply.{ModuleReply}
use Rattle.trace_entries.specs.declared.reply_words.ModuleReply.TheVariants as modules
use Rattle.trace_entries.specs.declared.reply_words.SlotReply.{SlotReply}
use Rattle.trace_entries.specs.declared.reply_words.SlotReply.TheVariants as slots
use Rattle.trace_entries.specs.declared.reply_words.EpochReply.{EpochReply}
use Rattle.trace_entries.specs.declared.reply_words.EpochReply.TheVariants as epochs
use Rattle.trace_entries.specs.declared.reply_words.ReplyWord.{ReplyWord}
use Rattle.trace_entries.specs.declared.reply_words.ReplyWord.TheVariants as words

-- nothing stands behind these words
abbrev pub bare_word : BareReply → List ℕ
bare_word bare.Halted = codes "halted"
bare_word bare.Missing = codes "missing"
bare_word bare.Deadlock = codes "deadlock"
bare_word bare.Woken = codes "woken"
bare_word bare.Lost = codes "lost"
bare_word bare.LostParent = codes "lostparent"
bare_word bare.Sleeping = codes "sleeping"
bare_word bare.Fixed = codes "fixed"
bare_word bare.Full = codes "full"
bare_word bare.NotThere = codes "notthere"
bare_word bare.NoListing = codes "nolisting"
bare_word bare.Ready = codes "ready"
bare_word bare.Done = codes "done"

-- a module stands behind these
abbrev pub module_word : ModuleReply → List ℕ
module_word modules.Module = codes "module"
module_word modules.Cycle = codes "cycle"
module_word modules.Busy = codes "busy"

-- a slot stands behind these
abbrev pub slot_word : SlotReply → List ℕ
slot_word slots.Kept = codes "kept"
slot_word slots.Slot = codes "slot"
slot_word slots.Was = codes "was"

-- an epoch stands behind these
abbrev pub epoch_word : EpochReply → List ℕ
epoch_word epochs.Mine = codes "mine"
epoch_word epochs.Begun = codes "begun"

-- a reply begins with its word, which no other reply has
abbrev pub reply_word : ReplyWord → List ℕ
reply_word (words.Bare w) = bare_word w
reply_word (words.OfModule w) = module_word w
reply_word (words.OfSlot w) = slot_word w
reply_word (words.OfEpoch w) = epoch_word w
reply_word words.Wait = codes "wait"
reply_word words.Load = codes "load"
reply_word words.Value = codes "value"
reply_word words.Unset = codes "unset"
reply_word words.Names = codes "names"
reply_word words.Loaded = codes "loaded"
reply_word words.Path = codes "path"
reply_word words.State = codes "state"
reply_word words.Yours = codes "yours"
reply_word words.Listing = codes "listing"

-- the words of all replies of format 2, each once
abbrev pub all_reply_words : List ReplyWord
all_reply_words =
    words.OfModule modules.Module ∷ words.OfModule modules.Cycle ∷ words.Bare bare.Halted ∷ words.Bare bare.Missing ∷ words.Bare bare.Deadlock ∷ words.Wait ∷ words.OfEpoch epochs.Mine
    ∷ words.Bare bare.Woken ∷ words.Load ∷ words.OfSlot slots.Kept ∷ words.Bare bare.Lost ∷ words.Bare bare.LostParent ∷ words.Value ∷ words.Unset ∷ words.Bare bare.Sleeping
    ∷ words.Bare bare.Fixed ∷ words.Names ∷ words.Loaded ∷ words.Path ∷ words.Bare bare.Full ∷ words.State ∷ words.OfSlot slots.Slot ∷ words.OfSlot slots.Was ∷ words.Bare bare.NotThere
    ∷ words.OfModule modules.Busy ∷ words.OfEpoch epochs.Begun ∷ words.Yours ∷ words.Bare bare.NoListing ∷ words.Listing ∷ words.Bare bare.Ready ∷ words.Bare bare.Done ∷ []

-- format 1 lacks these
abbrev pub is_new_reply : ReplyWord → Bool
is_new_reply (words.Bare bare.NoListing) = true
is_new_reply words.Listing = true
is_new_reply _ = false

-- `old` is format 1
abbrev pub if_known : Bool → ReplyWord → Option ReplyWord
if_known false word = Some word
if_known true word = if is_new_reply word then None else Some word

-- a field is the word of a reply where it is spelled so, byte by byte
unfoldable pub any_reply_word : List ℕ → Option ReplyWord
any_reply_word field = lookup field (map (λ word. (reply_word word, word)) all_reply_words)

-- the word of a reply in one of the two formats; what format 1 lacks is no word there
unfoldable pub reply_word_in : Bool → List ℕ → Option ReplyWord
reply_word_in old field = option_and_then (if_known old) (any_reply_word field)
