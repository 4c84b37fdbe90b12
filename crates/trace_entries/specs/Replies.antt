-- The reply that stands at the front of some fields, and the fields behind it.
use Rattle.std.specs.Prelude.{ℕ, Bool, Ok}
use Rattle.py_value.specs.declared.value.ModRef.{ModRef}
use Rattle.machine_events.specs.declared.module.Slot.{Slot}
use Rattle.machine_events.specs.declared.event.Reply.{Reply}
use Rattle.machine_events.specs.declared.event.Reply.TheVariants as r
use Rattle.trace_fields.specs.declared.refusal.Cause.TheVariants as cause
use Rattle.trace_fields.specs.Reading.{Fields, ◌>>=◌, taken}
use Rattle.trace_entries.specs.declared.reply_words.BareReply.{BareReply}
use Rattle.trace_entries.specs.declared.reply_words.BareReply.TheVariants as bare
use Rattle.trace_entries.specs.declared.reply_words.ModuleReply.{ModuleReply}
use Rattle.trace_entries.specs.declared.reply_words.ModuleReply.TheVariants as modules
use Rattle.trace_entries.specs.declared.reply_words.SlotReply.{SlotReply}
use Rattle.trace_entries.specs.declared.reply_words.SlotReply.TheVariants as slots
use Rattle.trace_entries.specs.declared.reply_words.EpochReply.{EpochReply}
use Rattle.trace_entries.specs.declared.reply_words.EpochReply.TheVariants as epochs
use Rattle.trace_entries.specs.declared.reply_words.ReplyWord.{ReplyWord}
use Rattle.trace_entries.specs.declared.reply_words.ReplyWord.TheVariants as words
use Rattle.trace_entries.specs.ReplyWords.{reply_word_in}
use Rattle.trace_entries.specs.Taking.{Taken, small_number_at, number_at, name_at, source_at, module_at, slot_at, value_at, values_at, texts_at, state_at, init_at, yes_at}

-- the reply of a word behind which nothing stands
abbrev pub bare_reply : BareReply → Reply
bare_reply bare.Halted = r.Halted
bare_reply bare.Missing = r.Missing
bare_reply bare.Deadlock = r.Deadlock
bare_reply bare.Woken = r.Woken
bare_reply bare.Lost = r.Lost
bare_reply bare.LostParent = r.LostParent
bare_reply bare.Sleeping = r.Sleeping
bare_reply bare.Fixed = r.Fixed
bare_reply bare.Full = r.Full
bare_reply bare.NotThere = r.NotThere
bare_reply bare.NoListing = r.NoListing
bare_reply bare.Ready = r.Ready
bare_reply bare.Done = r.Done

-- the reply of a word behind which a module stands
abbrev pub module_reply : ModuleReply → ModRef → Reply
module_reply modules.Module m = r.Module m
module_reply modules.Cycle m = r.Cycle m
module_reply modules.Busy m = r.Busy m

-- the reply of a word behind which a slot stands
abbrev pub slot_reply : SlotReply → Slot → Reply
slot_reply slots.Kept slot = r.Kept slot
slot_reply slots.Slot slot = r.Slot slot
slot_reply slots.Was slot = r.Was slot

-- the reply of a word behind which an epoch stands
abbrev pub epoch_reply : EpochReply → ℕ → Reply
epoch_reply epochs.Mine epoch = r.Mine epoch
epoch_reply epochs.Begun epoch = r.Begun epoch

-- no field is taken behind such a word
abbrev pub bare_at : BareReply → Fields → Taken Reply
bare_at w fields = Ok (bare_reply w, fields)

-- `MODULE` behind `module`, `cycle` or `busy`
abbrev pub of_module_at : ModuleReply → Fields → Taken Reply
of_module_at w fields = do
  m ← module_at fields
  Ok (module_reply w m.0, m.1)

-- `SLOT` behind `kept`, `slot` or `was`
abbrev pub of_slot_at : SlotReply → Fields → Taken Reply
of_slot_at w fields = do
  slot ← slot_at fields
  Ok (slot_reply w slot.0, slot.1)

-- `E` behind `mine` or `begun`
abbrev pub of_epoch_at : EpochReply → Fields → Taken Reply
of_epoch_at w fields = do
  epoch ← number_at fields
  Ok (epoch_reply w epoch.0, epoch.1)

-- `N` behind `wait`: the name whose lock is waited for
abbrev pub wait_at : Fields → Taken Reply
wait_at fields = do
  name ← name_at fields
  Ok (r.Wait name.0, name.1)

-- `L M` behind `load`: the load and its module
abbrev pub load_reply_at : Fields → Taken Reply
load_reply_at fields = do
  load ← small_number_at fields
  mid ← small_number_at load.1
  Ok (r.Load load.0 mid.0, mid.1)

-- `V` behind `value`
abbrev pub value_reply_at : Fields → Taken Reply
value_reply_at fields = do
  value ← value_at fields
  Ok (r.Value value.0, value.1)

-- `init` or `plain` behind `unset`: whether the module was initialising
abbrev pub unset_at : Fields → Taken Reply
unset_at fields = do
  init ← init_at fields
  Ok (r.Unset init.0, init.1)

-- `[TEXT,..]` behind `names`
abbrev pub names_at : Fields → Taken Reply
names_at fields = do
  names ← texts_at fields
  Ok (r.Names names.0, names.1)

-- `MODULE S` behind `loaded`
abbrev pub loaded_at : Fields → Taken Reply
loaded_at fields = do
  m ← module_at fields
  text ← source_at m.1
  Ok (r.Loaded m.0 text.0, text.1)

-- `[V,..]` behind `path`
abbrev pub path_at : Fields → Taken Reply
path_at fields = do
  items ← values_at fields
  Ok (r.Path items.0, items.1)

-- `STATE E` behind `state`: what is kept, and the epoch of the machine
abbrev pub state_reply_at : Fields → Taken Reply
state_reply_at fields = do
  state ← state_at fields
  epoch ← number_at state.1
  Ok (r.Ns state.0 epoch.0, epoch.1)

-- `L S` behind `yours`
abbrev pub yours_at : Fields → Taken Reply
yours_at fields = do
  load ← small_number_at fields
  text ← source_at load.1
  Ok (r.Yours load.0 text.0, text.1)

-- `TIME yes yes` behind `listing`, with `yes` or `no` for the part, and then for the part with `.py`
abbrev pub listing_at : Fields → Taken Reply
listing_at fields = do
  time ← number_at fields
  part ← yes_at time.1
  file ← yes_at part.1
  Ok (r.Listing time.0 part.0 file.0, file.1)

-- the word says which fields stand behind it
abbrev pub reply_of : ReplyWord → Fields → Taken Reply
reply_of (words.Bare w) fields = bare_at w fields
reply_of (words.OfModule w) fields = of_module_at w fields
reply_of (words.OfSlot w) fields = of_slot_at w fields
reply_of (words.OfEpoch w) fields = of_epoch_at w fields
reply_of words.Wait fields = wait_at fields
reply_of words.Load fields = load_reply_at fields
reply_of words.Value fields = value_reply_at fields
reply_of words.Unset fields = unset_at fields
reply_of words.Names fields = names_at fields
reply_of words.Loaded fields = loaded_at fields
reply_of words.Path fields = path_at fields
reply_of words.State fields = state_reply_at fields
reply_of words.Yours fields = yours_at fields
reply_of words.Listing fields = listing_at fields

-- the cause of a field that is no word of a reply is `Reply`; `old` is format 1
unfoldable pub reply_at : Bool → Fields → Taken Reply
reply_at old fields = do
  word ← taken cause.Reply (reply_word_in old) fields
  reply_of word.0 word.1
