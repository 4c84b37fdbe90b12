-- A reply that is spelled is read back, and none of its fields is cut.
use Rattle.std.proofs.Common.{◌≡◌, refl, ◌++◌, Bool, true, false, not, ◌&&◌, Some, Ok, codes}
use Rattle.std.proofs.lemmas.Bool.{and_parts, cond-false}
use Rattle.std.specs.List.{AllByRecursion}
use Rattle.trace_fields.specs.Reading.{Fields}
use Rattle.trace_fields.proofs.Closed.{Closed, ordinary_closed}
use Rattle.trace_read.specs.FieldsFit.{state_fits}
use Rattle.trace_read.proofs.Modules.{module_read, module_closed, slot_read, slot_closed}
use Rattle.trace_read.proofs.Nested.{value_read, value_item}
use Rattle.trace_read.proofs.Lists.{values_read, values_closed, texts_read, texts_closed, state_read, state_closed}
use Rattle.trace_read.proofs.FieldKinds.{small_read, small_closed, number_read, wide_closed, name_read, name_closed, source_read, source_field_closed, init_read, init_closed, yes_read, yes_closed}
use Rattle.machine_events.specs.declared.event.Reply.{Reply}
use Rattle.machine_events.specs.declared.event.Reply.TheVariants as r
use Rattle.trace_text.specs.Fields.{reply_fields}
use Rattle.trace_entries.specs.declared.reply_words.BareReply.TheVariants as bare
use Rattle.trace_entries.specs.declared.reply_words.ModuleReply.TheVariants as modules
use Rattle.trace_entries.specs.declared.reply_words.SlotReply.TheVariants as slots
use Rattle.trace_entries.specs.declared.reply_words.EpochReply.TheVariants as epochs
use Rattle.trace_entries.specs.declared.reply_words.ReplyWord.{ReplyWord}
use Rattle.trace_entries.specs.declared.reply_words.ReplyWord.TheVariants as words
use Rattle.trace_entries.specs.ReplyWords.{reply_word, all_reply_words, any_reply_word, reply_word_in, if_known}
use Rattle.trace_entries.specs.ReplyWords as known
use Rattle.trace_entries.specs.Replies.{reply_at}
use Rattle.trace_read.specs.Fitting.{small_fits, reply_fits, reply_bytes, is_new_reply}

word_known : (old : Bool) (w : ReplyWord) → known.is_new_reply w ≡ false → if_known old w ≡ Some w
word_known false w h = refl
word_known true w h = cond-false _ _ _ h

word_new : (old : Bool) (w : ReplyWord) → old ≡ false → if_known old w ≡ Some w
word_new false w h = refl
word_new true w h = cc

never_new : (old new : Bool) → not (old && new) ≡ true → new ≡ true → old ≡ false
never_new false new h is = refl
never_new true true h is = cc
never_new true false h is = cc

pub reply_again : (old : Bool) (reply : Reply) (rest : Fields) → reply_fits reply ≡ true → reply_bytes reply ≡ true → not (old && is_new_reply reply) ≡ true → reply_at old (reply_fields reply ++ rest) ≡ Ok (reply, rest)
unfolding reply_at reply_word_in any_reply_word
reply_again old r.Halted rest h s k = rw (word_known old (words.Bare bare.Halted) refl) refl
reply_again old r.Missing rest h s k = rw (word_known old (words.Bare bare.Missing) refl) refl
reply_again old r.Deadlock rest h s k = rw (word_known old (words.Bare bare.Deadlock) refl) refl
reply_again old r.Woken rest h s k = rw (word_known old (words.Bare bare.Woken) refl) refl
reply_again old r.Lost rest h s k = rw (word_known old (words.Bare bare.Lost) refl) refl
reply_again old r.LostParent rest h s k = rw (word_known old (words.Bare bare.LostParent) refl) refl
reply_again old r.Sleeping rest h s k = rw (word_known old (words.Bare bare.Sleeping) refl) refl
reply_again old r.Fixed rest h s k = rw (word_known old (words.Bare bare.Fixed) refl) refl
reply_again old r.Full rest h s k = rw (word_known old (words.Bare bare.Full) refl) refl
reply_again old r.NotThere rest h s k = rw (word_known old (words.Bare bare.NotThere) refl) refl
reply_again old r.NoListing rest h s k = rw (word_new old (words.Bare bare.NoListing) (never_new old true k refl)) refl
reply_again old r.Ready rest h s k = rw (word_known old (words.Bare bare.Ready) refl) refl
reply_again old r.Done rest h s k = rw (word_known old (words.Bare bare.Done) refl) refl
reply_again old (r.Module m) rest h s k = rw (word_known old (words.OfModule modules.Module) refl, module_read m h) refl
reply_again old (r.Cycle m) rest h s k = rw (word_known old (words.OfModule modules.Cycle) refl, module_read m h) refl
reply_again old (r.Busy m) rest h s k = rw (word_known old (words.OfModule modules.Busy) refl, module_read m h) refl
reply_again old (r.Kept slot) rest h s k = rw (word_known old (words.OfSlot slots.Kept) refl, slot_read slot h) refl
reply_again old (r.Slot slot) rest h s k = rw (word_known old (words.OfSlot slots.Slot) refl, slot_read slot h) refl
reply_again old (r.Was slot) rest h s k = rw (word_known old (words.OfSlot slots.Was) refl, slot_read slot h) refl
reply_again old (r.Mine epoch) rest h s k = rw (word_known old (words.OfEpoch epochs.Mine) refl, number_read epoch h) refl
reply_again old (r.Begun epoch) rest h s k = rw (word_known old (words.OfEpoch epochs.Begun) refl, number_read epoch h) refl
reply_again old (r.Wait name) rest h s k = rw (word_known old (words.Wait) refl, name_read name h) refl
reply_again old (r.Load load mid) rest h s k =
    let b0 = and_parts (small_fits load) _ h in
    rw (word_known old (words.Load) refl, small_read load b0.0, small_read mid b0.1) refl
reply_again old (r.Value value) rest h s k = rw (word_known old (words.Value) refl, value_read value h) refl
reply_again old (r.Unset init) rest h s k = rw (word_known old (words.Unset) refl, init_read init) refl
reply_again old (r.Names names) rest h s k = rw (word_known old (words.Names) refl, texts_read names h) refl
reply_again old (r.Loaded m text) rest h s k = rw (word_known old (words.Loaded) refl, module_read m h, source_read text s) refl
reply_again old (r.Path items) rest h s k = rw (word_known old (words.Path) refl, values_read items h) refl
reply_again old (r.Ns state epoch) rest h s k =
    let b0 = and_parts (state_fits state) _ h in
    rw (word_known old (words.State) refl, state_read state b0.0, number_read epoch b0.1) refl
reply_again old (r.Yours load text) rest h s k = rw (word_known old (words.Yours) refl, small_read load h, source_read text s) refl
reply_again old (r.Listing time part file) rest h s k = rw (word_new old (words.Listing) (never_new old true k refl), number_read time h, yes_read part, yes_read file) refl

pub reply_closed : (reply : Reply) → reply_fits reply ≡ true → reply_bytes reply ≡ true → AllByRecursion Closed (reply_fields reply)
reply_closed r.Halted h s = (ordinary_closed (codes "halted") refl, tt)
reply_closed r.Missing h s = (ordinary_closed (codes "missing") refl, tt)
reply_closed r.Deadlock h s = (ordinary_closed (codes "deadlock") refl, tt)
reply_closed r.Woken h s = (ordinary_closed (codes "woken") refl, tt)
reply_closed r.Lost h s = (ordinary_closed (codes "lost") refl, tt)
reply_closed r.LostParent h s = (ordinary_closed (codes "lostparent") refl, tt)
reply_closed r.Sleeping h s = (ordinary_closed (codes "sleeping") refl, tt)
reply_closed r.Fixed h s = (ordinary_closed (codes "fixed") refl, tt)
reply_closed r.Full h s = (ordinary_closed (codes "full") refl, tt)
reply_closed r.NotThere h s = (ordinary_closed (codes "notthere") refl, tt)
reply_closed r.NoListing h s = (ordinary_closed (codes "nolisting") refl, tt)
reply_closed r.Ready h s = (ordinary_closed (codes "ready") refl, tt)
reply_closed r.Done h s = (ordinary_closed (codes "done") refl, tt)
reply_closed (r.Module m) h s = (ordinary_closed (codes "module") refl, (module_closed m h, tt))
reply_closed (r.Cycle m) h s = (ordinary_closed (codes "cycle") refl, (module_closed m h, tt))
reply_closed (r.Busy m) h s = (ordinary_closed (codes "busy") refl, (module_closed m h, tt))
reply_closed (r.Kept slot) h s = (ordinary_closed (codes "kept") refl, (slot_closed slot h, tt))
reply_closed (r.Slot slot) h s = (ordinary_closed (codes "slot") refl, (slot_closed slot h, tt))
reply_closed (r.Was slot) h s = (ordinary_closed (codes "was") refl, (slot_closed slot h, tt))
reply_closed (r.Mine epoch) h s = (ordinary_closed (codes "mine") refl, (wide_closed epoch h, tt))
reply_closed (r.Begun epoch) h s = (ordinary_closed (codes "begun") refl, (wide_closed epoch h, tt))
reply_closed (r.Wait name) h s = (ordinary_closed (codes "wait") refl, (name_closed name h, tt))
reply_closed (r.Load load mid) h s =
    let b0 = and_parts (small_fits load) _ h in
    (ordinary_closed (codes "load") refl, (small_closed load b0.0, (small_closed mid b0.1, tt)))
reply_closed (r.Value value) h s = (ordinary_closed (codes "value") refl, ((value_item value h).0, tt))
reply_closed (r.Unset init) h s = (ordinary_closed (codes "unset") refl, (init_closed init, tt))
reply_closed (r.Names names) h s = (ordinary_closed (codes "names") refl, (texts_closed names, tt))
reply_closed (r.Loaded m text) h s = (ordinary_closed (codes "loaded") refl, (module_closed m h, (source_field_closed text s, tt)))
reply_closed (r.Path items) h s = (ordinary_closed (codes "path") refl, (values_closed items h, tt))
reply_closed (r.Ns state epoch) h s =
    let b0 = and_parts (state_fits state) _ h in
    (ordinary_closed (codes "state") refl, (state_closed state b0.0, (wide_closed epoch b0.1, tt)))
reply_closed (r.Yours load text) h s = (ordinary_closed (codes "yours") refl, (small_closed load h, (source_field_closed text s, tt)))
reply_closed (r.Listing time part file) h s = (ordinary_closed (codes "listing") refl, (wide_closed time h, (yes_closed part, (yes_closed file, tt))))
