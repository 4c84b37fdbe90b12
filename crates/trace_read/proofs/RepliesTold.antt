-- A reply that was read is spelled so.
use Rattle.std.proofs.Common.{◌≡◌, ◌∙◌, refl, sym, ap, subst, ℕ, List, ◌∷◌, ◌++◌, map, Bool, true, false, not, ◌&&◌, Some, Ok, codes}
use Rattle.std.proofs.lemmas.Bool.{and_from}
use Rattle.std.proofs.lemmas.Option.{option_and_then_some}
use Rattle.std.specs.Fmt.{decimal}
use Rattle.base_spelling.specs.Numbers.{number_in}
use Rattle.base_spelling.specs.Read.{source_in}
use Rattle.trace_text.specs.Values.{module_text, state_text}
use Rattle.trace_fields.specs.declared.refusal.Cause.TheVariants as cause
use Rattle.trace_fields.specs.Reading.{Fields, ◌>>=◌}
use Rattle.trace_fields.specs.Fields.{small_number_in, name_in, lookup}
use Rattle.trace_fields.specs.Values.{module_in, slot_in, value_in, values_in, texts_in, state_in}
use Rattle.trace_entries.specs.Taking.{small_number_at, number_at, source_at, flag_in, yes_at}
use Rattle.trace_read.proofs.Held.{some_is, other_option, lookup_takes}
use Rattle.trace_read.proofs.Modules.{module_told, slot_told}
use Rattle.trace_read.proofs.Told.{value_told}
use Rattle.trace_read.proofs.Lists.{values_told, texts_told, state_told}
use Rattle.trace_read.proofs.Taking.{step, ok_is}
use Rattle.trace_read.proofs.FieldKinds.{small_told, number_told, name_told, source_told, init_told, yes_told}
use Rattle.machine_events.specs.declared.event.Reply.{Reply}
use Rattle.machine_events.specs.declared.event.Reply.TheVariants as r
use Rattle.trace_text.specs.Fields.{yes_word, reply_fields}
use Rattle.trace_entries.specs.declared.reply_words.BareReply.TheVariants as bare
use Rattle.trace_entries.specs.declared.reply_words.ModuleReply.TheVariants as modules
use Rattle.trace_entries.specs.declared.reply_words.SlotReply.TheVariants as slots
use Rattle.trace_entries.specs.declared.reply_words.EpochReply.TheVariants as epochs
use Rattle.trace_entries.specs.declared.reply_words.ReplyWord.{ReplyWord}
use Rattle.trace_entries.specs.declared.reply_words.ReplyWord.TheVariants as words
use Rattle.trace_entries.specs.ReplyWords.{reply_word, all_reply_words, any_reply_word, reply_word_in, if_known}
use Rattle.trace_entries.specs.ReplyWords as known
use Rattle.trace_entries.specs.Replies.{bare_at, of_module_at, of_slot_at, of_epoch_at, wait_at, load_reply_at, value_reply_at, unset_at, names_at, loaded_at, path_at, state_reply_at, yours_at, listing_at, reply_of, reply_at}
use Rattle.trace_read.specs.Fitting.{reply_fits, is_new_reply}

-- the fields behind a word, and whether format 1 lacks the reply
pub record SpelledReply (word : List ℕ) (new : Bool) (fields : Fields) (q : Reply × Fields) : Type 0 where
  pub fields_are : word ∷ fields ≡ reply_fields q.0 ++ q.1
  pub fits : reply_fits q.0 ≡ true
  pub is_new : is_new_reply q.0 ≡ new

module_spelled : (fields : Fields) (q : Reply × Fields) → of_module_at modules.Module fields ≡ Ok q → SpelledReply (codes "module") false fields q
module_spelled fields q h =
    let s0 = step cause.Fields module_in fields (λ v0. Ok (r.Module v0.0, v0.1)) q h in
    let t0 = module_told s0.field s0.x s0.held in
    subst (SpelledReply (codes "module") false fields) (ok_is (r.Module s0.x, s0.rest) q s0.more)
    (record { is_new = refl; fields_are = (λ k. (codes "module") ∷ s0.front k) ∙ (λ k. (codes "module") ∷ t0.0 k ∷ s0.rest); fits = t0.1 })

cycle_spelled : (fields : Fields) (q : Reply × Fields) → of_module_at modules.Cycle fields ≡ Ok q → SpelledReply (codes "cycle") false fields q
cycle_spelled fields q h =
    let s0 = step cause.Fields module_in fields (λ v0. Ok (r.Cycle v0.0, v0.1)) q h in
    let t0 = module_told s0.field s0.x s0.held in
    subst (SpelledReply (codes "cycle") false fields) (ok_is (r.Cycle s0.x, s0.rest) q s0.more)
    (record { is_new = refl; fields_are = (λ k. (codes "cycle") ∷ s0.front k) ∙ (λ k. (codes "cycle") ∷ t0.0 k ∷ s0.rest); fits = t0.1 })

busy_spelled : (fields : Fields) (q : Reply × Fields) → of_module_at modules.Busy fields ≡ Ok q → SpelledReply (codes "busy") false fields q
busy_spelled fields q h =
    let s0 = step cause.Fields module_in fields (λ v0. Ok (r.Busy v0.0, v0.1)) q h in
    let t0 = module_told s0.field s0.x s0.held in
    subst (SpelledReply (codes "busy") false fields) (ok_is (r.Busy s0.x, s0.rest) q s0.more)
    (record { is_new = refl; fields_are = (λ k. (codes "busy") ∷ s0.front k) ∙ (λ k. (codes "busy") ∷ t0.0 k ∷ s0.rest); fits = t0.1 })

kept_spelled : (fields : Fields) (q : Reply × Fields) → of_slot_at slots.Kept fields ≡ Ok q → SpelledReply (codes "kept") false fields q
kept_spelled fields q h =
    let s0 = step cause.Fields slot_in fields (λ v0. Ok (r.Kept v0.0, v0.1)) q h in
    let t0 = slot_told s0.field s0.x s0.held in
    subst (SpelledReply (codes "kept") false fields) (ok_is (r.Kept s0.x, s0.rest) q s0.more)
    (record { is_new = refl; fields_are = (λ k. (codes "kept") ∷ s0.front k) ∙ (λ k. (codes "kept") ∷ t0.0 k ∷ s0.rest); fits = t0.1 })

slot_one_spelled : (fields : Fields) (q : Reply × Fields) → of_slot_at slots.Slot fields ≡ Ok q → SpelledReply (codes "slot") false fields q
slot_one_spelled fields q h =
    let s0 = step cause.Fields slot_in fields (λ v0. Ok (r.Slot v0.0, v0.1)) q h in
    let t0 = slot_told s0.field s0.x s0.held in
    subst (SpelledReply (codes "slot") false fields) (ok_is (r.Slot s0.x, s0.rest) q s0.more)
    (record { is_new = refl; fields_are = (λ k. (codes "slot") ∷ s0.front k) ∙ (λ k. (codes "slot") ∷ t0.0 k ∷ s0.rest); fits = t0.1 })

was_spelled : (fields : Fields) (q : Reply × Fields) → of_slot_at slots.Was fields ≡ Ok q → SpelledReply (codes "was") false fields q
was_spelled fields q h =
    let s0 = step cause.Fields slot_in fields (λ v0. Ok (r.Was v0.0, v0.1)) q h in
    let t0 = slot_told s0.field s0.x s0.held in
    subst (SpelledReply (codes "was") false fields) (ok_is (r.Was s0.x, s0.rest) q s0.more)
    (record { is_new = refl; fields_are = (λ k. (codes "was") ∷ s0.front k) ∙ (λ k. (codes "was") ∷ t0.0 k ∷ s0.rest); fits = t0.1 })

mine_spelled : (fields : Fields) (q : Reply × Fields) → of_epoch_at epochs.Mine fields ≡ Ok q → SpelledReply (codes "mine") false fields q
mine_spelled fields q h =
    let s0 = step cause.Number number_in fields (λ v0. Ok (r.Mine v0.0, v0.1)) q h in
    let t0 = number_told s0.field s0.x s0.held in
    subst (SpelledReply (codes "mine") false fields) (ok_is (r.Mine s0.x, s0.rest) q s0.more)
    (record { is_new = refl; fields_are = (λ k. (codes "mine") ∷ s0.front k) ∙ (λ k. (codes "mine") ∷ t0.0 k ∷ s0.rest); fits = t0.1 })

begun_spelled : (fields : Fields) (q : Reply × Fields) → of_epoch_at epochs.Begun fields ≡ Ok q → SpelledReply (codes "begun") false fields q
begun_spelled fields q h =
    let s0 = step cause.Number number_in fields (λ v0. Ok (r.Begun v0.0, v0.1)) q h in
    let t0 = number_told s0.field s0.x s0.held in
    subst (SpelledReply (codes "begun") false fields) (ok_is (r.Begun s0.x, s0.rest) q s0.more)
    (record { is_new = refl; fields_are = (λ k. (codes "begun") ∷ s0.front k) ∙ (λ k. (codes "begun") ∷ t0.0 k ∷ s0.rest); fits = t0.1 })

wait_spelled : (fields : Fields) (q : Reply × Fields) → wait_at fields ≡ Ok q → SpelledReply (codes "wait") false fields q
wait_spelled fields q h =
    let s0 = step cause.Name name_in fields (λ v0. Ok (r.Wait v0.0, v0.1)) q h in
    let t0 = name_told s0.field s0.x s0.held in
    subst (SpelledReply (codes "wait") false fields) (ok_is (r.Wait s0.x, s0.rest) q s0.more)
    (record { is_new = refl; fields_are = (λ k. (codes "wait") ∷ s0.front k) ∙ (λ k. (codes "wait") ∷ t0.0 k ∷ s0.rest); fits = t0.1 })

load_spelled : (fields : Fields) (q : Reply × Fields) → load_reply_at fields ≡ Ok q → SpelledReply (codes "load") false fields q
load_spelled fields q h =
    let s0 = step cause.Number small_number_in fields (λ v0. small_number_at v0.1 >>= (λ v1. Ok (r.Load v0.0 v1.0, v1.1))) q h in
    let s1 = step cause.Number small_number_in s0.rest (λ v1. Ok (r.Load s0.x v1.0, v1.1)) q s0.more in
    let t0 = small_told s0.field s0.x s0.held in
    let t1 = small_told s1.field s1.x s1.held in
    subst (SpelledReply (codes "load") false fields) (ok_is (r.Load s0.x s1.x, s1.rest) q s1.more)
    (record { is_new = refl; fields_are = (λ k. (codes "load") ∷ s0.front k) ∙ (λ k. (codes "load") ∷ t0.0 k ∷ s1.front k) ∙ (λ k. (codes "load") ∷ decimal s0.x ∷ t1.0 k ∷ s1.rest); fits = and_from _ _ t0.1 (t1.1) })

value_spelled : (fields : Fields) (q : Reply × Fields) → value_reply_at fields ≡ Ok q → SpelledReply (codes "value") false fields q
value_spelled fields q h =
    let s0 = step cause.Fields (value_in 64) fields (λ v0. Ok (r.Value v0.0, v0.1)) q h in
    let t0 = value_told s0.field s0.x s0.held in
    subst (SpelledReply (codes "value") false fields) (ok_is (r.Value s0.x, s0.rest) q s0.more)
    (record { is_new = refl; fields_are = (λ k. (codes "value") ∷ s0.front k) ∙ (λ k. (codes "value") ∷ t0.0 k ∷ s0.rest); fits = t0.1 })

unset_spelled : (fields : Fields) (q : Reply × Fields) → unset_at fields ≡ Ok q → SpelledReply (codes "unset") false fields q
unset_spelled fields q h =
    let s0 = step cause.Fields (flag_in (codes "init") (codes "plain")) fields (λ v0. Ok (r.Unset v0.0, v0.1)) q h in
    let t0 = init_told s0.field s0.x s0.held in
    subst (SpelledReply (codes "unset") false fields) (ok_is (r.Unset s0.x, s0.rest) q s0.more)
    (record { is_new = refl; fields_are = (λ k. (codes "unset") ∷ s0.front k) ∙ (λ k. (codes "unset") ∷ t0 k ∷ s0.rest); fits = refl })

names_spelled : (fields : Fields) (q : Reply × Fields) → names_at fields ≡ Ok q → SpelledReply (codes "names") false fields q
names_spelled fields q h =
    let s0 = step cause.Fields texts_in fields (λ v0. Ok (r.Names v0.0, v0.1)) q h in
    let t0 = texts_told s0.field s0.x s0.held in
    subst (SpelledReply (codes "names") false fields) (ok_is (r.Names s0.x, s0.rest) q s0.more)
    (record { is_new = refl; fields_are = (λ k. (codes "names") ∷ s0.front k) ∙ (λ k. (codes "names") ∷ t0.0 k ∷ s0.rest); fits = t0.1 })

loaded_spelled : (fields : Fields) (q : Reply × Fields) → loaded_at fields ≡ Ok q → SpelledReply (codes "loaded") false fields q
loaded_spelled fields q h =
    let s0 = step cause.Fields module_in fields (λ v0. source_at v0.1 >>= (λ v1. Ok (r.Loaded v0.0 v1.0, v1.1))) q h in
    let s1 = step cause.Escape source_in s0.rest (λ v1. Ok (r.Loaded s0.x v1.0, v1.1)) q s0.more in
    let t0 = module_told s0.field s0.x s0.held in
    let t1 = source_told s1.field s1.x s1.held in
    subst (SpelledReply (codes "loaded") false fields) (ok_is (r.Loaded s0.x s1.x, s1.rest) q s1.more)
    (record { is_new = refl; fields_are = (λ k. (codes "loaded") ∷ s0.front k) ∙ (λ k. (codes "loaded") ∷ t0.0 k ∷ s1.front k) ∙ (λ k. (codes "loaded") ∷ module_text s0.x ∷ t1 k ∷ s1.rest); fits = t0.1 })

path_spelled : (fields : Fields) (q : Reply × Fields) → path_at fields ≡ Ok q → SpelledReply (codes "path") false fields q
path_spelled fields q h =
    let s0 = step cause.Fields values_in fields (λ v0. Ok (r.Path v0.0, v0.1)) q h in
    let t0 = values_told s0.field s0.x s0.held in
    subst (SpelledReply (codes "path") false fields) (ok_is (r.Path s0.x, s0.rest) q s0.more)
    (record { is_new = refl; fields_are = (λ k. (codes "path") ∷ s0.front k) ∙ (λ k. (codes "path") ∷ t0.0 k ∷ s0.rest); fits = t0.1 })

ns_spelled : (fields : Fields) (q : Reply × Fields) → state_reply_at fields ≡ Ok q → SpelledReply (codes "state") false fields q
ns_spelled fields q h =
    let s0 = step cause.Fields state_in fields (λ v0. number_at v0.1 >>= (λ v1. Ok (r.Ns v0.0 v1.0, v1.1))) q h in
    let s1 = step cause.Number number_in s0.rest (λ v1. Ok (r.Ns s0.x v1.0, v1.1)) q s0.more in
    let t0 = state_told s0.field s0.x s0.held in
    let t1 = number_told s1.field s1.x s1.held in
    subst (SpelledReply (codes "state") false fields) (ok_is (r.Ns s0.x s1.x, s1.rest) q s1.more)
    (record { is_new = refl; fields_are = (λ k. (codes "state") ∷ s0.front k) ∙ (λ k. (codes "state") ∷ t0.0 k ∷ s1.front k) ∙ (λ k. (codes "state") ∷ state_text s0.x ∷ t1.0 k ∷ s1.rest); fits = and_from _ _ t0.1 (t1.1) })

yours_spelled : (fields : Fields) (q : Reply × Fields) → yours_at fields ≡ Ok q → SpelledReply (codes "yours") false fields q
yours_spelled fields q h =
    let s0 = step cause.Number small_number_in fields (λ v0. source_at v0.1 >>= (λ v1. Ok (r.Yours v0.0 v1.0, v1.1))) q h in
    let s1 = step cause.Escape source_in s0.rest (λ v1. Ok (r.Yours s0.x v1.0, v1.1)) q s0.more in
    let t0 = small_told s0.field s0.x s0.held in
    let t1 = source_told s1.field s1.x s1.held in
    subst (SpelledReply (codes "yours") false fields) (ok_is (r.Yours s0.x s1.x, s1.rest) q s1.more)
    (record { is_new = refl; fields_are = (λ k. (codes "yours") ∷ s0.front k) ∙ (λ k. (codes "yours") ∷ t0.0 k ∷ s1.front k) ∙ (λ k. (codes "yours") ∷ decimal s0.x ∷ t1 k ∷ s1.rest); fits = t0.1 })

listing_spelled : (fields : Fields) (q : Reply × Fields) → listing_at fields ≡ Ok q → SpelledReply (codes "listing") true fields q
listing_spelled fields q h =
    let s0 = step cause.Number number_in fields (λ v0. yes_at v0.1 >>= (λ v1. yes_at v1.1 >>= (λ v2. Ok (r.Listing v0.0 v1.0 v2.0, v2.1)))) q h in
    let s1 = step cause.Fields (flag_in (codes "yes") (codes "no")) s0.rest (λ v1. yes_at v1.1 >>= (λ v2. Ok (r.Listing s0.x v1.0 v2.0, v2.1))) q s0.more in
    let s2 = step cause.Fields (flag_in (codes "yes") (codes "no")) s1.rest (λ v2. Ok (r.Listing s0.x s1.x v2.0, v2.1)) q s1.more in
    let t0 = number_told s0.field s0.x s0.held in
    let t1 = yes_told s1.field s1.x s1.held in
    let t2 = yes_told s2.field s2.x s2.held in
    subst (SpelledReply (codes "listing") true fields) (ok_is (r.Listing s0.x s1.x s2.x, s2.rest) q s2.more)
    (record { is_new = refl; fields_are = (λ k. (codes "listing") ∷ s0.front k) ∙ (λ k. (codes "listing") ∷ t0.0 k ∷ s1.front k) ∙ (λ k. (codes "listing") ∷ decimal s0.x ∷ t1 k ∷ s2.front k) ∙ (λ k. (codes "listing") ∷ decimal s0.x ∷ yes_word s1.x ∷ t2 k ∷ s2.rest); fits = t0.1 })

halted_spelled : (fields : Fields) (q : Reply × Fields) → bare_at bare.Halted fields ≡ Ok q → SpelledReply (codes "halted") false fields q
halted_spelled fields q h = subst (SpelledReply (codes "halted") false fields) (ok_is (r.Halted, fields) q h) (record { fields_are = refl; fits = refl; is_new = refl })

missing_spelled : (fields : Fields) (q : Reply × Fields) → bare_at bare.Missing fields ≡ Ok q → SpelledReply (codes "missing") false fields q
missing_spelled fields q h = subst (SpelledReply (codes "missing") false fields) (ok_is (r.Missing, fields) q h) (record { fields_are = refl; fits = refl; is_new = refl })

deadlock_spelled : (fields : Fields) (q : Reply × Fields) → bare_at bare.Deadlock fields ≡ Ok q → SpelledReply (codes "deadlock") false fields q
deadlock_spelled fields q h = subst (SpelledReply (codes "deadlock") false fields) (ok_is (r.Deadlock, fields) q h) (record { fields_are = refl; fits = refl; is_new = refl })

woken_spelled : (fields : Fields) (q : Reply × Fields) → bare_at bare.Woken fields ≡ Ok q → SpelledReply (codes "woken") false fields q
woken_spelled fields q h = subst (SpelledReply (codes "woken") false fields) (ok_is (r.Woken, fields) q h) (record { fields_are = refl; fits = refl; is_new = refl })

lost_spelled : (fields : Fields) (q : Reply × Fields) → bare_at bare.Lost fields ≡ Ok q → SpelledReply (codes "lost") false fields q
lost_spelled fields q h = subst (SpelledReply (codes "lost") false fields) (ok_is (r.Lost, fields) q h) (record { fields_are = refl; fits = refl; is_new = refl })

lostparent_spelled : (fields : Fields) (q : Reply × Fields) → bare_at bare.LostParent fields ≡ Ok q → SpelledReply (codes "lostparent") false fields q
lostparent_spelled fields q h = subst (SpelledReply (codes "lostparent") false fields) (ok_is (r.LostParent, fields) q h) (record { fields_are = refl; fits = refl; is_new = refl })

sleeping_spelled : (fields : Fields) (q : Reply × Fields) → bare_at bare.Sleeping fields ≡ Ok q → SpelledReply (codes "sleeping") false fields q
sleeping_spelled fields q h = subst (SpelledReply (codes "sleeping") false fields) (ok_is (r.Sleeping, fields) q h) (record { fields_are = refl; fits = refl; is_new = refl })

fixed_spelled : (fields : Fields) (q : Reply × Fields) → bare_at bare.Fixed fields ≡ Ok q → SpelledReply (codes "fixed") false fields q
fixed_spelled fields q h = subst (SpelledReply (codes "fixed") false fields) (ok_is (r.Fixed, fields) q h) (record { fields_are = refl; fits = refl; is_new = refl })

full_spelled : (fields : Fields) (q : Reply × Fields) → bare_at bare.Full fields ≡ Ok q → SpelledReply (codes "full") false fields q
full_spelled fields q h = subst (SpelledReply (codes "full") false fields) (ok_is (r.Full, fields) q h) (record { fields_are = refl; fits = refl; is_new = refl })

notthere_spelled : (fields : Fields) (q : Reply × Fields) → bare_at bare.NotThere fields ≡ Ok q → SpelledReply (codes "notthere") false fields q
notthere_spelled fields q h = subst (SpelledReply (codes "notthere") false fields) (ok_is (r.NotThere, fields) q h) (record { fields_are = refl; fits = refl; is_new = refl })

nolisting_spelled : (fields : Fields) (q : Reply × Fields) → bare_at bare.NoListing fields ≡ Ok q → SpelledReply (codes "nolisting") true fields q
nolisting_spelled fields q h = subst (SpelledReply (codes "nolisting") true fields) (ok_is (r.NoListing, fields) q h) (record { fields_are = refl; fits = refl; is_new = refl })

ready_spelled : (fields : Fields) (q : Reply × Fields) → bare_at bare.Ready fields ≡ Ok q → SpelledReply (codes "ready") false fields q
ready_spelled fields q h = subst (SpelledReply (codes "ready") false fields) (ok_is (r.Ready, fields) q h) (record { fields_are = refl; fits = refl; is_new = refl })

done_spelled : (fields : Fields) (q : Reply × Fields) → bare_at bare.Done fields ≡ Ok q → SpelledReply (codes "done") false fields q
done_spelled fields q h = subst (SpelledReply (codes "done") false fields) (ok_is (r.Done, fields) q h) (record { fields_are = refl; fits = refl; is_new = refl })

reply_of_told : (w : ReplyWord) (fields : Fields) (q : Reply × Fields) → reply_of w fields ≡ Ok q → SpelledReply (reply_word w) (known.is_new_reply w) fields q
reply_of_told (words.Bare bare.Halted) fields q h = halted_spelled fields q h
reply_of_told (words.Bare bare.Missing) fields q h = missing_spelled fields q h
reply_of_told (words.Bare bare.Deadlock) fields q h = deadlock_spelled fields q h
reply_of_told (words.Bare bare.Woken) fields q h = woken_spelled fields q h
reply_of_told (words.Bare bare.Lost) fields q h = lost_spelled fields q h
reply_of_told (words.Bare bare.LostParent) fields q h = lostparent_spelled fields q h
reply_of_told (words.Bare bare.Sleeping) fields q h = sleeping_spelled fields q h
reply_of_told (words.Bare bare.Fixed) fields q h = fixed_spelled fields q h
reply_of_told (words.Bare bare.Full) fields q h = full_spelled fields q h
reply_of_told (words.Bare bare.NotThere) fields q h = notthere_spelled fields q h
reply_of_told (words.Bare bare.NoListing) fields q h = nolisting_spelled fields q h
reply_of_told (words.Bare bare.Ready) fields q h = ready_spelled fields q h
reply_of_told (words.Bare bare.Done) fields q h = done_spelled fields q h
reply_of_told (words.OfModule modules.Module) fields q h = module_spelled fields q h
reply_of_told (words.OfModule modules.Cycle) fields q h = cycle_spelled fields q h
reply_of_told (words.OfModule modules.Busy) fields q h = busy_spelled fields q h
reply_of_told (words.OfSlot slots.Kept) fields q h = kept_spelled fields q h
reply_of_told (words.OfSlot slots.Slot) fields q h = slot_one_spelled fields q h
reply_of_told (words.OfSlot slots.Was) fields q h = was_spelled fields q h
reply_of_told (words.OfEpoch epochs.Mine) fields q h = mine_spelled fields q h
reply_of_told (words.OfEpoch epochs.Begun) fields q h = begun_spelled fields q h
reply_of_told words.Wait fields q h = wait_spelled fields q h
reply_of_told words.Load fields q h = load_spelled fields q h
reply_of_told words.Value fields q h = value_spelled fields q h
reply_of_told words.Unset fields q h = unset_spelled fields q h
reply_of_told words.Names fields q h = names_spelled fields q h
reply_of_told words.Loaded fields q h = loaded_spelled fields q h
reply_of_told words.Path fields q h = path_spelled fields q h
reply_of_told words.State fields q h = ns_spelled fields q h
reply_of_told words.Yours fields q h = yours_spelled fields q h
reply_of_told words.Listing fields q h = listing_spelled fields q h

known_told : (old : Bool) (w x : ReplyWord) → if_known old w ≡ Some x → (w ≡ x) × (not (old && known.is_new_reply x) ≡ true)
known_told false w x h = (some_is w x h, refl)
known_told true w x h =
    let c = other_option (known.is_new_reply w) (Some w) x h in
    let is = some_is w x c.1 in
    (is, ap not (ap known.is_new_reply (sym is) ∙ c.0))

reply_word_told : (old : Bool) (field : List ℕ) (w : ReplyWord) → reply_word_in old field ≡ Some w → (field ≡ reply_word w) × (not (old && known.is_new_reply w) ≡ true)
unfolding reply_word_in any_reply_word
reply_word_told old field w h =
    option_and_then_some (if_known old) (lookup field (map (λ word. (reply_word word, word)) all_reply_words)) w h (λ found is held.
    let t = known_told old found w held in
    (lookup_takes reply_word field all_reply_words found is ∙ ap reply_word t.0, t.1))

pub reply_told : (old : Bool) (fields : Fields) (q : Reply × Fields) → reply_at old fields ≡ Ok q → (fields ≡ reply_fields q.0 ++ q.1) × (reply_fits q.0 ≡ true) × (not (old && is_new_reply q.0) ≡ true)
unfolding reply_at
reply_told old fields q h =
    let s = step cause.Reply (reply_word_in old) fields (λ w. reply_of w.0 w.1) q h in
    let w = reply_word_told old s.field s.x s.held in
    let t = reply_of_told s.x s.rest q s.more in
    (s.front ∙ ap (λ f. f ∷ s.rest) w.0 ∙ t.fields_are, t.fits, ap (λ b. not (old && b)) t.is_new ∙ w.1)
