-- Replies stop at the first field at which nothing goes on.
use Rattle.std.proofs.Common.{◌≡◌, refl, Bool, true, false, Some, codes}
use Rattle.machine_events.specs.declared.event.Reply.TheVariants as r
use Rattle.trace_fields.specs.declared.refusal.Cause.TheVariants as cause
use Rattle.trace_fields.specs.Reading.{taken}
use Rattle.trace_entries.specs.declared.reply_words.BareReply.TheVariants as bare
use Rattle.trace_entries.specs.declared.reply_words.ReplyWord.{ReplyWord}
use Rattle.trace_entries.specs.declared.reply_words.ReplyWord.TheVariants as words
use Rattle.trace_entries.specs.ReplyWords.{any_reply_word, reply_word_in}
use Rattle.trace_entries.specs.Replies.{bare_reply, module_reply, slot_reply, epoch_reply, reply_of, reply_at}
use Rattle.trace_entries.specs.Taking.{small_number_at, number_at, name_at, source_at, module_at, slot_at, value_at, values_at, texts_at, state_at, init_at, yes_at}
use Rattle.trace_read.proofs.Steady.{Steady, Told, bound, done, steady_done, steady_bound, steady_field, only_kind}
use Rattle.trace_read.proofs.OneField.{small_number_steady, number_steady, name_steady, source_steady, module_steady, slot_steady, value_steady, values_steady, texts_steady, state_steady, init_steady, yes_steady}

reply_of_steady : (old : Bool) (w : ReplyWord) → Steady old (reply_of w)
reply_of_steady old (words.Bare w) = steady_done old (bare_reply w)
reply_of_steady old (words.OfModule w) = steady_bound old module_at (λ m. done (module_reply w m)) (module_steady old) (λ m. steady_done old (module_reply w m))
reply_of_steady old (words.OfSlot w) = steady_bound old slot_at (λ slot. done (slot_reply w slot)) (slot_steady old) (λ slot. steady_done old (slot_reply w slot))
reply_of_steady old (words.OfEpoch w) = steady_bound old number_at (λ epoch. done (epoch_reply w epoch)) (number_steady old) (λ epoch. steady_done old (epoch_reply w epoch))
reply_of_steady old words.Wait = steady_bound old name_at (λ name. done (r.Wait name)) (name_steady old) (λ name. steady_done old (r.Wait name))
reply_of_steady old words.Load =
    steady_bound old small_number_at (λ load. bound small_number_at (λ mid. done (r.Load load mid))) (small_number_steady old) (λ load.
    steady_bound old small_number_at (λ mid. done (r.Load load mid)) (small_number_steady old) (λ mid. steady_done old (r.Load load mid)))
reply_of_steady old words.Value = steady_bound old value_at (λ value. done (r.Value value)) (value_steady old) (λ value. steady_done old (r.Value value))
reply_of_steady old words.Unset = steady_bound old init_at (λ init. done (r.Unset init)) (init_steady old) (λ init. steady_done old (r.Unset init))
reply_of_steady old words.Names = steady_bound old texts_at (λ names. done (r.Names names)) (texts_steady old) (λ names. steady_done old (r.Names names))
reply_of_steady old words.Loaded =
    steady_bound old module_at (λ m. bound source_at (λ text. done (r.Loaded m text))) (module_steady old) (λ m.
    steady_bound old source_at (λ text. done (r.Loaded m text)) (source_steady old) (λ text. steady_done old (r.Loaded m text)))
reply_of_steady old words.Path = steady_bound old values_at (λ items. done (r.Path items)) (values_steady old) (λ items. steady_done old (r.Path items))
reply_of_steady old words.State =
    steady_bound old state_at (λ state. bound number_at (λ epoch. done (r.Ns state epoch))) (state_steady old) (λ state.
    steady_bound old number_at (λ epoch. done (r.Ns state epoch)) (number_steady old) (λ epoch. steady_done old (r.Ns state epoch)))
reply_of_steady old words.Yours =
    steady_bound old small_number_at (λ load. bound source_at (λ text. done (r.Yours load text))) (small_number_steady old) (λ load.
    steady_bound old source_at (λ text. done (r.Yours load text)) (source_steady old) (λ text. steady_done old (r.Yours load text)))
reply_of_steady old words.Listing =
    steady_bound old number_at (λ time. bound yes_at (λ part. bound yes_at (λ file. done (r.Listing time part file)))) (number_steady old) (λ time.
    steady_bound old yes_at (λ part. bound yes_at (λ file. done (r.Listing time part file))) (yes_steady old) (λ part.
    steady_bound old yes_at (λ file. done (r.Listing time part file)) (yes_steady old) (λ file. steady_done old (r.Listing time part file))))

done_known : (old : Bool) → reply_word_in old (codes "done") ≡ Some (words.Bare bare.Done)
unfolding reply_word_in any_reply_word
done_known false = refl
done_known true = refl

reply_told : (old : Bool) → Told old cause.Reply (reply_word_in old)
reply_told old field w h = (w, h)

pub reply_steady : (old : Bool) → Steady old (reply_at old)
unfolding reply_at
reply_steady old =
    steady_bound old (taken cause.Reply (reply_word_in old)) reply_of
    (steady_field old cause.Reply (reply_word_in old) (codes "done") (words.Bare bare.Done) (done_known old) (only_kind old cause.Reply (reply_word_in old) (reply_told old) (words.Bare bare.Done, done_known old)))
    (reply_of_steady old)
