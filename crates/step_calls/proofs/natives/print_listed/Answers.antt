use Rattle.std.proofs.Common.{◌≡◌, Some, slice_get, slice_set}
use Rattle.py_value.specs.declared.kind.Native.TheVariants as natives
use Rattle.py_value.specs.declared.value.Value.TheVariants as values
use Rattle.meaning_script.specs.Meaning.{calls_at}
use Rattle.step_calls.specs.Around.{prints_all}
use Rattle.step_calls.proofs.Listed.{got_at, first_is_listed, some_listed, native_called}
use Rattle.step_calls.proofs.natives.print_listed.Goals as goal

pub list_operand-requires : goal.list_operand-requires
list_operand-requires c =
    let got : slice_get c.args.values c.args.at ≡ Some c.in_ok-value.value =
    got_at c.args.values _ c.args.at _ c.in_ok-value.value c.as_slice.ensures c.index-as_slice-at.is c.in_ok-value.ensures c.requires.first in
    record { is_listed = first_is_listed c.args.values c.args.at c.in_ok-value.value c.requires.first got }

pub returns : goal.returns
returns c =
    let got : slice_get c.args.values c.args.at ≡ Some c.in_ok-value.value =
    got_at c.args.values _ c.args.at _ c.in_ok-value.value c.as_slice.ensures c.index-as_slice-at.is c.in_ok-value.ensures c.requires.first in
    some_listed c.args.thread.now c.args.values c.args.at c.in_ok-value.value
    (λ w d u. calls_at w d (values.Native natives.Print) (slice_set c.args.values c.args.at u)) prints_all c.list_operand.result c.requires.first got
    (λ w d u. native_called w d natives.Print (slice_set c.args.values c.args.at u)) c.list_operand.ensures
