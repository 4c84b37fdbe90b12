-- A source as the code reads it.
use Rattle.std.specs.Prelude.{ℕ, ◌+◌, nat_lt, if◌then◌else◌, List, length, take, Err}
use Rattle.std.specs.Str.{is_utf8, chars}
use Rattle.std.specs.Str.Lossy.{utf8_valid_len}
use Rattle.base_types.specs.declared.limits.TheConstants.{LONGEST_SOURCE}
use Rattle.py_lexer.specs.declared.error.LexError.TheVariants as error
use Rattle.py_lexer.specs.Source.{Answer, answer_of, line_ends, without_mark}
use Rattle.py_lexer.specs.Reading.{scan_text}

-- its length comes first, then whether it is UTF-8, then its characters without a leading U+FEFF
unfoldable pub source : List ℕ → Answer
source src =
    if nat_lt LONGEST_SOURCE (length src) then Err error.TooLong
    else if is_utf8 src then answer_of (scan_text (without_mark (chars src)))
    else Err (error.NotUtf8 (line_ends (take (utf8_valid_len src) src) + 1))
