use Rattle.std.proofs.Common.{◌≡◌, ℕ, ◌<◌, ◌≤◌, ◌+◌, ◌*◌, length}
use Rattle.source_combinators.specs.Many.{many}
use Rattle.py_syntax.specs.declared.expr.Level.{Level}
use Rattle.py_syntax.specs.declared.expr.Level.TheVariants.{Disjunction, Conjunction, Sum, Term}
use Rattle.source_spec_lines.specs.Expressions.{inner_of, Whole}
use Rattle.source_spec_lines.specs.Expressions as reading
use Rattle.source_parse_expressions.proofs.parser.+expr.Given as goal

-- a level takes one of room, and each form calls those that bind tighter
abbrev rank : Level → ℕ
rank Disjunction = 16
rank Conjunction = 13
rank Sum = 6
rank Term = 3

abbrev pub decreases-atom : goal.decreases-atom
decreases-atom l = l.room * 23

abbrev pub decreases-trailer : goal.decreases-trailer
decreases-trailer l = l.room * 23

abbrev pub decreases-primary : goal.decreases-primary
decreases-primary l = l.room * 23 + 1

abbrev pub decreases-factor : goal.decreases-factor
decreases-factor l = l.room * 23 + 2

abbrev pub decreases-operand : goal.decreases-operand
decreases-operand l = l.room * 23 + rank l.level

abbrev pub decreases-joins : goal.decreases-joins
decreases-joins l = l.room * 23 + rank l.level + 1

abbrev pub decreases-chain : goal.decreases-chain
decreases-chain l = l.room * 23 + rank l.level + 2

abbrev pub decreases-compare_with : goal.decreases-compare_with
decreases-compare_with l = l.room * 23 + 9

abbrev pub decreases-compared : goal.decreases-compared
decreases-compared l = l.room * 23 + 10

abbrev pub decreases-comparison : goal.decreases-comparison
decreases-comparison l = l.room * 23 + 11

abbrev pub decreases-inversion : goal.decreases-inversion
decreases-inversion l = l.room * 23 + 12

abbrev pub decreases-expr : goal.decreases-expr
decreases-expr l = l.room * 23 + 19

abbrev pub decreases-item : goal.decreases-item
decreases-item l = l.room * 23 + 20

abbrev pub decreases-all_items : goal.decreases-all_items
decreases-all_items l = l.room * 23 + 21

abbrev pub decreases-in_parens : goal.decreases-in_parens
decreases-in_parens l = l.room * 23 + 22

abbrev pub decreases-in_brackets : goal.decreases-in_brackets
decreases-in_brackets l = l.room * 23 + 22

abbrev pub decreases-call_with : goal.decreases-call_with
decreases-call_with l = l.room * 23 + 22

abbrev pub decreases-subscript_with : goal.decreases-subscript_with
decreases-subscript_with l = l.room * 23 + 22

abbrev pub invariant-primary-trailers : goal.invariant-primary-trailers
invariant-primary-trailers l = record {
  reads : (n : ℕ) × (length l.rest < n) × (many reading.begins_trailer (reading.trailer (inner_of l.room)) n l.left l.rest ≡ reading.primary (inner_of l.room) l.tokens);
  shorter : length l.rest < length l.tokens;
}

abbrev pub decreases-primary-trailers : goal.decreases-primary-trailers
decreases-primary-trailers l = length l.rest

abbrev pub invariant-chain-joins : goal.invariant-chain-joins
invariant-chain-joins l = record {
  reads : (n : ℕ) × (length l.rest < n) × (many (reading.begins_join l.level) (reading.joins (reading.operand (inner_of l.room) l.level)) n l.left l.rest ≡ reading.chain l.level (reading.operand (inner_of l.room) l.level) l.tokens);
  shorter : length l.rest < length l.tokens;
}

abbrev pub decreases-chain-joins : goal.decreases-chain-joins
decreases-chain-joins l = length l.rest

abbrev pub invariant-all_items-items : goal.invariant-all_items-items
invariant-all_items-items l = record {
  reads : (n : ℕ) × (length l.rest < n) × (many reading.begins_item (reading.item (reading.form l.room Whole)) n l.items l.rest ≡ reading.all_items (reading.form l.room Whole) l.tokens);
  within : length l.rest ≤ length l.tokens;
}

abbrev pub decreases-all_items-items : goal.decreases-all_items-items
decreases-all_items-items l = length l.rest
