use Rattle.std.proofs.Common.{refl, arith}
use Rattle.py_lexer.specs.Scanning.{state_of}
use Rattle.py_lexer.proofs.Steps.{error_stops, scan_begins}
use Rattle.py_lexer.proofs.scan.scan.Goals as goal

pub returns-in-Err : goal.returns-in-Err
returns-in-Err c =
    let (n, room, reads) = c.pieces.invariant.reads in
    error_stops n (state_of c.pieces.scanner) c.pieces.rest.now c.in-Err.error _ room c.in-len1-up.len_at_least c.in-Err.ensures.value reads

pub pieces-init : goal.pieces-init
pieces-init c =
    let shorter = c.start-rest.ensures.shorter in
    record {
      reads = scan_begins _ (state_of c.in_ok-scanner.scanner) _ c.args.chars.now _ refl c.in_ok-scanner.ensures.value c.start-rest.ensures.value;
      opened = rw c.start-rest.ensures.kept (c.in_ok-scanner.ensures.opened);
      lines = omega (arith, shorter, c.start-rest.ensures.same, c.in_ok-scanner.ensures.line);
      depths = omega (arith, shorter, c.start-rest.ensures.fresh);
    }
