use Rattle.std.proofs.Common.{◌≡◌, false, map}
use Rattle.std.specs.Prelude.{◌==◌}
use Rattle.std.specs.List.{list_any}
use Rattle.module_table.specs.declared.module.Reload.{Reload}
use Rattle.module_table.proofs.table.is_reloader.Given as goal

abbrev pub invariant-loop-reload : goal.invariant-loop-reload
invariant-loop-reload l = list_any (λ (reload : Reload). reload.thread == l.thread) (map (λ reload. reload.now) l.yielded) ≡ false
