use Rattle.std.proofs.Common.{sym, subst}
use Rattle.path_finder.specs.declared.words.LookIn.{LookIn}
use Rattle.path_finder.specs.declared.words.LookWant.TheVariants as wanted
use Rattle.path_finder.specs.Steps.{Search, Reads, Lists, keeps}
use Rattle.path_finder.specs.Looking.{behind, wants}
use Rattle.path_finder.proofs.Reading.{lists_named}
use Rattle.path_finder.proofs.look.Look.list.Goals as goal

pub returns-clause-goes : goal.returns-clause-goes
returns-clause-goes g c =
    subst (λ (m : LookIn → Search). Reads (g.T.Tree.files c.args.tree.now) (Lists c.args.dir (keeps c.args.self.now.sought.name c.args.dir c.args.time c.args.self.now.portions (behind c.args.self.now))) (wants (wanted.DirSet c.in_ok-kept.kept (record { time = c.args.time; names = c.in_ok-names.names })) m)) (sym c.wait_at.ensures.goes)
    (lists_named _ c.args.self.now.sought.name c.args.dir c.in_ok-kept.kept c.args.time c.args.self.now.portions (behind c.args.self.now) c.in_ok-names.names c.args.self.now.sought.part c.args.self.now.sought.file c.has_name-bare.result c.has_name-file.result
    c.in_ok-names.ensures.told c.in_ok-kept.ensures c.args.self.now.sought.tail c.args.self.now.sought.suffix c.has_name-bare.ensures c.has_name-file.ensures)
