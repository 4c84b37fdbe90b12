use Rattle.std.proofs.Common.{◌∙◌, ap}
use Rattle.path_finder.specs.Looking.{does}
use Rattle.path_finder.proofs.Reading.{reads_same}
use Rattle.path_finder.proofs.look.Look.advance.Goals as goal

pub returns-in_ok-enter-in-Fresh-clause-goes : goal.returns-in_ok-enter-in-Fresh-clause-goes
returns-in_ok-enter-in-Fresh-clause-goes g c =
    reads_same _ _ _ (ap (λ s. does c.args.self.now s c.args.reply) c.in-Fresh.is ∙ c.in_ok-enter-in-Fresh.ensures.goes)

pub returns-in_ok-enter-in-Passing-clause-goes : goal.returns-in_ok-enter-in-Passing-clause-goes
returns-in_ok-enter-in-Passing-clause-goes g c =
    reads_same _ _ _ (ap (λ s. does c.args.self.now s c.args.reply) c.in-Passing.is ∙ c.in_ok-enter-in-Passing.ensures.goes)

pub returns-in-Asking-clause-goes : goal.returns-in-Asking-clause-goes
returns-in-Asking-clause-goes g c =
    reads_same _ _ _ (ap (λ s. does c.args.self.now s c.args.reply) c.in-Asking.is ∙ c.replied.ensures.goes)

pub returns-in-Keeping-clause-goes : goal.returns-in-Keeping-clause-goes
returns-in-Keeping-clause-goes g c =
    reads_same _ _ _ (ap (λ s. does c.args.self.now s c.args.reply) c.in-Keeping.is ∙ c.kept.ensures.goes)

pub returns-in-Over-clause-goes : goal.returns-in-Over-clause-goes
returns-in-Over-clause-goes g c = reads_same _ _ _ (ap (λ s. does c.args.self.now s c.args.reply) c.in-Over.is)

pub list-requires : goal.list-requires
list-requires g c = λ f told. rw c.in-Listing.is at (c.requires.suits f told)

pub returns-in-Asking-clause-suits : goal.returns-in-Asking-clause-suits
returns-in-Asking-clause-suits g c = λ f told. c.replied.ensures.suits f (rw c.in-Asking.is at (c.requires.suits f told))
