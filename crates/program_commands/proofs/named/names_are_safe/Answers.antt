use Rattle.program_commands.proofs.named.names_are_safe.Goals as goal

pub returns : goal.returns
returns g c = g.met.N.Named.safe
