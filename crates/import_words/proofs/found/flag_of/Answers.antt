use Rattle.import_words.proofs.found.flag_of.Goals as goal

pub returns : goal.returns
returns c = (c.get_flag.ensures.none, c.get_flag.ensures.value, c.get_flag.ensures.other)
