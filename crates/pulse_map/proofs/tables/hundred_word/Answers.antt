use Rattle.pulse_map.specs.Map.{map_of, x_groups, n_groups}
use Rattle.pulse_map.specs.Words.{word_of, part, hundred_word}
use Rattle.pulse_map.proofs.Table.{hundreds-entry}
use Rattle.pulse_map.proofs.tables.hundred_word.Goals as goal

-- by one test over the whole table
pub returns : goal.returns
unfolding hundred_word word_of part map_of x_groups n_groups
returns c = hundreds-entry c.args.r c.args.h c.requires.r_bound c.requires.h_bound
