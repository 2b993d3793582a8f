use Rattle.pulse_map.specs.Map.{map_of, x_groups, n_groups}
use Rattle.pulse_map.specs.Words.{word_of, ten_word}
use Rattle.pulse_map.proofs.Table.{tens-entry}
use Rattle.pulse_map.proofs.tables.ten_word.Goals as goal

-- by one test over the whole table
pub returns : goal.returns
unfolding ten_word word_of map_of x_groups n_groups
returns c = tens-entry c.args.r c.requires
