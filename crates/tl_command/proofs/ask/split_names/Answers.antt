-- The names are split from the arguments after them.
use Rattle.std.proofs.Common.{string_bytes}
use Rattle.tl_command.proofs.SplitLemmas.{names_split}
use Rattle.tl_command.proofs.ask.split_names.Goals as goal

pub returns-clause-split : goal.returns-clause-split
returns-clause-split c =
    names_split string_bytes c.args.command c.args.words.now c.split_at.result.1.now c.split_at-2.result.0.now
    c.split_at-2.result.1.now c.fewest_names-fewest.result c.most_names.result c.plain_count-count.result
    c.fewest_names-fewest.ensures c.most_names.ensures c.if-words-fewest.false c.split_at.ensures.back
    c.plain_count-count.ensures.within c.plain_count-count.ensures.at_most c.plain_count-count.ensures.plain
    c.plain_count-count.ensures.dashed c.split_at-2.ensures.front c.split_at-2.ensures.back
