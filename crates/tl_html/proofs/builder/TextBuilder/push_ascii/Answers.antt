use Rattle.std.proofs.Common.{arith}
use Rattle.tl_html.proofs.Characters.{chars-is_ascii}
use Rattle.tl_html.proofs.builder.TextBuilder.push_ascii.Goals as goal

pub returns : goal.returns
returns c = search (arith, chars-is_ascii c.args.text.now c.requires)
