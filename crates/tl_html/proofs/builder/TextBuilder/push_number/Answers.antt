use Rattle.std.proofs.Common.{decimal, ap, ◌∙◌, arith}
use Rattle.std.specs.Str.{chars}
use Rattle.std.proofs.lemmas.Str.{chars-IsAscii}
use Rattle.std.proofs.lemmas.Fmt.{IsAscii-decimal}
use Rattle.tl_html.proofs.builder.TextBuilder.push_number.Goals as goal

pub returns : goal.returns
returns c =
    let same = c.as_str.ensures.value ∙ c.in_ok-digits.ensures.ok in
    search (arith, same, ap chars same ∙ chars-IsAscii (decimal c.args.number) (IsAscii-decimal c.args.number (omega arith)))
