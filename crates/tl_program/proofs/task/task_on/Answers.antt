-- Each part of the task is what was given, or what stands for it where nothing was.
use Rattle.std.proofs.Common.{rules, ◌≡◌, is_some}
use Rattle.tl_base.specs.declared.search.Search.TheVariants as searches
use Rattle.tl_command.specs.Ask.{asked_by}
use Rattle.tl_program.specs.Asks.{certificate_name}
use Rattle.tl_program.specs.Tasks.{format_of, given_or, source_of, style_of}
use Rattle.tl_program.proofs.task.task_on.Goals as goal

pub returns : goal.returns
returns c =
    let asked = asked_by c.args.ask.now in
    let style : c.unwrap_or.result ≡ style_of asked = search rules in
    let source : c.source_of.result ≡ source_of asked = search rules in
    let kind : c.unwrap_or-2.result ≡ given_or searches.Best asked.options.search = search rules in
    let workers : c.unwrap_or-3.result ≡ given_or 1 asked.options.workers = search rules in
    let format : c.format_of.result ≡ format_of asked = search rules in
    let certified : c.is_some.result ≡ is_some (certificate_name asked) = search rules in
    λ i. record {
      width = c.args.width;
      style = style i;
      source = source i;
      budget = c.args.ask.now.options.budget;
      search = kind i;
      workers = workers i;
      format = format i;
      certified = certified i;
    }
