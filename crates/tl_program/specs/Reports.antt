-- What is reported of an answer, and of a verdict: its numbers.
use Rattle.tl_lay.specs.declared.answer.Answer.{Answer}
use Rattle.tl_lay.specs.declared.answer.Answer.TheVariants as answers
use Rattle.tl_lay.specs.declared.verdict.Verdict.{Verdict}
use Rattle.tl_lay.specs.declared.verdict.Verdict.TheVariants as verdicts
use Rattle.tl_program.specs.declared.report.Report.{Report}
use Rattle.tl_program.specs.declared.report.Report.TheVariants as reports

-- of an answer
abbrev pub report_of : Answer → Report
report_of (answers.Lowest height width page text) = reports.Lowest height width
report_of (answers.Bounded height lower width page text) = reports.Bounded height lower width
report_of (answers.Narrow least width text) = reports.Narrow least width
report_of (answers.Slimmest width height evidence) = reports.Slimmest width height
report_of (answers.Between width least evidence) = reports.Between width least
report_of (answers.TooTall height evidence) = reports.TooTall height
report_of (answers.Tidy height width evidence) = reports.Tidy height width
report_of (answers.Wider width least evidence) = reports.Wider width least
report_of (answers.Unchosen evidence) = reports.Unchosen
report_of (answers.Refused refusal) = reports.Refused refusal

-- of a verdict
abbrev pub verdict_report : Verdict → Report
verdict_report (verdicts.Lowest height width) = reports.Lowest height width
verdict_report (verdicts.Bounded height lower width) = reports.Bounded height lower width
verdict_report (verdicts.Narrow least width) = reports.Narrow least width
verdict_report (verdicts.Rejected rejection) = reports.Rejected rejection
verdict_report (verdicts.Refused refusal) = reports.Refused refusal
