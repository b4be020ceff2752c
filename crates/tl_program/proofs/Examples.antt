-- The definitions on small cases.
use Rattle.std.proofs.Common.{◌≡◌, ℕ, List, [], ◌∷◌, ◌++◌, codes, decimal, Some, None, false, true, refl}
use Rattle.tl_base.specs.declared.breaking.Breaking.TheVariants.{Words, Wider}
use Rattle.tl_sides.specs.declared.align.Align.TheVariants as aligns
use Rattle.tl_command.specs.declared.options.BreakRule.TheVariants as rules
use Rattle.tl_read.specs.declared.refusal.RecordFault.TheVariants as records
use Rattle.tl_read.specs.declared.source.Source.TheVariants.{Csv, Html}
use Rattle.tl_read.specs.declared.refusal.Fault.TheVariants as faults
use Rattle.tl_read.specs.declared.refusal.Refusal.TheVariants as refusals
use Rattle.tl_lay.specs.declared.rejection.Rejection.TheVariants as rejections
use Rattle.tl_program.specs.declared.report.Report.TheVariants as reports
use Rattle.tl_lay.specs.declared.answer.Answer.{Answer}
use Rattle.tl_lay.specs.declared.answer.Answer.TheVariants as answers
use Rattle.tl_lay.specs.declared.format.Format.TheVariants as formats
use Rattle.tl_command.specs.declared.command.Command.{Command}
use Rattle.tl_command.specs.declared.command.Command.TheVariants.{Lay, Narrow, Check}
use Rattle.tl_command.specs.declared.options.Options.{Options}
use Rattle.tl_command.specs.Ask.{Asked}
use Rattle.tl_program.specs.Asks.{input_name, page_name, certificate_name, judged_name, fitted_in}
use Rattle.tl_program.specs.Change.{Stored}
use Rattle.tl_program.specs.Messages.{status_number, status_of, message_of, message_with}
use Rattle.tl_program.specs.Settled.{widest_page, with_rule}
use Rattle.tl_program.specs.Deliveries.{delivery_of}
use Rattle.tl_program.specs.Reports.{report_of}
use Rattle.tl_program.specs.Tasks.{format_by, task_of}

-- statuses
bounded : status_number (status_of (reports.Bounded 3 2 7)) ≡ 3
bounded = refl

refused : status_number (status_of (reports.Refused (refusals.BadInput faults.NoTable 0))) ≡ 5
refused = refl

-- the message where the arguments are invalid
usage : message_of reports.Usage ≡ codes "usage" ++ 10 ∷ []
usage = refl

-- and where a certificate has too many bytes, which no test has
too_long : message_of (reports.Rejected rejections.TooLong) ≡ codes "rejected: too long" ++ 10 ∷ []
too_long = refl

-- no option
abbrev no_options : Options
no_options = record {
  style = None;
  breaking = None;
  budget = None;
  search = None;
  workers = None;
  csv = false;
  head = false;
  least = None;
  align = None;
  trim = false;
  html = false;
}

-- a command on a page of 7 columns, with these names and no options
abbrev with_names : Command → List (List ℕ) → Asked
with_names command names = record {
  command = command;
  number = 7;
  names = names;
  options = no_options;
}

-- `lay 7 t p c` reads `t`, and stores the page under `p` and the certificate under `c`
abbrev lay_three : Asked
lay_three = with_names Lay (codes "t" ∷ codes "p" ∷ codes "c" ∷ [])

read_first : input_name lay_three ≡ codes "t"
read_first = refl

page_second : page_name lay_three ≡ codes "p"
page_second = refl

certificate_third : certificate_name lay_three ≡ Some (codes "c")
certificate_third = refl

certified : (task_of lay_three).certified ≡ true
certified = refl

-- `check 7 t c` reads the certificate from `c`, and asks for none
judged_second : judged_name (with_names Check (codes "t" ∷ codes "c" ∷ [])) ≡ codes "c"
judged_second = refl

not_certified : (task_of (with_names Check (codes "t" ∷ codes "c" ∷ []))).certified ≡ false
not_certified = refl

-- of an answer with both, the page is stored before the certificate
stored_in_order : (delivery_of lay_three (answers.Lowest 1 1 (1 ∷ []) (Some (2 ∷ [])))).stores
    ≡ (let page : Stored = record { name = codes "p"; bytes = 1 ∷ [] } in page)
    ∷ (let text : Stored = record { name = codes "c"; bytes = 2 ∷ [] } in text) ∷ []
stored_in_order = refl

-- a text without a name is not stored
unnamed : (delivery_of (with_names Lay (codes "t" ∷ codes "p" ∷ [])) (answers.Narrow 9 7 (Some (2 ∷ [])))).stores ≡ []
unnamed = refl

-- of the narrowest page nothing is stored as LESS where it is one column wide
abbrev one_column : Answer
one_column = answers.Slimmest 1 3 (record { page = Some (1 ∷ []); kept = Some (2 ∷ []); less = None; spent = None })

no_less : (delivery_of (with_names Narrow (codes "t" ∷ codes "p" ∷ codes "c" ∷ codes "l" ∷ [])) one_column).stores
    ≡ (let page : Stored = record { name = codes "p"; bytes = 1 ∷ [] } in page)
    ∷ (let text : Stored = record { name = codes "c"; bytes = 2 ∷ [] } in text) ∷ []
no_less = refl

-- and its two numbers are printed
slimmest_printed : message_of (report_of one_column) ≡ codes "slimmest width " ++ (decimal 1 ++ (codes " height " ++ (decimal 3 ++ 10 ∷ [])))
slimmest_printed = refl

-- `lay 7 t p c --csv --head --least 5` reads a CSV file, with the least width 5 of the first column
abbrev lay_csv : Asked
lay_csv = record {
  command = Lay;
  number = 7;
  names = codes "t" ∷ codes "p" ∷ codes "c" ∷ [];
  options = record {
    style = None;
    breaking = None;
    budget = None;
    search = None;
    workers = None;
    csv = true;
    head = true;
    least = Some (5 ∷ []);
    align = None;
    trim = false;
    html = false;
  };
}

csv_source : (task_of lay_csv).source ≡ Csv true (5 ∷ []) Words
csv_source = refl

html_source : (task_of lay_three).source ≡ Html Words
html_source = refl

-- a page is text with the spaces at the ends of its lines, unless `--trim` or `--html` is given; with both it is HTML
as_laid : (task_of lay_three).format ≡ formats.Text (aligns.Columns [])
as_laid = refl

without_spaces : format_by aligns.Auto true false ≡ formats.Trimmed aligns.Auto
without_spaces = refl

html_alone : format_by aligns.Auto true true ≡ format_by (aligns.Columns []) false true
html_alone = refl

-- the message of a record with another number of fields
uneven : message_of (reports.Refused (refusals.BadRecord records.Uneven 1)) ≡
    codes "bad input: uneven record at " ++ (decimal 1 ++ 10 ∷ [])
uneven = refl

-- ---- which words may break

-- the message of a page says above which number of columns, where that was found, and no other message does
broken_page : message_with (Some 9) (reports.Lowest 2 6) ≡
    codes "lowest height " ++ (decimal 2 ++ (codes " width " ++ (decimal 6 ++ (codes " break " ++ (decimal 9 ++ 10 ∷ [])))))
broken_page = refl

no_break_told : message_with (Some 0) (reports.Narrow 2 1) ≡
    codes "narrow least " ++ (decimal 2 ++ (codes " width " ++ (decimal 1 ++ 10 ∷ [])))
no_break_told = refl

-- nothing is found for an ask without `fit`, and of one with it the number that is found is told
found_none : fitted_in lay_three ≡ None
found_none = refl

found_nine : fitted_in (with_rule (rules.Fitted 9) lay_three) ≡ Some 9
found_nine = refl

-- the words are broken above that number
nine_source : (task_of (with_rule (rules.Fitted 9) lay_three)).source ≡ Html (Wider 9)
nine_source = refl

-- `narrow` is asked for pages of any width
any_width : widest_page (with_names Narrow (codes "t" ∷ codes "p" ∷ [])) ≡ 500
any_width = refl
