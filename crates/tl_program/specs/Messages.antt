-- The exit status and the message of each report. A message ends with a line feed.
use Rattle.std.specs.Prelude.{ℕ, ◌==◌, if◌then◌else◌, List, [], ◌∷◌, ◌++◌, codes, decimal, Option, None, Some}
use Rattle.tl_read.specs.declared.refusal.Fault.{Fault}
use Rattle.tl_read.specs.declared.refusal.Fault.TheVariants as faults
use Rattle.tl_read.specs.declared.refusal.Limit.{Limit}
use Rattle.tl_read.specs.declared.refusal.Limit.TheVariants as limits
use Rattle.tl_read.specs.declared.refusal.RecordFault.{RecordFault}
use Rattle.tl_read.specs.declared.refusal.RecordFault.TheVariants as records
use Rattle.tl_read.specs.declared.refusal.Refusal.{Refusal}
use Rattle.tl_read.specs.declared.refusal.Refusal.TheVariants as refusals
use Rattle.tl_lay.specs.declared.rejection.Rejection.{Rejection}
use Rattle.tl_lay.specs.declared.rejection.Rejection.TheVariants as rejections
use Rattle.tl_program.specs.declared.report.Report.{Report}
use Rattle.tl_program.specs.declared.report.Report.TheVariants as reports
use Rattle.tl_lay.specs.declared.summary.Summary.{Summary}
use Rattle.tl_program.specs.declared.status.Status.{Status}
use Rattle.tl_program.specs.declared.status.Status.TheVariants as statuses

-- the number of a status
abbrev pub status_number : Status → ℕ
status_number statuses.Lowest = 0
status_number statuses.Usage = 2
status_number statuses.Bounded = 3
status_number statuses.Narrow = 4
status_number statuses.BadInput = 5
status_number statuses.Limit = 6
status_number statuses.ReadFault = 7
status_number statuses.WriteFault = 8
status_number statuses.Memory = 9
status_number statuses.Rejected = 10
status_number statuses.TooTall = 12

-- the status of a refusal
abbrev pub refusal_status : Refusal → Status
refusal_status (refusals.BadInput fault place) = statuses.BadInput
refusal_status (refusals.Overlap table row column) = statuses.BadInput
refusal_status (refusals.Limit limit number) = statuses.Limit
refusal_status (refusals.BadRecord fault place) = statuses.BadInput

-- the status of a report
abbrev pub status_of : Report → Status
status_of (reports.Lowest height width) = statuses.Lowest
status_of (reports.Bounded height lower width) = statuses.Bounded
status_of (reports.Narrow least width) = statuses.Narrow
status_of (reports.Slimmest width height) = statuses.Lowest
status_of (reports.Between width least) = statuses.Bounded
status_of (reports.TooTall height) = statuses.TooTall
status_of (reports.Tidy height width) = statuses.Lowest
status_of (reports.Wider width least) = statuses.Bounded
status_of reports.Unchosen = statuses.Bounded
status_of (reports.Refused refusal) = refusal_status refusal
status_of (reports.Rejected rejection) = statuses.Rejected
status_of (reports.Summary summary) =
    if summary.lower == summary.height then statuses.Lowest else statuses.Bounded
status_of reports.Usage = statuses.Usage
status_of reports.ReadFault = statuses.ReadFault

-- what is wrong with a file that is no document
abbrev pub fault_words : Fault → List ℕ
fault_words faults.NotUtf8 = codes "not utf-8"
fault_words faults.UnendedTag = codes "unended tag"
fault_words faults.UnendedComment = codes "unended comment"
fault_words faults.BadTag = codes "bad tag"
fault_words faults.UnknownElement = codes "unknown element"
fault_words faults.BadReference = codes "bad reference"
fault_words faults.BadCharacter = codes "bad character"
fault_words faults.NoTable = codes "no table"
fault_words faults.StrayText = codes "stray text"
fault_words faults.MisplacedTag = codes "misplaced tag"
fault_words faults.UnclosedTable = codes "unclosed table"

-- what is wrong with a record of a CSV file
abbrev pub record_words : RecordFault → List ℕ
record_words records.Uneven = codes "uneven record"
record_words records.NotUtf8 = codes "record not utf-8"
record_words records.BadCharacter = codes "bad character in record"

-- what is limited
abbrev pub limit_word : Limit → List ℕ
limit_word limits.File = codes "file"
limit_word limits.Depth = codes "depth"
limit_word limits.Tables = codes "tables"
limit_word limits.Cells = codes "cells"
limit_word limits.Columns = codes "columns"
limit_word limits.Rows = codes "rows"
limit_word limits.Reach = codes "reach"

-- the message of a refusal
abbrev pub refusal_text : Refusal → List ℕ
refusal_text (refusals.BadInput fault place) =
    codes "bad input: " ++ (fault_words fault ++ (codes " at " ++ (decimal place ++ 10 ∷ [])))
refusal_text (refusals.Overlap table row column) =
    codes "bad input: overlap in table " ++ (decimal table ++ (codes " at row " ++ (decimal row ++ (codes " column "
    ++ (decimal column ++ 10 ∷ [])))))
refusal_text (refusals.Limit limit number) =
    codes "limit: " ++ (limit_word limit ++ (codes " " ++ (decimal number ++ 10 ∷ [])))
refusal_text (refusals.BadRecord fault place) =
    codes "bad input: " ++ (record_words fault ++ (codes " at " ++ (decimal place ++ 10 ∷ [])))

-- why a certificate is rejected
abbrev pub rejection_text : Rejection → List ℕ
rejection_text (rejections.Syntax place) = codes "syntax at " ++ decimal place
rejection_text (rejections.Range place) = codes "range at " ++ decimal place
rejection_text rejections.TooLong = codes "too long"
rejection_text rejections.Claim = codes "claim"
rejection_text rejections.Chain = codes "chain"
rejection_text (rejections.Missing table) = codes "missing section of table " ++ decimal table
rejection_text (rejections.Extra section) = codes "extra section " ++ decimal section
rejection_text (rejections.Layout section) = codes "layout of section " ++ decimal section
rejection_text (rejections.Trace section) = codes "trace of section " ++ decimal section
rejection_text (rejections.Line section line) =
    codes "line " ++ (decimal line ++ (codes " of section " ++ decimal section))

-- the numbers of a demonstration: cells, ways to give each span a class, lines, lower bound, cuts
abbrev pub summary_text : Summary → List ℕ
summary_text summary =
    codes "cells " ++ (decimal summary.cells ++ (codes " count " ++ (decimal summary.count ++ (codes " height "
    ++ (decimal summary.height ++ (codes " lower " ++ (decimal summary.lower ++ (codes " cuts "
    ++ (decimal summary.cuts ++ 10 ∷ [])))))))))

-- a width, or that there is none
abbrev pub width_word : Option ℕ → List ℕ
width_word None = codes "none"
width_word (Some width) = decimal width

-- the end of a message that speaks of a page, with the number of columns above which its words may break, where that was
-- found
abbrev pub page_end : Option ℕ → List ℕ
page_end None = 10 ∷ []
page_end (Some most) = codes " break " ++ (decimal most ++ 10 ∷ [])

-- the message of a report, with the number of columns above which words may break, where that was found
abbrev pub message_with : Option ℕ → Report → List ℕ
message_with most (reports.Lowest height width) =
    codes "lowest height " ++ (decimal height ++ (codes " width " ++ (decimal width ++ page_end most)))
message_with most (reports.Bounded height lower width) =
    codes "bounded height " ++ (decimal height ++ (codes " lower " ++ (decimal lower ++ (codes " width "
    ++ (decimal width ++ page_end most)))))
message_with most (reports.Narrow least width) =
    codes "narrow least " ++ (decimal least ++ (codes " width " ++ (decimal width ++ 10 ∷ [])))
message_with most (reports.Slimmest width height) =
    codes "slimmest width " ++ (decimal width ++ (codes " height " ++ (decimal height ++ page_end most)))
message_with most (reports.Between width least) =
    codes "bounded width " ++ (width_word width ++ (codes " least " ++ (decimal least ++ page_end most)))
message_with most (reports.TooTall height) = codes "too tall height " ++ (decimal height ++ 10 ∷ [])
message_with most (reports.Tidy height width) =
    codes "tidy height " ++ (decimal height ++ (codes " width " ++ (decimal width ++ page_end most)))
message_with most (reports.Wider width least) =
    codes "untidy width " ++ (decimal width ++ (codes " least " ++ (decimal least ++ page_end most)))
message_with most reports.Unchosen = codes "untidy choice" ++ page_end most
message_with most (reports.Refused refusal) = refusal_text refusal
message_with most (reports.Rejected rejection) = codes "rejected: " ++ (rejection_text rejection ++ 10 ∷ [])
message_with most (reports.Summary summary) = summary_text summary
message_with most reports.Usage = codes "usage\n"
message_with most reports.ReadFault = codes "read fault\n"

-- the message of a report for which nothing is found of words
abbrev pub message_of : Report → List ℕ
message_of report = message_with None report

-- the number where the report speaks of a page
abbrev pub of_page : Option ℕ → Report → Option ℕ
of_page most (reports.Lowest height width) = most
of_page most (reports.Bounded height lower width) = most
of_page most (reports.Narrow least width) = None
of_page most (reports.Slimmest width height) = most
of_page most (reports.Between width least) = most
of_page most (reports.TooTall height) = None
of_page most (reports.Tidy height width) = most
of_page most (reports.Wider width least) = most
of_page most reports.Unchosen = most
of_page most (reports.Refused refusal) = None
of_page most (reports.Rejected rejection) = None
of_page most (reports.Summary summary) = None
of_page most reports.Usage = None
of_page most reports.ReadFault = None
