-- The definitions on answers written by hand.
use Rattle.std.proofs.Common.{◌≡◌, [], ◌∷◌, None, Some, arith, codes, false, refl, true}
use Rattle.std.proofs.lemmas.Fmt.{decimal_digit}
use Rattle.tl_program.specs.declared.report.Report.TheVariants as reports
use Rattle.tl_batch.specs.Exchanged.{all_bytes, asks_for_batch}
use Rattle.tl_batch.specs.Replies.{memory_reply, reply_of, usage_reply}

-- the lowest page of `a` beside `b`, of 5 bytes, without a certificate:
--
--     0 5 0 0 0
--     lowest height 1 width 4
--     a  b
lowest_page : reply_of None (reports.Lowest 1 4) (None ∷ Some (codes "a  b\n") ∷ None ∷ [])
    ≡ codes "0 5 0 0 0\nlowest height 1 width 4\na  b\n"
lowest_page = rw (
  decimal_digit 0 (omega arith),
  decimal_digit 5 (omega arith),
  decimal_digit 1 (omega arith),
  decimal_digit 4 (omega arith),
)

-- a page that is too narrow has none, and here a certificate of 4 bytes
--
--     4 0 4 0 0
--     narrow least 4 width 3
--     cert
too_narrow : reply_of None (reports.Narrow 4 3) (None ∷ None ∷ Some (codes "cert") ∷ [])
    ≡ codes "4 0 4 0 0\nnarrow least 4 width 3\ncert"
too_narrow = rw (decimal_digit 0 (omega arith), decimal_digit 4 (omega arith), decimal_digit 3 (omega arith))

-- answers have nothing between them
answers_in_order : all_bytes (memory_reply ∷ usage_reply ∷ []) ≡ codes "9 0 0 0 0\n\n2 0 0 0 0\nusage\n"
answers_in_order = refl

-- `batch` alone asks for a run, and nothing else does
alone : asks_for_batch (codes "batch" ∷ []) ≡ true
alone = refl

with_more : asks_for_batch (codes "batch" ∷ codes "batch" ∷ []) ≡ false
with_more = refl

without : asks_for_batch [] ≡ false
without = refl
