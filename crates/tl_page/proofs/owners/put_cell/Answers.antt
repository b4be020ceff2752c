-- One more row of the place: its slots have the number, and no others change.
use Rattle.std.proofs.Common.{◌≡◌, ◌+◌, ◌*◌, ◌≤◌, inl, inr, ◌∙◌, arith}
use Rattle.std.proofs.lemmas.Bool.{cases_lt}
use Rattle.tl_page.proofs.SlotLemmas.{row_before, row_after}
use Rattle.tl_page.proofs.owners.put_cell.Goals as goal

pub loop-row-preserved : goal.loop-row-preserved
loop-row-preserved c =
    let cols = c.args.cols in
    let now = c.loop-row.row in
    let put = c.put_row.ensures in
    let before = c.loop-row.invariant in
    let place = c.args.place in
    let placed : place.right ≤ cols = c.requires.2.1 in
    record {
      covered = λ column row left right top past. elim (cases_lt row now) [
        | inl earlier ↦
            let index = row_before cols row now column (omega arith) earlier in
            put.before (row * cols + column) (omega (arith, index)) ∙ before.covered column row left right top earlier
        | inr later ↦
            let here : row ≡ now = omega arith in
            rw here (put.covered (now * cols + column) (omega arith) (omega arith))
      ];
      other = λ column row inside apart. elim (cases_lt row now) [
        | inl earlier ↦
            let index = row_before cols row now column inside earlier in
            put.before (row * cols + column) (omega (arith, index)) ∙ before.other column row inside (elim apart [
              | inl sides ↦ inl sides
              | inr ends ↦ elim ends [ inl above ↦ inr (inl above) | inr below ↦ absurd (omega arith) ]
            ])
        | inr later ↦ elim (cases_lt now row) [
          | inl after ↦
              let index = row_after cols row now after in
              put.after (row * cols + column) (omega (arith, index)) ∙ before.other column row inside (inr (inr later))
          | inr not_after ↦
              let here : row ≡ now = omega arith in
              elim apart [
                | inl sides ↦ elim sides [
                  | inl left ↦ rw here (put.before (now * cols + column) (omega arith) ∙ before.other column now inside
                      (inr (inr (omega arith))))
                  | inr right ↦ rw here (put.after (now * cols + column) (omega arith) ∙ before.other column now inside
                      (inr (inr (omega arith))))
                ]
                | inr ends ↦ elim ends [ inl above ↦ absurd (omega arith) | inr below ↦ absurd (omega arith) ]
              ]
        ]
      ];
    }
