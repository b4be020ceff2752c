-- The definitions on command lines written by hand: above each is what the user writes, and what the command gets or whether
-- progress is asked for.
use Rattle.std.proofs.Common.{◌≡◌, true, false, [], ◌∷◌, refl, codes}
use Rattle.tl_arguments.specs.Arranged.{arranged}
use Rattle.tl_arguments.specs.Progress.{asks_for_progress}

-- lay 80 t.html p --style frame
-- lay 80 t.html p --style frame
as_it_is : arranged (codes "lay" ∷ codes "80" ∷ codes "t.html" ∷ codes "p" ∷ codes "--style" ∷ codes "frame" ∷ [])
    ≡ codes "lay" ∷ codes "80" ∷ codes "t.html" ∷ codes "p" ∷ codes "--style" ∷ codes "frame" ∷ []
as_it_is = refl

-- --csv lay --style frame 80 t.csv --head p
-- lay 80 t.csv p --csv --style frame --head
options_between : arranged (codes "--csv" ∷ codes "lay" ∷ codes "--style" ∷ codes "frame" ∷ codes "80" ∷ codes "t.csv"
    ∷ codes "--head" ∷ codes "p" ∷ [])
    ≡ codes "lay" ∷ codes "80" ∷ codes "t.csv" ∷ codes "p" ∷ codes "--csv" ∷ codes "--style" ∷ codes "frame"
    ∷ codes "--head" ∷ []
options_between = refl

-- lay 80 --html -- --csv -- - --style
-- lay 80 ./--csv ./-- /dev/stdout ./--style --html
names_after_the_end : arranged (codes "lay" ∷ codes "80" ∷ codes "--html" ∷ codes "--" ∷ codes "--csv" ∷ codes "--"
    ∷ codes "-" ∷ codes "--style" ∷ [])
    ≡ codes "lay" ∷ codes "80" ∷ codes "./--csv" ∷ codes "./--" ∷ codes "/dev/stdout" ∷ codes "./--style"
    ∷ codes "--html" ∷ []
names_after_the_end = refl

-- tidy 80 - - -x ./-
-- tidy 80 /dev/stdin /dev/stdout -x ./-
streams : arranged (codes "tidy" ∷ codes "80" ∷ codes "-" ∷ codes "-" ∷ codes "-x" ∷ codes "./-" ∷ [])
    ≡ codes "tidy" ∷ codes "80" ∷ codes "/dev/stdin" ∷ codes "/dev/stdout" ∷ codes "-x" ∷ codes "./-" ∷ []
streams = refl

-- check 80 t.html -
-- check 80 t.html /dev/stdin
certificate_read : arranged (codes "check" ∷ codes "80" ∷ codes "t.html" ∷ codes "-" ∷ [])
    ≡ codes "check" ∷ codes "80" ∷ codes "t.html" ∷ codes "/dev/stdin" ∷ []
certificate_read = refl

-- lay - t.html --budget -- p
-- lay - t.html p --budget --
no_end_as_value : arranged (codes "lay" ∷ codes "-" ∷ codes "t.html" ∷ codes "--budget" ∷ codes "--" ∷ codes "p" ∷ [])
    ≡ codes "lay" ∷ codes "-" ∷ codes "t.html" ∷ codes "p" ∷ codes "--budget" ∷ codes "--" ∷ []
no_end_as_value = refl

-- lay 80 t.html --csv, where a name is missing
-- --csv lay 80 t.html
too_few : arranged (codes "lay" ∷ codes "80" ∷ codes "t.html" ∷ codes "--csv" ∷ [])
    ≡ codes "--csv" ∷ codes "lay" ∷ codes "80" ∷ codes "t.html" ∷ []
too_few = refl

-- demo 7
-- demo 7
no_names : arranged (codes "demo" ∷ codes "7" ∷ []) ≡ codes "demo" ∷ codes "7" ∷ []
no_names = refl

-- nothing
nothing : arranged [] ≡ []
nothing = refl

-- lay --progress 80 t.html p --csv --progress
-- lay 80 t.html p --csv
progress_left_out : arranged (codes "lay" ∷ codes "--progress" ∷ codes "80" ∷ codes "t.html" ∷ codes "p" ∷ codes "--csv"
    ∷ codes "--progress" ∷ [])
    ≡ codes "lay" ∷ codes "80" ∷ codes "t.html" ∷ codes "p" ∷ codes "--csv" ∷ []
progress_left_out = refl

-- lay 80 -- t.html --progress
-- lay 80 t.html ./--progress
progress_as_name : arranged (codes "lay" ∷ codes "80" ∷ codes "--" ∷ codes "t.html" ∷ codes "--progress" ∷ [])
    ≡ codes "lay" ∷ codes "80" ∷ codes "t.html" ∷ codes "./--progress" ∷ []
progress_as_name = refl

-- batch --progress
-- progress is asked for
asked_at_the_end : asks_for_progress (codes "batch" ∷ codes "--progress" ∷ []) ≡ true
asked_at_the_end = refl

-- lay 80 --style frame --progress t.html p
-- progress is asked for
asked_between : asks_for_progress (codes "lay" ∷ codes "80" ∷ codes "--style" ∷ codes "frame" ∷ codes "--progress"
    ∷ codes "t.html" ∷ codes "p" ∷ []) ≡ true
asked_between = refl

-- lay 80 t.html p --style --progress
-- progress is not asked for: it is the style
no_value_asks : asks_for_progress (codes "lay" ∷ codes "80" ∷ codes "t.html" ∷ codes "p" ∷ codes "--style"
    ∷ codes "--progress" ∷ []) ≡ false
no_value_asks = refl

-- lay 80 -- t.html --progress
-- progress is not asked for: it is the page
no_name_asks : asks_for_progress (codes "lay" ∷ codes "80" ∷ codes "--" ∷ codes "t.html" ∷ codes "--progress" ∷ []) ≡ false
no_name_asks = refl
