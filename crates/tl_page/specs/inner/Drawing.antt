-- How the drawing code keeps a picture. No public clause cites this file.
use Rattle.std.specs.Prelude.{ℕ, ◌+◌, ◌*◌, ◌-◌, ◌&&◌, get_or, None, if◌then◌else◌}
use Rattle.tl_page.specs.declared.owner.Owner.{Owner}
use Rattle.tl_page.specs.declared.owner.Owner.TheVariants.{Outside}
use Rattle.tl_page.specs.declared.owners.Owners.{Owners}
use Rattle.tl_page.specs.declared.picture.Drawing.{Drawing}
use Rattle.tl_page.specs.Corners.{is_inside, owned}
use Rattle.tl_page.specs.Pictures.{Picture}

-- who owns a slot, by the numbers kept row by row
abbrev pub owner_in : Owners → ℕ → ℕ → Owner
owner_in owners column row =
    if is_inside owners.cols column && is_inside owners.rows row
    then owned column row (get_or owners.slots ((row - 1) * owners.cols + (column - 1)) None)
    else Outside

-- the picture that is kept
abbrev pub shown : Drawing → Picture
shown drawing = record {
  style = drawing.style;
  across = drawing.across;
  down = drawing.down;
  owner = owner_in drawing.owners;
  head = drawing.head;
  cells = drawing.cells;
}
