-- The claims of specs/Claims.antt.
use native.Mathlib.Omega.{arith}
use lib.ListN.{length-append}
use Rattle.complex_entity.specs.MeaningRows.{row_of}
use Rattle.complex_entity.proofs.Rows.{row_long, part_at_row}
use Rattle.schemas.specs.MeaningTree.{tree_of}
use Rattle.schemas.proofs.Proved.{bare_tree, has_its_forest}
use Rattle.declarations.specs.MeaningNamespace.{schemas_in}
use Rattle.listing.specs.Claims.{AcceptedIsShort, PartsStand}
use Rattle.listing.proofs.Shortness.{tree_few}

pub accepted_is_short : AcceptedIsShort
unfolding schemas_in
accepted_is_short rd s b i = tree_few rd (tree_of s) (rw (bare_tree s) (has_its_forest rd s b i).1.right)

pub parts_stand : PartsStand
unfolding row_of
parts_stand p rest few = (record { long = omega (arith, length-append (row_of p) rest, row_long p few); few = few }, part_at_row p few rest)
