-- The claims of specs/Claims.antt.
use mathlib.Core.Path.{◌≡◌, sym, ap, ◌∙◌, subst}
use Prim.Native.Nat.{◌-◌}
use native.Mathlib.Nat.{le_refl}
use native.Mathlib.Omega.{arith}
use lib.ListN.{length}
use lib.Seq.{take-length}
use Rattle.forest.specs.MeaningForest.{encode}
use Rattle.forest.specs.MeaningDecoding.{forest_of, forest_at}
use Rattle.forest.proofs.Laying.{part}
use Rattle.forest.proofs.Proved as forests
use Rattle.schemas.specs.MeaningTree.{Tree, tree_of}
use Rattle.schemas.specs.MeaningSchemas.{schemas_of}
use Rattle.schemas.specs.MeaningBack.{forest_of_schemas}
use Rattle.schemas.specs.MeaningLayout.{Row, SchemaStands}
use Rattle.schemas.specs.Claims.{FaultsAndForests, AcceptsForests, ReadsBack, HasItsForest, EncodesOnce, BareTree, ThereAndBack, BackAndThere, NothingLost, LaidOut, WholeFields, CamRead, FieldByField}
use Rattle.schemas.proofs.Trees.{same_forest, tree_eq}
use Rattle.schemas.proofs.Returning.{whole_back}
use Rattle.schemas.proofs.Again.{whole_again}
use Rattle.schemas.proofs.Laid.{tree_whole}
use Rattle.schemas.proofs.Counted.{place, laid, counted}
use Rattle.schemas.proofs.LaidOut.{sheet_laid}
use Rattle.schemas.proofs.SmallSheets.{cam_is}

-- ---- sheets are the encodings of forests

pub faults_and_forests : FaultsAndForests
faults_and_forests = forests.faults_and_forests

pub accepts_forests : AcceptsForests
accepts_forests = forests.accepts_forests

pub reads_back : ReadsBack
reads_back = forests.reads_back

pub has_its_forest : HasItsForest
has_its_forest = forests.has_its_forest

pub encodes_once : EncodesOnce
encodes_once = forests.encodes_once

-- ---- forests say schemas, and schemas forests

pub bare_tree : BareTree
unfolding tree_of forest_of forest_at
bare_tree s = let k : length s - 0 ≡ length s = omega arith in same_forest s 0 (length s) (le_refl (length s)) ∙ rw (k, take-length s)

pub there_and_back : ThereAndBack
there_and_back rd t F = whole_back rd t F

pub back_and_there : BackAndThere
back_and_there xs = whole_again xs

pub nothing_lost : NothingLost
nothing_lost rd s b i =
    let x = has_its_forest rd s b i in
    ap encode (there_and_back rd (tree_of s) (rw (bare_tree s) x.1) ∙ bare_tree s) ∙ x.0

-- ---- places

pub laid_out : LaidOut
unfolding tree_of
laid_out rd s b i =
    let xs = schemas_of (tree_of s) in
    let f = forest_of_schemas xs in
    let F = (has_its_forest rd s b i).1 in
    let back : f ≡ forest_of s = there_and_back rd (tree_of s) (rw (bare_tree s) F) ∙ bare_tree s in
    let k : length s - 0 ≡ length s = omega arith in
    let h : encode f ≡ part s 0 (length s) = nothing_lost rd s b i ∙ sym (rw k (take-length s)) in
    let t : tree_of s ≡ place 0 f = counted s rd 0 f 0 (length s) (rw back F.right) (le_refl (length s)) (omega arith) h in
    subst (λ (x : Tree). Row (SchemaStands s) (schemas_of x) 0 (length s)) (sym t) (sheet_laid s xs (length s) (laid s f 0 (length s) (le_refl (length s)) (omega arith) h))

pub whole_fields : WholeFields
whole_fields rd s b i = tree_whole s (ap encode (bare_tree s) ∙ (has_its_forest rd s b i).0)

pub cam_read : CamRead
cam_read = cam_is

-- ---- loops

pub field_by_field : FieldByField
field_by_field = tree_eq
