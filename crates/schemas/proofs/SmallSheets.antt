-- Document 01's example, read by computation.
use mathlib.Core.Path.{◌≡◌, refl}
use Rattle.grammar.specs.MeaningGrammar.{one_of, kind_of}
use Rattle.schemas.specs.MeaningTree.{grow, tree_by, tree_at, tree_of}
use Rattle.schemas.specs.MeaningSchemas.{name_at, name_of, names_of, terms_of, first_of, expr_of, mark_of, supertypes_of, type_of, entity_of, constraint_of, each, schema_of, schemas_of}
use Rattle.schemas.specs.MeaningExamples.{word_cam, word_frame, word_exposed, word_planned, header, cam_constraint, cam, word_at, cam_schemas}

pub cam_is : schemas_of (tree_of cam) ≡ cam_schemas
unfolding cam cam_constraint word_cam word_frame word_exposed word_planned header tree_of tree_at tree_by grow kind_of one_of schemas_of schema_of type_of entity_of constraint_of each name_of names_of name_at terms_of first_of expr_of mark_of supertypes_of cam_schemas word_at
cam_is = refl
