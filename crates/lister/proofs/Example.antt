-- Document 01's example, listed by computation.
use mathlib.Core.Path.{◌≡◌, refl, sym, ap, ◌∙◌}
use mathlib.Core.List.{flatten}
use mathlib.Core.Bool.{Bool, true}
use Rattle.refusal.specs.MeaningAnswer.{Answer, done}
use Rattle.complex_entity.specs.MeaningLists.{held, prefixes, and_of, andor_of, oneof_of}
use Rattle.complex_entity.specs.MeaningParts.{join_of}
use Rattle.grammar.specs.MeaningReading.{rust}
use Rattle.sheet.specs.MeaningSheet.{Is}
use Rattle.sheet.proofs.SmallSheets.{verdicts}
use Rattle.schemas.specs.MeaningExamples.{word_cam, word_frame, word_exposed, word_planned, header, cam_constraint, cam, word_at, cam_schemas}
use Rattle.schemas.proofs.SmallSheets.{cam_is}
use Rattle.scope.specs.MeaningNames.{same_bytes, same_name}
use Rattle.scope.specs.MeaningScope.{Path, steps_equal, same_scope, same_path}
use Rattle.expression.specs.MeaningExpression.{eval, is_in, andor_mut}
use Rattle.declarations.specs.MeaningNamespace.{schemas_in, scope_in, item_of, path_in, declared_by, numbered, entries_from, all_of, declarations, first, or, last, answered, declaration_for, items_of, seen, upwards, climb, resolved, outermost, schema_name, item_name}
use Rattle.namespace.specs.MeaningOrder.{in_order, Answers}
use Rattle.namespace.proofs.Clearing.{answers_once}
use Rattle.merging.specs.MeaningMerging.{references, find, merged, vacant, entered, into, grouped_onto, grouped, left_over, joined, subtyped, with_groups, with_subtypes}
use Rattle.merging.specs.MeaningNumbering.{map_expr}
use Rattle.records.specs.MeaningResolving.{rule_of, resolved_expr, path_for, own_path, number_in, number_for}
use Rattle.gathering.specs.MeaningGathering.{through, supers_of, ruled, step_b, constrained, step_d, subtype, step_c, gather}
use Rattle.gathering.specs.MeaningCombined.{supertypes}
use Rattle.text.specs.MeaningText as text
use Rattle.noting.specs.MeaningNames.{names_at, names_of}
use Rattle.listing.specs.MeaningLines.{number_text, line_of_part, part_lines, parts_of, list_lines}
use Rattle.listing.specs.MeaningListing.{supertype_lines, type_lines_of, type_lines, lines_of, listed, printed}
use Rattle.listing.specs.MeaningWhole.{ListsBy, Lists}
use Rattle.lister.specs.MeaningExample.{cam_lines}
use Rattle.lister.specs.Claims.{CamListed}

computed : (walked : Path → Answer Bool) → listed rust cam_schemas walked ≡ done cam_lines
unfolding held prefixes and_of andor_of oneof_of join_of word_cam word_frame word_exposed word_planned word_at cam_schemas same_bytes same_name steps_equal same_scope same_path eval is_in andor_mut scope_in item_of path_in declared_by numbered entries_from all_of declarations first or last answered declaration_for items_of seen upwards climb resolved outermost schema_name item_name references find merged vacant entered into grouped_onto grouped left_over joined subtyped with_groups with_subtypes map_expr through rule_of supers_of resolved_expr ruled step_b constrained step_d subtype step_c gather path_for own_path supertypes number_in number_for text.digits_by text.decimal text.path_text text.or_refused text.supertype_line text.joined text.part_line names_at names_of number_text line_of_part part_lines parts_of list_lines supertype_lines type_lines_of type_lines lines_of listed flatten
computed walked = refl

accepted : Is rust cam (done tt)
unfolding cam cam_constraint word_cam word_frame word_exposed word_planned header
accepted = verdicts.1.1.1.1.1.1.1.1.1.1.1.1.1.1.1.1.1.1.1.1.0

pub cam_listed : CamListed
unfolding Lists ListsBy Answers in_order schemas_in printed cam cam_constraint word_cam word_frame word_exposed word_planned header
cam_listed ls L =
    let a = L.2 in
    let q = answers_once rust cam true (done (tt {0})) (λ u. listed rust (schemas_in cam) L.0) a.0 (done cam_lines) a.1 (done tt, accepted, sym (rw cam_is (computed L.0))) in
    a.2 ∙ ap printed q
