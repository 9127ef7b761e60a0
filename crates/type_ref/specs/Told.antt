-- What the cases of the code's answer mean, in the paper's words. The names of a path are spans of the query.
use Rattle.std.specs.Prelude.{ℕ, List}
use Rattle.refusal.specs.MeaningAnswer.{Answer, done}
use Rattle.refusal.specs.Told.{told_refusal}
use Rattle.scope.specs.Told.{told_path}
use Rattle.type_ref.specs.MeaningTypes as meaning
use Rattle.type_ref.specs.declared.TypeRef.{TypeRef}
use Rattle.type_ref.specs.declared.TypeRef.TheVariants.{Named, Entity, Refused}

unfoldable pub told_type_ref : List ℕ → TypeRef → Answer meaning.TypeRef
told_type_ref q (Named x) = done (meaning.TypeRef.a_named (record { path = told_path q x.path; is_simple = x.is_simple; is_enumerate = x.is_enumerate }))
told_type_ref q (Entity x) = done (meaning.TypeRef.an_entity_type (record { path = told_path q x.path; is_supertype = x.is_supertype }))
told_type_ref q (Refused why) = told_refusal why
