-- What the answers of the code's inner functions are.
use Rattle.std.specs.Prelude.{ℕ, ◌≡◌, List, Bool}
use Rattle.refusal.specs.MeaningAnswer.{Answer, done}
use Rattle.grammar.specs.MeaningReading.{Reading}
use Rattle.schemas.specs.MeaningSchemas.{Schema}
use Rattle.scope.specs.MeaningScope as meaning
use Rattle.scope.specs.Told.{told_path}
use Rattle.scope.specs.Held.{path_in}
use Rattle.scope.specs.declared.Path.{Path}
use Rattle.constraints.specs.MeaningQuestions.{supertype_question}
use Rattle.named_types.specs.MeaningWalk.{Walks}
use Rattle.type_ref.specs.MeaningTypes.{type_at, by_kind}
use Rattle.type_ref.specs.Told.{told_type_ref}
use Rattle.type_ref.specs.declared.TypeRef.{TypeRef}
use Rattle.type_ref.specs.declared.TypeRef.TheVariants.{Named, Entity, Refused}

-- it holds this path, if one
abbrev pub GivenPath : Path → TypeRef → Type 0
GivenPath x (Named t) = t.path ≡ x
GivenPath x (Entity t) = t.path ≡ x
GivenPath x (Refused why) = Unit {0}

-- for a path of the kind Type
pub record NamedAs (rd : Reading) (xs : List Schema) (q : List ℕ) (x : Path) (r : TypeRef) : Type 0 where
  pub walked : Answer Bool
  pub walks : Walks rd xs (told_path q x) walked
  pub is : told_type_ref q r ≡ type_at rd xs (told_path q x) walked
  pub given : GivenPath x r

-- for a path that is asked for, which is a supertype or not as b says
pub record TypedAs (rd : Reading) (xs : List Schema) (q : List ℕ) (b : Bool) (p : meaning.Path) (r : TypeRef) : Type 0 where
  pub walked : Answer Bool
  pub walks : Walks rd xs p walked
  pub is : supertype_question rd xs p ≡ done b → told_type_ref q r ≡ by_kind rd xs p walked p.item.kind
  pub given : GivenPath (path_in p) r
