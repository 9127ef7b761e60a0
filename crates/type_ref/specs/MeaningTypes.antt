-- `from_path`: what a path is, an entity or a type.
use Rattle.std.specs.Prelude.{List, Bool, cond}
use Rattle.refusal.specs.MeaningAnswer.{Answer, refused, mapped, ◌>>=◌}
use Rattle.grammar.specs.MeaningReading.{Reading}
use Rattle.schemas.specs.MeaningSchemas.{Schema}
use Rattle.scope.specs.MeaningScope.{ScopeType, Path, same_kind}
use Rattle.scope.specs.MeaningScope.ScopeType.{entity, type}
use Rattle.declarations.specs.MeaningNamespace.{declaration_for}
use Rattle.gathering.specs.MeaningCombined.{supertypes}
use Rattle.constraints.specs.MeaningQuestions.{supertype_question}
use Rattle.named_types.specs.MeaningWalk.{is_enumeration}

-- "the Named answer carries a record of path and both flags"
pub record NamedType : Type 0 where
  pub path : Path
  pub is_simple : Bool
  pub is_enumerate : Bool

pub record EntityType : Type 0 where
  pub path : Path
  pub is_supertype : Bool

pub data TypeRef : Type 0 where
  a_named : NamedType → TypeRef
  an_entity_type : EntityType → TypeRef

-- ---- the answer, where w is what the walk answers

module _ (rd : Reading) (xs : List Schema) where
  -- "an Entity path is answered, with its `is_supertype`, even if undeclared"
  unfoldable pub entity_at : Path → Answer TypeRef
  entity_at p = mapped (λ b. an_entity_type (record { path = p; is_supertype = b })) (supertype_question rd xs p)

  -- "For a Type path, the walk through named types"
  unfoldable pub type_at : Path → Answer Bool → Answer TypeRef
  type_at p w = mapped (λ b. a_named (record { path = p; is_simple = b; is_enumerate = is_enumeration rd xs (declaration_for rd xs p) })) w

  -- "14: `from_path` of a kind other than Entity, Type"
  unfoldable pub by_kind : Path → Answer Bool → ScopeType → Answer TypeRef
  by_kind p w k = cond (same_kind k entity) (entity_at p) (cond (same_kind k type) (type_at p w) (refused 14 0))

  -- "6 and 8 as gathering meets them; .. 14; .. 7, 6 or 13 as the walk meets them"
  unfoldable pub from_path : Answer Bool → Path → Answer TypeRef
  from_path w p = supertypes rd xs >>= λ g. by_kind p w p.item.kind
