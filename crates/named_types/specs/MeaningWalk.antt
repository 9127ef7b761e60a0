-- The walk through named types, and the enumeration flag.
use Rattle.std.specs.Prelude.{ℕ, suc, ◌<◌, ◌≡◌, List, Bool, true, false}
use Rattle.std.proofs.Math.Option.{Option, none, some}
use Rattle.refusal.specs.MeaningAnswer.{Answer, done, refused, mapped, ◌>>=◌}
use Rattle.grammar.specs.MeaningReading.{Reading}
use Rattle.schemas.specs.MeaningSchemas.{Body, Schema}
use Rattle.schemas.specs.MeaningSchemas.Body.{simple, enumeration, named, other}
use Rattle.scope.specs.MeaningScope.{Scope, Path, same_path}
use Rattle.declarations.specs.MeaningNamespace.{Declaration, Named, answered, declaration_for}
use Rattle.declarations.specs.MeaningNamespace.Named.{a_type, an_entity}
use Rattle.records.specs.MeaningResolving.{path_for}

-- one step: it ends, simple or not; or it goes on to another path
pub data Step : Type 0 where
  ends : (simply : Bool) → Step
  goes : Path → Step

module _ (rd : Reading) (xs : List Schema) where
  -- "the walk through named types ends simple at fields 21 and 22, not simple at 24"
  unfoldable pub body_step : Scope → Body → Answer Step
  body_step sc (simple k) = done (ends true)
  body_step sc enumeration = done (ends true)
  body_step sc (named x) = mapped goes (path_for rd xs sc x)
  body_step sc other = done (ends false)

  -- ".. or an entity"
  unfoldable pub named_step : Scope → Named → Answer Step
  named_step sc (a_type t) = body_step sc t.body
  named_step sc (an_entity e) = done (ends false)

  -- what stands at a path: "7, 6 or 13 as the walk meets them"
  unfoldable pub step_from : Path → Answer Step
  step_from p = answered 7 0 (declaration_for rd xs p) >>= λ d. named_step p.scope d.named

  -- after n steps from p the walk is at q
  pub data Reaches (p : Path) : ℕ → Path → Type 0 where
    start : Reaches p 0 p
    onward : {n : ℕ} {q r : Path} → Reaches p n q → step_from q ≡ done (goes r) → Reaches p (suc n) r

  -- what the walk from p answers: whether it ends simple, or its refusal
  pub data Walks (p : Path) : Answer Bool → Type 0 where
    ended : {n : ℕ} {q : Path} {b : Bool} → Reaches p n q → step_from q ≡ done (ends b) → Walks p (done b)
    failed : {n k place : ℕ} {q : Path} → Reaches p n q → step_from q ≡ refused k place → Walks p (refused k place)
    -- "13: the alias walk meets a path again"
    again : {n m : ℕ} {q r : Path} → Reaches p n q → Reaches p m r → n < m → same_path rd q r ≡ true → Walks p (refused 13 0)

  -- "The enumeration flag looks at the first type only."
  unfoldable pub is_enumeration : Option Declaration → Bool
  is_enumeration none = false
  is_enumeration (some d) = enumerates d.named
    where
      of_body : Body → Bool
      of_body (simple k) = false
      of_body enumeration = true
      of_body (named x) = false
      of_body other = false

      enumerates : Named → Bool
      enumerates (a_type t) = of_body t.body
      enumerates (an_entity e) = false
