-- How the code reads an expression from the fields of a sheet, and what it leaves in the stream.
use Rattle.std.specs.Prelude.{ℕ, ◌+◌, ◌-◌, ◌*◌, ◌≤◌, ◌<◌, suc, max, ◌≡◌, List, [], ◌∷◌, ◌++◌, Bool, cond, eqb, ltb, length, take, drop, Some, None}
use Rattle.std.specs.Prelude as prelude
use Rattle.std.proofs.Math.Option.{Option, none, some}
use Rattle.refusal.specs.MeaningAnswer.{Answer, done, mapped, ◌>>=◌}
use Rattle.expression.specs.MeaningExpression.{Expr, Terms}
use Rattle.expression.specs.MeaningExpression.Expr.{reference, andor, «and», oneof}
use Rattle.expression.specs.MirrorNodes.{flat, flats}
use Rattle.expression.specs.MeaningExpression.Terms.{end, ◌then◌}
use Rattle.merging.specs.MeaningMerging.{Combined}
use Rattle.merging.specs.MirrorStream.{stream_of}
use Rattle.grammar.specs.MeaningReading.{Reading}
use Rattle.grammar.specs.MeaningReading.Reading.{rust}
use Rattle.sheet.specs.MeaningName.{Name}
use Rattle.sheet.specs.declared.Field.{Field}
use Rattle.forest.specs.MeaningPlaces.{nests}
use Rattle.scope.specs.MeaningScope.{Scope}
use Rattle.schemas.specs.MeaningTree.{Tree, tree_at}
use Rattle.schemas.specs.MeaningTree.Tree.{nil, leaf, node}
use Rattle.schemas.specs.MeaningSchemas.{Schema, terms_of, Entity}
use Rattle.declarations.specs.MirrorNamespace.{word_of, schema_scope}
use Rattle.records.specs.MeaningResolving.{resolved_expr, resolved_terms, path_for, own_path, number_for}

-- ---- how large an expression is

module _ {N : Type 0} where
  -- how many references and operators
  unfoldable mutual
    pub size : Expr N → ℕ
    size (reference n) = 1
    size (andor t) = suc (sizes t)
    size («and» t) = suc (sizes t)
    size (oneof t) = suc (sizes t)

    pub sizes : Terms N → ℕ
    sizes end = 0
    sizes (e then t) = size e + sizes t

  -- "expression depth .. a lone reference being 1"
  unfoldable mutual
    pub level : Expr N → ℕ
    level (reference n) = 1
    level (andor t) = suc (levels t)
    level («and» t) = suc (levels t)
    level (oneof t) = suc (levels t)

    pub levels : Terms N → ℕ
    levels end = 0
    levels (e then t) = max (level e) (levels t)

-- ---- over numbers

unfoldable pub number_meant : Reading → List Schema → Scope → Name → Answer ℕ
number_meant rd xs sc x = mapped (number_for rd xs) (path_for rd xs sc x)

unfoldable pub own_number : Reading → List Schema → Schema → Entity → ℕ
own_number rd xs x e = number_for rd xs (own_path x e)

-- one record more
unfoldable pub behind : {N : Type 0} → List (Combined N) → N → Expr N → List (Combined N)
behind cs p e = cs ++ (record { owner = p; expr = e } ∷ [])

-- ---- the next field whose tag lies between two

-- the fields from it on
unfoldable pub seek : (low high : ℕ) → Tree → Tree
seek low high nil = nil
seek low high (leaf t p v f) = cond (ltb t low) (seek low high f) (cond (ltb high t) (seek low high f) (leaf t p v f))
seek low high (node t p g f) = cond (ltb t low) (seek low high f) (cond (ltb high t) (seek low high f) (node t p g f))

-- a field with its value between two places, and those behind it
unfoldable pub field_then : List ℕ → (t a b : ℕ) → Tree → Tree
field_then s t a b f = cond (nests t) (node t (a - 3) (tree_at s a b) f) (leaf t (a - 3) (take (b - a) (drop a s)) f)

pub record Met (s : List ℕ) (at e low high t a b : ℕ) : Type 0 where
  pub seeks : seek low high (tree_at s at e) ≡ field_then s t a b (tree_at s b e)
  pub from : low ≤ t
  pub to : t ≤ high
  pub behind : at + 3 ≤ a
  pub rising : a ≤ b
  pub within : b ≤ e

pub data Meets (s : List ℕ) (at e low high : ℕ) : prelude.Option Field → Type 0 where
  no_more : seek low high (tree_at s at e) ≡ nil → Meets s at e low high None
  next : {f : Field} → Met s at e low high f.tag f.start f.stop → Meets s at e low high (Some f)

-- ---- expressions

-- the name between two places
unfoldable pub word_at : List ℕ → (a b : ℕ) → Name
word_at s a b = record { at = a; bytes = take (b - a) (drop a s) }

-- an expression of its tag
unfoldable pub op_of : {N : Type 0} → ℕ → Terms N → Expr N
op_of t ts = cond (eqb t 0x51) (andor ts) (cond (eqb t 0x52) («and» ts) (oneof ts))

-- the expression in a field with its value between two places
unfoldable pub expr_in : List ℕ → (t a b : ℕ) → Expr Name
expr_in s t a b = cond (eqb t 0x50) (reference (word_at s a b)) (op_of t (terms_of (tree_at s a b)))

pub record Spelt (s : List ℕ) (o : Option (Expr Name)) (t a b : ℕ) : Type 0 where
  pub is : o ≡ some (expr_in s t a b)
  pub from : 0x50 ≤ t
  pub to : t ≤ 0x53
  pub rising : a ≤ b
  pub within : b ≤ length s

-- where an expression stands, if there is one
pub data SpellsExpr (s : List ℕ) (o : Option (Expr Name)) : prelude.Option Field → Type 0 where
  no_expr : o ≡ none → SpellsExpr s o None
  there : {f : Field} → Spelt s o f.tag f.start f.stop → SpellsExpr s o (Some f)

-- which marks give a rule is the reading's
unfoldable pub gives_rule : Reading → ℕ → Bool
gives_rule rust t = eqb t 0x31

-- ---- the stream

-- what is answered goes behind the numbers that were used
pub record Appends (o : Answer (List ℕ)) (r : Answer ℕ) (used : ℕ) (before after : List ℕ) : Type 0 where
  pub says : r ≡ mapped (λ l. used + length l) o
  pub holds : (l : List ℕ) → o ≡ done l → take (used + length l) after ≡ take used before ++ l

-- these records stand at the front
pub record Stands (cs : List (Combined ℕ)) (used : ℕ) (w : List ℕ) : Type 0 where
  pub is : take used w ≡ stream_of cs
  pub long : used ≡ length (stream_of cs)

-- some do
pub record Front (used : ℕ) (w : List ℕ) : Type 0 where
  pub list : List (Combined ℕ)
  pub stands : Stands list used w

-- what becomes of the records at the front
pub record Kept (f : List (Combined ℕ) → Answer (List (Combined ℕ))) (r : Answer ℕ) (used : ℕ) (before after : List ℕ) : Type 0 where
  pub list : List (Combined ℕ)
  pub stands : Stands list used before
  pub says : r ≡ mapped (λ cs. length (stream_of cs)) (f list)
  pub holds : (cs : List (Combined ℕ)) → f list ≡ done cs → take (length (stream_of cs)) after ≡ stream_of cs

-- ---- what the functions ask

-- a value between two places of a sheet
pub record Within (s : List ℕ) (at e : ℕ) : Type 0 where
  pub short : length s ≤ 65535
  pub rising : at ≤ e
  pub within : e ≤ length s

-- room for this many nodes, and so many calls, one within the other
pub record Deep (nodes calls used depth : ℕ) (w : List ℕ) : Type 0 where
  pub calls_left : calls ≤ depth
  pub room : used + 3 * nodes ≤ length w
  pub small : length w < 65536

-- records stand at the front, and behind them there is room for this many terms, an owner and three of a node each, of no more than 5 levels
pub record Room (terms depth used : ℕ) (w : List ℕ) : Type 0 where
  pub front : Front used w
  pub room : used + 4 * terms ≤ length w
  pub low : depth ≤ 5
  pub small : length w < 65536

-- ---- a record

-- a schema with the name and nothing in it: all else of a schema is handed down by its fields
unfoldable pub schema_named : List ℕ → Schema
schema_named w = record { place = 0; name = word_of w; types = []; entities = []; constraints = [] }

module _ (rd : Reading) (xs : List Schema) where
  unfoldable pub expr_numbers : List ℕ → Expr Name → Answer (List ℕ)
  expr_numbers w e = mapped flat (resolved_expr (number_meant rd xs) (schema_scope w) e)

  unfoldable pub terms_numbers : List ℕ → Terms Name → Answer (List ℕ)
  terms_numbers w t = mapped flats (resolved_terms (number_meant rd xs) (schema_scope w) t)

  -- a record of this owner with the expression
  unfoldable pub record_kept : List ℕ → ℕ → Expr Name → List (Combined ℕ) → Answer (List (Combined ℕ))
  record_kept w p e cs = resolved_expr (number_meant rd xs) (schema_scope w) e >>= λ d. done (behind cs p d)
