-- Gathering's items as numbers: records, one behind the other, each an owner and the nodes of its expression.
use Rattle.std.specs.Prelude.{◌≡◌, List, [], ◌∷◌, ◌++◌, map, Bool, true, false, ℕ, ◌+◌, ◌-◌, ◌≤◌, ◌<◌, eqb, length, take, drop}
use Rattle.std.specs.Prelude as told
use Rattle.std.specs.Prelude.{None, Some}
use Rattle.std.proofs.Math.Option.{Option, none, some}
use Rattle.expression.specs.MeaningExpression.{Expr, reference, andor, «and», oneof}
use Rattle.expression.specs.MirrorNodes.{flat}
use Rattle.merging.specs.MeaningMerging.{Combined, Pair}
use Rattle.merging.specs.MeaningFirsts.{firsts}
use Rattle.merging.specs.declared.Combination.{Combination}
use Rattle.merging.specs.declared.Entry.{Entry}

-- rules and constraints
unfoldable pub stream_of : List (Combined ℕ) → List ℕ
stream_of [] = []
stream_of (c ∷ cs) = c.owner ∷ (flat c.expr ++ stream_of cs)

-- a name in SUBTYPE OF: the supertype, and a reference to the subtype
abbrev pub paired : Pair ℕ → Combined ℕ
paired x = record { owner = x.super; expr = reference x.sub }

abbrev pub pairs_of : List (Pair ℕ) → List ℕ
pairs_of xs = stream_of (map paired xs)

-- records stand in these numbers
pub record Records (l : List ℕ) : Type 0 where
  pub list : List (Combined ℕ)
  pub is : l ≡ stream_of list

pub record Pairs (l : List ℕ) : Type 0 where
  pub list : List (Pair ℕ)
  pub is : l ≡ pairs_of list

-- an expression stands in these numbers
pub record Item (l : List ℕ) : Type 0 where
  pub expr : Expr ℕ
  pub is : l ≡ flat expr

-- x stands behind the numbers that were used: they are kept
pub record Appended (x before after : List ℕ) (used stop : ℕ) : Type 0 where
  pub ends : stop ≡ used + length x
  pub front : take stop after ≡ take used before ++ x

unfoldable pub is_found : {A : Type 0} → Option A → Bool
is_found none = false
is_found (some a) = true

-- the expression stands from the start to the stop, if there is one
unfoldable pub Holds : Option (Expr ℕ) → List ℕ → told.Option Combination → Type 0
Holds none l None = Unit {0}
Holds none l (Some c) = ⊥
Holds (some e) l None = ⊥
Holds (some e) l (Some c) = (c.start ≤ c.stop) × (c.stop ≤ length l) × (take (c.stop - c.start) (drop c.start l) ≡ flat e)

-- behind the header, or with it: the terms of an ANDOR under a new header are the ANDOR itself
unfoldable pub begins : Expr ℕ → ℕ
begins (reference n) = 3
begins (andor t) = 0
begins («and» t) = 3
begins (oneof t) = 3

-- where the expression of these items stands, if no subtype is left over
unfoldable pub alone_of : List (Expr ℕ) → ℕ → told.Option Combination
alone_of [] stop = None
alone_of (e ∷ []) stop = Some (record { start = begins e; stop = stop })
alone_of (e ∷ d ∷ es) stop = Some (record { start = 0; stop = stop })

-- the owner, as the code answers it
abbrev pub owner_of : Option ℕ → told.Option ℕ
owner_of none = None
owner_of (some p) = Some p

-- ---- the owners in order, from a record on

-- a record begins at the place, or the last ends there
pub record RecordsFrom (l : List ℕ) (from : ℕ) : Type 0 where
  pub passed : List (Combined ℕ)
  pub coming : List (Combined ℕ)
  pub is : l ≡ stream_of (passed ++ coming)
  pub place : from ≡ length (stream_of passed)

-- the owners that come and are none of those passed
abbrev pub owners_from : (passed coming : List (Combined ℕ)) → List ℕ
owners_from cs ds = firsts eqb (map (λ (c : Combined ℕ). c.owner) cs) (map (λ (c : Combined ℕ). c.owner) ds)

-- the first of them, with the place behind its record
pub record EntryAt (cs ds : List (Combined ℕ)) (owner next : ℕ) : Type 0 where
  pub passed : List (Combined ℕ)
  pub coming : List (Combined ℕ)
  pub same : cs ++ ds ≡ passed ++ coming
  pub place : next ≡ length (stream_of passed)
  pub further : length (stream_of cs) < next
  pub within : next ≤ length (stream_of (cs ++ ds))
  pub owners : owners_from cs ds ≡ owner ∷ owners_from passed coming

unfoldable pub EntryIs : (cs ds : List (Combined ℕ)) → told.Option Entry → Type 0
EntryIs cs ds (Some e) = EntryAt cs ds e.owner e.next
EntryIs cs ds None = owners_from cs ds ≡ []
