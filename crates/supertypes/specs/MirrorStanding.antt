-- What stands in the lent workspace: the records of gathering in front, a list in rows behind them.
use Rattle.std.specs.Prelude.{◌≡◌, List, [], ◌++◌, map, Bool, false, ℕ, ◌+◌, ◌-◌, ◌≤◌, eqb, length, take, drop, Result, Ok, IfOk}
use Rattle.std.proofs.Math.Option.{Option, none, some}
use Rattle.std.proofs.Math.ListN.{get_elem?}
use Rattle.refusal.specs.MeaningAnswer.{Answer, done, refused, mapped, ◌>>=◌}
use Rattle.refusal.specs.Told.{told_by}
use Rattle.refusal.specs.declared.Refusal.{Refusal}
use Rattle.grammar.specs.MeaningReading.{Reading}
use Rattle.complex_entity.specs.MeaningParts.{Part}
use Rattle.rows.specs.MirrorRows.{parts_at, Stands}
use Rattle.expression.specs.MeaningExpression.{eval}
use Rattle.expression.specs.MeaningNumbers.{or17}
use Rattle.expression.specs.MirrorNodes.{height}
use Rattle.instantiables.specs.declared.Instantiables.{Instantiables}
use Rattle.declarations.specs.MeaningNamespace.{schemas_in, Declaration, answered}
use Rattle.namespace.specs.MeaningOrder.{Answers}
use Rattle.merging.specs.MeaningMerging.{Combined, Pair, find}
use Rattle.merging.specs.MeaningItems.{combined_of}
use Rattle.merging.specs.MeaningRenaming.{Each}
use Rattle.merging.specs.MeaningFirsts.{firsts}
use Rattle.merging.specs.MirrorStream.{stream_of, paired, pairs_of, is_found}
use Rattle.gathering.specs.MirrorGathering.{streams}
use Rattle.gathering.specs.declared.Streams.{Streams}
use Rattle.supertypes.specs.MeaningWorkspace.{enough, left}

-- ---- the records of gathering

abbrev pub Both : Type 0
Both = List (Combined ℕ) × List (Pair ℕ)

-- they stand in front, none too high to be valued
pub record Standing (b : Both) (x : Streams) (w : List ℕ) : Type 0 where
  pub rules_in : take x.rules w ≡ stream_of b.0
  pub pairs_in : take (x.used - x.rules) (drop x.rules w) ≡ pairs_of b.1
  pub rising : x.rules ≤ x.used
  pub within : x.used ≤ 2048
  pub roomy : 32768 ≤ length w
  pub low : Each (λ (c : Combined ℕ). height c.expr ≤ 5) b.0

-- some do
pub record Stood (x : Streams) (w : List ℕ) : Type 0 where
  pub both : Both
  pub stands : Standing both x w

-- what was asked in order and gathered then; the workspace is left as it was where it must be
pub record Gathers {T : Type 0} (rd : Reading) (s work : List ℕ) (asked : Answer T) (r : Result (T × Streams) Refusal) (work' : List ℕ) : Type 0 where
  pub both : Answer (T × Both)
  pub is : Answers rd s (enough work) asked (λ t. mapped (λ b. (t, b)) (streams rd (schemas_in s))) both
  pub says : told_by {B = T × ℕ × ℕ} (λ (z : T × Streams). (z.0, z.1.rules, z.1.used)) r ≡ mapped {B = T × ℕ × ℕ} (λ (z : T × Both). (z.0, length (stream_of z.1.0), length (stream_of z.1.0) + length (pairs_of z.1.1))) both
  pub stands : (z : T × Streams) → r ≡ Ok z → (b : Both) × (both ≡ done (z.0, b)) × Standing b z.1 work' × (length s ≤ 65535)
  pub kept : left s work' ≡ left s work

-- ---- what a declaration's number is found to be

-- whether some record has it
unfoldable pub owned_in : Option Declaration → Both → Bool
owned_in none b = false
owned_in (some d) b = is_found (find eqb d.number (b.0 ++ map paired b.1))

-- the list of an owner
unfoldable pub list_by : ℕ → Both → Answer (List Part)
list_by owner b = answered 16 0 (combined_of eqb owner b.0 b.1) >>= eval

unfoldable pub list_in : Option Declaration → Both → Answer (List Part)
list_in none b = refused 16 0
list_in (some d) b = list_by d.number b

-- the k-th owner
unfoldable pub owner_in : ℕ → Both → Answer ℕ
owner_in k b = or17 (get_elem? (firsts eqb [] (map (λ (c : Combined ℕ). c.owner) (b.0 ++ map paired b.1))) k)

-- ---- a list, in rows behind the records

abbrev pub list_at : Result Instantiables Refusal → List ℕ → Answer (List Part)
list_at v rows = told_by (λ (l : Instantiables). parts_at l.count rows) v

abbrev pub StandsIf : Result Instantiables Refusal → List ℕ → Type 0
StandsIf v rows = IfOk v (λ (l : Instantiables). Stands rows l.count)

-- the list stands there, or why there is none
pub record ListedAs (o : Answer (List Part)) (v : Result Instantiables Refusal) (w : List ℕ) : Type 0 where
  pub is : list_at v (drop 2048 w) ≡ o
  pub stands : StandsIf v (drop 2048 w)
