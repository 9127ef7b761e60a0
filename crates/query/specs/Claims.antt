-- What is proved, to be read without the proofs: each claim is a type, and proofs/Proved.antt has a member of each.
use Rattle.std.specs.declared.cmp.Ordering.{Ordering}
use Rattle.std.specs.Prelude.{ℕ, ◌<◌, ◌≤◌, ◌≡◌, ◌↔◌, List, [], ◌∷◌, ◌++◌, length, Result}
use Rattle.std.specs.Prelude as code
use Rattle.std.proofs.Math.Option.{Option, none, some}
use Rattle.refusal.specs.MeaningAnswer.{done, refused}
use Rattle.refusal.specs.declared.Refusal.{Refusal}
use Rattle.grammar.specs.MeaningReading.{Reading}
use Rattle.sheet.specs.MeaningName.{Name}
use Rattle.sheet.specs.MeaningSheet.{end_of}
use Rattle.scope.specs.MeaningScope.{Step, Scope, most_steps, Path}
use Rattle.query.specs.MeaningQuery.{step_at, word_at, steps_at, scope_query, path_query, Question, resolve_query}
use Rattle.query.specs.Promises.{PromiseOrder}
use Rattle.query.specs.MirrorQuery.{step_in, word_in, past_of}

-- ---- of every answer that `order` can give

-- two queries allow one outcome
abbrev pub OrderOnce : Type 0
OrderOnce = (rd : Reading) (left right : List ℕ) (r r' : Result (code.Option Ordering) Refusal) → PromiseOrder rd left right r → PromiseOrder rd left right r' → r ≡ r'

-- ---- queries: which are accepted, and where the others are refused

-- these steps stand one after another, from one place up to another
pub data Stand (q : List ℕ) : ℕ → List Step → ℕ → Type 0 where
  here : {at : ℕ} → Stand q at [] at
  then : {at end : ℕ} {x : Step} {xs : List Step} → step_at q at ≡ some x → Stand q (end_of q at) xs end → Stand q at (x ∷ xs) end

-- the query is these steps and nothing else, and they are as many as there must and may be
abbrev pub Whole : (least most : ℕ) → List ℕ → List Step → Type 0
Whole least most q xs = Stand q 0 xs (length q) × (least ≤ length xs) × (length xs ≤ most)

-- where that fails first
pub data Fails (least most : ℕ) (q : List ℕ) : ℕ → Type 0 where
  -- "first bad .. field"
  bad : {at : ℕ} {xs : List Step} → Stand q 0 xs at → length xs < most → at < length q → step_at q at ≡ none → Fails least most q at
  -- "first .. surplus field"
  surplus : {at : ℕ} {xs : List Step} → Stand q 0 xs at → length xs ≡ most → at < length q → Fails least most q at
  -- "the query's end where one is missing"
  missing : {xs : List Step} → Stand q 0 xs (length q) → length xs < least → Fails least most q (length q)

-- "a scope query has 0 to 3"
abbrev pub ScopeAccepts : Type 0
ScopeAccepts = (q : List ℕ) (xs : Scope) → (scope_query q ≡ done xs) ↔ Whole 0 3 q xs

abbrev pub ScopeRefuses : Type 0
ScopeRefuses = (q : List ℕ) (n at : ℕ) → (scope_query q ≡ refused n at) ↔ ((n ≡ 15) × Fails 0 3 q at)

-- "A path query is 1 to 4 fields". "The last field of a path is the item."
abbrev pub PathAccepts : Type 0
PathAccepts = (q : List ℕ) (p : Path) → (path_query q ≡ done p) ↔ Whole 1 4 q (p.scope ++ (p.item ∷ []))

abbrev pub PathRefuses : Type 0
PathRefuses = (q : List ℕ) (n at : ℕ) → (path_query q ≡ refused n at) ↔ ((n ≡ 15) × Fails 1 4 q at)

-- "A `resolve` query is a scope query and then one field 10": these steps, then this name, and nothing else
abbrev pub Asks : List ℕ → Scope → Name → Type 0
Asks q xs w = (at : ℕ) × Stand q 0 xs at × (length xs ≤ 3) × (word_at q at ≡ some w) × (end_of q at ≡ length q)

-- where that fails first
pub data FailsAsking (q : List ℕ) : ℕ → Type 0 where
  -- the first field that is neither a step which may still come nor a field 10 with a name; or the query's end, where that is missing
  unasked : {at : ℕ} {xs : List Step} → Stand q 0 xs at → length xs ≤ 3 → (length xs < 3 → step_at q at ≡ none) → word_at q at ≡ none → FailsAsking q at
  -- the first field behind the name
  behind : {at : ℕ} {xs : List Step} {w : Name} → Stand q 0 xs at → length xs ≤ 3 → word_at q at ≡ some w → end_of q at < length q → FailsAsking q (end_of q at)

abbrev pub ResolveAccepts : Type 0
ResolveAccepts = (q : List ℕ) (a : Question) → (resolve_query q ≡ done a) ↔ Asks q a.scope a.word

abbrev pub ResolveRefuses : Type 0
ResolveRefuses = (q : List ℕ) (n at : ℕ) → (resolve_query q ≡ refused n at) ↔ ((n ≡ 15) × FailsAsking q at)

-- ---- "the reader's place moves on past each accepted field", and stays where there is none

abbrev pub Moves : {A B : Type 0} → (accepted : List ℕ → ℕ → Option A) → (read : List ℕ → ℕ → code.Option B) → (stop_of : B → ℕ) → Type 0
Moves {A} accepted read stop_of = (q : List ℕ) (at : ℕ) → ((x : A) → accepted q at ≡ some x → past_of stop_of (read q at) at ≡ end_of q at) × (accepted q at ≡ none → past_of stop_of (read q at) at ≡ at)

abbrev pub StepMoves : Type 0
StepMoves = Moves step_at step_in (λ x. x.stop)

abbrev pub WordMoves : Type 0
WordMoves = Moves word_at word_in (λ x. x.stop)

-- past a whole scope: each of its steps stands where the one before ends
abbrev pub ScopeMoves : Type 0
ScopeMoves = (q : List ℕ) (at : ℕ) → Stand q at (steps_at most_steps q at).steps (steps_at most_steps q at).after
