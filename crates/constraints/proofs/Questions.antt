-- Each question put together: what was asked, what was gathered, what is found there, and what is left.
use mathlib.Core.Path.{◌≡◌, refl, sym, ap, ◌∙◌, subst}
use mathlib.Core.List.{List, [], ◌∷◌}
use mathlib.Core.Bool.{Bool, true, false}
use Prim.Native.Nat.{ℕ, ◌-◌, ◌≤◌}
use lib.Dec.{leb}
use lib.ListN.{length, take, drop}
use Rattle.std.specs.Prelude.{Result, Ok, Err, IfOk, IsErrAnd}
use Rattle.std.proofs.lemmas.Result.{IfOk-at_ok, err_from_is_err_and}
use Rattle.refusal.specs.MeaningAnswer.{Answer, done, refused, mapped, or_else, ◌>>=◌}
use Rattle.refusal.specs.Told.{told, told_by, told_refusal}
use Rattle.refusal.specs.declared.Refusal.{Refusal}
use Rattle.grammar.specs.MeaningReading.{Reading}
use Rattle.grammar.specs.MeaningGrammar.{most_bytes}
use Rattle.grammar.proofs.Choosing.{clash}
use Rattle.schemas.specs.MeaningSchemas.{Schema}
use Rattle.scope.specs.Told.{told_path}
use Rattle.scope.specs.Held.{path_in}
use Rattle.scope.specs.MirrorScope.{Spans}
use Rattle.scope.specs.MeaningScope as meaning
use Rattle.scope.specs.declared.Path.{Path}
use Rattle.query.specs.MeaningQuery.{path_query}
use Rattle.query.specs.MirrorQuery.{asked_by}
use Rattle.complex_entity.specs.MeaningParts.{Part}
use Rattle.complex_entity.specs.MirrorParts.{names_of, Makes}
use Rattle.complex_entity.specs.declared.PartialComplexEntity.{PartialComplexEntity}
use Rattle.rows.specs.MirrorRows.{parts_at, Stands}
use Rattle.instantiables.specs.Told.{told_listed}
use Rattle.instantiables.specs.declared.Instantiables.{Instantiables}
use Rattle.operands.specs.MeaningOperands.{read_part, both, part}
use Rattle.operands.specs.MeaningResults.{fitting, one}
use Rattle.operands.specs.MirrorResults.{Handed, fitted, handed}
use Rattle.operands.specs.Promises as rows
use Rattle.operands.proofs.Handing.{refused_answers}
use Rattle.expression.specs.MeaningNumbers.{number_of, set_at}
use Rattle.declarations.specs.MeaningNamespace.{schemas_in, declaration_for}
use Rattle.namespace.specs.MeaningOrder.{in_order, Answers}
use Rattle.namespace.proofs.Asking as asking
use Rattle.gathering.specs.MeaningCombined.{list_of}
use Rattle.gathering.specs.MirrorGathering.{streams}
use Rattle.gathering.specs.declared.Streams.{Streams}
use Rattle.supertypes.specs.MeaningWorkspace.{enough, left}
use Rattle.supertypes.specs.MirrorStanding.{Both, Standing, Gathers, list_in, list_at, StandsIf, ListedAs, owned_in, owner_in}
use Rattle.supertypes.proofs.Asking.{asked_refused, asked_done}
use Rattle.supertypes.proofs.Owning.{list_by_law}
use Rattle.supertypes.proofs.Standing.{left_same}
use Rattle.constraints.specs.MeaningQuestions.{supertype_question, ask_list, ask_number, ask_row, ask_row_into, ask_supertype}
use Rattle.constraints.specs.MirrorAsked.{path_and_part, told_both}
use Rattle.constraints.specs.Promises.{PromiseSupertype, Rows, PromiseList, PromiseRow, PromiseNumber, PromiseKth}
use Rattle.constraints.proofs.Owning.{supertype_by, owner_by}
use Rattle.constraints.proofs.Handing.{whole_rest, list_fits, rows_stand}

-- ---- a promise holds of what is left, and so of the settled workspace

pub settled : (P : List ℕ → Type 0) (w w' : List ℕ) → P w → w' ≡ w → P w'
settled P w w' p e = rw e p

-- ---- what the code's answer says

-- a refusal handed up
pub handed_up : {T : Type 0} (r : Result T Refusal) (why : Refusal) → IsErrAnd r (λ y. y ≡ why) → r ≡ Err why
handed_up r why i = let p = err_from_is_err_and r i in p.1 ∙ ap Err p.2

ok_of : {T : Type 0} (r : Result T Refusal) (t : T) → told r ≡ done t → r ≡ Ok t
ok_of (Ok x) t e = let z : x ≡ t = cc in ap Ok z
ok_of (Err why) t e = clash (cc)

told_mapped : {T A : Type 0} (f : T → A) (r : Result T Refusal) → told_by f r ≡ mapped f (told r)
told_mapped f (Ok t) = refl
told_mapped f (Err why) = refl

-- what was gathered was asked
done_of : {T X : Type 0} (t : T) (b : X) (short long : Bool) (v : Answer (Unit {0})) (asked : Answer T) (s : Answer X)
    → ◌≡◌ {A = Answer (T × X)} (done (t, b)) (or_else 1 short (or_else 2 long (v >>= λ y. asked >>= λ (t : T). mapped {B = T × X} (λ b. (t, b)) s))) → asked ≡ done t
done_of t b false long v asked s e = clash (cc)
done_of t b true false v asked s e = clash (cc)
done_of t b true true (refused n p) asked s e = clash (cc)
done_of t b true true (done u) (refused n p) s e = clash (cc)
done_of t b true true (done u) (done x) (refused n p) e = clash (cc)
done_of {T} {X} t b true true (done u) (done x) (done c) e = let z : ◌≡◌ {A = T × X} (t, b) (x, c) = cc in sym (ap (λ (p : T × X). done p.0) z)

gathered_asked : {T : Type 0} (rd : Reading) (s work : List ℕ) (asked : Answer T) (r : Result (T × Streams) Refusal) (work' : List ℕ) → Gathers rd s work asked r work' → (z : T × Streams) → r ≡ Ok z → asked ≡ done z.0
unfolding Answers in_order
gathered_asked rd s work asked r work' g z e = let i = g.stands z e in done_of z.0 i.0 (leb (length s) most_bytes) (enough work) g.is.0 asked (streams rd (schemas_in s)) (sym i.1 ∙ g.is.2)

-- ---- what is made of an answer that is made of the records

then_made : {X Y Z : Type 0} (s : Answer X) (k : X → Answer Y) (f : Y → Answer Z) → ((s >>= k) >>= f) ≡ (s >>= λ b. k b >>= f)
then_made (done b) k f = refl
then_made (refused n place) k f = refl

-- what is left once a list stands there
kept_on : {T : Type 0} (rd : Reading) (s work : List ℕ) (asked : Answer T) (r : Result (T × Streams) Refusal) (work' : List ℕ) → Gathers rd s work asked r work' → (z : T × Streams) → r ≡ Ok z → (w : List ℕ) → length w ≡ length work' → left s w ≡ left s work
kept_on rd s work asked r work' g z e w n = let i = g.stands z e in left_same s work' w i.3 i.2.roomy n ∙ g.kept

-- a question that is made of the list of a path: f is what the paper says of what was asked, step what is made of the list
module _ {T A B : Type 0} (rd : Reading) (s q work : List ℕ) (asked : Answer T) (f : T → A) (o : Answer A) (h : o ≡ mapped f asked) (path : T → Path) (own : A → Answer B) (step : T → List Part → Answer B)
    (go : (t : T) → own (f t) ≡ (list_of rd (schemas_in s) (told_path q (path t)) >>= step t))
    (r : Result (T × Streams) Refusal) (work' : List ℕ) (g : Gathers rd s work asked r work') where
  abbrev owner : T → Both → Answer (List Part)
  owner t b = list_in (declaration_for rd (schemas_in s) (told_path q (path t))) b

  made : (t : T) → asked ≡ done t → own (f t) ≡ (streams rd (schemas_in s) >>= λ b. owner t b >>= step t)
  made t e = go t ∙ ap (λ (L : Answer (List Part)). L >>= step t) (list_by_law rd (schemas_in s) (told_path q (path t))) ∙ then_made (streams rd (schemas_in s)) (owner t) (step t)

  listing_refused : (why : Refusal) → r ≡ Err why → Answers rd s (enough work) o own (told_refusal why)
  listing_refused why e = asked_refused rd s work asked r work' g o f h own (λ t b. owner t b >>= step t) made why e

  module _ (t : T) (x : Streams) (e : r ≡ Ok (t, x)) (v : Result Instantiables Refusal) (w : List ℕ) (L : (b : Both) → Standing b x work' → ListedAs (owner t b) v w) where
    listing_done : Answers rd s (enough work) o own (list_at v (drop 2048 w) >>= step t)
    listing_done = asked_done rd s work asked r work' g o f h own (λ t b. owner t b >>= step t) made (t, x) e (list_at v (drop 2048 w) >>= step t) (λ b S. ap (λ (M : Answer (List Part)). M >>= step t) (L b S).is)

    listing_stands : StandsIf v (drop 2048 w)
    listing_stands = let z = g.stands (t, x) e in (L z.0 z.2).stands

-- ---- the questions that ask for a path

module _ (rd : Reading) (s q work : List ℕ) (asked : Result Path Refusal) (h : asked ≡ asked_by path_in (path_query q)) (r : Result (Path × Streams) Refusal) (work' : List ℕ) (g : Gathers rd s work (told asked) r work') where
  abbrev xs : List Schema
  xs = schemas_in s

  asked_path : path_query q ≡ mapped (told_path q) (told asked)
  asked_path = asking.path_told q asked h

  pub path_stands : (path : Path) (x : Streams) → r ≡ Ok (path, x) → (length s ≤ 65535) × Spans q path.scope.one × Spans q path.item
  path_stands path x e =
      let z = g.stands (path, x) e in
      let f = asking.path_stands q asked h path (gathered_asked rd s work (told asked) r work' g (path, x) e) in
      (z.3, f.0, f.1)

  -- `is_supertype`
  pub decided_refused : (why : Refusal) → r ≡ Err why → (t : Result Bool Refusal) → t ≡ Err why → PromiseSupertype rd s q work t (left s work')
  unfolding PromiseSupertype
  decided_refused why e t i = rw i (asked_refused rd s work (told asked) r work' g (path_query q) (told_path q) asked_path (supertype_question rd xs) (λ p b. done (owned_in (declaration_for rd xs (told_path q p)) b)) (λ p j. supertype_by rd xs (told_path q p)) why e, g.kept)

  pub decided_done : (path : Path) (x : Streams) → r ≡ Ok (path, x) → (is : Bool) → ((b : Both) → Standing b x work' → is ≡ owned_in (declaration_for rd xs (told_path q path)) b) → PromiseSupertype rd s q work (Ok is) (left s work')
  unfolding PromiseSupertype
  decided_done path x e is f = (asked_done rd s work (told asked) r work' g (path_query q) (told_path q) asked_path (supertype_question rd xs) (λ p b. done (owned_in (declaration_for rd xs (told_path q p)) b)) (λ p j. supertype_by rd xs (told_path q p)) (path, x) e (done is) (λ b S. ap done (f b S)), g.kept)

  -- a question that is made of the path's list
  module _ {B : Type 0} (own : meaning.Path → Answer B) (step : List Part → Answer B) (go : (p : meaning.Path) → own p ≡ (list_of rd (schemas_in s) p >>= step)) where
    of_refused : (why : Refusal) → r ≡ Err why → Answers rd s (enough work) (path_query q) own (told_refusal why)
    of_refused = listing_refused rd s q work (told asked) (told_path q) (path_query q) asked_path (λ p. p) own (λ p. step) (λ p. go (told_path q p)) r work' g

    of_list : (path : Path) (x : Streams) → r ≡ Ok (path, x) → (v : Result Instantiables Refusal) (w : List ℕ) → ((b : Both) → Standing b x work' → ListedAs (list_in (declaration_for rd (schemas_in s) (told_path q path)) b) v w)
        → Answers rd s (enough work) (path_query q) own (list_at v (drop 2048 w) >>= step)
    of_list = listing_done rd s q work (told asked) (told_path q) (path_query q) asked_path (λ p. p) own (λ p. step) (λ p. go (told_path q p)) r work' g

  -- `list`
  module _ (out : List ℕ) where
    pub list_refused : (why : Refusal) → r ≡ Err why → (t : Result Instantiables Refusal) → t ≡ Err why → PromiseList rd s q work out t (left s work') out
    unfolding PromiseList Rows ask_list
    list_refused why e t i = rw i (told_refusal why, of_refused (ask_list rd xs (length out)) (fitting (length out)) (λ p. refl) why e, refused_answers (told_refusal why) out why refl, g.kept)

    pub list_handed : (path : Path) (x : Streams) → r ≡ Ok (path, x) → (v : Result Instantiables Refusal) (w : List ℕ) → ((b : Both) → Standing b x work' → ListedAs (list_in (declaration_for rd (schemas_in s) (told_path q path)) b) v w)
        → length w ≡ length work' → (t : Result Instantiables Refusal) (out' : List ℕ) → Handed (told_listed v) (take (length w - 2048) (drop 2048 w)) out (told_listed t) out' → PromiseList rd s q work out t (left s w) out'
    unfolding PromiseList Rows ask_list
    list_handed path x e v w L n t out' a = (
      list_at v (drop 2048 w) >>= fitting (length out),
      of_list (ask_list rd xs (length out)) (fitting (length out)) (λ p. refl) path x e v w L,
      list_fits v w (let z = g.stands (path, x) e in (L z.0 z.2).stands) out out' t a,
      kept_on rd s work (told asked) r work' g (path, x) e w n,
    )

    module _ (path : Path) (x : Streams) (e : r ≡ Ok (path, x)) (v : Result Instantiables Refusal) (w : List ℕ) (L : (b : Both) → Standing b x work' → ListedAs (list_in (declaration_for rd (schemas_in s) (told_path q path)) b) v w)
        (n : length w ≡ length work') where
      pub list_none : (why : Refusal) → v ≡ Err why → (t : Result Instantiables Refusal) → t ≡ Err why → PromiseList rd s q work out t (left s w) out
      unfolding fitted handed
      list_none why f t j = list_handed path x e v w L n t out (rw (f, j) (record { says = refl; buffer = refl }))

      pub list_given : (l : Instantiables) → v ≡ Ok l → (t : Result Instantiables Refusal) (out' : List ℕ) → Handed (done l.count) (take (length w - 2048) (drop 2048 w)) out (told_listed t) out' → PromiseList rd s q work out t (left s w) out'
      list_given l f t out' a = list_handed path x e v w L n t out' (rw f a)

  -- `row_at`
  module _ (out : List ℕ) (i : ℕ) where
    abbrev Row : List Part → Answer (List Part)
    Row L = set_at L i >>= one >>= fitting (length out)

    row_of : (p : meaning.Path) → ask_row_into rd xs i (length out) p ≡ (list_of rd xs p >>= Row)
    unfolding ask_row_into ask_row
    row_of p = by (list_of rd xs p)
      where
        by : (o : Answer (List Part)) → ((o >>= λ L. set_at L i) >>= one >>= fitting (length out)) ≡ (o >>= Row)
        by (done L) = refl
        by (refused n place) = refl

    pub row_refused : (why : Refusal) → r ≡ Err why → (t : Result Instantiables Refusal) → t ≡ Err why → PromiseRow rd s q i work out t (left s work') out
    unfolding PromiseRow Rows
    row_refused why e t j = rw j (told_refusal why, of_refused (ask_row_into rd xs i (length out)) Row row_of why e, refused_answers (told_refusal why) out why refl, g.kept)

    module _ (path : Path) (x : Streams) (e : r ≡ Ok (path, x)) (v : Result Instantiables Refusal) (w : List ℕ) (L : (b : Both) → Standing b x work' → ListedAs (list_in (declaration_for rd xs (told_path q path)) b) v w) (n : length w ≡ length work') where
      row_made : (t : Result Instantiables Refusal) (out' : List ℕ) → rows.Answers (list_at v (drop 2048 w) >>= Row) out t out' → PromiseRow rd s q i work out t (left s w) out'
      unfolding PromiseRow Rows
      row_made t out' a = (list_at v (drop 2048 w) >>= Row, of_list (ask_row_into rd xs i (length out)) Row row_of path x e v w L, a, kept_on rd s work (told asked) r work' g (path, x) e w n)

      pub row_none : (why : Refusal) → v ≡ Err why → (t : Result Instantiables Refusal) → t ≡ Err why → PromiseRow rd s q i work out t (left s w) out
      row_none why f t j = rw j (row_made (Err why) out (rw f (refused_answers (told_refusal why) out why refl)))

      module _ (l : Instantiables) (f : v ≡ Ok l) (m : Result PartialComplexEntity Refusal) (M : Makes (set_at (parts_at l.count (take (length w - 2048) (drop 2048 w))) i) m) where
        set_is : set_at (parts_at l.count (drop 2048 w)) i ≡ told_by names_of m
        set_is = sym (rw (whole_rest w) at M.told)

        pub row_past : (why : Refusal) → m ≡ Err why → (t : Result Instantiables Refusal) → t ≡ Err why → PromiseRow rd s q i work out t (left s w) out
        row_past why k t j = rw j (row_made (Err why) out (rw (f, set_is, k) (refused_answers (told_refusal why) out why refl)))

        pub row_handed : (p : PartialComplexEntity) → m ≡ Ok p → (t : Result Instantiables Refusal) (out' : List ℕ) → rows.Answers (fitting (length out) (names_of p ∷ [])) out t out' → PromiseRow rd s q i work out t (left s w) out'
        row_handed p k t out' a = row_made t out' (rw (f, set_is, k) a)

-- ---- `number_of`

-- the path, then the row
module _ (q row : List ℕ) (asked : Result Path Refusal) (h : asked ≡ asked_by path_in (path_query q)) where
  pub read_path_refused : (why : Refusal) → asked ≡ Err why → told_by {A = Path × PartialComplexEntity} (told_both q) (Err why) ≡ path_and_part q row
  unfolding both
  read_path_refused why e = rw (asking.path_told q asked h, e) refl

  module _ (path : Path) (e : asked ≡ Ok path) (read : Result PartialComplexEntity Refusal) (j : told_by names_of read ≡ mapped part (read_part row)) where
    both_read : mapped {B = meaning.Path × Part} (λ (p : Part). (told_path q path, p)) (told_by names_of read) ≡ path_and_part q row
    unfolding both
    both_read = rw (asking.path_told q asked h, e, j) (by (read_part row))
      where
        by : (o : Answer (List Part)) → mapped {B = meaning.Path × Part} (λ (p : Part). (told_path q path, p)) (mapped part o) ≡ mapped {B = meaning.Path × Part} (λ (c : meaning.Path × List Part). (c.0, part c.1)) (mapped {B = meaning.Path × List Part} (λ (M : List Part). (told_path q path, M)) o)
        by (done M) = refl
        by (refused n place) = refl

    pub read_row_refused : (why : Refusal) → read ≡ Err why → told_by {A = Path × PartialComplexEntity} (told_both q) (Err why) ≡ path_and_part q row
    read_row_refused why f = rw f at both_read

    pub read_both : (p : PartialComplexEntity) → read ≡ Ok p → told_by (told_both q) (Ok (path, p)) ≡ path_and_part q row
    read_both p f = rw f at both_read

  pub read_fits : (path : Path) → asked ≡ Ok path → Spans q path.scope.one × Spans q path.item
  read_fits path e = asking.path_stands q asked h path (ap told e)

-- the paper asks for the row's part as a list of one
module _ {B : Type 0} (rd : Reading) (s q row : List ℕ) (long : Bool) (own : meaning.Path → Part → Answer B) where
  both_asked : (t : Answer B) → Answers rd s long (path_and_part q row) (λ c. own c.0 c.1) t → Answers rd s long (both (path_query q) (read_part row)) (λ c. own c.0 (part c.1)) t
  unfolding Answers in_order
  both_asked t a = (a.0, a.1, a.2 ∙ ap (λ (z : Answer B). or_else 1 (leb (length s) most_bytes) (or_else 2 long (a.0 >>= λ accepted. z))) (by (both (path_query q) (read_part row))))
    where
      by : (o : Answer (meaning.Path × List Part)) → ◌>>=◌ {A = meaning.Path × Part} (mapped (λ c. (c.0, part c.1)) o) (λ c. own c.0 c.1) ≡ (o >>= λ c. own c.0 (part c.1))
      by (done c) = refl
      by (refused n place) = refl

module _ (rd : Reading) (s q row work : List ℕ) (asked : Result (Path × PartialComplexEntity) Refusal) (h : told_by (told_both q) asked ≡ path_and_part q row) (fits : IfOk asked (λ a. Spans q a.0.scope.one × Spans q a.0.item))
    (r : Result ((Path × PartialComplexEntity) × Streams) Refusal) (work' : List ℕ) (g : Gathers rd s work (told asked) r work') where
  asked_told : path_and_part q row ≡ mapped (told_both q) (told asked)
  asked_told = sym h ∙ told_mapped (told_both q) asked

  step_of : Path × PartialComplexEntity → List Part → Answer ℕ
  step_of a L = number_of L (names_of a.1)

  own_of : meaning.Path × Part → Answer ℕ
  own_of c = ask_number rd (schemas_in s) c.0 c.1

  go_of : (a : Path × PartialComplexEntity) → own_of (told_both q a) ≡ (list_of rd (schemas_in s) (told_path q a.0) >>= step_of a)
  unfolding ask_number own_of step_of
  go_of a = refl

  pub number_stands : (path : Path) (p : PartialComplexEntity) (x : Streams) → r ≡ Ok ((path, p), x) → (length s ≤ 65535) × Spans q path.scope.one × Spans q path.item
  number_stands path p x e =
      let z = g.stands ((path, p), x) e in
      let f = IfOk-at_ok (λ (a : Path × PartialComplexEntity). Spans q a.0.scope.one × Spans q a.0.item) (ok_of asked (path, p) (gathered_asked rd s work (told asked) r work' g ((path, p), x) e)) fits in
      (z.3, f.0, f.1)

  pub number_refused : (why : Refusal) → r ≡ Err why → (t : Result ℕ Refusal) → t ≡ Err why → PromiseNumber rd s q row work t (left s work')
  unfolding PromiseNumber own_of
  number_refused why e t i = rw i (both_asked rd s q row (enough work) (ask_number rd (schemas_in s)) (told_refusal why) (listing_refused rd s q work (told asked) (told_both q) (path_and_part q row) asked_told (λ a. a.0) own_of step_of go_of r work' g why e), g.kept)

  module _ (path : Path) (p : PartialComplexEntity) (x : Streams) (e : r ≡ Ok ((path, p), x)) (v : Result Instantiables Refusal) (w : List ℕ) (L : (b : Both) → Standing b x work' → ListedAs (list_in (declaration_for rd (schemas_in s) (told_path q path)) b) v w) (n : length w ≡ length work') where
    number_made : (t : Result ℕ Refusal) → told t ≡ (list_at v (drop 2048 w) >>= λ M. number_of M (names_of p)) → PromiseNumber rd s q row work t (left s w)
    unfolding PromiseNumber own_of step_of
    number_made t f = (
      subst (Answers rd s (enough work) (both (path_query q) (read_part row)) (λ c. ask_number rd (schemas_in s) c.0 (part c.1))) (sym f)
          (both_asked rd s q row (enough work) (ask_number rd (schemas_in s)) _ (listing_done rd s q work (told asked) (told_both q) (path_and_part q row) asked_told (λ a. a.0) own_of step_of go_of r work' g (path, p) x e v w L)),
      kept_on rd s work (told asked) r work' g ((path, p), x) e w n,
    )

    pub number_rows : (l : Instantiables) → v ≡ Ok l → Stands (take (length w - 2048) (drop 2048 w)) l.count
    number_rows l f = let z = g.stands ((path, p), x) e in rows_stand v w (L z.0 z.2).stands l f

    pub number_none : (why : Refusal) → v ≡ Err why → (t : Result ℕ Refusal) → t ≡ Err why → PromiseNumber rd s q row work t (left s w)
    number_none why f t j = number_made t (rw (f, j) refl)

    pub number_found : (l : Instantiables) → v ≡ Ok l → (t : Result ℕ Refusal) → told t ≡ number_of (parts_at l.count (take (length w - 2048) (drop 2048 w))) (names_of p) → PromiseNumber rd s q row work t (left s w)
    number_found l f t j = number_made t (rw f (rw (whole_rest w) at j))

-- ---- `supertype_at`

module _ (rd : Reading) (s work : List ℕ) (k : ℕ) (r : Result (ℕ × Streams) Refusal) (work' : List ℕ) (g : Gathers rd s work (done k) r work') where
  pub counted_refused : (why : Refusal) → r ≡ Err why → (t : Result ℕ Refusal) → t ≡ Err why → PromiseKth rd s k work t (left s work')
  unfolding PromiseKth
  counted_refused why e t i = rw i (asked_refused rd s work (done k) r work' g (done k) (λ n. n) refl (ask_supertype rd (schemas_in s)) owner_in (λ n j. owner_by rd (schemas_in s) n) why e, g.kept)

  pub counted_done : (n : ℕ) (x : Streams) → r ≡ Ok (n, x) → (t : Result ℕ Refusal) → ((b : Both) → Standing b x work' → told t ≡ owner_in n b) → PromiseKth rd s k work t (left s work')
  unfolding PromiseKth
  counted_done n x e t f = (asked_done rd s work (done k) r work' g (done k) (λ n. n) refl (ask_supertype rd (schemas_in s)) owner_in (λ n j. owner_by rd (schemas_in s) n) (n, x) e (told t) f, g.kept)
