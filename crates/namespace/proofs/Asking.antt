-- What a query asks for, and so the laws of `resolve` and `get`.
use mathlib.Core.Path.{◌≡◌, refl, sym, ap, ◌∙◌, subst}
use mathlib.Core.List.{List, [], ◌∷◌, ◌++◌}
use mathlib.Core.Option.{Option, none, some}
use mathlib.Core.Bool.{Bool, true, false, cond}
use Prim.Native.Nat.{ℕ, ◌+◌, ◌-◌, ◌≤◌}
use native.Mathlib.Omega.{arith}
use lib.Dec.{eqb}
use lib.ListN.{length, take, drop, length-append}
use Rattle.std.specs.Prelude as prelude
use Rattle.std.specs.Prelude.{Some, None, Result, Ok, Err}
use Rattle.std.specs.Option.{ok_or}
use Rattle.refusal.specs.MeaningAnswer.{Answer, done, refused, mapped}
use Rattle.refusal.specs.Told.{told_refusal, told}
use Rattle.refusal.specs.declared.Reason.TheVariants.{Undeclared, NoDeclaration}
use Rattle.refusal.specs.declared.Refusal.{Refusal}
use Rattle.grammar.specs.MeaningReading.{Reading}
use Rattle.sheet.specs.MeaningName.{Name}
use Rattle.sheet.specs.MeaningSheet.{tag_of}
use Rattle.grammar.proofs.Choosing.{clash}
use Rattle.scope.specs.Told.{told_scope, told_path}
use Rattle.scope.specs.Held.{path_in}
use Rattle.scope.specs.MeaningScope as meaning
use Rattle.scope.specs.MeaningScope.{Step}
use Rattle.query.specs.MeaningQuery.{word_at, name_at, Question, resolve_query, path_query}
use Rattle.query.specs.Claims.{Stand}
use Rattle.query.specs.Claims.Stand.{here, then}
use Rattle.scope.specs.MirrorScope.{Spans}
use Rattle.scope.specs.declared.Path.{Path}
use Rattle.query.specs.MirrorQuery.{asked_by}
use Rattle.query.specs.MirrorQuery as query
use Rattle.query.specs.declared.AskedName.{AskedName}
use Rattle.query.proofs.Reaching.{Lies, NameLies, name_lies, StepLies, step_lies}
use Rattle.query.proofs.Ordering.{AllLie, step_back, spans_of, steps_back, steps_fit}
use Rattle.query.proofs.Accepting.{path_done, resolve_done}
use Rattle.query.proofs.Proved.{path_refuses, resolve_refuses}
use Rattle.declarations.specs.MeaningNamespace.{schemas_in, Declaration, answered, declaration_for, get_of, resolved, resolve_of}
use Rattle.declarations.specs.MirrorNamespace.{sought_of}
use Rattle.namespace.specs.MeaningOrder.{Answers}
use Rattle.namespace.specs.Promises.{PromiseResolve, PromiseGet}
use Rattle.namespace.proofs.Clearing.{refused_first, cleared_short, cleared_asked, cleared_own}

-- ---- what a query asks for lies in its bytes

stand_lies : (q : List ℕ) (at end : ℕ) (xs : List Step) → Stand q at xs end → AllLie q xs
stand_lies q at end xs here = tt
stand_lies q at end (x ∷ xs) (then e t) = (subst (StepLies q) e (step_lies q at), stand_lies q _ end xs t)

all_front : (q : List ℕ) (xs : List Step) (x : Step) → AllLie q (xs ++ (x ∷ [])) → AllLie q xs × Lies q x.name
all_front q [] x l = (tt, l.0)
all_front q (y ∷ xs) x l = let r = all_front q xs x l.1 in ((l.0, r.0), r.1)

abbrev NameRead : List ℕ → Answer Question → Type 0
NameRead q (refused n p) = Unit {0}
NameRead q (done a) = AllLie q a.scope × (length a.scope ≤ 3) × Lies q a.word

word_lies : (q : List ℕ) (at : ℕ) (w : Name) → word_at q at ≡ some w → Lies q w
unfolding word_at
word_lies q at w e = by (eqb (tag_of q at) 0x10) e
  where
    by : (b : Bool) → cond b (name_at q at) none ≡ some w → Lies q w
    by true e = subst (NameLies q) e (name_lies q at)
    by false e = clash (cc)

name_read : (q : List ℕ) (o : Answer Question) → resolve_query q ≡ o → NameRead q o
name_read q (refused n p) e = tt
name_read q (done a) e = let r = resolve_done q a e in (stand_lies q 0 r.0 a.scope r.1, r.2, word_lies q r.0 a.word r.3)

abbrev PathRead : List ℕ → Answer meaning.Path → Type 0
PathRead q (refused n p) = Unit {0}
PathRead q (done p) = AllLie q p.scope × (length p.scope ≤ 3) × Lies q p.item.name

path_read : (q : List ℕ) (o : Answer meaning.Path) → path_query q ≡ o → PathRead q o
path_read q (refused n p) e = tt
path_read q (done p) e =
    let r = path_done q p e in
    let l = all_front q p.scope p.item (stand_lies q 0 (length q) (p.scope ++ (p.item ∷ [])) r.0) in
    let n = length-append p.scope (p.item ∷ []) in
    (l.0, omega (arith, r.2), l.1)

-- ---- what was read, in the paper's terms

-- what a query that is not malformed asks for
read_back : {A B : Type 0} (f : A → B) (o : Answer A) (b : B) → told (asked_by f o) ≡ done b → (a : A) × (o ≡ done a) × (f a ≡ b)
unfolding asked_by
read_back f (refused n p) b e = clash (cc)
read_back f (done a) b e = (a, refl, cc)

-- the number that is found, or why there is none
answer_told : (m : Option Declaration) (why : Refusal) (n place : ℕ) → told_refusal {A = ℕ} why ≡ refused n place → told (ok_or (sought_of m) why) ≡ mapped (λ (d : Declaration). d.number) (answered n place m)
unfolding sought_of answered
answer_told none why n place e = e
answer_told (some d) why n place e = refl

-- ---- `resolve`

-- the question back from its struct
question : List ℕ → AskedName → Question
question q a = record { scope = told_scope q a.scope; word = record { at = a.start; bytes = take (a.stop - a.start) (drop a.start q) } }

question_back : (q : List ℕ) (a : Question) → NameRead q (done a) → question q (query.name_in a) ≡ a
unfolding query.name_in question
question_back q a l =
    let n : a.word.at + length a.word.bytes - a.word.at ≡ length a.word.bytes = omega arith in
    rw (steps_back q a.scope l.0 l.1, n, l.2.there) refl

name_told : (q : List ℕ) (o : Answer Question) → resolve_query q ≡ o → o ≡ mapped (question q) (told (asked_by query.name_in o))
unfolding asked_by
name_told q (refused n p) e = let z : n ≡ 15 = ((resolve_refuses q n p).0 e).0 in rw z refl
name_told q (done a) e = ap done (sym (question_back q a (name_read q (done a) e)))

name_spans : (q : List ℕ) (a : Question) → NameRead q (done a) → ((query.name_in a).start ≤ (query.name_in a).stop) × ((query.name_in a).stop ≤ length q) × Spans q (query.name_in a).scope.one
unfolding query.name_in
name_spans q a l = (omega arith, l.2.within, (steps_fit q a.scope l.0 l.1).first)

module _ (q : List ℕ) (asked : Result AskedName Refusal) (h : asked ≡ asked_by query.name_in (resolve_query q)) (rd : Reading) (s : List ℕ) (r : Result AskedName Refusal) (c : Answers rd s true (told asked) done (told r)) where
  asked_told : resolve_query q ≡ mapped (question q) (told asked)
  asked_told = rw h (name_told q (resolve_query q) refl)

  pub resolve_refused : (why : Refusal) → r ≡ Err why → (x : Result ℕ Refusal) → x ≡ Err why → PromiseResolve rd s q x
  unfolding PromiseResolve
  resolve_refused why e x f = rw f (refused_first rd s true (told asked) (told r) c (resolve_query q) (question q) asked_told (resolve_of rd (schemas_in s)) _ why.place (ap told e))

  module _ (a : AskedName) (e : r ≡ Ok a) where
    pub resolve_short : length s ≤ 65535
    resolve_short = cleared_short rd s true (told asked) (told r) c a (ap told e)

    spanned : (a.start ≤ a.stop) × (a.stop ≤ length q) × Spans q a.scope.one
    spanned =
        let z = read_back query.name_in (resolve_query q) a (ap told (sym h) ∙ cleared_asked rd s true (told asked) (told r) c a (ap told e)) in
        subst (λ (b : AskedName). (b.start ≤ b.stop) × (b.stop ≤ length q) × Spans q b.scope.one) z.2 (name_spans q z.0 (name_read q (done z.0) z.1))

    pub name_order : a.start ≤ a.stop
    name_order = spanned.0

    pub name_in : a.stop ≤ length q
    name_in = spanned.1

    pub name_scope : Spans q a.scope.one
    name_scope = spanned.2

    abbrev meant : Option Declaration
    meant = resolved rd (schemas_in s) (told_scope q a.scope) (take (a.stop - a.start) (drop a.start q))

    pub resolve_ends : (v : prelude.Option ℕ) → v ≡ sought_of meant → (why : Refusal) → why ≡ record { reason = Undeclared; place = a.start } → (x : Result ℕ Refusal) → x ≡ ok_or v why → PromiseResolve rd s q x
    unfolding PromiseResolve resolve_of question
    resolve_ends v k why y x z =
        cleared_own rd s true (told asked) (told r) c a (ap told e) (resolve_query q) (question q) asked_told (resolve_of rd (schemas_in s)) (told x) (rw (z, k) (answer_told meant why 6 a.start (ap told_refusal y)))

pub ruleset resolving = (resolve_refused, resolve_short, name_order, name_in, name_scope, resolve_ends)

-- ---- `get`

-- a path that was read from a query, back from its struct
pub path_back : (q : List ℕ) (p : meaning.Path) → path_query q ≡ done p → told_path q (path_in p) ≡ p
unfolding told_path path_in
path_back q p e = let l = path_read q (done p) e in rw (steps_back q p.scope l.0 l.1, step_back q p.item l.2) refl

-- and its spans
path_spans : (q : List ℕ) (p : meaning.Path) → path_query q ≡ done p → Spans q (path_in p).scope.one × Spans q (path_in p).item
unfolding path_in
path_spans q p e = let l = path_read q (done p) e in ((steps_fit q p.scope l.0 l.1).first, spans_of q p.item l.2)

path_told_by : (q : List ℕ) (o : Answer meaning.Path) → path_query q ≡ o → o ≡ mapped (told_path q) (told (asked_by path_in o))
unfolding asked_by
path_told_by q (refused n p) e = let z : n ≡ 15 = ((path_refuses q n p).0 e).0 in rw z refl
path_told_by q (done p) e = ap done (sym (path_back q p e))

module _ (q : List ℕ) (asked : Result Path Refusal) (h : asked ≡ asked_by path_in (path_query q)) where
  -- the question in the paper's terms
  pub path_told : path_query q ≡ mapped (told_path q) (told asked)
  path_told = rw h (path_told_by q (path_query q) refl)

  pub path_stands : (p : Path) → told asked ≡ done p → Spans q p.scope.one × Spans q p.item
  path_stands p e =
      let z = read_back path_in (path_query q) p (ap told (sym h) ∙ e) in
      subst (λ (b : Path). Spans q b.scope.one × Spans q b.item) z.2 (path_spans q z.0 z.1)

  module _ (rd : Reading) (s : List ℕ) (r : Result Path Refusal) (c : Answers rd s true (told asked) done (told r)) where
    pub get_refused : (why : Refusal) → r ≡ Err why → (x : Result ℕ Refusal) → x ≡ Err why → PromiseGet rd s q x
    unfolding PromiseGet
    get_refused why e x f = rw f (refused_first rd s true (told asked) (told r) c (path_query q) (told_path q) path_told (get_of rd (schemas_in s)) _ why.place (ap told e))

    module _ (p : Path) (e : r ≡ Ok p) where
      pub get_short : length s ≤ 65535
      get_short = cleared_short rd s true (told asked) (told r) c p (ap told e)

      pub path_scope : Spans q p.scope.one
      path_scope = (path_stands p (cleared_asked rd s true (told asked) (told r) c p (ap told e))).0

      pub path_item : Spans q p.item
      path_item = (path_stands p (cleared_asked rd s true (told asked) (told r) c p (ap told e))).1

      pub get_ends : (v : prelude.Option ℕ) → v ≡ sought_of (declaration_for rd (schemas_in s) (told_path q p)) → (why : Refusal) → why ≡ record { reason = NoDeclaration; place = 0 } → (x : Result ℕ Refusal) → x ≡ ok_or v why → PromiseGet rd s q x
      unfolding PromiseGet get_of
      get_ends v k why y x z =
          cleared_own rd s true (told asked) (told r) c p (ap told e) (path_query q) (told_path q) path_told (get_of rd (schemas_in s)) (told x) (rw (z, k) (answer_told (declaration_for rd (schemas_in s) (told_path q p)) why 7 0 (ap told_refusal y)))

pub ruleset getting_paths = (path_scope, path_item, get_refused, get_short, get_ends)
