-- `from_path` by what `is_supertype` answers; and one input allows one outcome.
use mathlib.Core.Path.{◌≡◌, refl, sym, ap, ap₂, ◌∙◌, subst}
use mathlib.Core.List.{List}
use mathlib.Core.Bool.{Bool, true, false}
use Prim.Native.Nat.{ℕ, ◌≤◌}
use borrow.Author.Tests.{leb-true}
use lib.Dec.{leb}
use lib.ListN.{length}
use Rattle.refusal.specs.MeaningAnswer.{Answer, done, refused, mapped, or_else, ◌>>=◌}
use Rattle.std.specs.Prelude.{Result, Ok, Err}
use Rattle.refusal.specs.Told.{told, number_of}
use Rattle.refusal.specs.declared.Refusal.{Refusal}
use Rattle.refusal.proofs.Same.{same_refusal}
use Rattle.grammar.specs.MeaningReading.{Reading}
use Rattle.grammar.specs.MeaningGrammar.{most_bytes}
use Rattle.sheet.specs.MeaningSheet.{Is}
use Rattle.grammar.proofs.Choosing.{clash}
use Rattle.sheet.proofs.Proved.{one_verdict}
use Rattle.schemas.specs.MeaningSchemas.{Schema}
use Rattle.scope.specs.MeaningScope.{Path, same_path}
use Rattle.query.specs.MeaningQuery.{path_query}
use Rattle.scope.specs.Told.{told_path}
use Rattle.scope.specs.Held.{path_in}
use Rattle.scope.specs.declared.Path as code
use Rattle.declarations.specs.MeaningNamespace.{schemas_in}
use Rattle.namespace.specs.MeaningOrder.{in_order, Answers}
use Rattle.namespace.proofs.Asking.{path_back}
use Rattle.merging.specs.MeaningMerging.{Combined, find}
use Rattle.gathering.specs.MeaningCombined.{supertypes}
use Rattle.supertypes.specs.MeaningWorkspace.{enough, left}
use Rattle.constraints.specs.MeaningQuestions.{is_some, supertype_question}
use Rattle.constraints.specs.Promises.{PromiseSupertype}
use Rattle.named_types.specs.MeaningWalk.{Walks}
use Rattle.named_types.proofs.Proved.{walks_on, walks_once}
use Rattle.type_ref.specs.MeaningTypes as meaning
use Rattle.type_ref.specs.MeaningTypes.{by_kind, from_path}
use Rattle.type_ref.specs.Told.{told_type_ref}
use Rattle.type_ref.specs.Promises.{Written, PromiseType}
use Rattle.type_ref.specs.Claims.{TypeOnce}
use Rattle.type_ref.specs.MirrorCode.{GivenPath, TypedAs}
use Rattle.type_ref.specs.declared.TypeRef.{TypeRef}
use Rattle.type_ref.specs.declared.TypeRef.TheVariants.{Named, Entity, Refused}

-- ---- gathering stands before both questions

module _ (rd : Reading) (xs : List Schema) (w : Answer Bool) (p : Path) where
  gathered_refused : (n place : ℕ) → supertype_question rd xs p ≡ refused n place → from_path rd xs w p ≡ refused n place
  unfolding supertype_question from_path
  gathered_refused n place e = by (supertypes rd xs) e
    where
      by : (o : Answer (List (Combined Path))) → mapped (λ g. is_some (find (same_path rd) p g)) o ≡ refused n place → (o >>= λ g. by_kind rd xs p w p.item.kind) ≡ refused n place
      by (done g) e = clash (cc)
      by (refused m at) e = cc

  gathered_done : (b : Bool) → supertype_question rd xs p ≡ done b → from_path rd xs w p ≡ by_kind rd xs p w p.item.kind
  unfolding supertype_question from_path
  gathered_done b e = by (supertypes rd xs) e
    where
      by : (o : Answer (List (Combined Path))) → mapped (λ g. is_some (find (same_path rd) p g)) o ≡ done b → (o >>= λ g. by_kind rd xs p w p.item.kind) ≡ by_kind rd xs p w p.item.kind
      by (done g) e = refl
      by (refused m at) e = clash (cc)

-- a refusal of one question on the way is one of another
refused_too : {A B C : Type 0} (own : A → Answer B) (own' : A → Answer C) (n p : ℕ) → (short long : Bool) (v : Answer (Unit {0})) (o : Answer A) → ((a : A) → o ≡ done a → own a ≡ refused n p → own' a ≡ refused n p)
    → refused n p ≡ or_else 1 short (or_else 2 long (v >>= λ y. o >>= own)) → refused n p ≡ or_else 1 short (or_else 2 long (v >>= λ y. o >>= own'))
refused_too own own' n p false long v o go e = let i : n ≡ 1 = cc in let j : p ≡ 0 = cc in rw (i, j) refl
refused_too own own' n p true false v o go e = let i : n ≡ 2 = cc in let j : p ≡ 0 = cc in rw (i, j) refl
refused_too own own' n p true true (refused m q) o go e = let i : n ≡ m = cc in let j : p ≡ q = cc in rw (i, j) refl
refused_too own own' n p true true (done u) (refused m q) go e = let i : n ≡ m = cc in let j : p ≡ q = cc in rw (i, j) refl
refused_too own own' n p true true (done u) (done a) go e = sym (go a refl (sym e))

-- ---- nothing stood in the way

record Answered {A B : Type 0} (rd : Reading) (s : List ℕ) (long : Bool) (o : Answer A) (own : A → Answer B) (b : B) : Type 0 where
  short : leb (length s) most_bytes ≡ true
  enough : long ≡ true
  accepted : Is rd s (done tt)
  asked : A
  was : o ≡ done asked
  is : own asked ≡ done b

answered_by : {A B : Type 0} (rd : Reading) (s : List ℕ) (short long : Bool) (v : Answer (Unit {0})) (o : Answer A) (own : A → Answer B) (b : B) → leb (length s) most_bytes ≡ short → Is rd s v → done b ≡ or_else 1 short (or_else 2 long (v >>= λ y. o >>= own))
    → Answered rd s long o own b
answered_by rd s false long v o own b k i e = clash (cc)
answered_by rd s true false v o own b k i e = clash (cc)
answered_by rd s true true (refused n p) o own b k i e = clash (cc)
answered_by rd s true true (done u) (refused n p) own b k i e = clash (cc)
answered_by rd s true true (done u) (done a) own b k i e = record { short = k; enough = refl; accepted = i; asked = a; was = refl; is = sym e }

was_answered : {A B : Type 0} (rd : Reading) (s : List ℕ) (long : Bool) (o : Answer A) (own : A → Answer B) (b : B) → Answers rd s long o own (done b) → Answered rd s long o own b
unfolding Answers in_order
was_answered rd s long o own b a = answered_by rd s (leb (length s) most_bytes) long a.0 o own b refl a.1 a.2

-- what the walk answers from the path asked for, if one is
walk_of : (rd : Reading) (xs : List Schema) (o : Answer Path) → (w : Answer Bool) × ((p : Path) → o ≡ done p → Walks rd xs p w)
walk_of rd xs (done p) = let w = walks_on rd xs p in (w.0, λ r e. (let z : p ≡ r = cc in subst (λ (y : Path). Walks rd xs y w.0) z w.1))
walk_of rd xs (refused n place) = (refused 0 0, λ r e. clash (cc))

as_asked : (q : List ℕ) (p : Path) → path_query q ≡ done p → (y : code.Path) → y ≡ path_in p → y ≡ path_in (told_path q y)
as_asked q p e y g = g ∙ ap path_in (sym (path_back q p e) ∙ ap (told_path q) (sym g))

written : (q : List ℕ) (p : Path) → path_query q ≡ done p → (r : TypeRef) → GivenPath (path_in p) r → Written q r
unfolding Written
written q p e (Named x) g = as_asked q p e x.path g
written q p e (Entity x) g = as_asked q p e x.path g
written q p e (Refused why) g = tt

module _ (rd : Reading) (s q work work' : List ℕ) (d : Result Bool Refusal) (P : PromiseSupertype rd s q work d work') where
  told_so : Answers rd s (enough work) (path_query q) (supertype_question rd (schemas_in s)) (told d)
  unfolding PromiseSupertype
  told_so = P.0

  left_so : work' ≡ left s work
  unfolding PromiseSupertype
  left_so = P.1

  pub from_refused : (why : Refusal) → d ≡ Err why → PromiseType rd s q work (Refused why) work'
  unfolding PromiseType Answers in_order told_type_ref Written
  from_refused why e =
      let w = walk_of rd (schemas_in s) (path_query q) in
      let a = subst (λ (x : Result Bool Refusal). Answers rd s (enough work) (path_query q) (supertype_question rd (schemas_in s)) (told x)) e told_so in
      (w.0, w.1, (a.0, a.1, refused_too (supertype_question rd (schemas_in s)) (from_path rd (schemas_in s) w.0) (number_of why.reason) why.place (leb (length s) most_bytes) (enough work) a.0 (path_query q) (λ p z f. gathered_refused rd (schemas_in s) w.0 p (number_of why.reason) why.place f) a.2), tt, left_so)

  module _ (b : Bool) (e : told d ≡ done b) where
    asked_so : Answered rd s (enough work) (path_query q) (supertype_question rd (schemas_in s)) b
    asked_so = was_answered rd s (enough work) (path_query q) (supertype_question rd (schemas_in s)) b (subst (Answers rd s (enough work) (path_query q) (supertype_question rd (schemas_in s))) e told_so)

    short : length s ≤ 65535
    short = leb-true (length s) most_bytes asked_so.short

    typed_so : (r : TypeRef) → ((p : Path) → path_query q ≡ done p → TypedAs rd (schemas_in s) q b p r) → PromiseType rd s q work r work'
    unfolding PromiseType Answers in_order
    typed_so r T =
        let a = asked_so in
        let t = T a.asked a.was in
        let own : told_type_ref q r ≡ from_path rd (schemas_in s) t.walked a.asked = t.is a.is ∙ sym (gathered_done rd (schemas_in s) t.walked a.asked b a.is) in (
          t.walked,
          λ p z. (let y : a.asked ≡ p = cc in subst (λ (x : Path). Walks rd (schemas_in s) x t.walked) y t.walks),
          (done tt, a.accepted, own ∙ sym (rw (a.short, a.enough, a.was) refl)),
          written q a.asked a.was r t.given,
          left_so,
        )

  pub asked_short : (b : Bool) → d ≡ Ok b → length s ≤ 65535
  asked_short b e = short b (ap told e)

  pub from_asked : (b : Bool) → d ≡ Ok b → (r : TypeRef) → ((p : Path) → path_query q ≡ done p → TypedAs rd (schemas_in s) q b p r) → PromiseType rd s q work r work'
  from_asked b e r T = typed_so b (ap told e) r T

pub ruleset telling = (from_refused, asked_short, from_asked)

-- ---- one input allows one outcome

module _ (q : List ℕ) where
  one_named : (x y : code.Path) (a b c d : Bool) → x ≡ path_in (told_path q x) → y ≡ path_in (told_path q y) → told_path q x ≡ told_path q y → a ≡ c → b ≡ d
      → Named (record { path = x; is_simple = a; is_enumerate = b }) ≡ Named (record { path = y; is_simple = c; is_enumerate = d })
  one_named x y a b c d e f g h i = let z : x ≡ y = e ∙ ap path_in g ∙ sym f in rw (z, h, i) refl

  one_entity : (x y : code.Path) (a b : Bool) → x ≡ path_in (told_path q x) → y ≡ path_in (told_path q y) → told_path q x ≡ told_path q y → a ≡ b
      → Entity (record { path = x; is_supertype = a }) ≡ Entity (record { path = y; is_supertype = b })
  one_entity x y a b e f g h = let z : x ≡ y = e ∙ ap path_in g ∙ sym f in rw (z, h) refl

  named_apart : (x y : meaning.NamedType) → ◌≡◌ {A = Answer meaning.TypeRef} (done (meaning.TypeRef.a_named x)) (done (meaning.TypeRef.a_named y)) → x ≡ y
  named_apart x y e = cc

  entity_apart : (x y : meaning.EntityType) → ◌≡◌ {A = Answer meaning.TypeRef} (done (meaning.TypeRef.an_entity_type x)) (done (meaning.TypeRef.an_entity_type y)) → x ≡ y
  entity_apart x y e = cc

  told_once : (a b : TypeRef) → Written q a → Written q b → told_type_ref q a ≡ told_type_ref q b → a ≡ b
  unfolding told_type_ref Written
  told_once (Named x) (Named y) u v e =
      let z = named_apart _ _ e in
      one_named x.path y.path x.is_simple x.is_enumerate y.is_simple y.is_enumerate u v (ap (λ (t : meaning.NamedType). t.path) z) (ap (λ (t : meaning.NamedType). t.is_simple) z) (ap (λ (t : meaning.NamedType). t.is_enumerate) z)
  told_once (Named x) (Entity y) u v e = clash (cc)
  told_once (Named x) (Refused y) u v e = clash (cc)
  told_once (Entity x) (Named y) u v e = clash (cc)
  told_once (Entity x) (Entity y) u v e =
      let z = entity_apart _ _ e in
      one_entity x.path y.path x.is_supertype y.is_supertype u v (ap (λ (t : meaning.EntityType). t.path) z) (ap (λ (t : meaning.EntityType). t.is_supertype) z)
  told_once (Entity x) (Refused y) u v e = clash (cc)
  told_once (Refused x) (Named y) u v e = clash (cc)
  told_once (Refused x) (Entity y) u v e = clash (cc)
  told_once (Refused x) (Refused y) u v e = ap Refused (same_refusal x y (cc) (cc))

one_walk : (rd : Reading) (xs : List Schema) (o : Answer Path) (a b : Answer Bool) → ((p : Path) → o ≡ done p → Walks rd xs p a) → ((p : Path) → o ≡ done p → Walks rd xs p b) → (o >>= from_path rd xs a) ≡ (o >>= from_path rd xs b)
one_walk rd xs (done p) a b f g = ap (λ (w : Answer Bool). from_path rd xs w p) (walks_once rd xs p a b (f p refl) (g p refl))
one_walk rd xs (refused n place) a b f g = refl

pub one_outcome : TypeOnce
unfolding PromiseType Answers in_order
one_outcome rd s q work r r' w w' x y =
    let v = one_verdict rd s x.2.0 y.2.0 x.2.1 y.2.1 in
    let z = one_walk rd (schemas_in s) (path_query q) x.0 y.0 x.1 y.1 in (
      told_once q r r' x.3 y.3 (
          x.2.2
          ∙ ap₂ (λ (u : Answer (Unit {0})) (o : Answer meaning.TypeRef). or_else 1 (leb (length s) most_bytes) (or_else 2 (enough work) (u >>= λ accepted. o))) v z
          ∙ sym y.2.2
          ),
      x.4 ∙ sym y.4,
    )
