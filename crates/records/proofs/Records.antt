-- A record behind those that stand at the front: laws for `put_record`.
use Prim.Native.Nat.{ℕ, ◌+◌, ◌*◌, ◌<◌, ◌≤◌}
use mathlib.Core.Path.{◌≡◌, refl, sym, ap, ◌∙◌, subst}
use mathlib.Core.List.{List, [], ◌∷◌, ◌++◌, append_assoc, append-nil}
use native.Mathlib.Numerals.{add-one}
use native.Mathlib.Omega.{arith}
use lib.ListN.{length, get_or, take, set, length-append}
use lib.Seq.{take_at, take-suc, take-take, take-set-lt, set_at, length-take-le}
use Rattle.refusal.specs.MeaningAnswer.{Answer, done, refused, mapped, ◌>>=◌}
use Rattle.std.specs.Prelude.{Result, Ok, Err}
use Rattle.refusal.specs.Told.{number_of, told}
use Rattle.refusal.specs.declared.Refusal.{Refusal}
use Rattle.expression.specs.MeaningExpression.{Expr}
use Rattle.expression.specs.MirrorNodes.{flat}
use Rattle.merging.specs.MeaningMerging.{Combined}
use Rattle.merging.specs.MirrorStream.{stream_of}
use Rattle.merging.proofs.Streams.{stream_append, stream_injective}
use Rattle.grammar.specs.MeaningReading.{Reading}
use Rattle.sheet.specs.MeaningName.{Name}
use Rattle.grammar.proofs.Choosing.{clash}
use Rattle.schemas.specs.MeaningSchemas.{Schema}
use Rattle.declarations.specs.MirrorNamespace.{schema_scope}
use Rattle.records.specs.MeaningResolving.{resolved_expr}
use Rattle.records.specs.MirrorRecords.{size, level, behind, number_meant, Appends, Stands, Front, Kept, Deep, Room, expr_numbers, record_kept}
use Rattle.records.proofs.Appending.{Did, did, did_not}
use Rattle.records.proofs.Nodes.{size_some}

-- ---- what becomes of the records

pub kept_done : {f : List (Combined ℕ) → Answer (List (Combined ℕ))} {used n : ℕ} {before after : List ℕ} (cs ds : List (Combined ℕ)) → Stands cs used before → f cs ≡ done ds → Stands ds n after → Kept f (done n) used before after
kept_done {f} {used} {n} {before} {after} cs ds S e T =
    record { list = cs; stands = S; says = rw (e, T.long) refl; holds = λ es q. (let z : ds ≡ es = cc in subst (λ (x : List (Combined ℕ)). take (length (stream_of x)) after ≡ stream_of x) z (rw (← T.long) T.is)) }

pub kept_refused : {f : List (Combined ℕ) → Answer (List (Combined ℕ))} {used : ℕ} {before : List ℕ} (after : List ℕ) (cs : List (Combined ℕ)) (n p : ℕ) → Stands cs used before → f cs ≡ refused n p → Kept f (refused n p) used before after
kept_refused {f} {used} {before} after cs n p S e = record { list = cs; stands = S; says = rw e refl; holds = λ es q. clash (cc) }

pub record Became (f : List (Combined ℕ) → Answer (List (Combined ℕ))) (cs : List (Combined ℕ)) (n : ℕ) (after : List ℕ) : Type 0 where
  pub list : List (Combined ℕ)
  pub is : f cs ≡ done list
  pub stands : Stands list n after

-- the records at the front are these and no others
stands_once : {used : ℕ} {w : List ℕ} (cs ds : List (Combined ℕ)) → Stands cs used w → Stands ds used w → cs ≡ ds
stands_once cs ds S T = stream_injective cs ds (sym S.is ∙ T.is)

pub became : {f : List (Combined ℕ) → Answer (List (Combined ℕ))} {r : Answer ℕ} {used : ℕ} {before after : List ℕ} → Kept f r used before after → (cs : List (Combined ℕ)) → Stands cs used before → (n : ℕ) → r ≡ done n → Became f cs n after
became {f} {r} {used} {before} {after} K cs S n q = by (f cs) refl
  where
    same : K.list ≡ cs
    same = stands_once K.list cs K.stands S

    by : (o : Answer (List (Combined ℕ))) → f cs ≡ o → Became f cs n after
    by (done ds) e =
        let k : f K.list ≡ done ds = ap f same ∙ e in
        let l : n ≡ length (stream_of ds) = cc K.says in
        record { list = ds; is = e; stands = record { is = rw l (K.holds ds k); long = l } }
    by (refused m p) e = let k : f K.list ≡ refused m p = ap f same ∙ e in clash (cc K.says)

pub refused_so : {f : List (Combined ℕ) → Answer (List (Combined ℕ))} {r : Answer ℕ} {used : ℕ} {before after : List ℕ} → Kept f r used before after → (cs : List (Combined ℕ)) → Stands cs used before → (n p : ℕ) → r ≡ refused n p → f cs ≡ refused n p
refused_so {f} {r} {used} {before} {after} K cs S n p q = by (f cs) refl
  where
    same : K.list ≡ cs
    same = stands_once K.list cs K.stands S

    by : (o : Answer (List (Combined ℕ))) → f cs ≡ o → f cs ≡ refused n p
    by (done ds) e = let k : f K.list ≡ done ds = ap f same ∙ e in clash (cc K.says)
    by (refused m j) e =
        let k : f K.list ≡ refused m j = ap f same ∙ e in
        let x : m ≡ n = cc K.says in
        let y : j ≡ p = cc K.says in
        e ∙ rw (x, y) refl

-- ---- one more record

module _ (cs : List (Combined ℕ)) (p : ℕ) (d : Expr ℕ) where
  pub behind_is : stream_of (behind cs p d) ≡ stream_of cs ++ (p ∷ flat d)
  unfolding behind stream_of
  behind_is = stream_append cs (record { owner = p; expr = d } ∷ []) ∙ ap (λ (l : List ℕ). stream_of cs ++ (p ∷ l)) (append-nil (flat d))

  pub behind_length : length (stream_of (behind cs p d)) ≡ length (stream_of cs) + 1 + length (flat d)
  behind_length = ap length behind_is ∙ length-append (stream_of cs) (p ∷ flat d) ∙ omega arith

  -- its nodes stand one number further on, and its owner is put in before them
  pub owner_put : (used n : ℕ) (w₀ w₁ : List ℕ) → Stands cs used w₀ → used < length w₀ → n ≡ used + 1 + length (flat d) → take n w₁ ≡ take (used + 1) w₀ ++ flat d → Stands (behind cs p d) n (set w₁ used p)
  owner_put used n w₀ w₁ S h m e =
      let i : used < n = omega arith in
      let l : length (take used w₀) ≡ used = length-take-le used w₀ (let z : used ≤ length w₀ = omega arith in z) in
      let y : take n w₁ ≡ take used w₀ ++ (get_or w₀ used 0 ∷ flat d) = e ∙ ap (λ (k : List ℕ). k ++ flat d) (ap (λ (j : ℕ). take j w₀) (add-one used) ∙ take-suc w₀ used 0 h) ∙ append_assoc (take used w₀) (get_or w₀ used 0 ∷ []) (flat d) in
      record {
        is = take-set-lt n w₁ used p i ∙ ap (λ (k : List ℕ). set k used p) y ∙ set_at (take used w₀) (get_or w₀ used 0) (flat d) p used l ∙ ap (λ (k : List ℕ). k ++ (p ∷ flat d)) S.is ∙ sym behind_is;
        long = omega (arith, behind_length, S.long);
      }

  -- those before it stand as they stood
  pub still_stands : (used n : ℕ) (w₀ w₁ : List ℕ) → Stands cs used w₀ → Stands (behind cs p d) n w₁ → Stands cs used w₁
  still_stands used n w₀ w₁ S T =
      let m : used ≤ n = omega (arith, S.long, T.long, behind_length) in
      record { is = sym (take-take used n w₁ m) ∙ ap (take used) (T.is ∙ behind_is) ∙ take_at (stream_of cs) (p ∷ flat d) used (sym S.long); long = S.long }

-- what is the same on all records becomes the same
pub kept_same : {f : List (Combined ℕ) → Answer (List (Combined ℕ))} (g : List (Combined ℕ) → Answer (List (Combined ℕ))) {r : Answer ℕ} {used : ℕ} {before after : List ℕ} → ((cs : List (Combined ℕ)) → f cs ≡ g cs) → Kept f r used before after → Kept g r used before after
kept_same g e K = record { list = K.list; stands = K.stands; says = K.says ∙ ap (mapped (λ cs. length (stream_of cs))) (e K.list); holds = λ cs q. K.holds cs (e K.list ∙ q) }

-- nothing is added
pub kept_none : {f : List (Combined ℕ) → Answer (List (Combined ℕ))} (used : ℕ) (w : List ℕ) → Front used w → ((cs : List (Combined ℕ)) → f cs ≡ done cs) → Kept f (done used) used w w
kept_none used w F e = kept_done F.list F.list F.stands (e F.list) F.stands

-- ---- `put_record`

unflat_not : (o : Answer (Expr ℕ)) (n p : ℕ) → mapped flat o ≡ refused n p → o ≡ refused n p
unflat_not (done d) n p q = clash (cc)
unflat_not (refused m j) n p q = let z : ◌≡◌ {A = Answer (List ℕ)} (refused m j) (refused n p) = q in let x : m ≡ n = cc in let y : j ≡ p = cc in rw (x, y) refl

record_put : (used n p : ℕ) (w₀ w₁ : List ℕ) (F : Front used w₀) → used < length w₀ → (o : Answer (Expr ℕ)) → Did (mapped flat o) (used + 1) n w₀ w₁ → Kept (λ cs. o >>= λ d. done (behind cs p d)) (done n) used w₀ (set w₁ used p)
record_put used n p w₀ w₁ F h (done d) D =
    let z : D.list ≡ flat d = cc D.is in
    let m : n ≡ used + 1 + length (flat d) = D.ends ∙ ap (λ (l : List ℕ). used + 1 + length l) z in
    let t : take n w₁ ≡ take (used + 1) w₀ ++ flat d = D.stands ∙ ap (λ (l : List ℕ). take (used + 1) w₀ ++ l) z in
    kept_done F.list (behind F.list p d) F.stands refl (owner_put F.list p d used n w₀ w₁ F.stands h m t)
record_put used n p w₀ w₁ F h (refused m j) D = clash (cc D.is)

module _ (e : Expr Name) (used : ℕ) (w₀ : List ℕ) (R : Room (size e) (level e) used w₀) where
  pub rec_deep : Deep (size e) (2 * level e) (used + 1) 10 w₀
  rec_deep = record { calls_left = omega (arith, R.low); room = omega (arith, R.room, size_some e); small = R.small }

  before_end : used < length w₀
  before_end = omega (arith, R.room, size_some e)

  pub rec_there : (w₁ : List ℕ) → length w₁ ≡ length w₀ → used < length w₁
  rec_there w₁ l = omega (arith, before_end)

  module _ (rd : Reading) (xs : List Schema) (w : List ℕ) (r : Result ℕ Refusal) (w₁ : List ℕ) (A : Appends (expr_numbers rd xs w e) (told r) (used + 1) w₀ w₁) (p : ℕ) where
    pub rec_handed : (why : Refusal) → r ≡ Err why → Kept (record_kept rd xs w p e) (told r) used w₀ w₁
    unfolding record_kept expr_numbers
    rec_handed why q =
        let o = unflat_not (resolved_expr (number_meant rd xs) (schema_scope w) e) (number_of why.reason) why.place (did_not A (number_of why.reason) why.place (ap told q)) in
        rw q (kept_refused w₁ R.front.list (number_of why.reason) why.place R.front.stands (rw o refl))

    pub rec_made : (n : ℕ) → r ≡ Ok n → Kept (record_kept rd xs w p e) (told (Ok n)) used w₀ (set w₁ used p)
    unfolding record_kept expr_numbers
    rec_made n q = record_put used n p w₀ w₁ R.front before_end (resolved_expr (number_meant rd xs) (schema_scope w) e) (did A n (ap told q))

pub ruleset recording = (rec_deep, rec_there, rec_handed, rec_made)
