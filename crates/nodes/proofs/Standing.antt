-- What is answered, and what stands in the lent memory, turn by turn.
use mathlib.Core.Path.{◌≡◌, refl, sym, ap, ◌∙◌}
use mathlib.Core.Logic.{◌⊎◌, inl, inr}
use mathlib.Core.List.{List, [], ◌∷◌, ◌++◌, append_assoc, append-nil}
use Prim.Native.Nat.{ℕ, suc, ◌+◌, ◌*◌, ◌-◌, ◌≤◌, ◌<◌, max}
use native.Mathlib.Omega.{arith}
use lib.ListN.{length, take, drop, set, get_or, length-set, length-append, length-drop, drop_of_length-le}
use lib.Seq.{take_at, length-take-le, take_all, take-take, take-set-le, drop-cons}
use Rattle.expression.specs.MeaningExpression.{Expr, reference, Terms, end, ◌then◌}
use Rattle.expression.specs.MirrorNodes.{flat, flats, height, heights}
use Rattle.expression.proofs.Spans.{patched}
use Rattle.nodes.specs.MeaningBytes.{field_of, bytes_of, bytes_of_all}
use Rattle.nodes.specs.MirrorBuilding.{Field, NoField, Sort, an_expression, some_terms, Behind, Reads}
use Rattle.std.specs.Prelude.{Option, Some, None}
use Rattle.nodes.proofs.Fields.{same_field}
use Rattle.nodes.proofs.Saying.{of_kind, View, a_name, a_kind, view, name_bytes, name_numbers, name_levels, framing, three, a_level, grown, grown_bytes, grown_numbers, grown_levels, end_bytes, end_numbers, end_levels, then_bytes, then_numbers, then_levels}

-- ---- answers
none_some : (r : Option ℕ) (n : ℕ) → r ≡ None → r ≡ Some n → ⊥
none_some r n a b = let z : ◌≡◌ {A = ℕ} 0 1 = cc in omega arith

some_once : (r : Option ℕ) (m n : ℕ) → r ≡ Some m → r ≡ Some n → m ≡ n
some_once r m n a b = cc

-- nothing is read where nothing is said that the calls and the room do for
missing : {S : Sort} {bytes before after : List ℕ} {calls used : ℕ} (r : Option ℕ) → r ≡ None → take used after ≡ take used before
    → ((x : S.Thing) → bytes ≡ S.bytes x → S.calls x ≤ calls → used + length (S.numbers x) ≤ length before → ⊥)
    → Reads S bytes calls used before after r
missing r m same f = record { only = λ n e. absurd (none_some r n m e); every = λ x a b c. absurd (f x a b c); stay = same }

-- ---- no field of an expression
pub too_deep : (bytes before : List ℕ) (calls used : ℕ) → calls < 2 → Reads an_expression bytes calls used before before None
too_deep bytes before calls used h = missing None refl refl (λ e a b c. omega (arith, a_level e, b))

pub no_room : (bytes before : List ℕ) (calls used : ℕ) → length before - used < 3 → Reads an_expression bytes calls used before before None
no_room bytes before calls used h = missing None refl refl (λ e a b c. omega (arith, three e, c))

-- bytes of an expression are a field, and nothing stands behind it
framed : (bytes : List ℕ) (e : Expr ℕ) → bytes ≡ bytes_of e → (tag : ℕ) × (value : List ℕ) × (bytes ≡ field_of tag value ++ [])
framed bytes e a = let f = framing e in (f.tag, f.value, a ∙ f.is ∙ sym (append-nil (field_of f.tag f.value)))

pub no_field : (bytes before : List ℕ) (calls used : ℕ) → NoField bytes → (r : Option ℕ) → r ≡ None → Reads an_expression bytes calls used before before r
no_field bytes before calls used h r m = missing r m refl (λ e a b c. let f = framed bytes e a in h f.0 f.1 [] f.2)

pub more_behind : (bytes before field behind : List ℕ) (calls used : ℕ) → Field bytes field behind → (length behind ≡ 0 → ⊥) → Reads an_expression bytes calls used before before None
more_behind bytes before field behind calls used g h = missing None refl refl (λ e a b c. let f = framed bytes e a in h (ap length (same_field g f.0 f.1 [] f.2).1))

first : (bytes : List ℕ) (e : Expr ℕ) → bytes ≡ bytes_of e → (80 ≤ get_or bytes 0 0) × (get_or bytes 0 0 ≤ 83)
first bytes e a =
    let f = framing e in
    let g : get_or bytes 0 0 ≡ f.tag = ap (λ (l : List ℕ). get_or l 0 0) (a ∙ f.is) in
    (omega (arith, g, f.low), omega (arith, g, f.high))

pub tag_off : (bytes before : List ℕ) (calls used : ℕ) → (get_or bytes 0 0 < 80) ⊎ (83 < get_or bytes 0 0) → Reads an_expression bytes calls used before before None
tag_off bytes before calls used h = missing None refl refl (λ e a b c. let f = first bytes e a in elim h [ inl i ↦ omega (arith, f.0) | inr i ↦ omega (arith, f.1) ])

-- the bytes are one field
pub one_field : (bytes field behind : List ℕ) (tag : ℕ) → Field bytes field behind → length behind ≡ 0 → get_or bytes 0 0 ≡ tag → bytes ≡ field_of tag (drop 3 bytes)
one_field bytes field behind tag g z t =
    let e : bytes ≡ field = g.whole ∙ ap (λ (l : List ℕ). field ++ l) (no_numbers behind z) ∙ append-nil field in
    e ∙ g.is ∙ ap (λ (l : List ℕ). field_of (get_or l 0 0) (drop 3 l)) (sym e) ∙ ap (λ (k : ℕ). field_of k (drop 3 bytes)) t
  where
    no_numbers : (l : List ℕ) → length l ≡ 0 → l ≡ []
    no_numbers [] h = refl
    no_numbers (x ∷ l) h = absurd (omega arith)

-- ---- a node
-- its three numbers, once they are put
put_front : (before after : List ℕ) (used a b c : ℕ) → used + 3 ≤ length before → after ≡ take used before ++ ((a ∷ b ∷ c ∷ []) ++ drop (used + 3) before)
    → take (used + 3) after ≡ take used before ++ (a ∷ b ∷ c ∷ [])
put_front l w n a b c h e =
    let k : length (take n l ++ (a ∷ b ∷ c ∷ [])) ≡ n + 3 = length-append (take n l) (a ∷ b ∷ c ∷ []) ∙ omega (arith, length-take-le n l (omega arith)) in
    rw (e, ← append_assoc (take n l) (a ∷ b ∷ c ∷ []) (drop (n + 3) l)) (take_at (take n l ++ (a ∷ b ∷ c ∷ [])) (drop (n + 3) l) (n + 3) k)

-- the used numbers stay
put_stay : (before after rest : List ℕ) (used : ℕ) → used ≤ length before → after ≡ take used before ++ rest → take used after ≡ take used before
put_stay before after rest used h e = rw e (take_at (take used before) rest used (length-take-le used before h))

fewer_stay : (before after : List ℕ) (used more : ℕ) → used ≤ more → take more after ≡ take more before → take used after ≡ take used before
fewer_stay before after used more h e = sym (take-take used more after h) ∙ ap (λ (l : List ℕ). take used l) e ∙ take-take used more before h

-- ---- a reference
-- a field of a reference's tag says a reference, or nothing
name_of : (bytes : List ℕ) (e : Expr ℕ) → bytes ≡ field_of 80 (drop 3 bytes) → bytes ≡ bytes_of e → (n : ℕ) × ((e ≡ reference n) × (bytes ≡ 80 ∷ 0 ∷ 2 ∷ 0 ∷ n ∷ []))
name_of bytes e f says = from (view e) f says
  where
    from : {e : Expr ℕ} → View e → bytes ≡ field_of 80 (drop 3 bytes) → bytes ≡ bytes_of e → (n : ℕ) × ((e ≡ reference n) × (bytes ≡ 80 ∷ 0 ∷ 2 ∷ 0 ∷ n ∷ []))
    from (a_name n) f says = (n, (refl, says ∙ name_bytes n))
    from (a_kind kind t k) f says =
        let a : field_of 80 (drop 3 bytes) ≡ field_of (80 + kind) (bytes_of_all t) = sym f ∙ says ∙ k.bytes in
        let b : 80 ≡ 80 + kind = ap (λ (l : List ℕ). get_or l 0 0) a in
        absurd (omega (arith, k.low))

-- five bytes, the fourth 0
pub no_name : (bytes before : List ℕ) (calls used : ℕ) → bytes ≡ field_of 80 (drop 3 bytes) → ((length bytes ≡ 5) → (get_or bytes 3 0 ≡ 0) → ⊥) → Reads an_expression bytes calls used before before None
no_name bytes before calls used f h = missing None refl refl (λ e a b c. let i = (name_of bytes e f a).1.1 in h (ap length i) (ap (λ (l : List ℕ). get_or l 3 0) i))

says_name : (bytes : List ℕ) → bytes ≡ field_of 80 (drop 3 bytes) → length bytes ≡ 5 → get_or bytes 3 0 ≡ 0 → bytes ≡ bytes_of (reference (get_or bytes 4 0))
says_name bytes f five high =
    let a : drop 3 bytes ≡ 0 ∷ drop 4 bytes = drop-cons bytes 3 0 (omega arith) ∙ ap (λ (k : ℕ). k ∷ drop 4 bytes) high in
    let b : drop 4 bytes ≡ get_or bytes 4 0 ∷ [] = drop-cons bytes 4 0 (omega arith) ∙ ap (λ (l : List ℕ). get_or bytes 4 0 ∷ l) (drop_of_length-le bytes {i = 5} (omega arith)) in
    f ∙ ap (field_of 80) (a ∙ ap (λ (l : List ℕ). 0 ∷ l) b) ∙ sym (name_bytes (get_or bytes 4 0))

pub reference_read : (bytes before after : List ℕ) (calls used n : ℕ) → bytes ≡ field_of 80 (drop 3 bytes) → length bytes ≡ 5 → get_or bytes 3 0 ≡ 0
    → used + 3 ≤ length before → length after ≡ length before → 2 ≤ calls
    → (n ≡ used + 3) × (after ≡ take used before ++ ((0 ∷ get_or bytes 4 0 ∷ 3 ∷ []) ++ drop (used + 3) before))
    → Reads an_expression bytes calls used before after (Some n)
reference_read bytes before after calls used n f five high room long two e =
    let index = get_or bytes 4 0 in
    record {
      only = λ m same.
          let k : n ≡ m = some_once (Some n) n m refl same in
          let g : m ≡ used + 3 = omega (arith, e.0) in
          record {
            thing = reference index;
            says = says_name bytes f five high;
            deep = omega (arith, name_levels index);
            inside = omega arith;
            ends = rw (name_numbers index) g;
            front = rw (g, name_numbers index) (put_front before after used 0 index 3 room e.1);
          };
      every = λ x says deep fits.
          let w = name_of bytes x f says in
          let i : length (flat x) ≡ 3 = ap (λ (y : Expr ℕ). length (flat y)) w.1.0 ∙ ap length (name_numbers w.0) in
          ap Some (omega (arith, i, e.0));
      stay = put_stay before after ((0 ∷ index ∷ 3 ∷ []) ++ drop (used + 3) before) used (omega arith) e.1;
    }

-- ---- a node with terms
-- a field of a kind's tag, as its terms are read
pub record Node (bytes before put after : List ℕ) (calls used body kind : ℕ) (r : Option ℕ) : Type 0 where
  pub node : (body ≡ used + 3) × (put ≡ take used before ++ ((kind ∷ 0 ∷ 0 ∷ []) ++ drop (used + 3) before))
  pub is : bytes ≡ field_of (80 + kind) (drop 3 bytes)
  pub low : 1 ≤ kind
  pub high : kind ≤ 3
  pub two : 2 ≤ calls
  pub room : used + 3 ≤ length before
  pub long : length put ≡ length before
  pub terms : Reads some_terms (take (length bytes - 3) (drop 3 bytes)) (calls - 1) body put after r

module _ {bytes before put after : List ℕ} {calls used body kind : ℕ} {r : Option ℕ} (N : Node bytes before put after calls used body kind r) where
  terms : Reads some_terms (drop 3 bytes) (calls - 1) body put after r
  terms = rw (take_all (length bytes - 3) (drop 3 bytes) (omega (arith, length-drop 3 bytes))) at N.terms

  -- the terms are read if the expression can be
  node_every : (e : Expr ℕ) → bytes ≡ bytes_of e → 2 * height e ≤ calls → used + length (flat e) ≤ length before → r ≡ Some (used + length (flat e))
  node_every e says deep fits = from (view e) says deep fits
    where
      from : {e : Expr ℕ} → View e → bytes ≡ bytes_of e → 2 * height e ≤ calls → used + length (flat e) ≤ length before → r ≡ Some (used + length (flat e))
      from (a_name n) says deep fits =
          let a : field_of (80 + kind) (drop 3 bytes) ≡ 80 ∷ 0 ∷ 2 ∷ 0 ∷ n ∷ [] = sym N.is ∙ says ∙ name_bytes n in
          let b : 80 + kind ≡ 80 = ap (λ (l : List ℕ). get_or l 0 0) a in
          absurd (omega (arith, N.low))
      from {e} (a_kind other t k) says deep fits =
          let a : drop 3 bytes ≡ bytes_of_all t = ap (λ (l : List ℕ). drop 3 l) (says ∙ k.bytes) in
          let s : length (flat e) ≡ suc (suc (suc (length (flats t)))) = ap length k.numbers in
          terms.every t a (omega (arith, k.levels)) (omega (arith, N.long, N.node.0)) ∙ ap Some (omega (arith, N.node.0))

  node_stay : take used after ≡ take used before
  node_stay =
      fewer_stay put after used body (omega (arith, N.node.0)) terms.stay ∙ put_stay before put ((kind ∷ 0 ∷ 0 ∷ []) ++ drop (used + 3) before) used (omega (arith, N.room)) N.node.1

  pub node_missing : r ≡ None → (r' : Option ℕ) → r' ≡ None → Reads an_expression bytes calls used before after r'
  node_missing m r' m' = record { only = λ n e. absurd (none_some r' n m' e); every = λ e a b c. m' ∙ sym m ∙ node_every e a b c; stay = node_stay }

  pub node_read : (n span : ℕ) → r ≡ Some n → span ≡ n - used → Reads an_expression bytes calls used before (set after (used + 2) span) (Some n)
  node_read n span given all = record { only = stands; every = λ e says deep fits. sym given ∙ node_every e says deep fits; stay = take-set-le used after (used + 2) span (omega arith) ∙ node_stay }
    where
      stands : (m : ℕ) → Some n ≡ Some m → Behind an_expression bytes calls used m before (set after (used + 2) span)
      stands m same =
          let k : n ≡ m = some_once (Some n) n m refl same in
          let b = terms.only n given in
          let t = b.thing in
          let w = of_kind kind t N.low N.high in
          let long : span ≡ suc (suc (suc (length (flats t)))) = omega (arith, b.ends, N.node.0) in
          let f : take n after ≡ (take used before ++ (kind ∷ 0 ∷ 0 ∷ [])) ++ flats t =
          b.front ∙ ap (λ (q : List ℕ). q ++ flats t) (ap (λ (i : ℕ). take i put) N.node.0 ∙ put_front before put used kind 0 0 N.room N.node.1) in
          let s : length (flat w.0) ≡ suc (suc (suc (length (flats t)))) = ap length w.1.numbers in
          rw (← k)
          (record {
            thing = w.0;
            says = N.is ∙ ap (field_of (80 + kind)) b.says ∙ sym w.1.bytes;
            deep = omega (arith, w.1.levels, b.deep, N.two);
            inside = omega (arith, b.inside, length-set after (used + 2) span);
            ends = omega (arith, b.ends, N.node.0, s);
            front = patched after (take used before) (flats t) used n kind 0 0 span (length-take-le used before (omega (arith, N.room))) (omega (arith, b.ends, N.node.0)) f
                ∙ ap (λ (i : ℕ). take used before ++ (kind ∷ 0 ∷ i ∷ flats t)) long ∙ ap (λ (l : List ℕ). take used before ++ l) (sym w.1.numbers);
          })

-- ---- terms: some stand, and the others are left
-- what of the terms is left, where `next` numbers stand
pub record Left (rest : List ℕ) (used next : ℕ) (t : Terms ℕ) : Type 0 where
  pub terms : Terms ℕ
  pub here : rest ≡ bytes_of_all terms
  pub low : heights terms ≤ heights t
  pub same : next + length (flats terms) ≡ used + length (flats t)

pub record Going (fields before now : List ℕ) (used calls : ℕ) (rest : List ℕ) (next : ℕ) : Type 0 where
  pub kept : length now ≡ length before
  pub deep : 1 ≤ calls
  pub stay : take used now ≡ take used before
  pub passed : List ℕ
  pub whole : fields ≡ passed ++ rest
  pub behind : Behind some_terms passed calls used next before now
  pub left : (t : Terms ℕ) → fields ≡ bytes_of_all t → 2 * heights t + 1 ≤ calls → used + length (flats t) ≤ length before → Left rest used next t

pub none_yet : (fields before : List ℕ) (used calls : ℕ) → used ≤ length before → 1 ≤ calls → Going fields before before used calls fields used
none_yet fields before used calls h d = record {
  kept = refl;
  deep = d;
  stay = refl;
  passed = [];
  whole = refl;
  behind = record {
    thing = end;
    says = sym end_bytes;
    deep = omega (arith, end_levels);
    inside = h;
    ends = omega (arith, ap length end_numbers);
    front = rw end_numbers (sym (append-nil (take used before)));
  };
  left = λ t says deep fits. record { terms = t; here = says; low = omega arith; same = refl };
}

-- some bytes are left, so a term is, and its bytes are a field
record Next (rest : List ℕ) (used next : ℕ) (t : Terms ℕ) : Type 0 where
  pub term : Expr ℕ
  pub later : Terms ℕ
  pub here : rest ≡ bytes_of term ++ bytes_of_all later
  pub high : height term ≤ heights t
  pub low : heights later ≤ heights t
  pub same : next + length (flat term) + length (flats later) ≡ used + length (flats t)

next_term : {rest : List ℕ} {used next : ℕ} {t : Terms ℕ} → (length rest ≡ 0 → ⊥) → Left rest used next t → Next rest used next t
next_term {rest} {used} {next} {t} more l = from l.terms l.here l.low l.same
  where
    from : (u : Terms ℕ) → rest ≡ bytes_of_all u → heights u ≤ heights t → next + length (flats u) ≡ used + length (flats t) → Next rest used next t
    from end here low same = absurd (more (ap length (here ∙ end_bytes)))
    from (e then u) here low same = record {
      term = e;
      later = u;
      here = here ∙ then_bytes e u;
      high = omega (arith, (then_levels e u).0);
      low = omega (arith, (then_levels e u).1);
      same = omega (arith, then_numbers e u);
    }

as_field : {rest : List ℕ} {used next : ℕ} {t : Terms ℕ} → (w : Next rest used next t) → (tag : ℕ) × (value : List ℕ) × (bytes_of w.term ≡ field_of tag value) × (rest ≡ field_of tag value ++ bytes_of_all w.later)
as_field w = let f = framing w.term in (f.tag, f.value, f.is, w.here ∙ ap (λ (l : List ℕ). l ++ bytes_of_all w.later) f.is)

pub term_cut : {fields before now rest : List ℕ} {used calls next : ℕ} → Going fields before now used calls rest next → (length rest ≡ 0 → ⊥) → NoField rest → (r : Option ℕ) → r ≡ None
    → Reads some_terms fields calls used before now r
term_cut g more none r m = missing r m g.stay (λ t says deep fits. let f = as_field (next_term more (g.left t says deep fits)) in none f.0 f.1 _ f.3)

module _ {fields before now after rest field behind : List ℕ} {used calls next : ℕ} {r : Option ℕ} (g : Going fields before now used calls rest next) (more : length rest ≡ 0 → ⊥) (cuts : Field rest field behind)
    (node : Reads an_expression field (calls - 1) next now after r) where
  first_is : {t : Terms ℕ} → (w : Next rest used next t) → (field ≡ bytes_of w.term) × (behind ≡ bytes_of_all w.later)
  first_is w = let f = as_field w in let s = same_field cuts f.0 f.1 (bytes_of_all w.later) f.3 in (s.0 ∙ sym f.2, s.1)

  term_read : {t : Terms ℕ} → 2 * heights t + 1 ≤ calls → used + length (flats t) ≤ length before → (w : Next rest used next t) → r ≡ Some (next + length (flat w.term))
  term_read deep fits w = node.every w.term (first_is w).0 (omega (arith, w.high)) (omega (arith, w.same, g.kept))

  still : take used after ≡ take used before
  still = fewer_stay now after used next (omega (arith, g.behind.ends)) node.stay ∙ g.stay

  pub none_more : r ≡ None → (r' : Option ℕ) → r' ≡ None → Reads some_terms fields calls used before after r'
  none_more m r' m' = missing r' m' still (λ t says deep fits. let w = next_term more (g.left t says deep fits) in none_some r (next + length (flat w.term)) m (term_read deep fits w))

  pub one_more : (n : ℕ) → r ≡ Some n → length after ≡ length now → Going fields before after used calls behind n
  one_more n given long =
      let a = g.behind in
      let b = node.only n given in
      let t = a.thing in
      let e = b.thing in
      let numbers : flats (grown t e) ≡ flats t ++ flat e = grown_numbers t e in
      record {
        kept = long ∙ g.kept;
        deep = g.deep;
        stay = still;
        passed = g.passed ++ field;
        whole = g.whole ∙ ap (λ (l : List ℕ). g.passed ++ l) cuts.whole ∙ sym (append_assoc g.passed field behind);
        behind = record {
          thing = grown t e;
          says = ap (λ (l : List ℕ). l ++ field) a.says ∙ ap (λ (l : List ℕ). bytes_of_all t ++ l) b.says ∙ sym (grown_bytes t e);
          deep = tall (heights t) (height e) a.deep b.deep (λ d i j. grown_levels t e d i j);
          inside = b.inside;
          ends = omega (arith, a.ends, b.ends, ap length numbers, length-append (flats t) (flat e));
          front = rw numbers (b.front ∙ ap (λ (q : List ℕ). q ++ flat e) a.front ∙ append_assoc (take used before) (flats t) (flat e));
        };
        left = λ u says deep fits.
            let w = next_term more (g.left u says deep fits) in
            let k : next + length (flat w.term) ≡ n = some_once r (next + length (flat w.term)) n (term_read deep fits w) given in
            record { terms = w.later; here = (first_is w).1; low = w.low; same = omega (arith, w.same) };
      }
    where
      tall : {h : ℕ} (a b : ℕ) → 2 * a + 1 ≤ calls → 2 * b ≤ calls - 1 → ((d : ℕ) → a ≤ d → b ≤ d → h ≤ d) → 2 * h + 1 ≤ calls
      tall a b i j k = omega (arith, g.deep, k (max a b) (omega arith) (omega arith))

pub all_read : {fields before now rest : List ℕ} {used calls next : ℕ} → Going fields before now used calls rest next → length rest ≡ 0 → Reads some_terms fields calls used before now (Some next)
all_read {fields} {before} {now} {rest} {used} {calls} {next} g done = record {
  only = λ m same.
      let k : next ≡ m = some_once (Some next) next m refl same in
      let b = g.behind in
      let e : fields ≡ g.passed = g.whole ∙ ap (λ (l : List ℕ). g.passed ++ l) (no_numbers rest done) ∙ append-nil g.passed in
      rw (← k) (record { thing = b.thing; says = e ∙ b.says; deep = b.deep; inside = b.inside; ends = b.ends; front = b.front });
  every = λ t says deep fits. let l = g.left t says deep fits in from l.terms t l.here l.same;
  stay = g.stay;
}
  where
    no_numbers : (l : List ℕ) → length l ≡ 0 → l ≡ []
    no_numbers [] h = refl
    no_numbers (x ∷ l) h = absurd (omega arith)

    from : (u t : Terms ℕ) → rest ≡ bytes_of_all u → next + length (flats u) ≡ used + length (flats t) → Some next ≡ Some (used + length (flats t))
    from end t here same = ap Some (omega (arith, same, ap length end_numbers))
    from (e then u) t here same =
        let f = framing e in
        absurd (omega (arith, ap length (here ∙ then_bytes e u), length-append (bytes_of e) (bytes_of_all u), ap length f.is))
