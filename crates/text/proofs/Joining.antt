-- Laws of a part's line, whose paths are put one by one.
use mathlib.Core.Path.{◌≡◌, refl, ap}
use mathlib.Core.List.{List, [], ◌∷◌, ◌++◌, append_assoc}
use mathlib.Core.Bool.{Bool}
use Prim.Native.Nat.{ℕ}
use lib.Dec.{eqb, eqb-suc-zero}
use lib.ListN.{length}
use Rattle.text.specs.MeaningText.{blank, line_feed, comma, decimal, joined, part_line}
use Rattle.text.specs.MirrorText.{Puts, next_text, part_text}
use Rattle.text.proofs.Putting.{puts_on}

joined_next : (p : List ℕ) (ps : List (List ℕ)) (path : List ℕ) → joined (p ∷ ps) ++ (comma ++ path) ≡ joined ((p ∷ ps) ++ (path ∷ []))
unfolding joined
joined_next p [] path = refl
joined_next p (q ∷ qs) path = simp append_assoc (ap (λ l. p ++ (comma ++ l)) (joined_next q qs path))

joined_more : (ps : List (List ℕ)) (path : List ℕ) → joined ps ++ next_text (eqb (length ps) 0) path ≡ joined (ps ++ (path ∷ []))
unfolding joined next_text
joined_more [] path = refl
joined_more (p ∷ ps) path = rw (eqb-suc-zero (length ps)) (joined_next p ps path)

module _ (i : ℕ) {r : ℕ} {x z : List ℕ} where
  pub part_start : Puts (decimal i ++ blank) 0 r x z → Puts (part_text i []) 0 r x z
  unfolding part_text joined
  part_start f = f

  module _ (ps : List (List ℕ)) {b : ℕ} {y : List ℕ} (f : Puts (part_text i ps) 0 b x y) where
    pub part_more : (first : Bool) (path : List ℕ) → first ≡ eqb (length ps) 0 → Puts (next_text first path) b r y z
        → Puts (part_text i (ps ++ (path ∷ []))) 0 r x z
    unfolding part_text
    part_more first path e g = rw (← joined_more ps path, ← e) (simp append_assoc at (puts_on _ _ _ _ _ _ _ _ f g))

    pub part_end : Puts line_feed b r y z → Puts (part_line i ps) 0 r x z
    unfolding part_text part_line
    part_end g = simp append_assoc at (puts_on _ _ _ _ _ _ _ _ f g)

pub ruleset joining = (part_start, part_more, part_end)
