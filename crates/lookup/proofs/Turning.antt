-- A turn of a walk: what it gives, and where it stands then.
use mathlib.Core.Path.{◌≡◌, sym, ◌∙◌}
use mathlib.Core.List.{List}
use Prim.Native.Nat.{ℕ}
use Rattle.std.specs.Prelude.{Option, Some, None}
use Rattle.sheet.specs.MirrorField.{field_at}
use Rattle.sheet.specs.declared.Field.{Field}
use Rattle.lookup.specs.MirrorWalk.{GivesField}
use Rattle.lookup.specs.declared.walking.Walk.{Walk}

-- in these bytes, up to this end
pub record Walks (s : List ℕ) (e : ℕ) (w : Walk) : Type 0 where
  pub bytes : w.s.now ≡ s
  pub ends : w.end ≡ e

module _ (s : List ℕ) (e : ℕ) (w v : Walk) (h : Option Field) (f : Walks s e w) (g : GivesField w h v) where
  pub walk_gives : h ≡ field_at s w.at e
  walk_gives = by h g
    where
      by : (h : Option Field) → GivesField w h v → h ≡ field_at s w.at e
      by None k = let z : None ≡ field_at w.s.now w.at w.end = sym k in rw (f.bytes, f.ends) at z
      by (Some x) k = let z : Some x ≡ field_at w.s.now w.at w.end = sym k.0 in rw (f.bytes, f.ends) at z

  module _ (x : Field) (q : h ≡ Some x) where
    given : GivesField w (Some x) v
    given = rw q at g

    pub walk_on : v.at ≡ x.stop
    walk_on = given.3

    pub walk_stays : Walks s e v
    walk_stays = record { bytes = given.1 ∙ f.bytes; ends = given.2 ∙ f.ends }

pub walk_starts : (s : List ℕ) (e : ℕ) (w : Walk) → w.s.now ≡ s → w.end ≡ e → Walks s e w
walk_starts s e w i j = record { bytes = i; ends = j }

pub ruleset turning = (walk_gives, walk_on, walk_stays, walk_starts)
