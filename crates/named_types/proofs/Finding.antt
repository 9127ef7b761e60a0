-- What the number says that is found for a path: the walk from it, and the enumeration flag.
use mathlib.Core.Path.{◌≡◌, refl, sym, ap, ◌∙◌, subst}
use mathlib.Core.List.{List}
use mathlib.Core.Bool.{Bool}
use mathlib.Core.Option.{Option, none, some}
use Prim.Native.Nat.{ℕ, ◌-◌}
use lib.ListN.{length, get_elem?}
use Rattle.refusal.specs.MeaningAnswer.{refused}
use Rattle.grammar.specs.MeaningReading.{Reading}
use Rattle.grammar.proofs.Choosing.{clash}
use Rattle.schemas.specs.MeaningSchemas.{Schema}
use Rattle.scope.specs.MeaningScope as meaning
use Rattle.std.specs.Prelude as prelude
use Rattle.std.specs.Prelude.{Some, None, Result}
use Rattle.refusal.specs.declared.Refusal.{Refusal}
use Rattle.refusal.specs.Told.{told}
use Rattle.declarations.specs.MeaningNamespace.{Declaration, declarations, declaration_for}
use Rattle.declarations.specs.MirrorNamespace.{sought_of}
use Rattle.declarations.proofs.Numbering.{at_number}
use Rattle.declarations.proofs.Proved.{get_lowest}
use Rattle.named_types.specs.MeaningWalk.{Walks, is_enumeration}
use Rattle.named_types.specs.MirrorTypes.{walked_by}
use Rattle.named_types.proofs.Walking.{walks_by_number, not_declared}

found : (o : Option Declaration) (n : ℕ) → Some n ≡ sought_of o → (d : Declaration) × (o ≡ some d) × (d.number ≡ n)
unfolding sought_of
found none n e = clash (cc)
found (some d) n e = (d, refl, (let z : d.number ≡ n = cc in z))

lost : (o : Option Declaration) → None ≡ sought_of o → o ≡ none
unfolding sought_of
lost none e = refl
lost (some d) e = clash (cc)

module _ (rd : Reading) (xs : List Schema) (p : meaning.Path) (v : prelude.Option ℕ) (vv : v ≡ sought_of (declaration_for rd xs p)) where
  pub walks_nowhere : v ≡ None → Walks rd xs p (refused 7 0)
  walks_nowhere e = not_declared rd xs p (lost (declaration_for rd xs p) (sym e ∙ vv))

  module _ (n : ℕ) (e : v ≡ Some n) where
    leads : (d : Declaration) × (declaration_for rd xs p ≡ some d) × (d.number ≡ n)
    leads = found (declaration_for rd xs p) n (sym e ∙ vv)

    pub walks_there : (k : Result Bool Refusal) → told k ≡ walked_by rd xs (length (declarations xs) - 1) n → Walks rd xs p (told k)
    walks_there k kk = let d = leads in subst (Walks rd xs p) (ap (λ (m : ℕ). walked_by rd xs (length (declarations xs) - 1) m) d.2 ∙ sym kk) (walks_by_number rd xs p d.0 d.1)

    pub enumerates_there : (flag : Bool) → ((r : Reading) → flag ≡ is_enumeration r xs (get_elem? (declarations xs) n)) → flag ≡ is_enumeration rd xs (declaration_for rd xs p)
    enumerates_there flag f =
        let d = leads in
        f rd ∙ ap (is_enumeration rd xs) (ap (get_elem? (declarations xs)) (sym d.2) ∙ (at_number xs d.0 (get_lowest rd xs p d.0 d.1).0).1 ∙ sym d.1)
