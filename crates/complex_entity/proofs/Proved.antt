-- Every claim holds.
use mathlib.Core.Path.{◌≡◌}
use mathlib.Core.Logic.{inl, inr}
use mathlib.Core.List.{List, [], ◌∷◌, map}
use mathlib.Core.Bool.{Bool, true, false}
use Prim.Native.Nat.{ℕ, ◌≤◌}
use native.Mathlib.Omega.{arith}
use lib.ListN.{length}
use lib.Dec.{leb}
use Rattle.refusal.specs.MeaningAnswer.{Answer, done, or_else, ◌>>=◌}
use Rattle.complex_entity.specs.MeaningRising.{◌∈◌}
use Rattle.complex_entity.specs.MeaningParts.{Part, join}
use Rattle.complex_entity.specs.MeaningLists.{bitand, joins, held, prefixes, and_from, and, and_of, andor, andor_of, choices}
use Rattle.complex_entity.specs.Claims
use Rattle.complex_entity.proofs.Sets.{tidy_old, tidy_new, tidy_rising, ext}
use Rattle.complex_entity.proofs.Orders.{part_order}
use Rattle.complex_entity.proofs.Members.{add_old, add_left, add_right, add_rising, join_old, join_new, join_rising, join_self, join_comm, join_assoc, Joined, joined, joins_old, joins_new}
use Rattle.complex_entity.proofs.Limits.{Held, is_held, is_over, held_view, held_done}
use Rattle.complex_entity.proofs.Choices.{oneof_old, oneof_new, oneof_rising, and_old, and_new, andor_old, andor_new, andor_steps}
use Rattle.complex_entity.proofs.Merging.{merge_is}
use Rattle.complex_entity.proofs.Keeping.{contains_out, contains_in, equal_out, equal_in, sub_old, sub_new, div_old, div_new}
use Rattle.complex_entity.proofs.Making.{new_is, new_takes}

pub tidies : Claims.Tidies
tidies A cmp O l = (tidy_rising O l, λ q. (tidy_old O l, tidy_new O l))

pub members_decide : Claims.MembersDecide
members_decide A cmp O k l R S same = ext O R S (λ q. (same q).0) (λ q. (same q).1)

pub parts_ordered : Claims.PartsOrdered
parts_ordered = part_order

pub join_has_both : Claims.JoinHasBoth
join_has_both p q = (join_rising p q, λ n. (join_old p q, join_new p q))

pub join_idempotent : Claims.JoinIdempotent
join_idempotent = join_self

pub join_commutes : Claims.JoinCommutes
join_commutes = join_comm

pub join_associates : Claims.JoinAssociates
join_associates = join_assoc

pub merge_joins : Claims.MergeJoins
merge_joins p q R S = merge_is R S

pub contains_is : Claims.ContainsIs
contains_is p q = (contains_out p q, contains_in p q)

pub new_makes : Claims.NewIs
new_makes = new_is

pub new_takes_all : Claims.NewTakes
new_takes_all = new_takes

pub add_members : Claims.AddMembers
add_members L K = (add_rising L K, λ q. (add_old L K, λ s. elim s [ inl i ↦ add_left L K i | inr j ↦ add_right L K j ]))

pub bitand_members : Claims.BitandMembers
bitand_members L K = (tidy_rising part_order (joins L K), λ r. (λ m. to (joins_old L K (tidy_old part_order (joins L K) m)), λ x. tidy_new part_order (joins L K) (joins_new L K (joined x.2 x.3 x.4))))
  where
    to : {r : Part} → Joined L K r → (p : Part) × (q : Part) × (p ∈ L) × (q ∈ K) × (r ≡ join p q)
    to (joined {p = p} {q = q} i j e) = (p, q, i, j, e)

pub equal_is : Claims.EqualIs
equal_is p q = (equal_out p q, equal_in p q)

pub sub_members : Claims.SubMembers
sub_members L K q = (sub_old L K, sub_new L K)

pub div_members : Claims.DivMembers
div_members L K p = (div_old L K, div_new L K)

pub oneof_members : Claims.OneofMembers
oneof_members Ls = (oneof_rising Ls, λ q. (oneof_old Ls, oneof_new Ls))

pub and_members : Claims.AndMembers
and_members Ls q = (and_old Ls, and_new Ls)

pub andor_members : Claims.AndorMembers
andor_members Ls = (oneof_rising (map and (choices Ls)), λ q. (andor_old Ls, andor_new Ls))

pub andor_by_steps : Claims.AndorSteps
andor_by_steps = andor_steps

pub held_is : Claims.HeldIs
held_is L K = (λ e. go (held_view L) e, λ h. rw h.0 (held_done L h.1 h.2))
  where
    go : {o : Answer (List Part)} → Held L o → o ≡ done K → (K ≡ L) × (length L ≤ 128) × ((p : Part) → p ∈ L → length p ≤ 12)
    go (is_held h n) e = (cc, h, n)
    go (is_over f) e = let z : ◌≡◌ {A = ℕ} 0 1 = cc in absurd (omega arith)

prefixes_is : (L : List Part) (Ks : List (List Part)) (J : List Part) → prefixes L Ks ≡ done J → J ≡ and_from L Ks
unfolding prefixes
prefixes_is L [] J e = cc
prefixes_is L (K ∷ Ks) J e = go (held_view (bitand L K)) (prefixes_is (bitand L K) Ks J) e
  where
    go : {o : Answer (List Part)} → Held (bitand L K) o → (prefixes (bitand L K) Ks ≡ done J → J ≡ and_from (bitand L K) Ks) → (o >>= λ M. prefixes M Ks) ≡ done J → J ≡ and_from (bitand L K) Ks
    go (is_held h n) f e = f e
    go (is_over g) f e = let z : ◌≡◌ {A = ℕ} 0 1 = cc in absurd (omega arith)

pub and_is : Claims.AndIs
unfolding and_of
and_is [] K e = let z : ◌≡◌ {A = ℕ} 0 1 = cc in absurd (omega arith)
and_is (L ∷ []) K e = let z : ◌≡◌ {A = ℕ} 0 1 = cc in absurd (omega arith)
and_is (L ∷ M ∷ Ls) K e = prefixes_is L (M ∷ Ls) K e

pub andor_is : Claims.AndorIs
unfolding andor_of
andor_is [] K e = let z : ◌≡◌ {A = ℕ} 0 1 = cc in absurd (omega arith)
andor_is (L ∷ Ls) K e = go (leb (length (L ∷ Ls)) 12) e
  where
    go : (b : Bool) → or_else 10 b (held (andor (L ∷ Ls))) ≡ done K → K ≡ andor (L ∷ Ls)
    go true e = ((held_is (andor (L ∷ Ls)) K).0 e).0
    go false e = let z : ◌≡◌ {A = ℕ} 0 1 = cc in absurd (omega arith)
