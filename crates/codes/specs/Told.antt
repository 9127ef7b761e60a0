-- What C is told of each answer, by the one number that its value is told as: lists are told as their own crate says.
use Rattle.std.specs.Prelude.{ℕ, List, Bool, Option, Result}
use Rattle.std.specs.declared.cmp.Ordering.{Ordering}
use Rattle.refusal.specs.MeaningAnswer.{Answer, mapped}
use Rattle.refusal.specs.Told.{told_by}
use Rattle.refusal.specs.declared.Refusal.{Refusal}
use Rattle.complex_entity.specs.Told.{told_order}
use Rattle.scope.specs.Told.{told_compared}
use Rattle.type_ref.specs.Told.{told_type_ref}
use Rattle.type_ref.specs.declared.TypeRef.{TypeRef}
use Rattle.codes.specs.MeaningCode.{flag, sign, sign_or_none, kind}

abbrev pub numbered : Result ℕ Refusal → Answer ℕ
numbered r = told_by (λ n. n) r

-- nothing but yes
abbrev pub judged : Result (Unit {0}) Refusal → Answer ℕ
judged r = told_by (λ u. 0) r

abbrev pub decided : Result Bool Refusal → Answer ℕ
decided r = told_by flag r

abbrev pub compared_parts : Result Ordering Refusal → Answer ℕ
compared_parts r = told_by (λ o. sign (told_order o)) r

abbrev pub compared_scopes : Result (Option Ordering) Refusal → Answer ℕ
compared_scopes r = told_by (λ o. sign_or_none (told_compared o)) r

-- of a path, which the answer has from the query, the flags alone
unfoldable pub typed : (query : List ℕ) → TypeRef → Answer ℕ
typed q r = mapped kind (told_type_ref q r)
