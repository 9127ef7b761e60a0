-- the owner is resolved, then the record put.
use mathlib.Core.Path.{◌≡◌}
use native.Mathlib.Omega.{arith}
use Rattle.std.proofs.lemmas.Grind.{common_steps}
use Rattle.std.specs.Prelude.{Ok, Err}
use borrow.Author.Rules.{rules}
use Rattle.lookup.proofs.Names.{spanned}
use Rattle.gathering.proofs.Records.{constraining}
use Rattle.gathering.proofs.ConstraintsPass.item.Goals as goal

pub returns-in_default : goal.returns-in_default
returns-in_default c = search (constraining, spanned, rules)

pub number_of-requires : goal.number_of-requires
number_of-requires c = search (constraining, spanned, rules)

pub put_record-requires-clause-room : goal.put_record-requires-clause-room
put_record-requires-clause-room c = search (constraining, spanned, rules)

pub returns-in_err-owner : goal.returns-in_err-owner
returns-in_err-owner c =
    let lost : c.number_of.result ≡ Err c.in_err-owner.field-0.0 = grind (arith, common_steps) in
    let handed : c.from_residual.result ≡ Err c.in_err-owner.field-0.0 = grind (arith, common_steps) in
    search (constraining, spanned, rules)

pub returns : goal.returns
returns c =
    let found : c.number_of.result ≡ Ok c.in_ok-owner.owner = grind (arith, common_steps) in
    search (constraining, spanned, rules)
