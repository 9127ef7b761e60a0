use mathlib.Core.Path.{◌≡◌}
use native.Mathlib.Omega.{arith}
use Rattle.std.proofs.lemmas.Grind.{common_steps}
use Rattle.std.specs.Prelude.{Err}
use borrow.Author.Rules.{rules}
use Rattle.records.proofs.Seeking.{meeting}
use Rattle.gathering.proofs.Pairs.{pairs}
use Rattle.gathering.proofs.put_pairs.Goals as goal

pub loop-name-init : goal.loop-name-init
loop-name-init c = search (pairs, meeting, rules)

pub returns : goal.returns
returns c = search (pairs, meeting, rules)

pub put_pair-n-requires : goal.put_pair-n-requires
put_pair-n-requires c = search (pairs, meeting, rules)

pub loop-name-preserved : goal.loop-name-preserved
loop-name-preserved c = search (pairs, meeting, rules)

pub returns-in_err-owner : goal.returns-in_err-owner
returns-in_err-owner c =
    let lost : c.number_of.result ≡ Err c.in_err-owner.field-0.0 = grind (arith, common_steps) in
    let handed : c.from_residual.result ≡ Err c.in_err-owner.field-0.0 = grind (arith, common_steps) in
    search (pairs, meeting, rules)
