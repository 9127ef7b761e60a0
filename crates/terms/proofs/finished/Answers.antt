-- `finished` meets its contract: one law for each way through it.
use Rattle.std.proofs.Common.{rules, ◌≡◌, ◌≤◌}
use borrow.Author.Tests.{tests}
use Rattle.expression.specs.declared.Kind.TheVariants.{Andor}
use Rattle.expression.specs.MirrorKinds.{kind_of}
use Rattle.terms.specs.MirrorValues.{fewest}
use Rattle.terms.proofs.Taking.{too_few, too_many, enough}
use Rattle.terms.proofs.finished.Goals as goal
use Rattle.terms.proofs.finished.Goals.{else-eq-via-then-eq+else-n-gt-FACTORS, else-eq-via-else-eq}

pub returns-then-n-fewest : goal.returns-then-n-fewest
returns-then-n-fewest c = search (too_few, rules)

pub returns-then-n-gt-FACTORS : goal.returns-then-n-gt-FACTORS
returns-then-n-gt-FACTORS c = too_many _ _ _ (search (rules, tests)) c.if-n-gt-FACTORS.true _ c.into-then-n-gt-FACTORS.ensures

pub returns : goal.returns
returns c =
    let h : fewest (kind_of c.args.kind) ≤ c.args.n = search rules in
    elim c.else-eq.branch [
      | else-eq-via-then-eq+else-n-gt-FACTORS w ↦ enough _ _ _ h (λ e. w.if-n-gt-FACTORS.false)
      | else-eq-via-else-eq w ↦ let k : kind_of c.args.kind ≡ Andor → ⊥ = search (rules, tests) in enough _ _ _ h (λ e. absurd (k e))
    ]
