-- `verdict_in` tells what the check answers.
use Rattle.std.proofs.Common.{arith, rules}
use Rattle.sheet.proofs.Proved.{verdict_accepted, verdict_refused}
use Rattle.sheet.proofs.verdict_in.Goals as goal

pub returns-in_err-check_sheet : goal.returns-in_err-check_sheet
returns-in_err-check_sheet c = let h = verdict_refused _ c.args.sheet.now (λ i. omega (arith, c.type_inv.sheet i)) _ c.check_sheet.ensures in search (h, rules)

pub returns : goal.returns
returns c = let h = verdict_accepted _ c.args.sheet.now (λ i. omega (arith, c.type_inv.sheet i)) _ c.check_sheet.ensures in search (h, rules)
