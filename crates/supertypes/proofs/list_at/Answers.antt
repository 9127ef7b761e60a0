-- `list_at`: the number of the path, then its list.
use mathlib.Core.Path.{◌≡◌, sym, ◌∙◌}
use Rattle.std.specs.Prelude.{Some}
use Rattle.refusal.specs.declared.Reason.TheVariants.{NoSupertype}
use Rattle.supertypes.proofs.Standing.{taken}
use borrow.Author.Rules.{rules}
use Rattle.supertypes.proofs.Finding.{listing}
use Rattle.supertypes.proofs.list_at.Goals as goal

pub returns : goal.returns
returns c =
    let found : c.number_for.result ≡ Some c.in_ok-number.number = taken c.number_for.result NoSupertype _ (sym c.ok_or.ensures.value ∙ c.in_ok-number.was) in
    search (listing, rules)
