use borrow.Author.Rules.{rules}
use borrow.Author.Tests.{tests}
use Prim.Native.Nat.{◌*◌}
use native.Mathlib.Nat.{sub-zero}
use mathlib.Core.Path.{refl, ◌∙◌}
use lib.ListN.{drop}
use Rattle.std.proofs.lemmas.Iterator.{YieldsList-from_range}
use Rattle.std.proofs.lemmas.Iterator.Search.{any_from_yields_List}
use Rattle.complex_entity.specs.MeaningParts.{contains}
use Rattle.complex_entity.specs.MirrorParts.{names_of, part_at}
use Rattle.keeping.proofs.Seeking.{seek_rows, contained}
use Rattle.keeping.proofs.some_in.Goals as goal

pub returns : goal.returns
returns c =
    any_from_yields_List (λ i. contains (names_of c.args.part) (part_at (drop (13 * i) c.args.rows.now))) _ _ _ c.any.ensures.ran
    (YieldsList-from_range 0 c.args.list.count c.args.list.count refl (sub-zero c.args.list.count))
    (λ x b q k. search (rules, tests, contained))
    ∙ seek_rows (contains (names_of c.args.part)) c.args.rows.now 0 c.args.list.count
