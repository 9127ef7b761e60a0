use Rattle.std.proofs.Common.{◌==◌, rules, tests}
use Rattle.std.proofs.lemmas.Iterator.{YieldsList-from_slice}
use Rattle.std.proofs.lemmas.Iterator.Search.{all_from_yields_List}
use Rattle.std.specs.List.{list_any}
use Rattle.complex_entity.specs.MirrorParts.{names_of}
use Rattle.complex_entity.proofs.Containment.{contains_found}
use Rattle.complex_entity.proofs.PartialComplexEntity.contains.Goals as goal

pub returns : goal.returns
returns c =
    contains_found (names_of c.args.self) (names_of c.args.other) c.all.result
    (all_from_yields_List (λ n. list_any (λ m. m == n) (names_of c.args.self)) _ _ c.all.result c.all.ensures.ran (YieldsList-from_slice (names_of c.args.other) cc) (λ x b q k. search (rules, tests)))
