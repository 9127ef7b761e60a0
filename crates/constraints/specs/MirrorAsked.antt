-- What `number_of` is asked: a path, and a row that is a part.
use Rattle.std.specs.Prelude.{List, ℕ}
use Rattle.refusal.specs.MeaningAnswer.{Answer, mapped}
use Rattle.scope.specs.MeaningScope as meaning
use Rattle.query.specs.MeaningQuery.{path_query}
use Rattle.scope.specs.Told.{told_path}
use Rattle.scope.specs.declared.Path.{Path}
use Rattle.complex_entity.specs.MeaningParts.{Part}
use Rattle.complex_entity.specs.MirrorParts.{names_of}
use Rattle.complex_entity.specs.declared.PartialComplexEntity.{PartialComplexEntity}
use Rattle.operands.specs.MeaningOperands.{read_part, both, part}

abbrev pub path_and_part : (query row : List ℕ) → Answer (meaning.Path × Part)
path_and_part q row = mapped (λ a. (a.0, part a.1)) (both (path_query q) (read_part row))

abbrev pub told_both : (query : List ℕ) → Path × PartialComplexEntity → meaning.Path × Part
told_both q a = (told_path q a.0, names_of a.1)
