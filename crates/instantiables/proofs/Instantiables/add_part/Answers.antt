-- `add_part` meets its contract: the part that is added has the same names.
use mathlib.Core.Path.{sym, ap, ◌∙◌}
use Rattle.complex_entity.specs.MirrorParts.{names_of, part_of}
use Rattle.complex_entity.proofs.Names.{names_of_part}
use Rattle.instantiables.proofs.Instantiables.add_part.Goals as goal

pub add_padded-requires : goal.add_padded-requires
add_padded-requires c = (c.requires, c.padded.ensures ∙ ap part_of (sym (ap names_of c.padded.ensures ∙ names_of_part (names_of c.args.part))))

pub returns : goal.returns
returns c = rw (ap names_of c.padded.ensures ∙ names_of_part (names_of c.args.part)) at c.add_padded.ensures
