-- What is asked of each row, as the code has it and as the paper does.
use Rattle.std.specs.Prelude.{◌≡◌, Bool}
use Rattle.complex_entity.specs.MeaningParts.{Part}
use Rattle.complex_entity.specs.MirrorParts.{names_of}
use Rattle.complex_entity.specs.declared.PartialComplexEntity.{PartialComplexEntity}

-- whatever is answered of a part, the test says of its names
abbrev pub Tells : (PartialComplexEntity → Bool → Type 0) → (Part → Bool) → Type 0
Tells R test = (p : PartialComplexEntity) (b : Bool) → R p b → b ≡ test (names_of p)
