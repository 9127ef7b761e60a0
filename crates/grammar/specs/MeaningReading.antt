-- Under which reading of the papers a sheet is judged. The base has one, the Rust's.
use Rattle.std.specs.Prelude.{ℕ}

pub data Reading : Type 0 where
  rust : Reading

-- What a reading decides of a tag that the grammar lets stand in a parent: 0, it may stand; or the number that it is refused with.
-- "The Rust decides the answer": it takes every tag of the table
unfoldable pub answers : Reading → (parent tag : ℕ) → ℕ
answers rust p t = 0
