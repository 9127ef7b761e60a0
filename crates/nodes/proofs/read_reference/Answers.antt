-- `read_reference` meets its contract.
use native.Mathlib.Omega.{arith}
use Rattle.nodes.proofs.Standing.{no_name, reference_read}
use Rattle.nodes.proofs.read_reference.Goals as goal

pub returns-in_default : goal.returns-in_default
returns-in_default c calls two = no_name _ _ calls _ c.requires.1 (λ five high. omega (arith, c.in_default.len_below))

pub returns-in_default-2 : goal.returns-in_default-2
returns-in_default-2 c calls two = no_name _ _ calls _ c.requires.1 (λ five high. omega (arith, c.in_default.len_at_least))

pub returns-then-high-ne0 : goal.returns-then-high-ne0
returns-then-high-ne0 c calls two = no_name _ _ calls _ c.requires.1 (λ five high. c.if-high-ne0.true high)

pub returns : goal.returns
returns c calls two = reference_read _ _ _ calls _ _ c.requires.1 (omega (arith, c.in-len5.len_at_least, c.in-len5.len_below)) c.if-high-ne0.false c.requires.0 c.put_node.auto.nodes two (rw (c.from-kind.ensures, c.from.ensures) at c.put_node.ensures)
