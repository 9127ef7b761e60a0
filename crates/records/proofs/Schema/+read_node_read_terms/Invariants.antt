-- The depth is the measure of both. The loop over terms keeps that the terms left go behind those that stand.
use Prim.Native.Nat.{◌-◌}
use Rattle.sheet.specs.Told.{told_reading}
use Rattle.declarations.specs.MeaningNamespace.{schemas_in}
use Rattle.records.proofs.Nodes.{ReadingOn}
use Rattle.records.proofs.Schema.+read_node_read_terms.Given as goal

abbrev pub decreases-read_node : goal.decreases-read_node
decreases-read_node l = l.depth

abbrev pub decreases-read_terms : goal.decreases-read_terms
decreases-read_terms l = l.depth

abbrev pub invariant-read_terms-loop-term : goal.invariant-read_terms-loop-term
invariant-read_terms-loop-term l = ReadingOn (told_reading l.self.reading) (schemas_in l.self.sheet.now) l.self.scope.now l.self.sheet.now l.field.start l.field.stop l.used l.depth l.fn.stream l.from l.n l.stream

abbrev pub decreases-read_terms-loop-term : goal.decreases-read_terms-loop-term
decreases-read_terms-loop-term l = l.field.stop - l.from
