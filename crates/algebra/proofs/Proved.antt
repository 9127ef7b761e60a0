-- Every claim holds.
use mathlib.Core.Path.{sym, ◌∙◌}
use lib.ListN.{length}
use Rattle.operands.proofs.Once.{answers_once}
use Rattle.algebra.specs.MeaningQuestions.{ask_new, ask_single, ask_two, ask_several}
use Rattle.algebra.specs.Claims.{NewOnce, SingleOnce, CompareOnce, TwoOnce, SeveralOnce}
use Rattle.algebra.proofs.Once.{compared_once}

pub new_once : NewOnce
new_once l out = answers_once (ask_new l (length out)) out

pub single_once : SingleOnce
single_once n out = answers_once (ask_single n (length out)) out

pub compare_once : CompareOnce
compare_once left right r s p q = compared_once r s (p ∙ sym q)

pub two_once : TwoOnce
two_once op i j left right out = answers_once (ask_two op i j left right (length out)) out

pub several_once : SeveralOnce
several_once op counts rows out = answers_once (ask_several op counts rows (length out)) out
