-- Every claim holds.
use Rattle.named_types.specs.MeaningWalk.{again}
use Rattle.named_types.specs.Claims.{WalksOn, WalksOnce, AgainExactly}
use Rattle.named_types.proofs.Walking.{answers, once, met_twice}

pub walks_on : WalksOn
walks_on = answers

pub walks_once : WalksOnce
walks_once = once

pub again_exactly : AgainExactly
again_exactly rd xs p = (
  λ W. let A = met_twice rd xs p W in (A.n, A.m, A.q, A.r, A.sooner, A.later, A.order, A.alike),
  λ t. again t.4 t.5 t.6 t.7,
)
