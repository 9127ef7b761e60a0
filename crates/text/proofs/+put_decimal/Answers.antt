use borrow.Author.Rules.{rules}
use Rattle.text.proofs.Digits.{digits}
use Rattle.text.proofs.Putting.{putting}
use Rattle.text.proofs.+put_decimal.Goals as goal

pub returns-then-number-lt10 : goal.returns-then-number-lt10
returns-then-number-lt10 t c = search (digits, putting, rules)

pub put_byte-requires : goal.put_byte-requires
put_byte-requires t c = search (digits, putting, rules)

pub put_decimal-end-requires : goal.put_decimal-end-requires
put_decimal-end-requires t c = search (digits, putting, rules)

pub put_byte-requires-2 : goal.put_byte-requires-2
put_byte-requires-2 t c = search (digits, putting, rules)

pub returns : goal.returns
returns t c = search (digits, putting, rules)
