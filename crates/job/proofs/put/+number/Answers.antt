-- The first digits, then the last: the number falls by its last digit.
use Rattle.std.proofs.Common.{arith}
use Rattle.job.proofs.DigitLaws.{number-last, number-one}
use Rattle.job.proofs.put.+number.Goals as goal

pub returns-then-n-lt10 : goal.returns-then-n-lt10
returns-then-n-lt10 t c = number-one c.args.n c.digit.result (omega arith) c.digit.ensures c.byte.ensures

pub returns : goal.returns
returns t c =
    number-last c.args.n c.digit-2.result (omega arith) c.digit-2.ensures c.number-next.ensures c.byte-2.ensures
