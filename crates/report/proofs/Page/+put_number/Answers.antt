-- The digits before the last two are those of a hundredth.
use Rattle.std.proofs.Common.{◌/◌, arith, decimal, length-append, refl}
use Rattle.std.proofs.lemmas.Grind.{common_steps}
use Rattle.std.proofs.lemmas.Fmt.{decimal_digit}
use Rattle.report.specs.Text.{decimal_pair, decimal_hundreds}
use Rattle.report.specs.Pages.{took_more}
use Rattle.report.proofs.Page.+put_number.Goals as goal
use Rattle.report.proofs.Page.+put_number.Goals.{then-v-ge100+in_ok-put_number, else-v-ge100}

pub returns-then-v-lt10-clause-ok : goal.returns-then-v-lt10-clause-ok
returns-then-v-lt10-clause-ok t c ok = grind (arith, common_steps, decimal_digit c.args.v)

pub returns-then-v-lt10-clause-fits : goal.returns-then-v-lt10-clause-fits
returns-then-v-lt10-clause-fits t c room = grind (arith, common_steps, decimal_digit c.args.v)

pub returns-in_err-put_number-clause-fits : goal.returns-in_err-put_number-clause-fits
returns-in_err-put_number-clause-fits t c room = grind (arith, common_steps, decimal_hundreds c.args.v, length-append)

pub returns-clause-ok : goal.returns-clause-ok
returns-clause-ok t c ok =
    elim c.if-v-ge100.branch [
      | then-v-ge100+in_ok-put_number w ↦
          let pair = rw w.self-is at (c.put.ensures.ok ok) in
          rw (decimal_hundreds c.args.v w.if-v-ge100.true c.ranges.v.fits) (took_more c.args.self.now w.put_number.new.self c.put.new.self (decimal (c.args.v / 100)) _ (w.in_ok-put_number.ensures.ok refl) pair)
      | else-v-ge100 w ↦ grind (arith, common_steps, decimal_pair c.args.v)
    ]

pub returns-clause-fits : goal.returns-clause-fits
returns-clause-fits t c room =
    elim c.if-v-ge100.branch [
      | then-v-ge100+in_ok-put_number w ↦ grind (arith, common_steps, decimal_hundreds c.args.v, length-append)
      | else-v-ge100 w ↦ grind (arith, common_steps, decimal_pair c.args.v)
    ]
