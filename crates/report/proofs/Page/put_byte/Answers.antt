use Rattle.std.proofs.Common.{refl, arith, length-set}
use Rattle.ground.specs.Lists.{over_one}
use Rattle.report.proofs.Page.put_byte.Goals as goal

pub returns-clause-ok : goal.returns-clause-ok
returns-clause-ok c ok = record {
  same = refl;
  wrote = record {
    next = refl;
    contents = over_one c.args.self.now.at c.args.byte c.args.self.now.out.now (omega (arith, c.args.self.now.inside));
    long = length-set c.args.self.now.out.now c.args.self.now.at c.args.byte;
  };
}
