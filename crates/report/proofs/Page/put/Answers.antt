use Rattle.std.proofs.Common.{refl, arith}
use Rattle.report.specs.Text.{put_over}
use Rattle.report.proofs.Page.put.Goals as goal

pub returns-clause-ok : goal.returns-clause-ok
returns-clause-ok c ok = record {
  same = refl;
  wrote = put_over c.args.self.now.at _ c.args.bytes.now c.args.self.now.out.now c.copy_from_slice.new.self (omega arith) (omega arith) c.copy_from_slice.ensures.after;
}
