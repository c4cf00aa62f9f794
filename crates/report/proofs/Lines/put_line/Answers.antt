-- The class's number, a colon, the names and a newline, one after another.
use Rattle.std.proofs.Common.{refl}
use Rattle.report.specs.Listing.{line_of}
use Rattle.report.specs.Pages.{took_more}
use Rattle.report.proofs.Lines.put_line.Goals as goal

pub returns-clause-ok : goal.returns-clause-ok
unfolding line_of
returns-clause-ok c ok =
    took_more c.args.page.now c.put_number.new.self c.put_byte-2.new.self _ _ (c.in_ok-put_number.ensures.ok refl)
    (took_more c.put_number.new.self c.put_byte.new.self c.put_byte-2.new.self _ _ (c.in_ok-put_byte.ensures.ok refl)
    (took_more c.put_byte.new.self c.put_names.new.page c.put_byte-2.new.self _ _ (c.in_ok-put_names.ensures.ok refl) (c.put_byte-2.ensures.ok ok)))
