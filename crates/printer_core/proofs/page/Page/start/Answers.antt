use Rattle.std.proofs.Common.{ap, sym}
use Rattle.printer_core.specs.Printing.{colon_text}
use Rattle.printer_core.proofs.Writing.{started}
use Rattle.printer_core.proofs.page.Page.start.Goals as goal

pub returns-in-Canonical-clause-started : goal.returns-in-Canonical-clause-started
returns-in-Canonical-clause-started c =
    started c.clear.new.self.items c.args.user.now.0 c.args.spacing c.clear.ensures c.as_bytes.ensures.value (sym (ap colon_text c.in-Canonical.is)) c.push.ensures c.push-in-Canonical.ensures

pub returns-in-Minified-clause-started : goal.returns-in-Minified-clause-started
returns-in-Minified-clause-started c =
    started c.clear.new.self.items c.args.user.now.0 c.args.spacing c.clear.ensures c.as_bytes.ensures.value (sym (ap colon_text c.in-Minified.is)) c.push.ensures c.push-in-Minified.ensures
