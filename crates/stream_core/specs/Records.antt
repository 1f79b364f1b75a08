-- A writer of records that is kept.
use Rattle.std.specs.Prelude.{◌≡◌, ℕ, []}
use Rattle.std.proofs.Common.{Vec, Global}
use Rattle.csv.specs.Writing.{writer_pending}
use Rattle.csv.specs.declared.writer.Writer.{Writer}
use Rattle.export_core.specs.Record.{IsBetween}

-- it stands between two records, and its text has all that it has written
pub record IsReady (w : Writer (Vec ℕ Global)) : Type 0 where
  pub between : IsBetween w
  pub pending : writer_pending w ≡ []
